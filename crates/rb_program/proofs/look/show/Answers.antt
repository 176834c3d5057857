use Rattle.std.proofs.Common.{inl, refl}
use Rattle.std.proofs.lemmas.Result.{err_from_is_err_and}
use Rattle.std.specs.declared.io.ErrorKind.TheVariants as io_kinds
use Rattle.rb_program.proofs.LookLaws.{none_there, unread, written}
use Rattle.rb_program.proofs.look.show.Goals as goal

pub put-requires-clause-from_1 : goal.put-requires-clause-from_1
put-requires-clause-from_1 g c = let seen = rw c.in-Some.is at c.in_ok-found.ensures in seen.0.from_1

pub put-requires-clause-there : goal.put-requires-clause-there
put-requires-clause-there g c = let seen = rw c.in-Some.is at c.in_ok-found.ensures in seen.1

pub returns-in_err-read : goal.returns-in_err-read
returns-in_err-read g c =
    let p = err_from_is_err_and c.from_residual.result c.from_residual.ensures.1 in
    rw (p.1, p.2) (unread c.args.bytes.now c.args.word.now _ _ c.in_err-read.ensures.refused c.in_err-read.ensures.own)

pub returns-in_err-found : goal.returns-in_err-found
returns-in_err-found g c =
    let p = err_from_is_err_and c.from_residual-in_err-found.result c.from_residual-in_err-found.ensures.1 in
    rw (p.1, p.2) (inl (io_kinds.OutOfMemory, refl))

pub returns-in-Some : goal.returns-in-Some
returns-in-Some g c =
    let seen = rw c.in-Some.is at c.in_ok-found.ensures in
    written c.args.bytes.now c.args.word.now _ c.in-Some.seen c.put.result
    (c.in_ok-read.read.script, c.in_ok-read.read.heads.items, record { reads = c.in_ok-read.ensures.read; heads_are = c.in_ok-read.ensures.heads }, seen.0)
    c.put.ensures.matched c.put.ensures.failed

pub returns : goal.returns
returns g c =
    let none = rw c.in-None.is at c.in_ok-found.ensures in
    none_there c.args.bytes.now c.args.word.now _ c.no_place.result
    (c.in_ok-read.read.script, c.in_ok-read.read.heads.items, record { reads = c.in_ok-read.ensures.read; heads_are = c.in_ok-read.ensures.heads }, none)
    c.no_place.ensures
