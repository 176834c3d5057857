use Rattle.std.proofs.Common.{ℕ, ◌+◌, List, ◌++◌, sym, subst, length-append, arith}
use Rattle.std.proofs.lemmas.Result.{err_from_is_err_and}
use Rattle.std.specs.Io.KnownBytes.{Consumes}
use Rattle.std.proofs.KnownBytes.{Consumes-trans}
use Rattle.rb_text.proofs.AskedLaws.{asked_more, asked_reading, fails_then}
use Rattle.rb_text.proofs.ReadLaws.{stops}
use Rattle.rb_text.proofs.reading.read_up_to.Goals as goal

pub returns-in_err-read_some-clause-failed : goal.returns-in_err-read_some-clause-failed
returns-in_err-read_some-clause-failed g c =
    let p = err_from_is_err_and c.from_residual.result c.from_residual.ensures.1 in
    let (lost, loses, most, consumed) = c.in_err-read_some.ensures.failed in
    let read = c.loop-chunk.bytes.items in
    rw (p.1, p.2) (
      read ++ lost,
      stops c.in_err-read_some.field-0.0 c.args.most read lost (omega arith) loses (omega (arith, most)),
      Consumes-trans _ _ _ read lost c.loop-chunk.invariant.consumed consumed,
    )

pub returns-in_err-read_some-clause-asked : goal.returns-in_err-read_some-clause-asked
returns-in_err-read_some-clause-asked g c =
    let i = c.loop-chunk.invariant in
    let (lost, loses, most, consumed) = c.in_err-read_some.ensures.failed in
    let read = c.loop-chunk.bytes.items in
    asked_reading _ _ _ _ (read ++ lost) (i.calls + 1) c.args.most (asked_more _ _ _ i.calls i.asks c.in_err-read_some.ensures.asked)
    (Consumes-trans _ _ _ read lost i.consumed consumed) (omega (arith, i.few, length-append read lost)) (omega (arith, i.few))

pub returns-then-branch-eq0-clause-asked : goal.returns-then-branch-eq0-clause-asked
returns-then-branch-eq0-clause-asked g c =
    let i = c.loop-chunk.invariant in
    let (more, added, consumed) = c.in_ok-read_some.ensures.consumed in
    let read = c.loop-chunk.bytes.items in
    asked_reading _ _ _ _ (read ++ more) (i.calls + 1) c.args.most (asked_more _ _ _ i.calls i.asks c.in_ok-read_some.ensures.asked)
    (Consumes-trans _ _ _ read more i.consumed consumed) (omega (arith, i.few, length-append read more)) (omega (arith, i.few))

pub loop-chunk-preserved : goal.loop-chunk-preserved
loop-chunk-preserved g c =
    let i = c.loop-chunk.invariant in
    let (more, added, consumed) = c.in_ok-read_some.ensures.consumed in
    let read = c.loop-chunk.bytes.items in record {
      within = c.in_ok-read_some.ensures.most;
      consumed = subst (λ (l : List ℕ). Consumes (g.S.Source.left c.args.source.now) (g.S.Source.left c.read_some.new.source) l) (sym added) (Consumes-trans _ _ _ read more i.consumed consumed);
      calls = i.calls + 1;
      asks = asked_more _ _ _ i.calls i.asks c.in_ok-read_some.ensures.asked;
      few = let n = c.in_ok-read_some.ensures.count in omega (arith, i.few, n, c.if-branch-eq0.false);
      unfailed = fails_then _ _ _ 0 0 i.unfailed c.in_ok-read_some.ensures.unfailed;
      all = λ gives. (c.in_ok-read_some.ensures.all (i.all gives)).1;
    }

pub returns-then-branch-eq0-clause-unfailed : goal.returns-then-branch-eq0-clause-unfailed
returns-then-branch-eq0-clause-unfailed g c = fails_then _ _ _ 0 0 c.loop-chunk.invariant.unfailed c.in_ok-read_some.ensures.unfailed
