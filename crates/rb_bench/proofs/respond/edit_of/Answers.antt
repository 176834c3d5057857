use Rattle.std.proofs.lemmas.Result.{err_from_is_err_and}
use Rattle.rb_script.specs.declared.edit.Edit.TheVariants as edits
use Rattle.rb_bench.proofs.MakeLaws.{insert_of, replace_of, expect_of, block_fails, block_made}
use Rattle.rb_bench.proofs.respond.edit_of.Goals as goal

pub returns-in_err-read-in-Insert : goal.returns-in_err-read-in-Insert
returns-in_err-read-in-Insert c =
    let p = err_from_is_err_and c.from_residual.result c.from_residual.ensures.1 in
    rw (p.1, p.2) (block_fails (λ b. edits.Insert c.args.place b) c.in_err-read-in-Insert.field-0.0 c.text.result.now _ _ (insert_of c.args.purpose c.args.place c.args.lines c.in-Insert.is) c.text.ensures c.in_err-read-in-Insert.ensures.exact)

pub returns-in_err-read-in-Replace : goal.returns-in_err-read-in-Replace
returns-in_err-read-in-Replace c =
    let p = err_from_is_err_and c.from_residual-in_err-read-in-Replace.result c.from_residual-in_err-read-in-Replace.ensures.1 in
    rw (p.1, p.2) (block_fails (λ b. edits.Replace c.args.place b) c.in_err-read-in-Replace.field-0.0 c.text-in-Replace.result.now _ _ (replace_of c.args.purpose c.args.place c.args.lines c.in-Replace.is) c.text-in-Replace.ensures c.in_err-read-in-Replace.ensures.exact)

pub returns-in_ok-read-in-Insert : goal.returns-in_ok-read-in-Insert
returns-in_ok-read-in-Insert c =
    block_made (λ b. edits.Insert c.args.place b) c.in_ok-read-in-Insert.field-0 c.text.result.now _ _ (insert_of c.args.purpose c.args.place c.args.lines c.in-Insert.is) c.text.ensures c.in_ok-read-in-Insert.ensures.exact

pub returns-in_ok-read-in-Replace : goal.returns-in_ok-read-in-Replace
returns-in_ok-read-in-Replace c =
    block_made (λ b. edits.Replace c.args.place b) c.in_ok-read-in-Replace.field-0 c.text-in-Replace.result.now _ _ (replace_of c.args.purpose c.args.place c.args.lines c.in-Replace.is) c.text-in-Replace.ensures c.in_ok-read-in-Replace.ensures.exact

pub returns-in-Expect : goal.returns-in-Expect
returns-in-Expect c = expect_of c.args.purpose c.args.place c.args.lines c.in-Expect.is
