use Rattle.std.proofs.Common.{◌∙◌, arith}
use Rattle.std.proofs.lemmas.Result.{err_from_is_err_and}
use Rattle.rb_script.specs.declared.shared_lines.SharedLines.{SharedLines}
use Rattle.rb_script.specs.declared.with_lines.ScriptWithLines.{ScriptWithLines}
use Rattle.rb_script.specs.Shared.{parts_view}
use Rattle.rb_script.specs.Reading.{early_fault}
use Rattle.rb_script.proofs.ResultLaws.{early_through}
use Rattle.rb_script.proofs.ValidLaws.{script_valid}
use Rattle.rb_script.proofs.reading.with_lines.Goals as goal

pub returns-in_err-all-clause-early : goal.returns-in_err-all-clause-early
returns-in_err-all-clause-early c =
    let p = err_from_is_err_and c.from_residual.result c.from_residual.ensures.1 in
    rw (p.1, p.2) (early_through SharedLines ScriptWithLines (early_fault c.args.bytes.now) c.in_err-all.field-0.0 c.in_err-all.ensures.early)

pub whole-requires : goal.whole-requires
whole-requires c =
    script_valid c.args.bytes.now (parts_view c.in_ok-parts.parts) c.in_ok-parts.parts.text_len
    (c.in_ok-all.ensures.parts ∙ c.in_ok-parts.ensures.gives) c.in_ok-parts.ensures.len (omega arith)

pub returns-clause-heads : goal.returns-clause-heads
returns-clause-heads c =
    rw (c.in_ok-script.ensures, ← c.in_ok-all.ensures.lines) c.in_ok-parts.ensures.heads
