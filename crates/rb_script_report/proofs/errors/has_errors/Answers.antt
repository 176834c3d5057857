use Rattle.std.proofs.Common.{◌∙◌, ◌≤◌, true, false, List, length, ap, sym, arith}
use Rattle.std.specs.List.{list_any}
use Rattle.std.proofs.lemmas.List.{drop_all}
use Rattle.rb_script.specs.Lines.{Line}
use Rattle.rb_replay.specs.Run.{outputs}
use Rattle.rb_replay.proofs.RunLaws.{length-outputs}
use Rattle.rb_script_report.specs.Errors.{is_error}
use Rattle.rb_script_report.proofs.ShownLaws.{any-step}
use Rattle.rb_script_report.proofs.errors.has_errors.Goals as goal

pub returns-then-is_error : goal.returns-then-is_error
returns-then-is_error g c =
    sym (any-step is_error (outputs c.args.session.now.script) c.loop-i.i c.output_at.result.now true c.output_at.ensures (sym c.is_error.ensures ∙ c.if-is_error.true)) ∙ c.loop-i.invariant

pub loop-i-preserved : goal.loop-i-preserved
loop-i-preserved g c =
    sym (any-step is_error (outputs c.args.session.now.script) c.loop-i.i c.output_at.result.now false c.output_at.ensures (sym c.is_error.ensures ∙ c.if-is_error.false)) ∙ c.loop-i.invariant

pub returns : goal.returns
returns g c =
    let os = outputs c.args.session.now.script in
    let past : length os ≤ c.loop-i.i = omega (arith, c.loop-i-test.false, c.len-i-end.ensures.len, length-outputs c.args.session.now.script) in
    sym (ap (λ (outs : List (List Line)). list_any is_error outs) (drop_all c.loop-i.i os past)) ∙ c.loop-i.invariant
