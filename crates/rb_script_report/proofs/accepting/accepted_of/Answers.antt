use Rattle.std.proofs.Common.{ℕ, List, ◌∷◌, [], ◌∙◌, arith}
use Rattle.std.proofs.lemmas.Result.{IfOk-weaker}
use Rattle.rb_script.specs.Lines.{Line}
use Rattle.rb_script.specs.Script.{PlainBlock}
use Rattle.rb_script.specs.Shared.{values}
use Rattle.rb_script.proofs.SharedLaws.{pushed}
use Rattle.rb_replay.specs.Run.{outputs}
use Rattle.rb_script_report.specs.Accepting.{accepted_lines, accepted_of}
use Rattle.rb_script_report.proofs.EachLaws.{each_more, each_all}
use Rattle.rb_script_report.proofs.accepting.accepted_of.Goals as goal

pub loop-i-preserved : goal.loop-i-preserved
loop-i-preserved g c =
    let e = c.args.wanted in
    let text = c.args.text.now in
    let heads = c.args.heads.now in
    let s = c.args.session.now.script in
    let line = c.number_at-line.result in
    let b = c.block_at-block.result.now in
    let o = c.output_at-output.result.now in
    let pushed_one = pushed c.loop-i.all.items c.push.new.self.items c.in_ok-new.field-0 (accepted_lines e text line b o) c.in_ok-push.ensures.items (c.in_ok-new.ensures.ok ∙ c.in_ok-lines.ensures) in
    each_more (λ (line : ℕ) (b : PlainBlock) (output : List Line). accepted_lines e text line b output ∷ []) heads s.blocks (outputs s) c.loop-i.i line b o (values c.loop-i.all.items) (values c.push.new.self.items) (accepted_of e text heads s.blocks (outputs s))
    c.number_at-line.ensures c.block_at-block.ensures c.output_at-output.ensures pushed_one c.loop-i.invariant

pub returns : goal.returns
returns g c =
    let e = c.args.wanted in
    let text = c.args.text.now in
    let heads = c.args.heads.now in
    let s = c.args.session.now.script in
    let all = each_all (λ (line : ℕ) (b : PlainBlock) (output : List Line). accepted_lines e text line b output ∷ []) heads s.blocks (outputs s) c.loop-i.i (values c.loop-i.all.items) (accepted_of e text heads s.blocks (outputs s)) (omega (arith, c.loop-i-test.false, c.len-i-end.ensures.len)) c.loop-i.invariant in
    IfOk-weaker c.of.result _ _ (λ made is. is ∙ all) c.of.ensures
