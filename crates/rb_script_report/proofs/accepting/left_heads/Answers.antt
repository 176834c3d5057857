use Rattle.std.proofs.Common.{ℕ, List, arith}
use Rattle.rb_script.specs.Lines.{Line}
use Rattle.rb_script.specs.Script.{PlainBlock}
use Rattle.rb_replay.specs.Run.{outputs}
use Rattle.rb_script_report.specs.Accepting.{one_left, left_heads}
use Rattle.rb_script_report.proofs.EachLaws.{each_more, each_all}
use Rattle.rb_script_report.proofs.accepting.left_heads.Goals as goal

pub loop-i-preserved : goal.loop-i-preserved
loop-i-preserved g c =
    let e = c.args.wanted in
    let text = c.args.text.now in
    let heads = c.args.heads.now in
    let s = c.args.session.now.script in
    each_more (λ (line : ℕ) (b : PlainBlock) (output : List Line). one_left e text line b output) heads s.blocks (outputs s) c.loop-i.i c.number_at-line.result c.block_at-block.result.now c.output_at-output.result.now c.loop-i.left.items c.push_left.new.left.items (left_heads e text heads s.blocks (outputs s))
    c.number_at-line.ensures c.block_at-block.ensures c.output_at-output.ensures c.in_ok-push_left.ensures c.loop-i.invariant

pub returns : goal.returns
returns g c =
    let e = c.args.wanted in
    let text = c.args.text.now in
    let heads = c.args.heads.now in
    let s = c.args.session.now.script in
    each_all (λ (line : ℕ) (b : PlainBlock) (output : List Line). one_left e text line b output) heads s.blocks (outputs s) c.loop-i.i c.loop-i.left.items (left_heads e text heads s.blocks (outputs s)) (omega (arith, c.loop-i-test.false, c.len-i-end.ensures.len)) c.loop-i.invariant
