use Rattle.std.proofs.Common.{◌≡◌, ◌∙◌, ℕ, take, ap, arith}
use Rattle.rb_editor.specs.declared.actions.actual_output.TheConstants.{MAX_SHOWN}
use Rattle.rb_editor.proofs.CameLaws.{first_more}
use Rattle.rb_editor.proofs.actions.actual_output.first_lines.Goals as goal

pub loop-i-preserved : goal.loop-i-preserved
loop-i-preserved c = record {
  first = first_more c.loop-i.front c.push.new.self c.args.output.now c.loop-i.i c.line.result.now c.loop-i.invariant.first c.line.ensures c.in_ok-push.ensures.ok;
  within = omega (arith, c.loop-i-test.true);
}

pub returns : goal.returns
returns c =
    let all : c.loop-i.i ≡ MAX_SHOWN = omega (arith, c.loop-i-test.false, c.loop-i.invariant.within) in
    c.loop-i.invariant.first ∙ ap (λ (n : ℕ). take n c.args.output.now) all
