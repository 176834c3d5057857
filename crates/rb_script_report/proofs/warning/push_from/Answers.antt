use Rattle.std.proofs.Common.{◌∙◌, ℕ, ◌+◌, ◌-◌, ◌<◌, ◌++◌, ap, arith}
use Rattle.rb_script_report.specs.declared.part.BlockPart.{BlockPart}
use Rattle.rb_script_report.specs.declared.part.BlockPart.TheVariants.{Head}
use Rattle.rb_script_report.specs.Doubts.{next_part, warning_kind_of, one_warning, warnings_from}
use Rattle.rb_script_report.proofs.DoubtLaws.{line_step, line_done}
use Rattle.rb_script_report.proofs.EachLaws.{more, done}
use Rattle.rb_script_report.proofs.warning.push_from.Goals as goal

pub loop-left-preserved : goal.loop-left-preserved
loop-left-preserved c =
    let from = warnings_from c.args.takes c.args.output.now c.args.lines.text.now in
    let part : BlockPart = c.loop-left.part in
    let at : ℕ = c.loop-left.at in
    let left : ℕ = c.loop-left.left in
    let line = c.line_at-line.result.now in
    let some : 0 < left = c.loop-left-test.true in
    record {
      all = ap (λ (p : BlockPart). c.push_warning.new.found.items ++ from p (at + 1) (left - 1)) c.after-part.ensures
          ∙ more c.loop-left.found.items (one_warning (at + 1) (warning_kind_of c.args.takes c.args.output.now part line)) (from (next_part part line) (at + 1) (left - 1)) (from part at left) c.push_warning.new.found.items
          (c.args.found.now.items ++ from Head c.args.lines.start c.args.lines.count)
          (c.in_ok-push_warning.ensures ∙ ap (λ d. c.loop-left.found.items ++ one_warning (at + 1) d) c.in_ok-doubt.ensures)
          (line_step c.args.takes c.args.output.now c.args.lines.text.now part at left line some c.line_at-line.ensures) c.loop-left.invariant.all;
      place = omega (arith, c.loop-left.invariant.place, some);
    }

pub returns : goal.returns
returns c =
    let from = warnings_from c.args.takes c.args.output.now c.args.lines.text.now in
    done c.loop-left.found.items (from c.loop-left.part c.loop-left.at c.loop-left.left) (c.args.found.now.items ++ from Head c.args.lines.start c.args.lines.count)
    (line_done c.args.takes c.args.output.now c.args.lines.text.now c.loop-left.part c.loop-left.at c.loop-left.left (omega (arith, c.loop-left-test.false))) c.loop-left.invariant.all
