use Rattle.std.proofs.lemmas.Bool.Decides.{same_from_decides}
use Rattle.rb_replay.specs.Report.{same_lines}
use Rattle.rb_replay.proofs.DifferingLaws.{same_lines-Decides}
use Rattle.rb_view.proofs.steps.script.is_same.Goals as goal

pub returns : goal.returns
returns c =
    same_from_decides c.same.result (same_lines c.args.lines.now c.args.other.now) (c.same.ensures.0, c.same.ensures.1) (same_lines-Decides c.args.lines.now c.args.other.now)
