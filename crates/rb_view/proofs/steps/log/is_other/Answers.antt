use Rattle.std.proofs.Common.{ap}
use Rattle.std.specs.Prelude.{not}
use Rattle.std.proofs.lemmas.Bool.Decides.{same_from_decides}
use Rattle.rb_view.specs.Logs.{same_entry}
use Rattle.rb_view.proofs.LogLaws.{same_entry-Decides}
use Rattle.rb_view.proofs.steps.log.is_other.Goals as goal

pub returns : goal.returns
returns c =
    ap not (same_from_decides c.same.result (same_entry c.args.entry.now c.args.other.now) (c.same.ensures.0, c.same.ensures.1) (same_entry-Decides c.args.entry.now c.args.other.now))
