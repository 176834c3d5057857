use Rattle.rb_view.proofs.NewRowLaws.{same_tracker_kept}
use Rattle.rb_view.proofs.steps.node.keep_new_tracker.Goals as goal

pub returns-then-has_same_tracker : goal.returns-then-has_same_tracker
returns-then-has_same_tracker g c =
    same_tracker_kept c.args.texts.now c.args.old.now c.args.new.now (c.has_same_tracker.ensures.id c.if-has_same_tracker.true) (c.has_same_tracker.ensures.tracker c.if-has_same_tracker.true)
