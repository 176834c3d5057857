use Rattle.std.proofs.Common.{◌∙◌, List, ℕ, ap, arith}
use Rattle.rb_tracker.specs.Progresses.{PlainProgress}
use Rattle.rb_tracker.specs.Trackers.{PlainTracker}
use Rattle.rb_tracker.specs.Active.{inactive_at}
use Rattle.rb_tracker.proofs.ActiveLaws.{unmark_more}
use Rattle.rb_tracker.proofs.tracker.Tracker.mark_others_inactive.Goals as goal

pub loop-i-preserved : goal.loop-i-preserved
loop-i-preserved c = record {
  config = ap (λ (t : PlainTracker). t.config) c.mark_inactive_unless_own.ensures ∙ c.loop-i.invariant.config;
  views =
      ap (λ (t : PlainTracker). t.views) c.mark_inactive_unless_own.ensures
      ∙ (ap (λ (views : List (ℕ × PlainProgress)). inactive_at views c.loop-i.i c.args.own) c.loop-i.invariant.views
      ∙ unmark_more c.args.own c.args.self.now.views c.loop-i.i (omega arith));
}
