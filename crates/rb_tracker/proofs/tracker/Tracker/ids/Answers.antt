use Rattle.std.proofs.Common.{◌∙◌, ap, sym, List, ℕ}
use Rattle.rb_tracker.specs.Sets.{with_id}
use Rattle.rb_tracker.proofs.ViewLaws.{ids_more}
use Rattle.rb_tracker.proofs.tracker.Tracker.ids.Goals as goal

pub loop-i-preserved : goal.loop-i-preserved
loop-i-preserved c =
    c.in_ok-insert.ensures.ok ∙ (ap (λ (l : List ℕ). with_id l c.view.result.0) c.loop-i.invariant ∙ sym (ids_more c.args.self.now.views c.loop-i.i _ c.view.ensures))
