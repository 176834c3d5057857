use Rattle.std.proofs.Common.{ℕ, List, refl}
use Rattle.rb_tracker.specs.Progresses.{PlainProgress}
use Rattle.rb_view.specs.Kept.{texts_of}
use Rattle.rb_view.proofs.KeptLaws.{one_more}
use Rattle.rb_view.specs.States.{view_rows}
use Rattle.rb_view.proofs.steps.node.keep_views.Goals as goal

pub loop-i-preserved : goal.loop-i-preserved
loop-i-preserved c =
    one_more (λ (vs : List (ℕ × PlainProgress)). texts_of (view_rows c.args.id vs)) c.args.tracker.now.views c.loop-i.i _ _ c.loop-i.texts c.keep_view.new.texts _ refl c.view-member.ensures
    c.in_ok-keep_view.ensures c.loop-i.invariant
