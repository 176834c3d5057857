use Rattle.std.proofs.Common.{ℕ, List}
use Rattle.std.proofs.lemmas.List.{map-append}
use Rattle.rb_tracker.specs.Progresses.{PlainProgress}
use Rattle.rb_view.specs.Kept.{texts_of}
use Rattle.rb_view.specs.Rows.{next_text}
use Rattle.rb_view.proofs.KeptLaws.{one_more}
use Rattle.rb_view.specs.States.{gone_of, gone_rows}
use Rattle.rb_view.proofs.steps.node.keep_gone.Goals as goal

pub loop-i-preserved : goal.loop-i-preserved
loop-i-preserved c =
    let news = c.args.new.now.views in
    one_more (λ (vs : List (ℕ × PlainProgress)). texts_of (gone_rows c.args.id vs news)) c.args.old.now.views c.loop-i.i _ _ c.loop-i.texts c.keep_if_gone.new.texts _
    (map-append next_text (gone_of c.args.id news c.view-member.result.0) _) c.view-member.ensures c.in_ok-keep_if_gone.ensures c.loop-i.invariant
