use Rattle.std.proofs.Common.{List, refl}
use Rattle.rb_script.specs.Lines.{Line}
use Rattle.rb_view.proofs.KeptLaws.{one_more}
use Rattle.rb_view.specs.NewRows.{new_texts}
use Rattle.rb_view.proofs.steps.fresh.keep_new.Goals as goal

pub loop-i-preserved : goal.loop-i-preserved
loop-i-preserved c =
    one_more (λ (ls : List Line). new_texts c.args.olds.now ls) c.args.news.now c.loop-i.i c.line.result.now _ c.loop-i.texts c.keep_if_new.new.texts _ refl c.line.ensures
    c.in_ok-keep_if_new.ensures c.loop-i.invariant
