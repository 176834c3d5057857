use Rattle.std.proofs.Common.{List, refl}
use Rattle.rb_script.specs.Lines.{Line}
use Rattle.rb_view.proofs.KeptLaws.{one_more}
use Rattle.rb_view.proofs.rows.kept.keep_texts.Goals as goal

pub loop-i-preserved : goal.loop-i-preserved
loop-i-preserved c =
    one_more (λ (ls : List Line). ls) c.args.more.now c.loop-i.i c.line.result.now _ c.loop-i.texts c.push.new.self _ refl c.line.ensures c.in_ok-push.ensures.ok c.loop-i.invariant
