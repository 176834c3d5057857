use Rattle.std.proofs.Common.{List, map, refl}
use Rattle.rb_script_report.specs.declared.warning.Warning.{Warning}
use Rattle.rb_view.specs.Kept.{texts_of}
use Rattle.rb_view.specs.Steps.{warning_row}
use Rattle.rb_view.proofs.KeptLaws.{one_more}
use Rattle.rb_view.proofs.steps.steps.keep_warnings.Goals as goal

pub loop-i-preserved : goal.loop-i-preserved
loop-i-preserved c =
    one_more (λ (ws : List Warning). texts_of (map warning_row ws)) c.args.found.now c.loop-i.i c.warning_at.result.now _ c.loop-i.texts c.keep_warning.new.texts _ refl c.warning_at.ensures
    c.in_ok-keep_warning.ensures c.loop-i.invariant
