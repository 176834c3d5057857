use Rattle.rb_report.specs.LineRanges.{in_range}
use Rattle.rb_view.proofs.StretchRowLaws.{stretch_kept}
use Rattle.rb_view.proofs.steps.stretch.StretchTextsStretchObserver.observe.Goals as goal

pub returns : goal.returns
returns c =
    stretch_kept c.args.self.now.texts c.keep_count.new.texts c.keep_range.new.texts c.keep_count-2.new.texts (in_range c.args.same) (in_range c.args.expected) (in_range c.args.output) c.len.result c.len-2.result
    c.len.ensures c.len-2.ensures c.in_ok-keep_count.ensures c.in_ok-keep_range.ensures c.in_ok-keep_count-2.ensures
