use Rattle.rb_report.proofs.HighlightLaws.{parts-are}
use Rattle.rb_report.proofs.check.highlight.parts_beside.Goals as goal

pub returns : goal.returns
returns c =
    parts-are c.args.line.now c.args.other.now c.split_at.result.0.now c.split_at.result.1.now c.split_at-2.result.1.now c.split_at-3.result.0.now c.split_at-3.result.1.now c.same_len-front_len.result c.same_len.result
    c.same_len-front_len.ensures.value c.split_at.ensures.front c.split_at.ensures.back c.split_at-2.ensures.back c.same_len.ensures.value c.split_at-3.ensures.front c.split_at-3.ensures.back
