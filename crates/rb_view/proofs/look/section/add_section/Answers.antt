use Rattle.rb_view.proofs.LookLaws.{shown_more}
use Rattle.rb_view.proofs.look.section.add_section.Goals as goal

pub loop-i-preserved : goal.loop-i-preserved
loop-i-preserved c = record {
  so_far = shown_more c.args.word.now c.loop-i.lines c.args.lines.now c.add_shown.new.lines c.args.title.now c.line.result.now c.args.answer.now c.loop-i.i c.line.ensures c.loop-i.invariant.so_far c.in_ok-add_shown.ensures;
}
