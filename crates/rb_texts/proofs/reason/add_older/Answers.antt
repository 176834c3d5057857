use Rattle.std.proofs.Common.{codes}
use Rattle.std.proofs.lemmas.Result.{on_ok_weaker}
use Rattle.rb_texts.specs.Reasons.{end_text}
use Rattle.rb_texts.proofs.PieceLaws.{added_twice}
use Rattle.rb_texts.proofs.reason.add_older.Goals as goal

pub returns : goal.returns
returns c =
    on_ok_weaker c.add_end-2.result
    (added_twice c.args.line.now c.add_end.new.line c.add_end-2.new.line (end_text (codes "its log ends at ") c.args.term c.args.index) (end_text (codes ", the voter's at ") c.args.own_term c.args.own_index) c.in_ok-add_end.ensures)
    c.add_end-2.ensures
