use Rattle.std.proofs.Common.{Bool, true, ◌∙◌, ap}
use Rattle.std.proofs.lemmas.Result.{on_ok_weaker}
use Rattle.rb_texts.proofs.LostLaws.{separator, lost_joined}
use Rattle.rb_texts.proofs.lost.add_lost.Goals as goal

pub returns : goal.returns
returns c =
    on_ok_weaker c.add_part-2.result
    (lost_joined c.args.saved c.args.unsaved c.loses_entries-entries.result c.loses_term-term.result c.loses_vote-vote.result c.separator-before_term.result.now c.separator-before_vote.result.now
    c.args.line.now c.add_entries.new.line c.add_part.new.line c.add_part-2.new.line
    c.loses_entries-entries.ensures c.loses_term-term.ensures c.loses_vote-vote.ensures c.separator-before_term.ensures (c.separator-before_vote.ensures ∙ ap (λ (b : Bool). separator b true) c.neither.ensures)
    c.in_ok-add_entries.ensures c.in_ok-add_part.ensures)
    c.add_part-2.ensures
