use Rattle.std.proofs.Common.{List, ℕ, subst}
use Rattle.rb_book.specs.Titles.{IsFirstSentence}
use Rattle.rb_book.proofs.title.title_of.Goals as goal

pub returns : goal.returns
returns c = (
  c.first_line.result.now,
  c.first_line.ensures,
  subst (λ (text : List ℕ). IsFirstSentence text c.first_sentence.result.now) c.after_sign.ensures c.first_sentence.ensures,
)
