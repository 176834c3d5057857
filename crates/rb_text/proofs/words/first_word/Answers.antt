use Rattle.std.proofs.Common.{◌∙◌, arith}
use Rattle.std.proofs.lemmas.Bool.Decides.{nat_tests}
use Rattle.rb_text.proofs.WordLaws.{words_behind, begins_behind, words_nil, words_at, words_none}
use Rattle.rb_text.proofs.words.first_word.Goals as goal

pub returns-then-is_empty : goal.returns-then-is_empty
returns-then-is_empty c =
    words_behind c.args.line.now c.trim_blanks-text.result.now c.trim_blanks-text.ensures ∙ words_nil c.trim_blanks-text.result.now (grind (arith, nat_tests))

pub returns-in-Some : goal.returns-in-Some
returns-in-Some c =
    words_behind c.args.line.now c.trim_blanks-text.result.now c.trim_blanks-text.ensures
    ∙ words_at c.trim_blanks-text.result.now c.in-Some.end (begins_behind c.args.line.now c.trim_blanks-text.result.now c.trim_blanks-text.ensures) c.in-Some.ensures.found c.in-Some.ensures.space c.in-Some.ensures.first

pub returns-in-None : goal.returns-in-None
returns-in-None c =
    words_behind c.args.line.now c.trim_blanks-text.result.now c.trim_blanks-text.ensures ∙ words_none c.trim_blanks-text.result.now (grind (arith, nat_tests)) c.in-None.ensures.none
