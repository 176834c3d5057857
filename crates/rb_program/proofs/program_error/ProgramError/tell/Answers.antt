use Rattle.std.proofs.Common.{List, ℕ, [], ◌≡◌, ◌⊎◌, subst}
use Rattle.rb_program.specs.Sentences.{IsShown}
use Rattle.rb_program.proofs.ToldLaws.{shown_or_none, tells_line, tells_lines}
use Rattle.rb_program.proofs.program_error.ProgramError.tell.Goals as goal

pub returns-then-not-explained-clause-told : goal.returns-then-not-explained-clause-told
returns-then-not-explained-clause-told g c = λ takes.
    let word = c.text_of-word.result.now in
    let is = subst (λ (w : List ℕ). IsShown w word ⊎ (word ≡ [])) c.word.ensures (shown_or_none c.shown_word-shown.result c.word.result.now word c.shown_word-shown.ensures c.text_of-word.ensures) in
    let first = (c.tell_why-status.ensures.told takes).1 in
    (c.is_explained-explained.result, c.is_explained-explained.ensures, tells_line c.args.self.now word c.is_explained-explained.result _ _ (cc) is first)

pub returns-clause-told : goal.returns-clause-told
returns-clause-told g c = λ takes.
    let word = c.text_of-word.result.now in
    let is = subst (λ (w : List ℕ). IsShown w word ⊎ (word ≡ [])) c.word.ensures (shown_or_none c.shown_word-shown.result c.word.result.now word c.shown_word-shown.ensures c.text_of-word.ensures) in
    let first = c.tell_why-status.ensures.told takes in
    (c.is_explained-explained.result, c.is_explained-explained.ensures, tells_lines c.args.self.now word c.is_explained-explained.result _ _ _ (cc) is first.1 (c.explain.ensures.told first.0))
