use Rattle.std.proofs.Common.{◌∙◌, ℕ, List, subst}
use Rattle.rb_check.specs.Asking.{IsAsked}
use Rattle.rb_check.proofs.ShownLaws.{on_err, part_nothing, part_whole}
use Rattle.rb_check.proofs.review.Reviewer.ask.Goals as goal

pub returns-clause-shown : goal.returns-clause-shown
returns-clause-shown g c =
    let asked = c.ask-answer.ensures.shown in
    (asked.0, subst (λ (q : List ℕ). IsAsked q asked.0) (c.deref.ensures.value ∙ c.in_ok-text.ensures) asked.1, asked.2)

pub returns-in_err-text-clause-part : goal.returns-in_err-text-clause-part
returns-in_err-text-clause-part g c = on_err c.from_residual.result (part_nothing _ _)

pub returns-in_err-self-clause-part : goal.returns-in_err-self-clause-part
returns-in_err-self-clause-part g c = on_err c.from_residual-in_err-self.result (part_whole c.ask-answer.ensures.shown.0 c.ask-answer.ensures.shown.2)
