use Rattle.std.proofs.Common.{◌∙◌, List, length, subst, sym}
use Rattle.rb_check.specs.declared.question.ReviewQuestion.{ReviewQuestion}
use Rattle.rb_check.specs.declared.review.Review.{Review}
use Rattle.rb_check.specs.Asking.{AreReviewed}
use Rattle.rb_check.specs.Reviews.{AreWithin}
use Rattle.rb_check.specs.Subjects.{plain_of}
use Rattle.rb_check.proofs.AskingLaws.{from_before}
use Rattle.rb_check.proofs.RunLaws.{questions_within}
use Rattle.rb_check.proofs.ShownLaws.{on_err, part_nothing}
use Rattle.rb_check.proofs.review.reviewed.Goals as goal

pub go_over-requires-clause-within : goal.go_over-requires-clause-within
go_over-requires-clause-within g c =
    let about = plain_of c.args.subject.now in
    subst (λ (questions : List ReviewQuestion). AreWithin questions (length about.script.blocks)) (sym (c.deref.ensures.value ∙ c.in_ok-questions.ensures)) (questions_within c.args.asked.now c.args.picked about)

pub returns-clause-shown : goal.returns-clause-shown
returns-clause-shown g c =
    let about = plain_of c.args.subject.now in
    let after = c.go_over.new.reviewer.review in
    let before = c.args.reviewer.now.review in
    let said = c.in_ok-go_over.ensures.shown in
    let same = c.deref.ensures.value ∙ c.in_ok-questions.ensures in
    let begun = subst (λ (review : Review). AreReviewed about c.deref.result.now review after said.0) c.begin.ensures.review said.1 in
    (said.0, subst (λ (questions : List ReviewQuestion). AreReviewed about questions before after said.0) same (from_before about c.deref.result.now before after said.0 begun), said.2)

pub returns-in_err-questions-clause-part : goal.returns-in_err-questions-clause-part
returns-in_err-questions-clause-part g c = on_err c.from_residual.result (part_nothing _ _)

pub returns-in_err-go_over-clause-part : goal.returns-in_err-go_over-clause-part
returns-in_err-go_over-clause-part g c = on_err c.from_residual-in_err-go_over.result c.in_err-go_over.ensures.part
