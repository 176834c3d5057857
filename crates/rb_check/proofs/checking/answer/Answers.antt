use Rattle.std.proofs.Common.{◌≡◌, ◌∙◌, ℕ, List, [], true, false, refl, ap, sym}
use Rattle.rb_script_report.specs.declared.accept_options.AcceptOptions.{AcceptOptions}
use Rattle.rb_check.specs.declared.ending.CheckEnding.TheVariants.{Kept, Refused, Accepted, Reviewed}
use Rattle.rb_check.specs.declared.remark.Remark.TheVariants as remarks
use Rattle.rb_check.specs.Shown.{remark_text}
use Rattle.rb_check.specs.Subjects.{plain_of}
use Rattle.rb_check.specs.Targets.{memory}
use Rattle.rb_check.proofs.AnswerLaws.{accepts_any, answered, ending_so, is_review}
use Rattle.rb_check.proofs.ShownLaws.{along, err_so, err_with, goes_nothing, ok_with, on_err, part_then, part_whole}
use Rattle.rb_check.proofs.checking.answer.Goals as goal

pub returns-in-Kept-clause-answered : goal.returns-in-Kept-clause-answered
returns-in-Kept-clause-answered g c =
    let subject = c.args.subject.now in
    let ending = c.ending_of.ensures ∙ ending_so c.args.asked.now (plain_of subject) c.is_empty.result subject.warnings.now subject.ran c.requires.warnings c.requires.result c.is_empty.ensures in
    answered _ c.in_ok-picked.picked Kept (sym ending ∙ c.in-Kept.is) c.in_ok-tell.ensures.shown c.in_ok-heads.ensures.named c.in_ok-picked.ensures ([], (c.requires.result, refl, refl), goes_nothing _ _)

pub returns-in-Refused-clause-answered : goal.returns-in-Refused-clause-answered
returns-in-Refused-clause-answered g c =
    let subject = c.args.subject.now in
    let form = c.named_heads.new.report.state.form in
    let ending = c.ending_of.ensures ∙ ending_so c.args.asked.now (plain_of subject) c.is_empty.result subject.warnings.now subject.ran c.requires.warnings c.requires.result c.is_empty.ensures in
    answered _ c.in_ok-picked.picked Refused (sym ending ∙ c.in-Refused.is) c.in_ok-tell.ensures.shown c.in_ok-heads.ensures.named c.in_ok-picked.ensures
    (remark_text form subject.path.now remarks.Unaccepted, (c.requires.result, refl, refl), along (ap (λ (path : List ℕ). remark_text form path remarks.Unaccepted) c.as_bytes.ensures.value) c.remark.ensures.shown)

pub returns-in-Accepted-clause-answered : goal.returns-in-Accepted-clause-answered
returns-in-Accepted-clause-answered g c =
    let subject = c.args.subject.now in
    let picked = c.in_ok-picked.picked in
    let wanted : AcceptOptions = record { picked = picked; errors = c.args.asked.now.accepts_errors } in
    let said = c.accept.ensures.said in
    let form = c.named_heads.new.report.state.form in
    let ending = c.ending_of.ensures ∙ ending_so c.args.asked.now (plain_of subject) c.is_empty.result subject.warnings.now subject.ran c.requires.warnings c.requires.result c.is_empty.ensures in
    answered _ picked Accepted (sym ending ∙ c.in-Accepted.is) c.in_ok-tell.ensures.shown c.in_ok-heads.ensures.named c.in_ok-picked.ensures
    (said.0, (accepts_any form form wanted (plain_of subject) c.accept.result said.0 refl said.1, refl), said.2)

pub returns-clause-answered : goal.returns-clause-answered
returns-clause-answered g c =
    let subject = c.args.subject.now in
    let ending = c.ending_of.ensures ∙ ending_so c.args.asked.now (plain_of subject) c.is_empty.result subject.warnings.now subject.ran c.requires.warnings c.requires.result c.is_empty.ensures in
    ok_with c.accept_reviewed.result (λ found ended. answered _ c.in_ok-picked.picked Reviewed (sym ending ∙ c.in-Reviewed.is) c.in_ok-tell.ensures.shown c.in_ok-heads.ensures.named c.in_ok-picked.ensures ended) c.accept_reviewed.ensures.accepted

pub returns-clause-part : goal.returns-clause-part
returns-clause-part g c = err_so c.accept_reviewed.result (λ part. part_then c.in_ok-tell.ensures.shown.2 (part_then c.in_ok-heads.ensures.named.2 part)) c.accept_reviewed.ensures.part

pub returns-clause-unasked : goal.returns-clause-unasked
returns-clause-unasked g c = λ none. let no : true ≡ false = sym (is_review c.args.asked.now _ _ (sym c.ending_of.ensures ∙ c.in-Reviewed.is)) ∙ none in absurd cc

pub returns-in_err-tell-clause-part : goal.returns-in_err-tell-clause-part
returns-in_err-tell-clause-part g c = on_err c.from_residual.result c.in_err-tell.ensures.part

pub returns-in_err-heads-clause-part : goal.returns-in_err-heads-clause-part
returns-in_err-heads-clause-part g c = on_err c.from_residual-in_err-heads.result (part_then c.in_ok-tell.ensures.shown.2 c.in_err-heads.ensures.part)

pub returns-in_err-picked-clause-part : goal.returns-in_err-picked-clause-part
returns-in_err-picked-clause-part g c = on_err c.from_residual-in_err-picked.result (part_then c.in_ok-tell.ensures.shown.2 (part_whole _ c.in_ok-heads.ensures.named.2))

pub returns-clause-missed : goal.returns-clause-missed
returns-clause-missed g c = err_with c.accept_reviewed.result (λ error is. memory is) c.accept_reviewed.ensures.memory
