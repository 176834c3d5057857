use Rattle.std.proofs.Common.{◌∙◌, ℕ, Bool, List, [], ◌++◌, ap, sym, append_assoc, append-nil}
use Rattle.rb_report.specs.Failures.{failure_text}
use Rattle.rb_check.specs.Shown.{cause_line, cause_text, cleared}
use Rattle.rb_check.proofs.ShownLaws.{told_along, told_then}
use Rattle.rb_check.proofs.error_stream.ErrorStream.tell_failure.Goals as goal

pub returns-in-Some-clause-told : goal.returns-in-Some-clause-told
returns-in-Some-clause-told g c =
    let first = cleared c.args.self.now.shows_progress in
    let path = c.args.path.now in
    let failure = failure_text path c.args.error.failure in
    let words = c.tell_cause.ensures.told in
    let cause = told_along _ _ (ap (λ (b : Bool). cleared b ++ cause_line path words.0) c.tell.ensures.shown) words.1 in (
      words.0,
      told_along _ _ (append_assoc first failure (cause_line path words.0) ∙ ap (λ (says : Bool). first ++ (failure ++ cause_text says path words.0)) c.in-Some.ensures.said)
          (told_then _ _ _ (first ++ failure) (cause_line path words.0) c.tell.ensures.told cause),
    )

pub returns-in-None-clause-told : goal.returns-in-None-clause-told
returns-in-None-clause-told g c =
    let first = cleared c.args.self.now.shows_progress in
    let path = c.args.path.now in
    let failure = failure_text path c.args.error.failure in
    ([], told_along _ _ (ap (λ (l : List ℕ). first ++ l) (sym (append-nil failure)) ∙ ap (λ (says : Bool). first ++ (failure ++ cause_text says path [])) c.in-None.ensures.said) c.tell.ensures.told)
