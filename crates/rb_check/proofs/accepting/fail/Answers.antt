use Rattle.std.proofs.Common.{◌∙◌, ℕ, Bool, List, ◌++◌, ap, sym}
use Rattle.rb_check.specs.AcceptTexts.{refusal_note}
use Rattle.rb_check.specs.Shown.{cleared, failure_lines, long_line_text}
use Rattle.rb_check.proofs.AcceptLaws.{refusal_alone, refusal_whole}
use Rattle.rb_check.proofs.ShownLaws.{told_along, told_then}
use Rattle.rb_check.proofs.accepting.fail.Goals as goal
use Rattle.rb_check.proofs.accepting.fail.Goals.{in-BadOutput, in-TooLong, in-OutOfMemory}

pub returns-clause-told : goal.returns-clause-told
returns-clause-told g c =
    let path = c.args.subject.now.path.now in
    let error = c.error_of-error.result in
    let failure = c.error_of-error.ensures.failure in
    let says = c.error_of-error.ensures.says in
    let shows = c.args.report.now.errors.shows_progress in
    elim c.match-fault.branch [
      | in-BadOutput w ↦ rw w.report-is (λ none.
          let line = w.in-BadOutput.line in
          let first = c.fail.ensures.told none in
          let note = told_along _ _ (ap (λ (b : Bool). cleared b ++ long_line_text c.as_bytes-path.result.now line) (c.fail.ensures.progress none)) w.tell.ensures.told in (
            first.0,
            told_along _ _ (ap (λ (p : List ℕ). (cleared shows ++ failure_lines p error first.0) ++ long_line_text p line) c.as_bytes-path.ensures.value
                ∙ refusal_whole shows path c.args.fault error first.0 (long_line_text path line) failure says (sym (ap (refusal_note path) w.in-BadOutput.is)))
                (told_then _ _ _ (cleared shows ++ failure_lines c.as_bytes-path.result.now error first.0) (long_line_text c.as_bytes-path.result.now line) first.1 note),
          ))
      | in-TooLong w ↦ rw w.report-is (λ none. let told = c.fail.ensures.told none in (
        told.0,
        told_along _ _ (ap (λ (p : List ℕ). cleared shows ++ failure_lines p error told.0) c.as_bytes-path.ensures.value
            ∙ refusal_alone shows path c.args.fault error told.0 failure says (sym (ap (refusal_note path) w.in-TooLong.is))) told.1,
      ))
      | in-OutOfMemory w ↦ rw w.report-is (λ none. let told = c.fail.ensures.told none in (
        told.0,
        told_along _ _ (ap (λ (p : List ℕ). cleared shows ++ failure_lines p error told.0) c.as_bytes-path.ensures.value
            ∙ refusal_alone shows path c.args.fault error told.0 failure says (sym (ap (refusal_note path) w.in-OutOfMemory.is))) told.1,
      ))
    ]
