use Rattle.std.proofs.Common.{◌∙◌, ℕ, List, ◌++◌, ap}
use Rattle.rb_check.specs.declared.junit.CaseVerdict.{CaseVerdict}
use Rattle.rb_check.specs.declared.script_result.ScriptResult.{ScriptResult}
use Rattle.rb_check.specs.Junit.{details_of, message_of, suite_text, verdict_of}
use Rattle.rb_check.specs.Subjects.{plain_of}
use Rattle.rb_check.proofs.junit.script_suite.Goals as goal

pub returns : goal.returns
returns g c =
    let subject = c.args.subject.now in
    let ran = subject.ran in
    let path = subject.path.now in
    let strict = c.args.is_strict in
    c.in_ok-add_suite.ensures
    ∙ ap (λ (t : List ℕ). t ++ suite_text c.as_bytes-path.result.now ran.first c.verdict_of-verdict.result c.deref.result.now c.deref-2.result.now) c.new-text.ensures.items
    ∙ ap (λ (p : List ℕ). suite_text p ran.first c.verdict_of-verdict.result c.deref.result.now c.deref-2.result.now) c.as_bytes-path.ensures.value
    ∙ ap (λ (v : CaseVerdict). suite_text path ran.first v c.deref.result.now c.deref-2.result.now) c.verdict_of-verdict.ensures
    ∙ ap (λ (m : List ℕ). suite_text path ran.first (verdict_of strict ran) m c.deref-2.result.now) (c.deref.ensures.value ∙ c.in_ok-message.ensures)
    ∙ ap (λ (t : List ℕ). suite_text path ran.first (verdict_of strict ran) (message_of ran) t) (c.deref-2.ensures.value ∙ c.in_ok-details.ensures)
    ∙ ap (λ (r : ScriptResult). suite_text path r.first (verdict_of strict r) (message_of r) (details_of (plain_of subject))) c.requires.result
