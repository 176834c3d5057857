use Rattle.std.proofs.Common.{◌≡◌, ◌∙◌, ℕ, List, Some, length, ap, sym}
use Rattle.std.specs.Prelude.{slice_get}
use Rattle.rb_text.proofs.SentLaws.{writes_along}
use Rattle.rb_script_report.proofs.ShownLaws.{first-brief}
use Rattle.rb_script_report.proofs.put.put_in_brief.Goals as goal

pub returns-in-Some-clause-wrote : goal.returns-in-Some-clause-wrote
returns-in-Some-clause-wrote g c =
    let heads = c.args.layout.now.heads.items in
    let head : slice_get heads c.in-Some.index ≡ Some c.number_at.result = sym (ap (λ (hs : List ℕ). slice_get hs c.in-Some.index) c.as_slice.ensures.value) ∙ c.number_at.ensures in
    writes_along _ _ _ _ _ (first-brief c.args.path.now heads c.args.session.now.script c.in-Some.index (length c.mismatches.result.now) c.len.result c.number_at.result c.in-Some.ensures.some (ap length c.mismatches.ensures) c.len.ensures.len head) c.put_brief.ensures.wrote
