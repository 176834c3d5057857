use Rattle.std.proofs.Common.{◌≡◌, ◌∙◌, Bool, true, false, IsUtf8, refl, rules, tests}
use Rattle.std.specs.Str.{is_utf8}
use Rattle.std.proofs.lemmas.Iterator.{YieldsList-from_chars}
use Rattle.std.proofs.lemmas.Iterator.Search.{any_from_yields_List}
use Rattle.std.proofs.lemmas.Str.{IsUtf8-from_is_utf8, is_utf8-from_IsUtf8}
use Rattle.rb_report.specs.Names.{acts_past_ascii}
use Rattle.rb_report.proofs.check.name.has_acting_char.Goals as goal

false_from : (b : Bool) → (b ≡ true → ⊥) → b ≡ false
false_from true h = absurd (h refl)
false_from false h = refl

pub returns-in-Ok : goal.returns-in-Ok
returns-in-Ok c =
    let text : IsUtf8 c.args.bytes.now = c.in-Ok.ensures.cases.1 in
    any_from_yields_List acts_past_ascii _ _ c.any.result c.any.ensures.ran
    (YieldsList-from_chars c.args.bytes.now text (c.chars.ensures.rest ∙ c.in-Ok.ensures.cases.0)) (λ x b q k. search (rules, tests))
    ∙ rw (is_utf8-from_IsUtf8 _ text) refl

pub returns-in-Err : goal.returns-in-Err
returns-in-Err c = rw (false_from (is_utf8 c.args.bytes.now) (λ is. c.in-Err.ensures.cases.0 (IsUtf8-from_is_utf8 _ is))) refl
