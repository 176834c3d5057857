-- Bytes that a page has as they are.
use Rattle.std.proofs.Common.{◌≡◌, ◌∙◌, ℕ, true, List, [], ◌∷◌, ◌++◌, refl, ap, ap₂}
use Rattle.std.specs.Prelude.{not, ◌&&◌, ◌==◌, nat_le}
use Rattle.std.specs.List.{flat_map, list_all}
use Rattle.std.proofs.lemmas.Bool.{and_parts, cond-true}
use Rattle.rb_text.specs.declared.json.Json.TheVariants.{Page}
use Rattle.rb_text.specs.Json.{in_page, is_no_mark, is_plain}
use Rattle.rb_texts.specs.Quoted as quotes

-- where each byte has itself as its text, all have
itself : (escaped : ℕ → List ℕ) (bytes : List ℕ) → ((b : ℕ) → is_plain Page b ≡ true → escaped b ≡ b ∷ []) → list_all (is_plain Page) bytes ≡ true → flat_map escaped bytes ≡ bytes
itself escaped [] each h = refl
itself escaped (b ∷ bytes) each h =
    let parts = and_parts (is_plain Page b) (list_all (is_plain Page) bytes) h in
    ap₂ (λ (first rest : List ℕ). first ++ rest) (each b parts.0) (itself escaped bytes each parts.1)

-- between quotes of JSON
pub plain_stand : (bytes : List ℕ) → list_all (is_plain Page) bytes ≡ true → flat_map in_page bytes ≡ bytes
plain_stand bytes = itself in_page bytes (λ b h. cond-true _ _ _ h)

-- and inside double quotes of a line
quoted_byte : (b : ℕ) → is_plain Page b ≡ true → quotes.escaped b ≡ b ∷ []
quoted_byte b h = cond-true _ _ _ (and_parts (nat_le 32 b && nat_le b 126 && not (b == 34) && not (b == 92)) (is_no_mark b) h).0

pub inside_stand : (bytes : List ℕ) → list_all (is_plain Page) bytes ≡ true → flat_map in_page (flat_map quotes.escaped bytes) ≡ bytes
inside_stand bytes h = ap (λ (l : List ℕ). flat_map in_page l) (itself quotes.escaped bytes quoted_byte h) ∙ plain_stand bytes h
