-- Bytes as they are in a text of XML. (XML 1.0, W3C, section 2.4: `&` and `<` are there by their entities alone, and so does `>` after
-- `]]`; here it always does.)
use Rattle.std.specs.Prelude.{◌≡◌, ℕ, Bool, true, ◌==◌, ◌&&◌, ◌⊎◌, not, if◌then◌else◌, codes, List, [], ◌∷◌}
use Rattle.rb_view.specs.Json.{IsParted}

-- neither `<` nor `>`
abbrev pub is_no_bracket : ℕ → Bool
is_no_bracket b = not (b == 60) && not (b == 62)

-- the entity of a byte that can't stand for itself (section 4.6)
abbrev pub escaped : ℕ → List ℕ
escaped b = if b == 38 then codes "&amp;" else (if b == 60 then codes "&lt;" else (if b == 62 then codes "&gt;" else b ∷ []))

-- ---- what a text is read as

-- a byte that is for itself, or an entity
abbrev pub IsCharacter : ℕ → List ℕ → Type 0
IsCharacter b t =
    (((b ≡ 38) × (t ≡ codes "&amp;")) ⊎ ((b ≡ 60) × (t ≡ codes "&lt;")))
    ⊎ (((b ≡ 62) × (t ≡ codes "&gt;")) ⊎ ((not (b == 38) && is_no_bracket b) ≡ true) × (t ≡ b ∷ []))

-- one byte, and those after it
abbrev pub ReadsAs : List ℕ → List ℕ → Type 0
ReadsAs [] t = t ≡ []
ReadsAs (b ∷ bytes) t = IsParted (λ (u : List ℕ). IsCharacter b u) (λ (u : List ℕ). ReadsAs bytes u) t
