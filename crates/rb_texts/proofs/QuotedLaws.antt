-- Quoted bytes, as they join a line.
use Rattle.std.proofs.Common.{◌≡◌, ℕ, Bool, true, false, List, [], ◌∷◌, ◌++◌, length, refl, ap, sym, ◌∙◌, append-nil}
use Rattle.std.specs.Prelude.{if◌then◌else◌}
use Rattle.std.proofs.lemmas.Bool.{not-true}
use Rattle.std.proofs.lemmas.List.{nil_from_length}
use Rattle.std.proofs.lemmas.List.Concat.{flat_map-append}
use Rattle.std.specs.List.{flat_map}
use Rattle.rb_texts.specs.Quoted.{is_plain, numbered, escaped, begins_numbered, quoted}
use Rattle.rb_texts.proofs.PieceLaws.{added_twice}

-- what joined the line stood for itself at the front of what is left
pub plain_joined : (now after rest front other : List ℕ) → after ≡ now ++ front → rest ≡ front ++ other → flat_map escaped front ≡ front → after ++ flat_map escaped other ≡ now ++ flat_map escaped rest
plain_joined now after rest front other add parts plain =
    added_twice now after (after ++ flat_map escaped other) front (flat_map escaped other) add refl
    ∙ ap (λ (l : List ℕ). now ++ (l ++ flat_map escaped other)) (sym plain)
    ∙ ap (λ (l : List ℕ). now ++ l) (sym (flat_map-append escaped front other) ∙ ap (flat_map escaped) (sym parts))

-- the first byte of what is left joined the line by its number
pub numbered_joined : (now after rest : List ℕ) (b : ℕ) (other : List ℕ) → after ≡ now ++ numbered b → rest ≡ b ∷ other → begins_numbered rest ≡ true → after ++ flat_map escaped other ≡ now ++ flat_map escaped rest
numbered_joined now after rest b other add parts next =
    let odd : is_plain b ≡ false = not-true (is_plain b) (ap begins_numbered (sym parts) ∙ next) in
    let number : escaped b ≡ numbered b = ap (λ (t : Bool). if t then b ∷ [] else numbered b) odd in
    added_twice now after (after ++ flat_map escaped other) (numbered b) (flat_map escaped other) add refl
    ∙ ap (λ (l : List ℕ). now ++ (l ++ flat_map escaped other)) (sym number)
    ∙ ap (λ (l : List ℕ). now ++ flat_map escaped l) (sym parts)

-- the first quote joined the line
pub quote_joined : (before first bytes : List ℕ) → first ≡ before ++ 34 ∷ [] → first ++ flat_map escaped bytes ≡ before ++ 34 ∷ flat_map escaped bytes
quote_joined before first bytes add = added_twice before first (first ++ flat_map escaped bytes) (34 ∷ []) (flat_map escaped bytes) add refl

-- the last quote joined the line when nothing was left
pub all_joined : (before now after rest bytes : List ℕ) → length rest ≡ 0 → now ++ flat_map escaped rest ≡ before ++ 34 ∷ flat_map escaped bytes → after ≡ now ++ 34 ∷ [] → after ≡ before ++ quoted bytes
unfolding quoted
all_joined before now after rest bytes none whole add =
    added_twice before now after (34 ∷ flat_map escaped bytes) (34 ∷ [])
    (sym (ap (λ (l : List ℕ). now ++ flat_map escaped l) (nil_from_length rest none) ∙ append-nil now) ∙ whole) add
