-- What stands for words in a text of XML has no brackets, and reads as them.
use Rattle.std.proofs.Common.{◌≡◌, ℕ, Bool, true, false, List, [], ◌∷◌, codes, refl, ap, inl, inr}
use Rattle.std.specs.Prelude.{not, ◌&&◌, ◌==◌, if◌then◌else◌}
use Rattle.std.specs.List.{flat_map, list_all}
use Rattle.std.proofs.lemmas.Bool.{and_from, eqb-true}
use Rattle.rb_texts.proofs.KindLaws.{flat_of}
use Rattle.rb_view.specs.XmlEscapes.{is_no_bracket, escaped, IsCharacter, ReadsAs}

-- a byte that is no bracket
other : (b : ℕ) → (b == 60) ≡ false → (b == 62) ≡ false → is_no_bracket b ≡ true
other b p q = and_from (not (b == 60)) (not (b == 62)) (ap not p) (ap not q)

-- ---- no brackets

byte_by : (a c d : Bool) (b : ℕ) → (b == 60) ≡ c → (b == 62) ≡ d
    → list_all is_no_bracket (if a then codes "&amp;" else (if c then codes "&lt;" else (if d then codes "&gt;" else b ∷ []))) ≡ true
byte_by true c d b p q = refl
byte_by false true d b p q = refl
byte_by false false true b p q = refl
byte_by false false false b p q = and_from (is_no_bracket b) true (other b p q) refl

pub no_brackets : (words : List ℕ) → list_all is_no_bracket (flat_map escaped words) ≡ true
no_brackets words = flat_of is_no_bracket escaped (λ b. byte_by (b == 38) (b == 60) (b == 62) b refl refl) words

-- ---- reading

character_by : (a c d : Bool) (b : ℕ) → (b == 38) ≡ a → (b == 60) ≡ c → (b == 62) ≡ d
    → IsCharacter b (if a then codes "&amp;" else (if c then codes "&lt;" else (if d then codes "&gt;" else b ∷ [])))
character_by true c d b p q r = inl (inl (eqb-true b 38 p, refl))
character_by false true d b p q r = inl (inr (eqb-true b 60 q, refl))
character_by false false true b p q r = inr (inl (eqb-true b 62 r, refl))
character_by false false false b p q r = inr (inr (and_from (not (b == 38)) (is_no_bracket b) (ap not p) (other b q r), refl))

pub read_back : (words : List ℕ) → ReadsAs words (flat_map escaped words)
read_back [] = refl
read_back (b ∷ words) = record {
  front = escaped b;
  back = flat_map escaped words;
  parts = refl;
  first = character_by (b == 38) (b == 60) (b == 62) b refl refl refl;
  rest = read_back words;
}
