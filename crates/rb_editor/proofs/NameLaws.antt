-- The first characters of bytes.
use Rattle.std.proofs.Common.{◌≡◌, ◌∙◌, ℕ, zero, suc, ◌+◌, ◌-◌, ◌<◌, ◌≤◌, true, false, List, [], ◌∷◌, ◌++◌, length, take, drop, get_or, refl, ap, sym, arith, append_assoc, append-nil}
use Rattle.std.proofs.lemmas.List.{drop_all, drop_more, take_all, take_more}
use Rattle.rb_lsp.specs.Places.{is_within}
use Rattle.rb_editor.specs.Symbols.{first_characters}

within_one : (n b : ℕ) (bytes : List ℕ) → is_within b ≡ true → first_characters n (b ∷ bytes) ≡ b ∷ first_characters n bytes
unfolding first_characters
within_one zero b bytes is = rw is refl
within_one (suc n) b bytes is = rw is refl

begins_one : (n b : ℕ) (bytes : List ℕ) → is_within b ≡ false → 0 < n → first_characters n (b ∷ bytes) ≡ b ∷ first_characters (n - 1) bytes
unfolding first_characters
begins_one zero b bytes is some = absurd (omega (arith, some))
begins_one (suc n) b bytes is some = let less : n ≡ suc n - 1 = omega arith in rw is (ap (λ (m : ℕ). b ∷ first_characters m bytes) less)

begins_none : (n b : ℕ) (bytes : List ℕ) → is_within b ≡ false → n ≡ 0 → first_characters n (b ∷ bytes) ≡ []
unfolding first_characters
begins_none zero b bytes is none = rw is refl
begins_none (suc n) b bytes is none = absurd (omega (arith, none))

no_bytes : (n : ℕ) → first_characters n [] ≡ []
unfolding first_characters
no_bytes zero = refl
no_bytes (suc n) = refl

-- one byte more
kept : (i : ℕ) (bytes rest : List ℕ) → i < length bytes → take (i + 1) bytes ++ rest ≡ take i bytes ++ get_or bytes i 0 ∷ rest
kept i bytes rest within = ap (λ (l : List ℕ). l ++ rest) (take_more bytes i 0 within) ∙ append_assoc (take i bytes) (get_or bytes i 0 ∷ []) rest

pub within_more : (n i : ℕ) (bytes total : List ℕ) → i < length bytes → is_within (get_or bytes i 0) ≡ true → take i bytes ++ first_characters n (drop i bytes) ≡ total
    → take (i + 1) bytes ++ first_characters n (drop (i + 1) bytes) ≡ total
within_more n i bytes total within is so_far =
    kept i bytes (first_characters n (drop (i + 1) bytes)) within
    ∙ ap (λ (l : List ℕ). take i bytes ++ l) (sym (within_one n (get_or bytes i 0) (drop (i + 1) bytes) is) ∙ ap (first_characters n) (sym (drop_more bytes i 0 within)))
    ∙ so_far

pub begins_more : (n i : ℕ) (bytes total : List ℕ) → i < length bytes → is_within (get_or bytes i 0) ≡ false → 0 < n → take i bytes ++ first_characters n (drop i bytes) ≡ total
    → take (i + 1) bytes ++ first_characters (n - 1) (drop (i + 1) bytes) ≡ total
begins_more n i bytes total within is some so_far =
    kept i bytes (first_characters (n - 1) (drop (i + 1) bytes)) within
    ∙ ap (λ (l : List ℕ). take i bytes ++ l) (sym (begins_one n (get_or bytes i 0) (drop (i + 1) bytes) is some) ∙ ap (first_characters n) (sym (drop_more bytes i 0 within)))
    ∙ so_far

pub begins_stop : (n i : ℕ) (bytes total : List ℕ) → i < length bytes → is_within (get_or bytes i 0) ≡ false → n ≡ 0 → take i bytes ++ first_characters n (drop i bytes) ≡ total → take i bytes ≡ total
begins_stop n i bytes total within is none so_far =
    sym (append-nil (take i bytes))
    ∙ ap (λ (l : List ℕ). take i bytes ++ l) (sym (begins_none n (get_or bytes i 0) (drop (i + 1) bytes) is none) ∙ ap (first_characters n) (sym (drop_more bytes i 0 within)))
    ∙ so_far

pub all_bytes : (n i : ℕ) (bytes total : List ℕ) → length bytes ≤ i → take i bytes ++ first_characters n (drop i bytes) ≡ total → bytes ≡ total
all_bytes n i bytes total past so_far =
    sym (append-nil bytes)
    ∙ ap (λ (l : List ℕ). l ++ []) (sym (take_all i bytes past))
    ∙ ap (λ (l : List ℕ). take i bytes ++ l) (sym (no_bytes n) ∙ ap (first_characters n) (sym (drop_all i bytes past)))
    ∙ so_far
