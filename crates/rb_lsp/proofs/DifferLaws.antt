-- What is the same at the beginnings and at the ends of two texts, and the places around what differs.
use Rattle.std.proofs.Common.{◌≡◌, ℕ, zero, suc, ◌+◌, ◌-◌, ◌<◌, ◌≤◌, ◌==◌, true, false, List, [], ◌∷◌, ◌++◌, length, take, drop, reverse, get_or, refl, sym, ap, ◌∙◌, arith, length-drop, min, eq-eqb, inl, inr}
use Rattle.std.proofs.lemmas.List.{length-reverse, take-append-drop, take_at, drop-drop, drop_all, drop_more, get_or-reverse, get_or-drop, reverse-append, reverse-reverse}
use Rattle.std.proofs.lemmas.Bool.{cases_lt, ne_eqb}
use Rattle.rb_lsp.specs.declared.document.position.Encoding.{Encoding}
use Rattle.rb_lsp.specs.Places.{begins, is_place}
use Rattle.rb_lsp.specs.Changes.{changed}
use Rattle.rb_lsp.specs.Edits.{common, common_end, place_before, place_among, place_behind, front_of, stop_of, range_between, new_between}
use Rattle.rb_lsp.proofs.PlaceLaws.{test_cases}
use Rattle.rb_lsp.proofs.EditLaws.{Differ, edit_made, first_place, last_place}

-- ---- the beginnings

one_same : (a b : ℕ) (old new : List ℕ) → (a == b) ≡ true → common (a ∷ old) (b ∷ new) ≡ suc (common old new)
unfolding common
one_same a b old new same = rw same refl

none_same : (a b : ℕ) (old new : List ℕ) → (a == b) ≡ false → common (a ∷ old) (b ∷ new) ≡ 0
unfolding common
none_same a b old new other = rw other refl

pub common_within : (old new : List ℕ) → (common old new ≤ length old) × (common old new ≤ length new)
unfolding common
common_within [] new = (omega arith, omega arith)
common_within (a ∷ old) [] = (omega arith, omega arith)
common_within (a ∷ old) (b ∷ new) =
    let rest = common_within old new in
    test_cases (a == b)
    (λ same. rw same (omega (arith, rest.0), omega (arith, rest.1)))
    (λ other. rw other (omega arith, omega arith))

pub common_front : (old new : List ℕ) → take (common old new) old ≡ take (common old new) new
unfolding common
common_front [] new = refl
common_front (a ∷ old) [] = refl
common_front (a ∷ old) (b ∷ new) =
    test_cases (a == b)
    (λ same. let is : a ≡ b = grind (arith, same) in rw same (ap (λ (x : ℕ). x ∷ take (common old new) old) is ∙ ap (λ (l : List ℕ). b ∷ l) (common_front old new)))
    (λ other. rw other refl)

-- ---- a loop over them

pub common_more : (old new : List ℕ) (i : ℕ) → i < length old → i < length new → get_or old i 0 ≡ get_or new i 0 → common (drop i old) (drop i new) ≡ suc (common (drop (i + 1) old) (drop (i + 1) new))
common_more old new i in_old in_new same =
    ap (λ (l : List ℕ). common l (drop i new)) (drop_more old i 0 in_old)
    ∙ ap (λ (l : List ℕ). common (get_or old i 0 ∷ drop (i + 1) old) l) (drop_more new i 0 in_new)
    ∙ one_same (get_or old i 0) (get_or new i 0) (drop (i + 1) old) (drop (i + 1) new) (eq-eqb (get_or old i 0) (get_or new i 0) same)

pub common_stop : (old new : List ℕ) (i : ℕ) → i < length old → i < length new → (get_or old i 0 ≡ get_or new i 0 → ⊥) → common (drop i old) (drop i new) ≡ 0
common_stop old new i in_old in_new other =
    ap (λ (l : List ℕ). common l (drop i new)) (drop_more old i 0 in_old)
    ∙ ap (λ (l : List ℕ). common (get_or old i 0 ∷ drop (i + 1) old) l) (drop_more new i 0 in_new)
    ∙ none_same (get_or old i 0) (get_or new i 0) (drop (i + 1) old) (drop (i + 1) new) (ne_eqb (get_or old i 0) (get_or new i 0) other)

no_old : (new : List ℕ) → common [] new ≡ 0
unfolding common
no_old new = refl

no_new : (old : List ℕ) → common old [] ≡ 0
unfolding common
no_new [] = refl
no_new (a ∷ old) = refl

pub common_all : (old new : List ℕ) (i : ℕ) → min (length old) (length new) ≤ i → common (drop i old) (drop i new) ≡ 0
common_all old new i past =
    elim (cases_lt i (length old)) [
      | inl more ↦ ap (λ (l : List ℕ). common (drop i old) l) (drop_all i new (omega (arith, past, more))) ∙ no_new (drop i old)
      | inr all ↦ ap (λ (l : List ℕ). common l (drop i new)) (drop_all i old all) ∙ no_old (drop i new)
    ]

-- a byte by its place from the end
pub end_read : (xs : List ℕ) (front i : ℕ) → front + i < length xs → get_or (reverse (drop front xs)) i 0 ≡ get_or xs (length xs - 1 - i) 0
end_read xs front i within =
    let short : i < length (drop front xs) = omega (arith, length-drop front xs) in
    get_or-reverse (drop front xs) i 0 short
    ∙ get_or-drop front xs (length (drop front xs) - 1 - i) 0
    ∙ ap (λ (k : ℕ). get_or xs k 0) (omega (arith, length-drop front xs))

-- the bytes before the ends, from the end on
abbrev back : ℕ → List ℕ → List ℕ
back front xs = reverse (drop front xs)

back_len : (front : ℕ) (xs : List ℕ) → length (back front xs) ≡ length xs - front
back_len front xs = length-reverse (drop front xs) ∙ length-drop front xs

pub end_more : (old new : List ℕ) (front i : ℕ) → front + i < length old → front + i < length new → get_or old (length old - 1 - i) 0 ≡ get_or new (length new - 1 - i) 0
    → common (drop i (reverse (drop front old))) (drop i (reverse (drop front new))) ≡ suc (common (drop (i + 1) (reverse (drop front old))) (drop (i + 1) (reverse (drop front new))))
end_more old new front i in_old in_new same =
    common_more (back front old) (back front new) i (omega (arith, back_len front old, in_old)) (omega (arith, back_len front new, in_new))
    (end_read old front i in_old ∙ same ∙ sym (end_read new front i in_new))

pub end_stop : (old new : List ℕ) (front i : ℕ) → front + i < length old → front + i < length new → (get_or old (length old - 1 - i) 0 ≡ get_or new (length new - 1 - i) 0 → ⊥)
    → common (drop i (reverse (drop front old))) (drop i (reverse (drop front new))) ≡ 0
end_stop old new front i in_old in_new other =
    common_stop (back front old) (back front new) i (omega (arith, back_len front old, in_old)) (omega (arith, back_len front new, in_new))
    (λ same. other (sym (end_read old front i in_old) ∙ same ∙ end_read new front i in_new))

pub end_all : (old new : List ℕ) (front i : ℕ) → min (length old - front) (length new - front) ≤ i → common (drop i (reverse (drop front old))) (drop i (reverse (drop front new))) ≡ 0
end_all old new front i past = common_all (back front old) (back front new) i (omega (arith, back_len front old, back_len front new, past))

-- ---- the ends

last_bytes : (k : ℕ) (xs : List ℕ) → k ≤ length xs → reverse (take k (reverse xs)) ≡ drop (length xs - k) xs
last_bytes k xs within =
    let j = length xs - k in
    let parts : reverse xs ≡ reverse (drop j xs) ++ reverse (take j xs) = ap reverse (sym (take-append-drop j xs)) ∙ reverse-append (take j xs) (drop j xs) in
    let count : length (reverse (drop j xs)) ≡ k = omega (arith, length-reverse (drop j xs), length-drop j xs) in
    ap (λ (l : List ℕ). reverse (take k l)) parts
    ∙ ap reverse (take_at (reverse (drop j xs)) (reverse (take j xs)) k count)
    ∙ reverse-reverse (drop j xs)

same_ends : (xs ys : List ℕ) → drop (length xs - common (reverse xs) (reverse ys)) xs ≡ drop (length ys - common (reverse xs) (reverse ys)) ys
same_ends xs ys =
    let k = common (reverse xs) (reverse ys) in
    let within = common_within (reverse xs) (reverse ys) in
    let in_xs : k ≤ length xs = omega (arith, within.0, length-reverse xs) in
    let in_ys : k ≤ length ys = omega (arith, within.1, length-reverse ys) in
    sym (last_bytes k xs in_xs) ∙ ap reverse (common_front (reverse xs) (reverse ys)) ∙ last_bytes k ys in_ys

pub end_within : (front : ℕ) (old new : List ℕ) → front ≤ length old → front ≤ length new → (front + common_end front old new ≤ length old) × (front + common_end front old new ≤ length new)
end_within front old new in_old in_new =
    let within = common_within (reverse (drop front old)) (reverse (drop front new)) in
    (omega (arith, within.0, length-reverse (drop front old), length-drop front old), omega (arith, within.1, length-reverse (drop front new), length-drop front new))

whole_end : (front k : ℕ) (xs : List ℕ) → front + k ≤ length xs → drop (length (drop front xs) - k) (drop front xs) ≡ drop (length xs - k) xs
whole_end front k xs within = drop-drop (length (drop front xs) - k) front xs ∙ ap (λ (n : ℕ). drop n xs) (omega (arith, length-drop front xs))

end_same : (front : ℕ) (old new : List ℕ) → front ≤ length old → front ≤ length new → drop (length old - common_end front old new) old ≡ drop (length new - common_end front old new) new
end_same front old new in_old in_new =
    let within = end_within front old new in_old in_new in
    sym (whole_end front (common_end front old new) old within.0) ∙ same_ends (drop front old) (drop front new) ∙ whole_end front (common_end front old new) new within.1

-- ---- the places

pub before_here : (k : ℕ) (text : List ℕ) → is_place k text ≡ true → place_before k text ≡ k
unfolding place_before
before_here zero text is = refl
before_here (suc k) text is = rw is refl

pub before_less : (k : ℕ) (text : List ℕ) → 0 < k → is_place k text ≡ false → place_before k text ≡ place_before (k - 1) text
unfolding place_before
before_less zero text some none = absurd (omega arith)
before_less (suc k) text some none = rw none (ap (λ (n : ℕ). place_before n text) (omega arith))

pub before_none : (k : ℕ) (text : List ℕ) → k ≡ 0 → place_before k text ≡ k
unfolding place_before
before_none zero text is = refl
before_none (suc k) text is = absurd (omega arith)

before_within : (k : ℕ) (text : List ℕ) → place_before k text ≤ k
unfolding place_before
before_within zero text = omega arith
before_within (suc k) text =
    let less = before_within k text in
    test_cases (is_place (suc k) text)
    (λ is. let here : place_before (suc k) text ≡ suc k = before_here (suc k) text is in omega (arith, here))
    (λ none. let there : place_before (suc k) text ≡ place_before k text = rw none refl in omega (arith, there, less))

before_place : (k : ℕ) (text : List ℕ) → begins text ≡ true → is_place (place_before k text) text ≡ true
unfolding place_before
before_place zero text begin = first_place text begin
before_place (suc k) text begin =
    test_cases (is_place (suc k) text)
    (λ is. ap (λ (n : ℕ). is_place n text) (before_here (suc k) text is) ∙ is)
    (λ none. let there : place_before (suc k) text ≡ place_before k text = rw none refl in ap (λ (n : ℕ). is_place n text) there ∙ before_place k text begin)

among_here : (n at : ℕ) (text : List ℕ) → is_place at text ≡ true → place_among n at text ≡ at
unfolding place_among
among_here zero at text is = refl
among_here (suc n) at text is = rw is refl

among_more : (n at : ℕ) (text : List ℕ) → is_place at text ≡ false → place_among (suc n) at text ≡ place_among n (at + 1) text
unfolding place_among
among_more n at text none = rw none refl

pub behind_here : (at : ℕ) (text : List ℕ) → is_place at text ≡ true → place_behind at text ≡ at
behind_here at text is = among_here (length text - at) at text is

pub behind_more : (at : ℕ) (text : List ℕ) → at < length text → is_place at text ≡ false → place_behind at text ≡ place_behind (at + 1) text
behind_more at text within none =
    ap (λ (n : ℕ). place_among n at text) (omega arith) ∙ among_more (length text - (at + 1)) at text none

pub behind_all : (at : ℕ) (text : List ℕ) → length text ≤ at → place_behind at text ≡ at
unfolding place_among
behind_all at text past = let no_more : length text - at ≡ 0 = omega (arith, past) in ap (λ (n : ℕ). place_among n at text) no_more

among_within : (n at : ℕ) (text : List ℕ) → (at ≤ place_among n at text) × (place_among n at text ≤ at + n)
unfolding place_among
among_within zero at text = (omega arith, omega arith)
among_within (suc n) at text =
    let rest = among_within n (at + 1) text in
    test_cases (is_place at text)
    (λ is. let here = among_here (suc n) at text is in (omega (arith, here), omega (arith, here)))
    (λ none. let there = among_more n at text none in (omega (arith, there, rest.0), omega (arith, there, rest.1)))

among_place : (n at : ℕ) (text : List ℕ) → at + n ≡ length text → is_place (place_among n at text) text ≡ true
unfolding place_among
among_place zero at text is = last_place at text (omega (arith, is))
among_place (suc n) at text is =
    test_cases (is_place at text)
    (λ here. ap (λ (k : ℕ). is_place k text) (among_here (suc n) at text here) ∙ here)
    (λ none. ap (λ (k : ℕ). is_place k text) (among_more n at text none) ∙ among_place n (at + 1) text (omega (arith, is)))

-- ---- the edit

differs : (old new : List ℕ) → Differ old new (common old new) (common_end (front_of old new) old new) (front_of old new) (stop_of old new)
differs old new =
    let within = common_within old new in
    let before = before_within (common old new) old in
    let in_old : front_of old new ≤ length old = omega (arith, within.0, before) in
    let in_new : front_of old new ≤ length new = omega (arith, within.1, before) in
    let ends = end_within (front_of old new) old new in_old in_new in
    let from = length old - common_end (front_of old new) old new in
    let stop = among_within (length old - from) from old in
    record {
      begin = common_front old new;
      end = end_same (front_of old new) old new in_old in_new;
      back_old = ends.0;
      back_new = ends.1;
      front_same = before;
      from = stop.0;
      to = omega (arith, stop.1, ends.0);
    }

pub edits_make : (encoding : Encoding) (old new : List ℕ) → begins old ≡ true → changed encoding (range_between encoding old new) (new_between old new) old ≡ new
edits_make encoding old new begin =
    let differ = differs old new in
    let from = length old - common_end (front_of old new) old new in
    edit_made encoding old new (common old new) (common_end (front_of old new) old new) (front_of old new) (stop_of old new) _ _ differ
    (before_place (common old new) old begin) (among_place (length old - from) from old (omega arith)) refl refl
