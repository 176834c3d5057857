-- Laws of lists.
use Rattle.std.proofs.Common.{◌≡◌, ℕ, suc, ◌+◌, ◌-◌, ◌≤◌, List, [], ◌∷◌, ◌++◌, length, take, drop, refl, ap, sym, ◌∙◌, arith, append_assoc, zero-add, get_or, ◌<◌}
use Rattle.std.proofs.lemmas.List.{take-append-drop, drop-drop, drop_at, take-take, drop-take, take_rest, take_more, get_or-drop, length-drop}

pub take_past : {X : Type 0} → (xs ys : List X) (r : ℕ) → take (length xs + r) (xs ++ ys) ≡ xs ++ take r ys
take_past {X} [] ys r = ap (λ (n : ℕ). take n ys) (zero-add r)
take_past {X} (x ∷ xs) ys r =
    let e : suc (length xs) + r ≡ suc (length xs + r) = omega arith in
    ap (λ (n : ℕ). take n (x ∷ (xs ++ ys))) e ∙ ap (λ (l : List X). x ∷ l) (take_past xs ys r)

-- dropping beyond a first part
pub drop_across : {X : Type 0} (xs ys : List X) (n : ℕ) → length xs ≤ n → drop n (xs ++ ys) ≡ drop (n - length xs) ys
drop_across {X} xs ys n h =
    let e : n ≡ length xs + (n - length xs) = omega arith in
    ap (λ (m : ℕ). drop m (xs ++ ys)) e ∙ sym (drop-drop (n - length xs) (length xs) (xs ++ ys)) ∙ ap (drop (n - length xs)) (drop_at xs ys (length xs) refl)

take_parts : {X : Type 0} → (es : List X) (d n : ℕ) → take d es ++ take n (drop d es) ≡ take (d + n) es
take_parts {X} es d n =
    ap (λ (l : List X). l ++ take n (drop d es)) (sym (take-take d (d + n) es (omega arith)))
    ∙ ap (λ (l : List X). take d (take (d + n) es) ++ l) (sym (drop-take d n es)) ∙ take-append-drop d (take (d + n) es)

-- copies so far, and some more
pub grown : {X : Type 0} → (old es now new : List X) (d n : ℕ) → now ≡ old ++ take d es → new ≡ now ++ take n (take (length es - d) (drop d es)) → new ≡ old ++ take (d + n) es
grown {X} old es now new d n e f =
    f ∙ ap (λ (l : List X). l ++ take n (take (length es - d) (drop d es))) e
    ∙ ap (λ (l : List X). (old ++ take d es) ++ take n l) (take_rest es d)
    ∙ append_assoc old (take d es) (take n (drop d es)) ∙ ap (λ (l : List X). old ++ l) (take_parts es d n)

-- one more item is copied
pub copied_more : {X : Type 0} (old now new es : List X) (from k : ℕ) (x d : X) → from ≤ k → k < length es → now ≡ old ++ take (k - from) (drop from es) → new ≡ now ++ x ∷ [] → x ≡ get_or es k d → new ≡ old ++ take (k + 1 - from) (drop from es)
copied_more {X} old now new es from k x d low high so_far more is =
    let n : ℕ = k - from in
    let there : x ≡ get_or (drop from es) n d =
    is ∙ ap (λ (i : ℕ). get_or es i d) (omega arith) ∙ sym (get_or-drop from es n d) in
    let next : n + 1 ≡ k + 1 - from = omega arith in
    more ∙ ap (λ (l : List X). l ++ x ∷ []) so_far ∙ append_assoc old (take n (drop from es)) (x ∷ [])
    ∙ ap (λ (l : List X). old ++ l) (ap (λ (y : X). take n (drop from es) ++ y ∷ []) there ∙ sym (take_more (drop from es) n d (omega (arith, length-drop from es))) ∙ ap (λ (m : ℕ). take m (drop from es)) next)
