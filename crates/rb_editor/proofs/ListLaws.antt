-- Texts in a list, one after another.
use Rattle.std.proofs.Common.{◌≡◌, ◌∙◌, ℕ, ◌+◌, ◌<◌, ◌≤◌, List, ◌∷◌, ◌++◌, length, drop, get_or, ap, sym, append_assoc}
use Rattle.std.specs.Prelude.{codes}
use Rattle.std.proofs.lemmas.List.{drop_all, drop_more, get_or_default}
use Rattle.rb_editor.specs.Texts.{listed}

-- the first of some, and the others
first_listed : {X : Type 0} (text : X → List ℕ) (lead : List ℕ) (xs : List X) (i : ℕ) (x : X) → i < length xs → x ≡ get_or xs i x
    → listed text lead (drop i xs) ≡ lead ++ (text x ++ listed text (codes ",") (drop (i + 1) xs))
unfolding listed
first_listed text lead xs i x within is =
    ap (listed text lead) (drop_more xs i x within) ∙ ap (λ (y : _). listed text lead (y ∷ drop (i + 1) xs)) (sym is)

-- one more went out
pub one_more : {X : Type 0} (text : X → List ℕ) (lead out : List ℕ) (xs : List X) (i : ℕ) (x : X) → i < length xs → x ≡ get_or xs i x
    → ((out ++ lead) ++ text x) ++ listed text (codes ",") (drop (i + 1) xs) ≡ out ++ listed text lead (drop i xs)
one_more text lead out xs i x within is =
    let rest = listed text (codes ",") (drop (i + 1) xs) in
    append_assoc (out ++ lead) (text x) rest
    ∙ append_assoc out lead (text x ++ rest)
    ∙ ap (λ (l : List ℕ). out ++ l) (sym (first_listed text lead xs i x within is))

-- the same of one that is read by its place
pub one_more_read : {X : Type 0} (text : X → List ℕ) (lead out : List ℕ) (xs : List X) (i : ℕ) (d : X) → i < length xs
    → ((out ++ lead) ++ text (get_or xs i d)) ++ listed text (codes ",") (drop (i + 1) xs) ≡ out ++ listed text lead (drop i xs)
one_more_read text lead out xs i d within = one_more text lead out xs i (get_or xs i d) within (get_or_default xs i d (get_or xs i d) within)

-- there are no more
pub no_more : {X : Type 0} (text : X → List ℕ) (lead : List ℕ) (xs : List X) (i : ℕ) → length xs ≤ i → listed text lead (drop i xs) ≡ codes "]"
unfolding listed
no_more text lead xs i past = ap (listed text lead) (drop_all i xs past)
