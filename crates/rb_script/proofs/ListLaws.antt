-- Lists: what stands at a place, and what holds of each item.
use Rattle.std.proofs.Common.{◌≡◌, ℕ, ◌+◌, Bool, true, List, [], ◌∷◌, ◌++◌, take, drop, map, Some, refl, ap, sym, subst, ◌∙◌}
use Rattle.std.specs.Prelude.{slice_get}
use Rattle.std.specs.List.{list_all, AllByRecursion, AllZip}
use Rattle.std.proofs.lemmas.Bool.{and_parts, and_from}
use Rattle.std.proofs.lemmas.List.{take-append-drop, take_more, drop_more}
use Rattle.std.proofs.lemmas.Option.{slice_get_within, get_or_from_slice_get}

-- what stands at a place, and those after it
pub drop_there : {X : Type 0} (xs : List X) (i : ℕ) (x : X) → slice_get xs i ≡ Some x → drop i xs ≡ x ∷ drop (i + 1) xs
drop_there {X} xs i x found = drop_more xs i x (slice_get_within xs i x found) ∙ ap (λ (y : X). y ∷ drop (i + 1) xs) (get_or_from_slice_get xs i x x found)

-- those up to it
pub take_there : {X : Type 0} (xs : List X) (i : ℕ) (x : X) → slice_get xs i ≡ Some x → take (i + 1) xs ≡ take i xs ++ x ∷ []
take_there {X} xs i x found = take_more xs i x (slice_get_within xs i x found) ∙ ap (λ (y : X). take i xs ++ y ∷ []) (get_or_from_slice_get xs i x x found)

-- ---- what holds of each

pub every-append : {X : Type 0} (P : X → Type 0) (a b : List X) → AllByRecursion P a → AllByRecursion P b → AllByRecursion P (a ++ b)
every-append P [] b h k = k
every-append P (x ∷ a) b h k = (h.0, every-append P a b h.1 k)

pub every-parts : {X : Type 0} (P : X → Type 0) (a b : List X) → AllByRecursion P (a ++ b) → AllByRecursion P a × AllByRecursion P b
every-parts P [] b h = (tt, h)
every-parts P (x ∷ a) b h = let p = every-parts P a b h.1 in ((h.0, p.0), p.1)

pub every-take : {X : Type 0} (P : X → Type 0) (i : ℕ) (a : List X) → AllByRecursion P a → AllByRecursion P (take i a)
every-take P i a h = (every-parts P (take i a) (drop i a) (subst (AllByRecursion P) (sym (take-append-drop i a)) h)).0

pub every-drop : {X : Type 0} (P : X → Type 0) (i : ℕ) (a : List X) → AllByRecursion P a → AllByRecursion P (drop i a)
every-drop P i a h = (every-parts P (take i a) (drop i a) (subst (AllByRecursion P) (sym (take-append-drop i a)) h)).1

-- what the test tells of one
pub every_told : {X : Type 0} (test : X → Bool) (P : X → Type 0) → ((x : X) → test x ≡ true → P x) → (xs : List X) → list_all test xs ≡ true → AllByRecursion P xs
every_told test P told [] h = tt
every_told test P told (x ∷ xs) h = let p = and_parts (test x) (list_all test xs) h in (told x p.0, every_told test P told xs p.1)

-- all pass where each does
pub all_pass : {X : Type 0} (test : X → Bool) (P : X → Type 0) → ((x : X) → P x → test x ≡ true) → (xs : List X) → AllByRecursion P xs → list_all test xs ≡ true
all_pass test P passes [] h = refl
all_pass test P passes (x ∷ xs) h = and_from (test x) (list_all test xs) (passes x h.0) (all_pass test P passes xs h.1)

-- where one follows from another
pub every_so : {X : Type 0} (P Q : X → Type 0) → ((x : X) → P x → Q x) → (xs : List X) → AllByRecursion P xs → AllByRecursion Q xs
every_so P Q so [] h = tt
every_so P Q so (x ∷ xs) h = (so x h.0, every_so P Q so xs h.1)

-- what is read of each is the same of another list
pub same_read : {X Y : Type 0} (f : X → Y) (xs ys : List X) → AllZip (λ x y. f y ≡ f x) xs ys → map f ys ≡ map f xs
same_read f [] [] e = refl
same_read f [] (y ∷ ys) e = absurd e
same_read f (x ∷ xs) [] e = absurd e
same_read {X} {Y} f (x ∷ xs) (y ∷ ys) e = ap (λ (z : Y). z ∷ map f ys) e.0 ∙ ap (λ (l : List Y). f x ∷ l) (same_read f xs ys e.1)
