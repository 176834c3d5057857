-- Which message among those in flight is met next, or is the last that is alike; and what is left without it.
use Rattle.std.proofs.Common.{◌≡◌, ◌∙◌, ℕ, suc, ◌+◌, ◌-◌, ◌==◌, Bool, true, false, if◌then◌else◌, List, [], ◌∷◌, ◌++◌, length, length-append, Option, Some, None, refl, ap, sym, subst, append_assoc, add-one, arith}
use Rattle.std.specs.Prelude.{option_map, slice_get}
use Rattle.std.specs.List.{remove}
use Rattle.std.specs.Option.{option_or, unwrap_or}
use Rattle.rb_message.specs.declared.message.Message.{Message}
use Rattle.rb_view.specs.InFlight.{is_alike, last_alike, met_from}
use Rattle.rb_view.proofs.AlikeMessages.{alike_same, alike_self}

-- ---- the message that is met

-- the message is met at a position, and without it these are left
pub record Found (meant : Message → Bool) (skip : ℕ) (m : Message) (ms left : List Message) : Type 0 where
  pub at : ℕ
  pub is : met_from meant skip 0 ms ≡ Some at
  pub got : slice_get ms at ≡ Some m
  pub removed : remove ms at ≡ left

-- after these messages so many are still skipped
abbrev pub Passed : (Message → Bool) → ℕ → List Message → ℕ → Type 0
Passed meant skip before left = (ms : List Message) → met_from meant skip 0 (before ++ ms) ≡ met_from meant left (length before) ms

passed_by : (meant : Message → Bool) (skip : ℕ) (before : List Message) (m : Message) (left next : ℕ) → Passed meant skip before left
    → ((ms : List Message) → met_from meant left (length before) (m ∷ ms) ≡ met_from meant next (length before + 1) ms) → Passed meant skip (before ++ m ∷ []) next
passed_by meant skip before m left next passed goes ms =
    let longer : length before + 1 ≡ length (before ++ m ∷ []) = (let is = length-append before (m ∷ []) in omega (arith, is)) in
    ap (met_from meant skip 0) (append_assoc before (m ∷ []) ms) ∙ passed (m ∷ ms) ∙ goes ms ∙ ap (λ (n : ℕ). met_from meant next n ms) longer

-- one that isn't meant
pub passed_other : (meant : Message → Bool) (skip : ℕ) (before : List Message) (m : Message) (left : ℕ) → meant m ≡ false → Passed meant skip before left
    → Passed meant skip (before ++ m ∷ []) left
passed_other meant skip before m left is passed =
    passed_by meant skip before m left left passed
    (λ ms. ap (λ (b : Bool). if b then (if left == 0 then Some (length before) else met_from meant (left - 1) (length before + 1) ms) else met_from meant left (length before + 1) ms) is)

-- one that is skipped
pub passed_skipped : (meant : Message → Bool) (skip : ℕ) (before : List Message) (m : Message) (left : ℕ) → meant m ≡ true → (left == 0) ≡ false → Passed meant skip before left
    → Passed meant skip (before ++ m ∷ []) (left - 1)
passed_skipped meant skip before m left is some passed =
    passed_by meant skip before m left (left - 1) passed
    (λ ms. ap (λ (b : Bool). if b then (if left == 0 then Some (length before) else met_from meant (left - 1) (length before + 1) ms) else met_from meant left (length before + 1) ms) is
    ∙ ap (λ (b : Bool). if b then Some (length before) else met_from meant (left - 1) (length before + 1) ms) some)

get_after : (m : Message) (before after : List Message) → slice_get (before ++ m ∷ after) (length before) ≡ Some m
get_after m [] after = refl
get_after m (x ∷ before) after = get_after m before after

removed_after : (m : Message) (before after : List Message) → remove (before ++ m ∷ after) (length before) ≡ before ++ after
removed_after m [] after = refl
removed_after m (x ∷ before) after = ap (λ (l : List Message). x ∷ l) (removed_after m before after)

-- the next one that is meant, if none is skipped any more
pub found : (meant : Message → Bool) (skip : ℕ) (m : Message) (before after : List Message) (left : ℕ) → meant m ≡ true → (left == 0) ≡ true → Passed meant skip before left
    → Found meant skip m (before ++ m ∷ after) (before ++ after)
found meant skip m before after left is none passed = record {
  at = length before;
  is = passed (m ∷ after)
      ∙ ap (λ (b : Bool). if b then (if left == 0 then Some (length before) else met_from meant (left - 1) (length before + 1) after) else met_from meant left (length before + 1) after) is
      ∙ ap (λ (b : Bool). if b then Some (length before) else met_from meant (left - 1) (length before + 1) after) none;
  got = get_after m before after;
  removed = removed_after m before after;
}

-- ---- the last

last_shift_by : (n : ℕ) (b : Bool) (p : Option ℕ) → option_or (option_map suc p) (if b then Some (n + 1) else None) ≡ option_map suc (option_or p (if b then Some n else None))
last_shift_by n b (Some k) = refl
last_shift_by n true None = ap Some (add-one n)
last_shift_by n false None = refl

last_shift : (m : Message) (n : ℕ) (ms : List Message) → last_alike m (n + 1) ms ≡ option_map suc (last_alike m n ms)
last_shift m n [] = refl
last_shift m n (x ∷ xs) =
    ap (λ (o : Option ℕ). option_or o (if is_alike m x then Some (n + 1) else None)) (last_shift m (n + 1) xs)
    ∙ last_shift_by n (is_alike m x) (last_alike m (n + 1) xs)

-- the last of these, where there is one in what follows the first
last_later : (m x : Message) (xs : List Message) (k : ℕ) → last_alike m 0 xs ≡ Some k → last_alike m 0 (x ∷ xs) ≡ Some (suc k)
last_later m x xs k is =
    ap (λ (o : Option ℕ). option_or o (if is_alike m x then Some 0 else None)) (last_shift m 0 xs ∙ ap (option_map suc) is)

last_first : (m x : Message) (xs : List Message) → last_alike m 0 xs ≡ None → last_alike m 0 (x ∷ xs) ≡ (if is_alike m x then Some 0 else None)
last_first m x xs is =
    ap (λ (o : Option ℕ). option_or o (if is_alike m x then Some 0 else None)) (last_shift m 0 xs ∙ ap (option_map suc) is)

-- the last among messages after others
pub record LastAmong (m : Message) (before ms : List Message) (k : ℕ) : Type 0 where
  pub at : ℕ
  pub is : last_alike m 0 (before ++ ms) ≡ Some at
  pub removed : remove (before ++ ms) at ≡ before ++ remove ms k

pub last_among : (m : Message) (before ms : List Message) (k : ℕ) → last_alike m 0 ms ≡ Some k → LastAmong m before ms k
last_among m [] ms k is = record { at = k; is = is; removed = refl }
last_among m (x ∷ before) ms k is =
    let rest = last_among m before ms k is in
    record { at = suc rest.at; is = last_later m x (before ++ ms) rest.at rest.is; removed = ap (λ (l : List Message). x ∷ l) rest.removed }

-- ---- how many are alike

abbrev pub weight : Bool → ℕ
weight true = 1
weight false = 0

abbrev pub count : Message → List Message → ℕ
count m [] = 0
count m (x ∷ xs) = weight (is_alike m x) + count m xs

some_none : {X : Type 0} (x : X) → None ≡ Some x → ⊥
some_none x e = cc

none_by : (m x : Message) (xs : List Message) (o : Option ℕ) (b : Bool) → last_alike m 0 xs ≡ o → is_alike m x ≡ b
    → (last_alike m 0 xs ≡ None → count m xs ≡ 0) → last_alike m 0 (x ∷ xs) ≡ None → weight (is_alike m x) + count m xs ≡ 0
none_by m x xs (Some k) b one alike rest is = absurd (some_none (suc k) (sym is ∙ last_later m x xs k one))
none_by m x xs None true one alike rest is =
    absurd (some_none 0 (sym is ∙ last_first m x xs one ∙ ap (λ (b : Bool). if b then Some 0 else None) alike))
none_by m x xs None false one alike rest is =
    let here : weight (is_alike m x) ≡ 0 = ap weight alike in let others = rest one in omega (arith, here, others)

-- where none is found, none is alike
none_counted : (m : Message) (ms : List Message) → last_alike m 0 ms ≡ None → count m ms ≡ 0
none_counted m [] is = refl
none_counted m (x ∷ xs) is = none_by m x xs (last_alike m 0 xs) (is_alike m x) refl refl (none_counted m xs) is

-- what a number of messages is without the last that is alike
abbrev Counted : Message → Message → List Message → ℕ → Type 0
Counted m z ms k = count z ms ≡ weight (is_alike z m) + count z (remove ms k)

number_of : (n k : ℕ) → Some n ≡ Some k → n ≡ k
number_of n k e = ap (λ (o : Option ℕ). unwrap_or o 0) e

counted_by : (m z x : Message) (xs : List Message) (k : ℕ) (o : Option ℕ) (b : Bool) → last_alike m 0 xs ≡ o → is_alike m x ≡ b
    → ((j : ℕ) → last_alike m 0 xs ≡ Some j → Counted m z xs j) → last_alike m 0 (x ∷ xs) ≡ Some k → Counted m z (x ∷ xs) k
counted_by m z x xs k (Some j) b one alike rest is =
    let less = rest j one in
    subst (Counted m z (x ∷ xs)) (number_of (suc j) k (sym (last_later m x xs j one) ∙ is)) (omega (arith, less))
counted_by m z x xs k None true one alike rest is =
    let here : Some 0 ≡ Some k = sym (last_first m x xs one ∙ ap (λ (b : Bool). if b then Some 0 else None) alike) ∙ is in
    subst (Counted m z (x ∷ xs)) (number_of 0 k here) (ap (λ (b : Bool). weight b + count z xs) (alike_same z m x alike))
counted_by m z x xs k None false one alike rest is =
    absurd (some_none k (sym (last_first m x xs one ∙ ap (λ (b : Bool). if b then Some 0 else None) alike) ∙ is))

last_counted : (m z : Message) (ms : List Message) (k : ℕ) → last_alike m 0 ms ≡ Some k → Counted m z ms k
last_counted m z [] k is = absurd (some_none k is)
last_counted m z (x ∷ xs) k is = counted_by m z x xs k (last_alike m 0 xs) (is_alike m x) refl refl (λ j one. last_counted m z xs j one) is

-- ---- the last that is alike, among messages after others, and what is left without it
pub record Stripped (m : Message) (before ms : List Message) : Type 0 where
  pub at : ℕ
  pub left : List Message
  pub is : last_alike m 0 (before ++ ms) ≡ Some at
  pub removed : remove (before ++ ms) at ≡ before ++ left
  pub counted : (z : Message) → count z ms ≡ weight (is_alike z m) + count z left

stripped_by : (m : Message) (before ms : List Message) (n : ℕ) (o : Option ℕ) → last_alike m 0 ms ≡ o → count m ms ≡ suc n → Stripped m before ms
stripped_by m before ms n None is some = let none = none_counted m ms is in let no : ⊥ = omega (arith, none, some) in absurd no
stripped_by m before ms n (Some k) is some =
    let last = last_among m before ms k is in
    record { at = last.at; left = remove ms k; is = last.is; removed = last.removed; counted = λ z. last_counted m z ms k is }

pub stripped : (m : Message) (before ms : List Message) (n : ℕ) → count m ms ≡ suc n → Stripped m before ms
stripped m before ms n some = stripped_by m before ms n (last_alike m 0 ms) refl some

-- a message counts itself
pub count_self : (m : Message) (ms : List Message) → count m (m ∷ ms) ≡ suc (count m ms)
count_self m ms = ap (λ (b : Bool). weight b + count m ms) (alike_self m) ∙ omega arith

-- where none counts, there is none
pub none_left : (ms : List Message) → ((z : Message) → count z ms ≡ 0) → ms ≡ []
none_left [] none = refl
none_left (x ∷ xs) none = let self = count_self x xs in let is = none x in let no : ⊥ = omega (arith, self, is) in absurd no
