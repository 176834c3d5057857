-- Which messages are chosen, one message after another.
use Rattle.std.proofs.Common.{◌≡◌, ℕ, zero, suc, ◌-◌, take, arith, cond, Option, Some, None, drop, Bool, true, false, List, [], ◌∷◌, ◌++◌, refl, ap, sym, ◌∙◌, append-nil}
use Rattle.std.specs.Prelude.{if◌then◌else◌, ◌&&◌, ◌==◌, not}
use Rattle.rb_message.specs.declared.message.Message.{Message}
use Rattle.std.specs.List.{filter, list_all}
use Rattle.std.specs.Option.{option_map, is_none}
use Rattle.std.proofs.lemmas.Bool.{false≢true, and_parts, eqb-true}
use Rattle.rb_machine.specs.Pending.{Quota, is_spent, chooses, after_one, chosen_by, left_over}
use Rattle.rb_cluster.specs.Directives.{first_few}

-- what is left of a quota after a message, and after some
abbrev pub quota_next : (Message → Bool) → Quota → Message → Quota
quota_next meant q m = if meant m then after_one q else q

abbrev pub quota_after : (Message → Bool) → Quota → List Message → Quota
quota_after meant q [] = q
quota_after meant q (m ∷ ms) = quota_after meant (quota_next meant q m) ms

pub quota_more : (meant : Message → Bool) (q : Quota) (ms : List Message) (m : Message) → quota_after meant q (ms ++ m ∷ []) ≡ quota_next meant (quota_after meant q ms) m
quota_more meant q [] m = refl
quota_more meant q (x ∷ ms) m = quota_more meant (quota_next meant q x) ms m

-- the quota chooses a message
abbrev pub is_chosen : (Message → Bool) → Quota → Message → Bool
is_chosen meant q m = meant m && chooses q

-- one message at a time
chosen_first : (meant : Message → Bool) (q : Quota) (m : Message) (ms : List Message)
    → chosen_by meant q (m ∷ ms) ≡ (if is_chosen meant q m then m ∷ chosen_by meant (quota_next meant q m) ms else chosen_by meant (quota_next meant q m) ms)
chosen_first meant q m ms =
    elim (meant m) as (λ b.
    (if b then (if chooses q then m ∷ chosen_by meant (after_one q) ms else chosen_by meant (after_one q) ms) else chosen_by meant q ms)
    ≡ (if b && chooses q then m ∷ chosen_by meant (if b then after_one q else q) ms else chosen_by meant (if b then after_one q else q) ms)) [ true ↦ refl | false ↦ refl ]

left_first : (meant : Message → Bool) (q : Quota) (m : Message) (ms : List Message)
    → left_over meant q (m ∷ ms) ≡ (if is_chosen meant q m then left_over meant (quota_next meant q m) ms else m ∷ left_over meant (quota_next meant q m) ms)
left_first meant q m ms =
    elim (meant m) as (λ b.
    (if b then (if chooses q then left_over meant (after_one q) ms else m ∷ left_over meant (after_one q) ms) else m ∷ left_over meant q ms)
    ≡ (if b && chooses q then left_over meant (if b then after_one q else q) ms else m ∷ left_over meant (if b then after_one q else q) ms)) [ true ↦ refl | false ↦ refl ]

-- one message more at the end: it is chosen or not
put : (b : Bool) (x : Message) (l more : List Message) → (if b then x ∷ (l ++ more) else l ++ more) ≡ (if b then x ∷ l else l) ++ more
put true x l more = refl
put false x l more = refl

put_other : (b : Bool) (x : Message) (l more : List Message) → (if b then l ++ more else x ∷ (l ++ more)) ≡ (if b then l else x ∷ l) ++ more
put_other true x l more = refl
put_other false x l more = refl

chosen_more : (meant : Message → Bool) (q : Quota) (ms : List Message) (m : Message)
    → chosen_by meant q (ms ++ m ∷ []) ≡ chosen_by meant q ms ++ (if is_chosen meant (quota_after meant q ms) m then m ∷ [] else [])
chosen_more meant q [] m = chosen_first meant q m []
chosen_more meant q (x ∷ ms) m =
    let next : Quota = quota_next meant q x in
    let here : Bool = is_chosen meant q x in
    let last : List Message = if is_chosen meant (quota_after meant next ms) m then m ∷ [] else [] in
    chosen_first meant q x (ms ++ m ∷ [])
    ∙ ap (λ (l : List Message). if here then x ∷ l else l) (chosen_more meant next ms m)
    ∙ put here x (chosen_by meant next ms) last
    ∙ ap (λ (l : List Message). l ++ last) (sym (chosen_first meant q x ms))

left_more : (meant : Message → Bool) (q : Quota) (ms : List Message) (m : Message)
    → left_over meant q (ms ++ m ∷ []) ≡ left_over meant q ms ++ (if is_chosen meant (quota_after meant q ms) m then [] else m ∷ [])
left_more meant q [] m = left_first meant q m []
left_more meant q (x ∷ ms) m =
    let next : Quota = quota_next meant q x in
    let here : Bool = is_chosen meant q x in
    let last : List Message = if is_chosen meant (quota_after meant next ms) m then [] else m ∷ [] in
    left_first meant q x (ms ++ m ∷ [])
    ∙ ap (λ (l : List Message). if here then l else x ∷ l) (left_more meant next ms m)
    ∙ put_other here x (left_over meant next ms) last
    ∙ ap (λ (l : List Message). l ++ last) (sym (left_first meant q x ms))

-- what is left of a quota after one more
pub quota_steps : (meant : Message → Bool) (q now next : Quota) (ms : List Message) (m : Message) (is_meant : Bool) → now ≡ quota_after meant q ms → is_meant ≡ meant m
    → next ≡ (if is_meant then after_one now else now) → next ≡ quota_after meant q (ms ++ m ∷ [])
quota_steps meant q now next ms m is_meant is same left =
    left ∙ ap (λ (b : Bool). if b then after_one now else now) same ∙ ap (λ (x : Quota). quota_next meant x m) is ∙ sym (quota_more meant q ms m)

-- the quota's answer
pub is_taken : (meant : Message → Bool) (now : Quota) (m : Message) (is_meant taken answer : Bool) → is_meant ≡ meant m → taken ≡ (is_meant && chooses now) → taken ≡ answer → is_chosen meant now m ≡ answer
is_taken meant now m is_meant taken answer same takes is = ap (λ (b : Bool). b && chooses now) (sym same) ∙ sym takes ∙ is

-- a message that is chosen joins the chosen ones, and another the rest
pub joins_chosen : (meant : Message → Bool) (q now : Quota) (ms : List Message) (m : Message) → now ≡ quota_after meant q ms → is_chosen meant now m ≡ true
    → (chosen_by meant q (ms ++ m ∷ []) ≡ chosen_by meant q ms ++ m ∷ []) × (left_over meant q (ms ++ m ∷ []) ≡ left_over meant q ms)
joins_chosen meant q now ms m is chosen =
    let test : is_chosen meant (quota_after meant q ms) m ≡ true = ap (λ (x : Quota). is_chosen meant x m) (sym is) ∙ chosen in (
      chosen_more meant q ms m ∙ ap (λ (b : Bool). chosen_by meant q ms ++ (if b then m ∷ [] else [])) test,
      left_more meant q ms m ∙ ap (λ (b : Bool). left_over meant q ms ++ (if b then [] else m ∷ [])) test ∙ append-nil (left_over meant q ms),
    )

pub joins_rest : (meant : Message → Bool) (q now : Quota) (ms : List Message) (m : Message) → now ≡ quota_after meant q ms → is_chosen meant now m ≡ false
    → (chosen_by meant q (ms ++ m ∷ []) ≡ chosen_by meant q ms) × (left_over meant q (ms ++ m ∷ []) ≡ left_over meant q ms ++ m ∷ [])
joins_rest meant q now ms m is other =
    let test : is_chosen meant (quota_after meant q ms) m ≡ false = ap (λ (x : Quota). is_chosen meant x m) (sym is) ∙ other in (
      chosen_more meant q ms m ∙ ap (λ (b : Bool). chosen_by meant q ms ++ (if b then m ∷ [] else [])) test ∙ append-nil (chosen_by meant q ms),
      left_more meant q ms m ∙ ap (λ (b : Bool). left_over meant q ms ++ (if b then [] else m ∷ [])) test,
    )

-- ---- chosen by number

none_of_none : (count : Option ℕ) (skip : ℕ) → [] ≡ first_few count (drop skip [])
none_of_none None zero = refl
none_of_none None (suc skip) = refl
none_of_none (Some zero) zero = refl
none_of_none (Some zero) (suc skip) = refl
none_of_none (Some (suc n)) zero = refl
none_of_none (Some (suc n)) (suc skip) = refl

abbrev quota : ℕ → Option ℕ → Quota
quota skip count = record { skip = skip; count = count }

pub not_zero : (n : ℕ) → (suc n == 0) ≡ false
not_zero n = grind arith

-- a message that is meant, before the rest
meant_first : (meant : Message → Bool) (skip : ℕ) (count : Option ℕ) (m : Message) (ms others : List Message)
    → ((k : ℕ) (o : Option ℕ) → chosen_by meant (quota k o) ms ≡ first_few o (drop k others))
    → (if chooses (quota skip count) then m ∷ chosen_by meant (after_one (quota skip count)) ms else chosen_by meant (after_one (quota skip count)) ms) ≡ first_few count (drop skip (m ∷ others))
meant_first meant (suc skip) count m ms others rest =
    let one_less : suc skip - 1 ≡ skip = omega arith in
    let counted = quota (suc skip) (option_map (λ left. left - 1) count) in
    let skipped = quota (suc skip - 1) count in
    ap (λ (b : Bool). if b && not (is_spent count) then m ∷ chosen_by meant (if b then counted else skipped) ms else chosen_by meant (if b then counted else skipped) ms) (not_zero skip)
    ∙ rest (suc skip - 1) count ∙ ap (λ (k : ℕ). first_few count (drop k others)) one_less
meant_first meant zero None m ms others rest = ap (λ (l : List Message). m ∷ l) (rest zero None)
meant_first meant zero (Some zero) m ms others rest = rest zero (Some zero)
meant_first meant zero (Some (suc n)) m ms others rest =
    let one_less : suc n - 1 ≡ n = omega arith in
    let after = chosen_by meant (quota zero (Some (suc n - 1))) ms in
    ap (λ (b : Bool). if not b then m ∷ after else after) (not_zero n)
    ∙ ap (λ (l : List Message). m ∷ l) (rest zero (Some (suc n - 1)) ∙ ap (λ (k : ℕ). take k others) one_less)

pub chosen_by_number : (meant : Message → Bool) (skip : ℕ) (count : Option ℕ) (ms : List Message) → chosen_by meant (quota skip count) ms ≡ first_few count (drop skip (filter meant ms))
chosen_by_number meant skip count [] = none_of_none count skip
chosen_by_number meant skip count (m ∷ ms) =
    let rest : (k : ℕ) (o : Option ℕ) → chosen_by meant (quota k o) ms ≡ first_few o (drop k (filter meant ms)) = λ k o. chosen_by_number meant k o ms in
    elim (meant m) as (λ b.
    (if b then (if chooses (quota skip count) then m ∷ chosen_by meant (after_one (quota skip count)) ms else chosen_by meant (after_one (quota skip count)) ms) else chosen_by meant (quota skip count) ms)
    ≡ first_few count (drop skip (cond b (m ∷ filter meant ms) (filter meant ms))))
    [ true ↦ meant_first meant skip count m ms (filter meant ms) rest | false ↦ rest skip count ]

-- ---- all are chosen

each_chosen : (meant : Message → Bool) (ms : List Message) → list_all meant ms ≡ true → (chosen_by meant (quota 0 None) ms ≡ ms) × (left_over meant (quota 0 None) ms ≡ [])
each_chosen meant [] h = (refl, refl)
each_chosen meant (m ∷ ms) h =
    let parts = and_parts (meant m) (list_all meant ms) h in
    let rest = each_chosen meant ms parts.1 in (
      ap (λ (b : Bool). if b then m ∷ chosen_by meant (quota 0 None) ms else chosen_by meant (quota 0 None) ms) parts.0 ∙ ap (λ (l : List Message). m ∷ l) rest.0,
      ap (λ (b : Bool). if b then left_over meant (quota 0 None) ms else m ∷ left_over meant (quota 0 None) ms) parts.0 ∙ rest.1,
    )

no_number : (count : Option ℕ) → is_none count ≡ true → count ≡ None
no_number None h = refl
no_number (Some n) h = absurd (false≢true h)

pub all_chosen : (meant : Message → Bool) (q : Quota) (ms : List Message) → (q.skip == 0 && is_none q.count) ≡ true → list_all meant ms ≡ true → (chosen_by meant q ms ≡ ms) × (left_over meant q ms ≡ [])
all_chosen meant q ms takes h =
    let parts = and_parts (q.skip == 0) (is_none q.count) takes in
    let is : q ≡ quota 0 None = ap (λ (k : ℕ). quota k q.count) (eqb-true q.skip 0 parts.0) ∙ ap (quota 0) (no_number q.count parts.1) in
    let each = each_chosen meant ms h in
    (ap (λ (x : Quota). chosen_by meant x ms) is ∙ each.0, ap (λ (x : Quota). left_over meant x ms) is ∙ each.1)
