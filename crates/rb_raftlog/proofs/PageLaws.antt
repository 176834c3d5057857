-- Laws of pages.
use Rattle.std.proofs.Common.{◌≡◌, ℕ, ◌+◌, ◌-◌, ◌*◌, ◌/◌, ◌%◌, ◌<◌, ◌≤◌, List, [], ◌∷◌, ◌++◌, length, get_or, take, drop, min, ap, sym, subst, ◌∙◌, arith, length-append, append_assoc, inl, inr}
use Rattle.std.proofs.lemmas.List.{append-nil, take-append-drop, take_more, drop_more, drop-drop, drop-append-le, drop_at, take-take, take_all, take-append-le, length-take-le, length_push, length-drop, drop-take, get_or-drop, take_rest}
use Rattle.std.proofs.lemmas.List.Concat.{flat_map-append, get_or-flat_map}
use Rattle.std.proofs.lemmas.Bool.{cases_lt}
use Rattle.rb_raftlog.proofs.ListLaws.{take_past}
use Rattle.rb_raftlog.specs.declared.limits.TheConstants.{PAGE}
use Rattle.rb_raftlog.specs.Packed.{joined, IsPacked}

abbrev Sheets : Type 0 → Type 0
Sheets X = List (List X)

-- ---- joined pages

joined-append : {X : Type 0} (ps qs : Sheets X) → joined (ps ++ qs) ≡ joined ps ++ joined qs
joined-append {X} ps qs = flat_map-append (λ (p : List X). p) ps qs

joined_one : {X : Type 0} (p : List X) → joined (p ∷ []) ≡ p
joined_one {X} p = append-nil p

pub joined_end : {X : Type 0} (ps : Sheets X) (p : List X) → joined (ps ++ p ∷ []) ≡ joined ps ++ p
joined_end {X} ps p = joined-append ps (p ∷ []) ∙ ap (λ (l : List X). joined ps ++ l) (joined_one p)

-- the first k pages, and the others
joined_split : {X : Type 0} (ps : Sheets X) (k : ℕ) → joined ps ≡ joined (take k ps) ++ joined (drop k ps)
joined_split {X} ps k = ap joined (sym (take-append-drop k ps)) ∙ joined-append (take k ps) (drop k ps)

-- one page more
joined_more : {X : Type 0} (ps : Sheets X) (k : ℕ) (d : List X) → k < length ps → joined (take (k + 1) ps) ≡ joined (take k ps) ++ get_or ps k d
joined_more {X} ps k d h = ap joined (take_more ps k d h) ∙ joined_end (take k ps) (get_or ps k d)

-- the page at a place, and the others
joined_at : {X : Type 0} (ps : Sheets X) (k : ℕ) (d : List X) → k < length ps → joined (drop k ps) ≡ get_or ps k d ++ joined (drop (k + 1) ps)
joined_at {X} ps k d h = ap joined (drop_more ps k d h)

-- ---- places in packed pages

-- there are enough pages
pub enough : {X : Type 0} (ps : Sheets X) → IsPacked ps → length (joined ps) ≤ PAGE * length ps
enough {X} ps packed =
    let all : length (joined (take (length ps) ps)) ≡ length (joined ps) = ap (λ (qs : Sheets X). length (joined qs)) (take_all (length ps) ps (omega arith)) in
    omega (arith, packed.places (length ps))

pub page_in : {X : Type 0} (ps : Sheets X) (k r : ℕ) → IsPacked ps → PAGE * k + r < length (joined ps) → k < length ps
page_in {X} ps k r packed h = omega (arith, enough ps packed)

before : {X : Type 0} (ps : Sheets X) (k : ℕ) → IsPacked ps → PAGE * k ≤ length (joined ps) → length (joined (take k ps)) ≡ PAGE * k
before {X} ps k packed h = omega (arith, packed.places k)

pub entry_in : {X : Type 0} (ps : Sheets X) (k r : ℕ) (d : List X) → IsPacked ps → r < PAGE → PAGE * k + r < length (joined ps) → r < length (get_or ps k d)
entry_in {X} ps k r d packed s h =
    let more : length (joined (take (k + 1) ps)) ≡ length (joined (take k ps)) + length (get_or ps k d) =
    ap length (joined_more ps k d (page_in ps k r packed h)) ∙ length-append (joined (take k ps)) (get_or ps k d) in
    omega (arith, packed.places k, packed.places (k + 1))

pub entry_is : {X : Type 0} (ps : Sheets X) (k r : ℕ) (d : List X) (e : X) → IsPacked ps → r < PAGE → PAGE * k + r < length (joined ps) → get_or (joined ps) (PAGE * k + r) e ≡ get_or (get_or ps k d) r e
entry_is {X} ps k r d e packed s h =
    ap (λ (n : ℕ). get_or (joined ps) (n + r) e) (sym (before ps k packed (omega arith)))
    ∙ get_or-flat_map (λ (p : List X). p) ps k r d e (page_in ps k r packed h) (entry_in ps k r d packed s h)

dropped : {X : Type 0} (ps : Sheets X) (k : ℕ) → IsPacked ps → PAGE * k ≤ length (joined ps) → drop (PAGE * k) (joined ps) ≡ joined (drop k ps)
dropped {X} ps k packed h =
    ap (drop (PAGE * k)) (joined_split ps k) ∙ drop_at (joined (take k ps)) (joined (drop k ps)) (PAGE * k) (before ps k packed h)

-- what follows a place
pub dropped_in : {X : Type 0} (ps : Sheets X) (k r : ℕ) → IsPacked ps → PAGE * k ≤ length (joined ps) → drop (PAGE * k + r) (joined ps) ≡ drop r (joined (drop k ps))
dropped_in {X} ps k r packed h = sym (drop-drop r (PAGE * k) (joined ps)) ∙ ap (drop r) (dropped ps k packed h)

pub rest_is : {X : Type 0} (ps : Sheets X) (k r : ℕ) (d : List X) → IsPacked ps → r < PAGE → PAGE * k + r < length (joined ps) → drop (PAGE * k + r) (joined ps) ≡ drop r (get_or ps k d) ++ joined (drop (k + 1) ps)
rest_is {X} ps k r d packed s h =
    let within : r < length (get_or ps k d) = entry_in ps k r d packed s h in
    dropped_in ps k r packed (omega arith) ∙ ap (drop r) (joined_at ps k d (page_in ps k r packed h)) ∙ drop-append-le r (get_or ps k d) (joined (drop (k + 1) ps)) (omega arith)

-- what precedes a place
pub front_is : {X : Type 0} (ps : Sheets X) (k r : ℕ) (d : List X) → IsPacked ps → k < length ps → PAGE * k ≤ length (joined ps) → r ≤ length (get_or ps k d) → take (PAGE * k + r) (joined ps) ≡ joined (take k ps) ++ take r (get_or ps k d)
front_is {X} ps k r d packed low h within =
    let n : PAGE * k ≡ length (joined (take k ps)) = sym (before ps k packed h) in
    let whole : joined ps ≡ joined (take k ps) ++ (get_or ps k d ++ joined (drop (k + 1) ps)) =
    joined_split ps k ∙ ap (λ (l : List X). joined (take k ps) ++ l) (joined_at ps k d low) in
    ap (λ (m : ℕ). take (m + r) (joined ps)) n ∙ ap (take (length (joined (take k ps)) + r)) whole
    ∙ take_past (joined (take k ps)) (get_or ps k d ++ joined (drop (k + 1) ps)) r
    ∙ ap (λ (l : List X). joined (take k ps) ++ l) (take-append-le r (get_or ps k d) (joined (drop (k + 1) ps)) within)

-- ---- the same of an index, where the first entries of the first page are dropped

parts : (at : ℕ) → PAGE * (at / PAGE) + at % PAGE ≡ at
parts at = omega arith

pub within : {X : Type 0} (ps : Sheets X) (v : List X) (skip k : ℕ) → drop skip (joined ps) ≡ v → k < length v → skip + k < length (joined ps)
within {X} ps v skip k e h = omega (arith, ap length e, length-drop skip (joined ps))

pub page_of : {X : Type 0} (ps : Sheets X) (v : List X) (skip k : ℕ) → IsPacked ps → drop skip (joined ps) ≡ v → k < length v → (skip + k) / PAGE < length ps
page_of {X} ps v skip k packed e h =
    page_in ps ((skip + k) / PAGE) ((skip + k) % PAGE) packed (omega (arith, within ps v skip k e h))

pub entry_of_in : {X : Type 0} (ps : Sheets X) (v : List X) (skip k : ℕ) (d : List X) → IsPacked ps → drop skip (joined ps) ≡ v → k < length v → (skip + k) % PAGE < length (get_or ps ((skip + k) / PAGE) d)
entry_of_in {X} ps v skip k d packed e h =
    entry_in ps ((skip + k) / PAGE) ((skip + k) % PAGE) d packed (omega arith) (omega (arith, within ps v skip k e h))

pub entry_of : {X : Type 0} (ps : Sheets X) (v : List X) (skip k : ℕ) (d : List X) (x : X) → IsPacked ps → drop skip (joined ps) ≡ v → k < length v → get_or (get_or ps ((skip + k) / PAGE) d) ((skip + k) % PAGE) x ≡ get_or v k x
entry_of {X} ps v skip k d x packed e h =
    sym (entry_is ps ((skip + k) / PAGE) ((skip + k) % PAGE) d x packed (omega arith) (omega (arith, within ps v skip k e h)))
    ∙ ap (λ (n : ℕ). get_or (joined ps) n x) (parts (skip + k))
    ∙ sym (get_or-drop skip (joined ps) k x)
    ∙ ap (λ (l : List X). get_or l k x) e

pub pieces_of : {X : Type 0} (ps : Sheets X) (v : List X) (skip k : ℕ) (d : List X) → IsPacked ps → drop skip (joined ps) ≡ v → k < length v → drop k v ≡ drop ((skip + k) % PAGE) (get_or ps ((skip + k) / PAGE) d) ++ joined (drop ((skip + k) / PAGE + 1) ps)
pieces_of {X} ps v skip k d packed e h =
    ap (drop k) (sym e) ∙ drop-drop k skip (joined ps) ∙ ap (λ (n : ℕ). drop n (joined ps)) (sym (parts (skip + k)))
    ∙ rest_is ps ((skip + k) / PAGE) ((skip + k) % PAGE) d packed (omega arith) (omega (arith, within ps v skip k e h))

-- the same, where the first part is a slice of the page
pub from_is : {X : Type 0} (ps : Sheets X) (v rest : List X) (skip k : ℕ) (page d : List X) → IsPacked ps → drop skip (joined ps) ≡ v → k < length v → page ≡ get_or ps ((skip + k) / PAGE) d → rest ≡ joined (drop ((skip + k) / PAGE + 1) ps) → take (length page - (skip + k) % PAGE) (drop ((skip + k) % PAGE) page) ++ rest ≡ drop k v
from_is {X} ps v rest skip k page d packed e h is same =
    let r : ℕ = (skip + k) % PAGE in
    ap (λ (l : List X). l ++ rest) (take_rest page r ∙ ap (drop r) is)
    ∙ ap (λ (l : List X). drop r (get_or ps ((skip + k) / PAGE) d) ++ l) same
    ∙ sym (pieces_of ps v skip k d packed e h)

-- ---- what stays packed

abbrev size : {X : Type 0} → Sheets X → ℕ
size {X} ps = length (joined ps)

-- the first k pages, and one more that is not empty
ends : {X : Type 0} (ps : Sheets X) (k j : ℕ) (p : List X) → IsPacked ps → k ≤ length ps → PAGE * k ≤ length (joined ps) → length p ≤ PAGE → length (joined (take j (take k ps ++ p ∷ []))) ≡ min (PAGE * j) (length (joined (take k ps ++ p ∷ [])))
ends {X} ps k j p packed low h fits =
    let n : length (take k ps) ≡ k = length-take-le k ps low in
    let all : length (joined (take k ps ++ p ∷ [])) ≡ length (joined (take k ps)) + length p =
    ap length (joined_end (take k ps) p) ∙ length-append (joined (take k ps)) p in
    elim (cases_lt k j) as (λ _. length (joined (take j (take k ps ++ p ∷ []))) ≡ min (PAGE * j) (length (joined (take k ps ++ p ∷ [])))) [
      | inl high ↦
          let e : length (joined (take j (take k ps ++ p ∷ []))) ≡ length (joined (take k ps ++ p ∷ [])) =
          ap size (take_all j (take k ps ++ p ∷ []) (omega (arith, length_push (take k ps) p))) in
          omega (arith, packed.places k)
      | inr under ↦
          let e : length (joined (take j (take k ps ++ p ∷ []))) ≡ length (joined (take j ps)) =
          ap size (take-append-le j (take k ps) (p ∷ []) (omega arith) ∙ take-take j k ps under) in
          omega (arith, packed.places j, packed.places k)
    ]

pub packed_end : {X : Type 0} (ps : Sheets X) (k : ℕ) (p : List X) → IsPacked ps → k ≤ length ps → PAGE * k ≤ length (joined ps) → 0 < length p → length p ≤ PAGE → IsPacked (take k ps ++ p ∷ [])
packed_end {X} ps k p packed low h some fits =
    let n : length (take k ps) ≡ k = length-take-le k ps low in
    let all : length (joined (take k ps ++ p ∷ [])) ≡ length (joined (take k ps)) + length p =
    ap length (joined_end (take k ps) p) ∙ length-append (joined (take k ps)) p in
    record {
      places = λ j. ends ps k j p packed low h fits;
      few = omega (arith, packed.places k, length_push (take k ps) p);
    }

-- what is taken after the first k pages
later : {X : Type 0} (ps : Sheets X) (k j : ℕ) → joined (take (k + j) ps) ≡ joined (take k ps) ++ joined (take j (drop k ps))
later {X} ps k j =
    joined_split (take (k + j) ps) k
    ∙ ap (λ (l : List X). l ++ joined (drop k (take (k + j) ps))) (ap joined (take-take k (k + j) ps (omega arith)))
    ∙ ap (λ (l : List X). joined (take k ps) ++ l) (ap joined (drop-take k j ps))

pub packed_drop : {X : Type 0} (ps : Sheets X) (k : ℕ) → IsPacked ps → k ≤ length ps → PAGE * k ≤ length (joined ps) → IsPacked (drop k ps)
packed_drop {X} ps k packed low h =
    let all : length (joined ps) ≡ length (joined (take k ps)) + length (joined (drop k ps)) = ap length (joined_split ps k) ∙ length-append (joined (take k ps)) (joined (drop k ps)) in
    record {
      places = λ j.
          (let e : length (joined (take (k + j) ps)) ≡ length (joined (take k ps)) + length (joined (take j (drop k ps))) =
          ap length (later ps k j) ∙ length-append (joined (take k ps)) (joined (take j (drop k ps))) in
          omega (arith, packed.places k, packed.places (k + j)));
      few = omega (arith, packed.places k, packed.few, length-drop k ps);
    }

-- ---- the steps of the code: pages that are cut, and pages that grow

-- the page that is cut, where a first item is left: it has what is left of it
pub cut_page : {X : Type 0} (ps : Sheets X) (at : ℕ) → IsPacked ps → at < length (joined ps) → (at ≡ 0 → ⊥) → (at - 1) / PAGE < length ps
cut_page {X} ps at packed h some = page_in ps ((at - 1) / PAGE) ((at - 1) % PAGE) packed (omega arith)

cut_within : {X : Type 0} (ps : Sheets X) (at : ℕ) (d : List X) → IsPacked ps → at < length (joined ps) → (at ≡ 0 → ⊥) → at - (at - 1) / PAGE * PAGE ≤ length (get_or ps ((at - 1) / PAGE) d)
cut_within {X} ps at d packed h some =
    omega (arith, entry_in ps ((at - 1) / PAGE) ((at - 1) % PAGE) d packed (omega arith) (omega arith))

pub cut_at : {X : Type 0} (ps qs : Sheets X) (at : ℕ) (d whole page : List X) → IsPacked ps → at < length (joined ps) → (at ≡ 0 → ⊥) → whole ≡ get_or ps ((at - 1) / PAGE) d → page ≡ take (at - (at - 1) / PAGE * PAGE) whole → qs ≡ take ((at - 1) / PAGE) ps ++ page ∷ [] → IsPacked qs × (joined qs ≡ take at (joined ps))
cut_at {X} ps qs at d whole page packed h some whole_is page_is qs_is =
    let k : ℕ = (at - 1) / PAGE in
    let r : ℕ = at - k * PAGE in
    let low : k < length ps = cut_page ps at packed h some in
    let r_in : r ≤ length (get_or ps k d) = cut_within ps at d packed h some in
    let is : page ≡ take r (get_or ps k d) = page_is ∙ ap (take r) whole_is in
    let n : length page ≡ r = ap length is ∙ length-take-le r (get_or ps k d) r_in in
    let e : PAGE * k + r ≡ at = omega arith in
    let P : Sheets X → Type 0 = λ l. IsPacked l in (
      subst P (sym qs_is) (packed_end ps k page packed (omega arith) (omega arith) (omega arith) (omega arith)),
      ap joined qs_is ∙ joined_end (take k ps) page ∙ ap (λ (l : List X). joined (take k ps) ++ l) is
          ∙ sym (front_is ps k r d packed low (omega arith) r_in) ∙ ap (λ (m : ℕ). take m (joined ps)) e,
    )

pub push_even : {X : Type 0} (ps qs : Sheets X) (at : ℕ) (more page : List X) → IsPacked ps → at ≡ length (joined ps) → at % PAGE ≡ 0 → 0 < length more → length more ≤ PAGE → page ≡ more → qs ≡ ps ++ page ∷ [] → IsPacked qs × (joined qs ≡ joined ps ++ more)
push_even {X} ps qs at more page packed end even some fits is qs_is =
    let n : length page ≡ length more = ap length is in
    let e : take (length ps) ps ++ page ∷ [] ≡ qs = ap (λ (l : Sheets X). l ++ page ∷ []) (take_all (length ps) ps (omega arith)) ∙ sym qs_is in
    let P : Sheets X → Type 0 = λ l. IsPacked l in (
      subst P e (packed_end ps (length ps) page packed (omega arith) (omega (arith, packed.few, enough ps packed)) (omega arith) (omega arith)),
      ap joined qs_is ∙ joined_end ps page ∙ ap (λ (l : List X). joined ps ++ l) is,
    )

-- the last page, where it is not full
pub last_in : {X : Type 0} (ps : Sheets X) (at : ℕ) → IsPacked ps → at ≡ length (joined ps) → (at % PAGE ≡ 0 → ⊥) → at / PAGE + 1 ≡ length ps
last_in {X} ps at packed end odd = omega (arith, packed.few, enough ps packed)

-- it is what the pages before it lack
last_part : {X : Type 0} (ps : Sheets X) (at : ℕ) (d : List X) → IsPacked ps → at ≡ length (joined ps) → (at % PAGE ≡ 0 → ⊥) → joined ps ≡ joined (take (at / PAGE) ps) ++ get_or ps (at / PAGE) d
last_part {X} ps at d packed end odd =
    let last : at / PAGE + 1 ≡ length ps = last_in ps at packed end odd in
    ap joined (sym (take_all (at / PAGE + 1) ps (omega arith))) ∙ joined_more ps (at / PAGE) d (omega arith)

last_size : {X : Type 0} (ps : Sheets X) (at : ℕ) (d : List X) → IsPacked ps → at ≡ length (joined ps) → (at % PAGE ≡ 0 → ⊥) → length (get_or ps (at / PAGE) d) ≡ at % PAGE
last_size {X} ps at d packed end odd =
    let sizes : length (joined ps) ≡ length (joined (take (at / PAGE) ps)) + length (get_or ps (at / PAGE) d) =
    ap length (last_part ps at d packed end odd) ∙ length-append (joined (take (at / PAGE) ps)) (get_or ps (at / PAGE) d) in
    omega (arith, packed.places (at / PAGE))

pub last_room : {X : Type 0} (ps : Sheets X) (at : ℕ) → IsPacked ps → at ≡ length (joined ps) → (at % PAGE ≡ 0 → ⊥) → length (get_or ps (at / PAGE) []) < PAGE
last_room {X} ps at packed end odd = omega (arith, last_size ps at [] packed end odd)

pub push_odd : {X : Type 0} (ps qs : Sheets X) (at : ℕ) (x : X) → IsPacked ps → at ≡ length (joined ps) → (at % PAGE ≡ 0 → ⊥) → qs ≡ take (at / PAGE) ps ++ (get_or ps (at / PAGE) [] ++ x ∷ []) ∷ [] → IsPacked qs × (joined qs ≡ joined ps ++ x ∷ [])
push_odd {X} ps qs at x packed end odd qs_is =
    let k : ℕ = at / PAGE in
    let page : List X = get_or ps k [] ++ x ∷ [] in
    let last : k + 1 ≡ length ps = last_in ps at packed end odd in
    let n : length page ≡ at % PAGE + 1 = length_push (get_or ps k []) x ∙ ap (λ (m : ℕ). m + 1) (last_size ps at [] packed end odd) in
    let P : Sheets X → Type 0 = λ l. IsPacked l in (
      subst P (sym qs_is) (packed_end ps k page packed (omega arith) (omega arith) (omega arith) (omega arith)),
      ap joined qs_is ∙ joined_end (take k ps) page
          ∙ sym (append_assoc (joined (take k ps)) (get_or ps k []) (x ∷ [])) ∙ ap (λ (l : List X). l ++ x ∷ []) (sym (last_part ps at [] packed end odd)),
    )

-- ---- the same, where the first entries of the first page are dropped

pub cut_view : {X : Type 0} (skip n : ℕ) (l : List X) → drop skip (take (skip + n) l) ≡ take n (drop skip l)
cut_view {X} skip n l = drop-take skip n l

-- where n items are dropped, the pages before their end go
pub front_page : {X : Type 0} (ps : Sheets X) (v : List X) (skip n : ℕ) → IsPacked ps → drop skip (joined ps) ≡ v → skip ≤ length (joined ps) → n ≤ length v → (skip + n) / PAGE ≤ length ps
front_page {X} ps v skip n packed e s h = omega (arith, ap length e, length-drop skip (joined ps), enough ps packed)

pub front_is_dropped : {X : Type 0} (ps qs : Sheets X) (v : List X) (skip len n : ℕ) → IsPacked ps → drop skip (joined ps) ≡ v → skip + len ≡ length (joined ps)
    → n ≤ length v → qs ≡ drop ((skip + n) / PAGE) ps
    → IsPacked qs × ((skip + n) % PAGE + (len - n) ≡ length (joined qs)) × (drop ((skip + n) % PAGE) (joined qs) ≡ drop n v)
front_is_dropped {X} ps qs v skip len n packed e all h is =
    let at : ℕ = (skip + n) / PAGE in
    let low : skip + n ≤ length (joined ps) = omega (arith, ap length e, length-drop skip (joined ps)) in
    let whole : length (joined ps) ≡ length (joined (take at ps)) + length (joined (drop at ps)) =
    ap length (joined_split ps at) ∙ length-append (joined (take at ps)) (joined (drop at ps)) in
    let same : length (joined qs) ≡ length (joined (drop at ps)) = ap size is in
    let P : Sheets X → Type 0 = λ l. IsPacked l in (
      subst P (sym is) (packed_drop ps at packed (front_page ps v skip n packed e (omega arith) h) (omega arith)),
      omega (arith, before ps at packed (omega arith)),
      ap (λ (l : Sheets X). drop ((skip + n) % PAGE) (joined l)) is
          ∙ sym (dropped_in ps at ((skip + n) % PAGE) packed (omega arith))
          ∙ ap (λ (m : ℕ). drop m (joined ps)) (parts (skip + n)) ∙ sym (drop-drop n skip (joined ps)) ∙ ap (drop n) e,
    )

pub same_at : {X : Type 0} {xs ys : List X} (k : ℕ) (d : X) → xs ≡ ys → get_or xs k d ≡ get_or ys k d
same_at {X} k d e = ap (λ (l : List X). get_or l k d) e
