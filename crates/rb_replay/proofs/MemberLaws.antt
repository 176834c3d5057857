-- Which points stand in the list before thinning.
use Rattle.std.proofs.Common.{◌≡◌, ◌∙◌, ℕ, zero, suc, ◌+◌, ◌-◌, ◌*◌, ◌/◌, ◌<◌, ◌≤◌, min, Bool, true, false, cond, List, [], ◌∷◌, ◌++◌, length, get_or, map, ap, sym, arith, inl, inr, ◌⊎◌, Option, Some, None, subst}
use Rattle.std.specs.Prelude.{Contains, filter, nat_lt, nat_le, ◌↔◌}
use Rattle.std.proofs.lemmas.Bool.{cases_lt, le-leb, leb-true, ltb-true}
use Rattle.std.proofs.lemmas.List.{length-map, get_or-map}
use Rattle.std.proofs.lemmas.List.Elements.{All-contains, All-filter, All-contains_itself, filter_passes, Contains-get_or, Contains-append_left, Contains-append_right, Contains-append_cases}
use Rattle.std.proofs.Math.Nat.{le-div_iff_mul-le}
use Rattle.rb_replay.specs.Points.{every}
use Rattle.rb_replay.specs.Reuse.{Change, start, old_point, new_point, Meets, IsFirstMeeting, IsChange, fresh_points, points_before, IsPointBefore}
use Rattle.rb_replay.proofs.PointLaws.{Contains-head, Contains-cons}
use Rattle.rb_replay.proofs.ReadyLaws.{start-first}

-- ---- elements of the parts

split-cons : (p x : ℕ) (ps : List ℕ) → Contains (p ∷ ps) x → (p ≡ x) ⊎ Contains ps x
split-cons p x ps (zero, lt, is) = inl is
split-cons p x ps (suc k, lt, is) = inr (k, omega arith, is)

filter-has : (test : ℕ → Bool) (x : ℕ) (ps : List ℕ) → Contains ps x → test x ≡ true → Contains (filter test ps) x
filter-has test x [] has passed = absurd (omega (arith, has.1))
filter-has test x (p ∷ ps) has passed =
    elim (split-cons p x ps has) [
      | inl same ↦ let here : test p ≡ true = ap test same ∙ passed in rw here (zero, omega arith, same)
      | inr more ↦ elim (test p) as (λ b. Contains (cond b (p ∷ filter test ps) (filter test ps)) x) [
        | true ↦ Contains-cons (filter test ps) p x (filter-has test x ps more passed)
        | false ↦ filter-has test x ps more passed
      ]
    ]

has-filter : (test : ℕ → Bool) (x : ℕ) (ps : List ℕ) → Contains (filter test ps) x → Contains ps x × (test x ≡ true)
has-filter test x ps has = (
  All-contains (Contains ps) (filter test ps) x (All-filter test (Contains ps) ps (All-contains_itself ps)) has,
  All-contains (λ y. test y ≡ true) (filter test ps) x (filter_passes test ps) has,
)

-- points where they stand now
map-has : (to : ℕ → ℕ) (x : ℕ) (ps : List ℕ) → Contains ps x → Contains (map to ps) (to x)
map-has to x ps has = (has.0, omega (arith, has.1, length-map ps to), get_or-map to ps has.0 x (to x) has.1 ∙ ap to has.2)

has-map : (to : ℕ → ℕ) (y : ℕ) (ps : List ℕ) → Contains (map to ps) y → (x : ℕ) × Contains ps x × (to x ≡ y)
has-map to y ps has =
    let lt : has.0 < length ps = omega (arith, has.1, length-map ps to) in
    (get_or ps has.0 0, Contains-get_or ps has.0 0 lt, sym (get_or-map to ps has.0 0 y lt) ∙ has.2)

every-has : (K from j i : ℕ) → 1 ≤ i → i ≤ j → Contains (every K from j) (from + i * K)
every-has K from zero i one le = absurd (omega arith)
every-has K from (suc j) i one le =
    elim (cases_lt i (suc j)) [
      | inl lt ↦ Contains-append_left (every K from j) ((from + suc j * K) ∷ []) (from + i * K) (every-has K from j i one (omega arith))
      | inr ge ↦
          let same : i ≡ suc j = omega arith in
          rw same (Contains-append_right (every K from j) ((from + suc j * K) ∷ []) (from + suc j * K) (Contains-head (from + suc j * K) []))
    ]

has-every : (K from j x : ℕ) → Contains (every K from j) x → (i : ℕ) × (1 ≤ i) × (i ≤ j) × (x ≡ from + i * K)
has-every K from zero x has = absurd (omega (arith, has.1))
has-every K from (suc j) x has =
    elim (Contains-append_cases (every K from j) ((from + suc j * K) ∷ []) x has) [
      | inl front ↦ let ih = has-every K from j x front in (ih.0, ih.1, omega (arith, ih.2), ih.3)
      | inr last ↦ elim (split-cons (from + suc j * K) x [] last) [
        | inl same ↦ (suc j, omega arith, omega arith, sym same)
        | inr none ↦ absurd (omega (arith, none.1))
      ]
    ]

-- how many steps fit
steps-fit : (K d i : ℕ) → 1 ≤ K → (i ≤ d / K) ↔ (i * K ≤ d)
steps-fit K d i one = let pos : zero < K = omega arith in le-div_iff_mul-le pos

-- ---- the list has the members

-- the points from a meeting on
rest-has : (c : Change) (s p : ℕ) → Meets c s → s ≤ p → Contains c.points (old_point c p) → Contains (points_before c (Some s)) p
rest-has c s p m le has =
    let rest : c.new_rest ≤ s = m.in_rest in
    let back : new_point c (old_point c p) ≡ p = omega arith in
    let kept : Contains (filter (λ q. nat_le (old_point c s) q) c.points) (old_point c p) =
    filter-has (λ q. nat_le (old_point c s) q) (old_point c p) c.points has (le-leb (old_point c s) (old_point c p) (omega arith)) in
    Contains-append_right (filter (λ p. nat_lt p (min (start c + 1) s)) c.points)
    (fresh_points c (Some s) ++ map (new_point c) (filter (λ q. nat_le (old_point c s) q) c.points)) p
    (Contains-append_right (fresh_points c (Some s)) (map (new_point c) (filter (λ q. nat_le (old_point c s) q) c.points)) p
    (subst (λ (q : ℕ). Contains (map (new_point c) (filter (λ q. nat_le (old_point c s) q) c.points)) q) back
    (map-has (new_point c) (old_point c p) (filter (λ q. nat_le (old_point c s) q) c.points) kept)))

pub member-has : (c : Change) (o : Option ℕ) (p : ℕ) → IsChange c → IsFirstMeeting c o → IsPointBefore c o p → Contains (points_before c o) p
member-has c None p is first (inl front) =
    Contains-append_left (filter (λ p. nat_lt p (start c + 1)) c.points) (fresh_points c None) p
    (filter-has (λ p. nat_lt p (start c + 1)) p c.points front.0 (le-leb (suc p) (start c + 1) (omega (arith, front.1))))
member-has c None p is first (inr (inl way)) =
    let fits : way.0 * c.checkpoint_interval ≤ length c.new.blocks - start c = omega (arith, way.2, way.3) in
    Contains-append_right (filter (λ p. nat_lt p (start c + 1)) c.points) (fresh_points c None) p
    (rw (way.2) (every-has c.checkpoint_interval (start c) ((length c.new.blocks - start c) / c.checkpoint_interval) way.0 way.1
    ((steps-fit c.checkpoint_interval (length c.new.blocks - start c) way.0 is.spaced).1 fits)))
member-has c None p is first (inr (inr old)) = absurd old
member-has c (Some s) p is first (inl front) =
    let le : start c ≤ s = first.0.from_start in
    elim (cases_lt p s) [
      | inl lt ↦
          Contains-append_left (filter (λ p. nat_lt p (min (start c + 1) s)) c.points) (fresh_points c (Some s) ++ map (new_point c) (filter (λ q. nat_le (old_point c s) q) c.points)) p
          (filter-has (λ p. nat_lt p (min (start c + 1) s)) p c.points front.0 (le-leb (suc p) (min (start c + 1) s) (omega (arith, front.1))))
      | inr ge ↦ let same : p ≡ s = omega (arith, front.1) in rest-has c s p first.0 (omega arith) (rw same first.0.is_kept)
    ]
member-has c (Some s) p is first (inr (inl way)) =
    let le : start c ≤ s = first.0.from_start in
    elim (cases_lt p s) [
      | inl lt ↦
          let fits : way.0 * c.checkpoint_interval ≤ s - 1 - start c = omega (arith, way.2, lt) in
          Contains-append_right (filter (λ p. nat_lt p (min (start c + 1) s)) c.points) (fresh_points c (Some s) ++ map (new_point c) (filter (λ q. nat_le (old_point c s) q) c.points)) p
          (Contains-append_left (fresh_points c (Some s)) (map (new_point c) (filter (λ q. nat_le (old_point c s) q) c.points)) p
          (rw (way.2) (every-has c.checkpoint_interval (start c) ((s - 1 - start c) / c.checkpoint_interval) way.0 way.1 ((steps-fit c.checkpoint_interval (s - 1 - start c) way.0 is.spaced).1 fits))))
      | inr ge ↦ let same : p ≡ s = omega (arith, way.3) in rest-has c s p first.0 (omega arith) (rw same first.0.is_kept)
    ]
member-has c (Some s) p is first (inr (inr old)) = rest-has c s p first.0 old.0 old.1

-- ---- and no others

pub has-member : (c : Change) (o : Option ℕ) (p : ℕ) → IsChange c → IsFirstMeeting c o → Contains (points_before c o) p → IsPointBefore c o p
has-member c None p is first has =
    elim (Contains-append_cases (filter (λ p. nat_lt p (start c + 1)) c.points) (fresh_points c None) p has) [
      | inl front ↦ let h = has-filter (λ p. nat_lt p (start c + 1)) p c.points front in inl (h.0, let lt = ltb-true p (start c + 1) h.1 in omega arith)
      | inr way ↦
          let h = has-every c.checkpoint_interval (start c) ((length c.new.blocks - start c) / c.checkpoint_interval) p way in
          let fits : h.0 * c.checkpoint_interval ≤ length c.new.blocks - start c = (steps-fit c.checkpoint_interval (length c.new.blocks - start c) h.0 is.spaced).0 h.2 in
          let le : start c ≤ length c.new.blocks = start-first c None is first in
          inr (inl (h.0, h.1, h.3, omega (arith, h.3)))
    ]
has-member c (Some s) p is first has =
    elim (Contains-append_cases (filter (λ p. nat_lt p (min (start c + 1) s)) c.points) (fresh_points c (Some s) ++ map (new_point c) (filter (λ q. nat_le (old_point c s) q) c.points)) p has) [
      | inl front ↦ let h = has-filter (λ p. nat_lt p (min (start c + 1) s)) p c.points front in inl (h.0, let lt = ltb-true p (min (start c + 1) s) h.1 in omega arith)
      | inr more ↦ elim (Contains-append_cases (fresh_points c (Some s)) (map (new_point c) (filter (λ q. nat_le (old_point c s) q) c.points)) p more) [
        | inl way ↦
            let h = has-every c.checkpoint_interval (start c) ((s - 1 - start c) / c.checkpoint_interval) p way in
            let fits : h.0 * c.checkpoint_interval ≤ s - 1 - start c = (steps-fit c.checkpoint_interval (s - 1 - start c) h.0 is.spaced).0 h.2 in
            let le : start c ≤ s = first.0.from_start in
            inr (inl (h.0, h.1, h.3, omega (arith, h.3)))
        | inr old ↦
            let h = has-map (new_point c) p (filter (λ q. nat_le (old_point c s) q) c.points) old in
            let from = has-filter (λ q. nat_le (old_point c s) q) h.0 c.points h.1 in
            let past : old_point c s ≤ h.0 = leb-true (old_point c s) h.0 from.1 in
            let rest : c.new_rest ≤ s = first.0.in_rest in
            let back : old_point c p ≡ h.0 = omega (arith, h.2) in
            inr (inr (omega (arith, h.2), rw back from.0))
      ]
    ]

pub members : (c : Change) (o : Option ℕ) (p : ℕ) → IsChange c → IsFirstMeeting c o → Contains (points_before c o) p ↔ IsPointBefore c o p
members c o p is first = (has-member c o p is first, member-has c o p is first)
