-- Laws of what a change uses again.
use Rattle.std.proofs.Common.{◌≡◌, ℕ, ◌+◌, ◌-◌, ◌*◌, ◌<◌, ◌≤◌, max, List, [], ◌∷◌, length, drop, ap, sym, ◌∙◌, arith, Option, Some, None, ◌⊎◌, inl, inr, nat_le, true, subst, refl}
use Rattle.std.proofs.lemmas.Bool.{le-leb}
use Rattle.std.specs.Prelude.{Contains}
use Rattle.std.proofs.lemmas.Bool.{cases_lt}
use Rattle.std.proofs.lemmas.List.{drop-drop}
use Rattle.std.proofs.lemmas.List.Elements.{All-contains}
use Rattle.rb_machine.specs.Cluster.{Cluster}
use Rattle.rb_replay.specs.Run.{directives, state, outputs}
use Rattle.rb_replay.specs.Points.{last_up_to, AreKept}
use Rattle.rb_replay.specs.Reuse.{Change, start, old_point, new_point, Meets, IsFirstMeeting, stop, IsCost, IsChange, IsOneBlock}
use Rattle.rb_replay.proofs.RunLaws.{states-on, outputs-on}
use Rattle.rb_replay.proofs.PointLaws.{last_up_to-le, last_up_to-near, kept-all, near-next, Contains-cons, Contains-head}

-- from the rest's beginning on, a list goes on as the other one does
pub parts-on : {T : Type 0} (c : Change) (s : ℕ) (xs ys : List T) → drop c.new_rest xs ≡ drop c.old_rest ys → c.new_rest ≤ s → drop s xs ≡ drop (old_point c s) ys
parts-on {T} c s xs ys same from =
    let at : s ≡ c.new_rest + (s - c.new_rest) = omega arith in
    let to : old_point c s ≡ c.old_rest + (s - c.new_rest) = omega arith in
    ap (λ (i : ℕ). drop i xs) at
    ∙ sym (drop-drop (s - c.new_rest) c.new_rest xs)
    ∙ ap (drop (s - c.new_rest)) same
    ∙ drop-drop (s - c.new_rest) c.old_rest ys
    ∙ ap (λ (i : ℕ). drop i ys) (sym to)

rest-on : (c : Change) (s : ℕ) → IsChange c → c.new_rest ≤ s → drop s (directives c.new) ≡ drop (old_point c s) (directives c.old)
rest-on c s is from = parts-on c s (directives c.new) (directives c.old) is.same_rest from

-- where the clusters meet, they are equal from there on
pub states-after : (c : Change) (s t : ℕ) → IsChange c → c.new_rest ≤ s → s ≤ t → state c.new s ≡ state c.old (old_point c s) → state c.new t ≡ state c.old (old_point c t)
states-after c s t is from le same =
    let at : t ≡ s + (t - s) = omega arith in
    let to : old_point c t ≡ old_point c s + (t - s) = omega arith in
    ap (state c.new) at ∙ states-on c.new c.old s (old_point c s) (t - s) (rest-on c s is from) same ∙ ap (state c.old) (sym to)

-- and so are the outputs
pub outputs-after : (c : Change) (s : ℕ) → IsChange c → c.new_rest ≤ s → state c.new s ≡ state c.old (old_point c s) → drop s (outputs c.new) ≡ drop (old_point c s) (outputs c.old)
outputs-after c s is from same = outputs-on c.new c.old s (old_point c s) (rest-on c s is from) same

-- the start is at most `front`, and less than `checkpoint interval` before it
pub start-le : (c : Change) → start c ≤ c.front
start-le c = last_up_to-le c.front c.points

start-near-of : (K n q : ℕ) (ps : List ℕ) → q ≤ n → AreKept K n ps → q < last_up_to q ps + K
start-near-of K n q [] le kept = absurd kept
start-near-of K n q (p ∷ ps) le kept =
    let zero_first : p ≡ 0 = kept.0 in
    let near : q < max p (last_up_to q ps) + K = last_up_to-near K n q p ps (omega arith) le kept.1 in
    start-at p q ps (omega arith) near
  where
    start-at : (p q : ℕ) (ps : List ℕ) → p ≤ q → q < max p (last_up_to q ps) + K → q < last_up_to q (p ∷ ps) + K
    start-at p q ps le near = let t : nat_le p q ≡ true = le-leb p q le in rw t near

pub start-near : (c : Change) → IsChange c → c.front < start c + c.checkpoint_interval
start-near c is = start-near-of c.checkpoint_interval (length c.old.blocks) c.front c.points (omega arith) is.kept

-- a kept point is one of the old script
pub kept-within : (K n : ℕ) (ps : List ℕ) (p : ℕ) → AreKept K n ps → Contains ps p → p ≤ n
kept-within K n ps p kept has = All-contains (λ q. q ≤ n) ps p (kept-all K n ps kept) has

-- the clusters meet within the new script
pub meets-within : (c : Change) (s : ℕ) → IsChange c → Meets c s → s ≤ length c.new.blocks
meets-within c s is m = let t : old_point c s ≤ length c.old.blocks = kept-within c.checkpoint_interval (length c.old.blocks) c.points (old_point c s) is.kept m.is_kept in omega arith

pub stop-within : (c : Change) (o : Option ℕ) → IsChange c → IsFirstMeeting c o → stop c o ≤ length c.new.blocks
stop-within c None is first = omega arith
stop-within c (Some s) is first = meets-within c s is first.0

-- The cost is less than the directives from the front on, and the checkpoint interval.
pub cost-le : (c : Change) (executed : ℕ) → IsChange c → IsCost c executed → executed + c.front + 1 ≤ length c.new.blocks + c.checkpoint_interval
cost-le c executed is cost =
    let to : stop c cost.meeting ≤ length c.new.blocks = stop-within c cost.meeting is cost.is_first in
    let from : c.front < start c + c.checkpoint_interval = start-near c is in
    omega (arith, cost.is_cost)

-- Where the clusters agree as the rest begins, little more is executed than what stands between front and rest.
meets-at : (c : Change) (p : ℕ) → IsChange c → state c.new c.new_rest ≡ state c.old c.old_rest → c.old_rest ≤ p → Contains c.points p → Meets c (new_point c p)
meets-at c p is same le has =
    let back : old_point c (new_point c p) ≡ p = omega arith in
    let begins : old_point c c.new_rest ≡ c.old_rest = omega arith in
    let s : start c ≤ c.front = start-le c in
    let same' : state c.new c.new_rest ≡ state c.old (old_point c c.new_rest) = same ∙ ap (state c.old) (sym begins) in
    record {
      from_start = omega arith;
      in_rest = omega arith;
      is_kept = rw back has;
      same = states-after c c.new_rest (new_point c p) is (omega arith) (omega arith) same';
    }

next-kept : (K n r : ℕ) (ps : List ℕ) → 1 ≤ K → r ≤ n → AreKept K n ps → ((p : ℕ) × Contains ps p × (r ≤ p) × (p < r + K)) ⊎ (n + 1 < r + K)
next-kept K n r [] one le kept = absurd kept
next-kept K n r (x ∷ ps) one le kept =
    elim (cases_lt x r) [
      | inl below ↦ elim (near-next K n r x ps below le kept.1) [
        | inl found ↦ inl (found.0, Contains-cons ps x found.0 found.1, found.2, found.3)
        | inr e ↦ inr e
      ]
      | inr above ↦ inl (x, Contains-head x ps, above, omega (arith, kept.0))
    ]

pub cost-near : (c : Change) (executed : ℕ) → IsChange c → IsCost c executed → state c.new c.new_rest ≡ state c.old c.old_rest → executed + c.front + 2 ≤ 2 * c.checkpoint_interval + c.new_rest
cost-near c executed is cost same =
    let from : c.front < start c + c.checkpoint_interval = start-near c is in
    let to : stop c cost.meeting < c.new_rest + c.checkpoint_interval = stops-soon c is same cost.meeting cost.is_first (next-kept c.checkpoint_interval (length c.old.blocks) c.old_rest c.points is.spaced is.old_within is.kept) in
    omega (arith, cost.is_cost)
  where
    stops-soon : (c : Change) → IsChange c → state c.new c.new_rest ≡ state c.old c.old_rest → (o : Option ℕ) → IsFirstMeeting c o → (((p : ℕ) × Contains c.points p × (c.old_rest ≤ p) × (p < c.old_rest + c.checkpoint_interval)) ⊎ (length c.old.blocks + 1 < c.old_rest + c.checkpoint_interval)) → stop c o < c.new_rest + c.checkpoint_interval
    stops-soon c is same o first (inr e) = let to : stop c o ≤ length c.new.blocks = stop-within c o is first in omega arith
    stops-soon c is same None first (inl f) = absurd (first (new_point c f.0) (meets-at c f.0 is same f.2 f.1))
    stops-soon c is same (Some s) first (inl f) =
        elim (cases_lt (new_point c f.0) s) [
          | inl lt ↦ absurd (first.1 (new_point c f.0) lt (meets-at c f.0 is same f.2 f.1))
          | inr ge ↦ omega (arith, f.3, f.2)
        ]

-- and of one block no more than twice the checkpoint interval, less one
pub cost-small : (c : Change) (executed : ℕ) → IsChange c → IsOneBlock c → IsCost c executed → state c.new c.new_rest ≡ state c.old c.old_rest → executed + 1 ≤ 2 * c.checkpoint_interval
cost-small c executed is one cost same = let near : executed + c.front + 2 ≤ 2 * c.checkpoint_interval + c.new_rest = cost-near c executed is cost same in omega (arith, one.new_to)

-- Where nothing was met up to `at`, running does not stop there.
pub cost-at_least : (c : Change) (at n : ℕ) → ((t : ℕ) → t < at → Meets c t → ⊥) → at ≤ length c.new.blocks → IsCost c n → at - start c ≤ n
cost-at_least c at n unmet within cost = let on : at ≤ stop c cost.meeting = goes-on c at cost.meeting unmet within cost.is_first in omega (arith, cost.is_cost)
  where
    goes-on : (c : Change) (at : ℕ) (o : Option ℕ) → ((t : ℕ) → t < at → Meets c t → ⊥) → at ≤ length c.new.blocks → IsFirstMeeting c o → at ≤ stop c o
    goes-on c at None unmet within first = within
    goes-on c at (Some s) unmet within first = elim (cases_lt s at) [ inl lt ↦ absurd (unmet s lt first.0) | inr ge ↦ ge ]

-- Nothing was met up to `at`, and what is kept there is not the state.
pub unmet_more : (c : Change) (at : ℕ) (m : Cluster) → ((t : ℕ) → t < at → Meets c t → ⊥) → m ≡ state c.new at → (c.new_rest ≤ at → Contains c.points (old_point c at) → m ≡ state c.old (old_point c at) → ⊥) → (t : ℕ) → t < at + 1 → Meets c t → ⊥
unmet_more c at m unmet here differs t lt meets =
    elim (cases_lt t at) [
      | inl before ↦ unmet t before meets
      | inr after ↦
          let same : t ≡ at = omega arith in
          let now : Meets c at = subst (λ (n : ℕ). Meets c n) same meets in
          differs now.in_rest now.is_kept (here ∙ now.same)
    ]

-- There is one first meeting, and so one cost.
first-one : (c : Change) (o p : Option ℕ) → IsFirstMeeting c o → IsFirstMeeting c p → stop c o ≡ stop c p
first-one c None None first other = refl
first-one c None (Some s) first other = absurd (first s other.0)
first-one c (Some s) None first other = absurd (other s first.0)
first-one c (Some s) (Some t) first other =
    elim (cases_lt s t) [
      | inl lt ↦ absurd (other.1 s lt first.0)
      | inr ge ↦ elim (cases_lt t s) [ inl lt ↦ absurd (first.1 t lt other.0) | inr le ↦ omega arith ]
    ]

pub cost-one : (c : Change) (m n : ℕ) → IsCost c m → IsCost c n → m ≡ n
cost-one c m n cost other = let same : stop c cost.meeting ≡ stop c other.meeting = first-one c cost.meeting other.meeting cost.is_first other.is_first in omega (arith, cost.is_cost, other.is_cost)
