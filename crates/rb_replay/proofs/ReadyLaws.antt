-- Laws of what stands ready for a change.
use Rattle.std.proofs.Common.{◌≡◌, ℕ, zero, suc, ◌+◌, ◌-◌, ◌<◌, ◌≤◌, max, min, Bool, List, [], ◌∷◌, ◌++◌, length, take, drop, map, refl, ap, ap₂, sym, ◌∙◌, arith, get_or, true, false, cond, append_assoc, Option, Some, None}
use Rattle.std.specs.Prelude.{All, filter, nat_lt, nat_le, Result, Ok, Err, OnErr}
use Rattle.std.proofs.lemmas.Bool.{le-leb, lt-leb, leb-true, ltb-true}
use Rattle.std.proofs.lemmas.Bool.Decides.{nat_tests}
use Rattle.std.proofs.lemmas.List.{take-append-drop, map-append, take-map, drop-map, take-take, drop_all, append-nil, length-append, length-take-le}
use Rattle.std.proofs.lemmas.List.Elements.{All-head, All-tail}
use Rattle.std.proofs.lemmas.Simd.{map-map}
use Rattle.rb_script.specs.Lines.{Line}
use Rattle.rb_machine.specs.Cluster.{Cluster}
use Rattle.rb_replay.specs.declared.splice.Splice.{Splice}
use Rattle.rb_replay.specs.declared.prepare.Rejoin.{Rejoin}
use Rattle.rb_replay.specs.Run.{directives, state, outputs}
use Rattle.rb_replay.specs.Points.{IsRising, AreNear, AreKept, last_up_to}
use Rattle.rb_replay.specs.Reuse.{Change, start, stop, old_point, new_point, Meets, IsFirstMeeting, IsChange, StayWhole, fresh_points, points_before}
use Rattle.rb_replay.specs.Splices.{front_bound, old_stop, run_points, IsRejoin, IsUpdated}
use Rattle.rb_replay.proofs.RunLaws.{outputs-front, states-front, length-outputs}
use Rattle.rb_replay.proofs.NextLaws.{rising-first}
use Rattle.rb_replay.proofs.PointLaws.{kept-all}
use Rattle.rb_replay.proofs.ReuseLaws.{parts-on, outputs-after, states-after, start-le, kept-within, stop-within}

-- kept points are rising
pub near-rising : (K n before : ℕ) (ps : List ℕ) → AreNear K n before ps → IsRising (before + 1) ps
near-rising K n before [] near = tt
near-rising K n before (p ∷ ps) near = (omega arith, near-rising K n p ps near.2)

pub kept-rising : (K n : ℕ) (ps : List ℕ) → AreKept K n ps → IsRising 0 ps
kept-rising K n [] kept = absurd kept
kept-rising K n (p ∷ ps) kept = (omega arith, near-rising K n p ps kept.1)

-- a kept point, and those after it
pub all-from : (a b : ℕ) (ps : List ℕ) → b ≤ a → IsRising a ps → filter (λ p. nat_le b p) ps ≡ ps
all-from a b [] le rising = refl
all-from a b (p ∷ ps) le rising =
    let yes : nat_le b p ≡ true = le-leb b p (omega arith) in
    rw yes (ap (λ (qs : List ℕ). p ∷ qs) (all-from (p + 1) b ps (omega arith) rising.1))

pub from-kept : (a x k : ℕ) (ps : List ℕ) → IsRising a ps → k < length ps → get_or ps k x ≡ x → filter (λ p. nat_le x p) ps ≡ x ∷ filter (λ p. nat_le (x + 1) p) ps
from-kept a x k [] rising lt is = absurd (omega arith)
from-kept a x zero (p ∷ ps) rising lt is =
    let yes : nat_le x p ≡ true = le-leb x p (omega arith) in
    let past : nat_le (x + 1) p ≡ false = grind (arith, nat_tests) in
    let after : IsRising (p + 1) ps = rising.1 in
    rw (yes, past) (ap₂ (λ (q : ℕ) (qs : List ℕ). q ∷ qs) is (all-from (p + 1) x ps (omega arith) rising.1 ∙ sym (all-from (p + 1) (x + 1) ps (omega arith) rising.1)))
from-kept a x (suc k) (p ∷ ps) rising lt is =
    let above : p + 1 ≤ get_or ps k x = rising-first (p + 1) k x ps rising.1 (omega arith) in
    let before : nat_le x p ≡ false = grind (arith, nat_tests) in
    let before' : nat_le (x + 1) p ≡ false = grind (arith, nat_tests) in
    rw (before, before') (from-kept (p + 1) x k ps rising.1 (omega arith) is)

-- the start, by where it stands
pub none_up_to : (a q : ℕ) (ps : List ℕ) → q < a → IsRising a ps → last_up_to q ps ≡ 0
none_up_to a q [] lt rising = refl
none_up_to a q (p ∷ ps) lt rising =
    let past : nat_le p q ≡ false = grind (arith, nat_tests) in
    rw past (none_up_to (p + 1) q ps (omega arith) rising.1)

pub start-at : (a q k : ℕ) (ps : List ℕ) → IsRising a ps → k < length ps → ((i : ℕ) → i < k + 1 → get_or ps i 0 < q + 1) → (suc k < length ps → q + 1 ≤ get_or ps (suc k) 0) → get_or ps k 0 ≡ last_up_to q ps
start-at a q k [] rising lt below above = absurd (omega arith)
start-at a q zero (p ∷ []) rising lt below above =
    let here : p < q + 1 = below 0 (omega arith) in
    let yes : nat_le p q ≡ true = le-leb p q (omega arith) in
    rw yes (omega arith)
start-at a q zero (p ∷ r ∷ ps) rising lt below above =
    let here : p < q + 1 = below 0 (omega arith) in
    let next : q + 1 ≤ r = above (omega arith) in
    let yes : nat_le p q ≡ true = le-leb p q (omega arith) in
    let none : last_up_to q (r ∷ ps) ≡ 0 = none_up_to r q (r ∷ ps) (omega arith) (omega arith, rising.1.1) in
    rw yes (max-zero p (last_up_to q (r ∷ ps)) none)
  where
    max-zero : (p m : ℕ) → m ≡ 0 → p ≡ max p m
    max-zero p m z = omega arith
start-at a q (suc k) (p ∷ ps) rising lt below above =
    let here : p < q + 1 = below 0 (omega arith) in
    let yes : nat_le p q ≡ true = le-leb p q (omega arith) in
    let ih : get_or ps k 0 ≡ last_up_to q ps = start-at (p + 1) q k ps rising.1 (omega arith) (λ i i_lt. below (suc i) (omega arith)) (λ k_lt. above (omega arith)) in
    let least : p + 1 ≤ get_or ps k 0 = rising-first (p + 1) k 0 ps rising.1 (omega arith) in
    rw yes (larger p (get_or ps k 0) (last_up_to q ps) ih least)
  where
    larger : (p x m : ℕ) → x ≡ m → p + 1 ≤ x → x ≡ max p m
    larger p x m e le = omega arith

pub start-before : (q n : ℕ) (ps : List ℕ) → IsRising 0 ps → 1 ≤ n → n ≤ length ps → ((i : ℕ) → i < n → get_or ps i 0 < q + 1) → (n < length ps → q + 1 ≤ get_or ps n 0) → get_or ps (n - 1) 0 ≡ last_up_to q ps
start-before q zero ps rising one le below above = absurd (omega arith)
start-before q (suc k) ps rising one le below above =
    let index : suc k - 1 ≡ k = omega arith in
    ap (λ (i : ℕ). get_or ps i 0) index ∙ start-at 0 q k ps rising (omega arith) (λ i lt. below i (omega arith)) above

-- the points at a meeting: its own, and those after it
pub points-met : (c : Change) (s : ℕ) → IsChange c → Meets c s → s ∷ map (new_point c) (filter (λ p. nat_le (old_point c s + 1) p) c.points) ≡ map (new_point c) (filter (λ p. nat_le (old_point c s) p) c.points)
points-met c s is m =
    let back : s ≡ new_point c (old_point c s) = there c s m.in_rest in
    ap₂ (λ (q : ℕ) (qs : List ℕ). q ∷ qs) back refl ∙ sym (ap (map (new_point c)) (from-kept 0 (old_point c s) m.is_kept.0 c.points (kept-rising c.checkpoint_interval (length c.old.blocks) c.points is.kept) m.is_kept.1 m.is_kept.2))
  where
    there : (c : Change) (s : ℕ) → c.new_rest ≤ s → s ≡ new_point c (old_point c s)
    there c s le = omega arith

-- what holds anyway holds on an error
pub on_err_always : {T E P : Type 0} (r : Result T E) → P → OnErr r P
on_err_always (Ok x) p = tt
on_err_always (Err e) p = p

-- ---- a front of the front

front-part : {T : Type 0} (c : Change) (i : ℕ) (xs ys : List T) → take c.front xs ≡ take c.front ys → i ≤ c.front → take i xs ≡ take i ys
front-part {T} c i xs ys same le = sym (take-take i c.front xs le) ∙ ap (take i) same ∙ take-take i c.front ys le

front-of : (c : Change) (i : ℕ) → IsChange c → i ≤ c.front → take i (directives c.new) ≡ take i (directives c.old)
front-of c i is le = front-part c i (directives c.new) (directives c.old) is.same_front le

pub states-before : (c : Change) (i : ℕ) → IsChange c → i ≤ c.front → state c.old i ≡ state c.new i
states-before c i is le = sym (states-front c.new c.old i (front-of c i is le))

-- ---- the old run, from where it is used again

-- from there on, blocks that stay and outputs are the old ones
blocks-end : (c : Change) (o : Option ℕ) → StayWhole c → IsFirstMeeting c o → drop (stop c o) c.new.blocks ≡ drop (old_stop c o) c.old.blocks
blocks-end c None whole first = drop_all (length c.new.blocks) c.new.blocks (omega arith) ∙ sym (drop_all (length c.old.blocks) c.old.blocks (omega arith))
blocks-end c (Some s) whole first = parts-on c s c.new.blocks c.old.blocks whole.same_rest first.0.in_rest

outputs-end : (c : Change) (o : Option ℕ) → IsChange c → IsFirstMeeting c o → drop (stop c o) (outputs c.new) ≡ drop (old_stop c o) (outputs c.old)
outputs-end c None is first = drop_all (length c.new.blocks) (outputs c.new) (omega (arith, length-outputs c.new)) ∙ sym (drop_all (length c.old.blocks) (outputs c.old) (omega (arith, length-outputs c.old)))
outputs-end c (Some s) is first = outputs-after c s is first.0.in_rest first.0.same

moved-stop : (c : Change) (o : Option ℕ) → IsChange c → IsFirstMeeting c o → stop c o ≡ old_stop c o - c.old_rest + c.new_rest
moved-stop c None is first = omega (arith, is.lengths, is.old_within)
moved-stop c (Some s) is first = let le : c.new_rest ≤ s = first.0.in_rest in omega arith

rest-first : (c : Change) (o : Option ℕ) → IsChange c → IsFirstMeeting c o → c.old_rest ≤ old_stop c o
rest-first c None is first = is.old_within
rest-first c (Some s) is first = omega arith

pub old_stop-within : (c : Change) (o : Option ℕ) → IsChange c → IsFirstMeeting c o → old_stop c o ≤ length c.old.blocks
old_stop-within c None is first = omega arith
old_stop-within c (Some s) is first = kept-within c.checkpoint_interval (length c.old.blocks) c.points (old_point c s) is.kept first.0.is_kept

pub start-first : (c : Change) (o : Option ℕ) → IsChange c → IsFirstMeeting c o → start c ≤ stop c o
start-first c None is first = let le : start c ≤ c.front = start-le c in omega (arith, is.new_from, is.new_within)
start-first c (Some s) is first = first.0.from_start

pub start-old : (c : Change) (o : Option ℕ) → IsChange c → IsFirstMeeting c o → start c ≤ old_stop c o
start-old c o is first = let le : start c ≤ c.front = start-le c in let rest : c.old_rest ≤ old_stop c o = rest-first c o is first in omega (arith, is.old_from)

-- the old outputs before the start and after the stop, and those of the run between them
pub outputs-ready : (c : Change) (o : Option ℕ) (os : List (List Line)) → IsChange c → IsFirstMeeting c o → take (start c) (outputs c.new) ++ os ≡ take (stop c o) (outputs c.new) → take (start c) (outputs c.old) ++ (os ++ drop (old_stop c o) (outputs c.old)) ≡ outputs c.new
outputs-ready c o os is first on =
    ap₂ (λ (a b : List (List Line)). a ++ (os ++ b)) (sym (outputs-front c.new c.old (start c) (front-of c (start c) is (start-le c)))) (sym (outputs-end c o is first))
    ∙ sym (append_assoc (take (start c) (outputs c.new)) os (drop (stop c o) (outputs c.new)))
    ∙ ap (λ (a : List (List Line)). a ++ drop (stop c o) (outputs c.new)) on
    ∙ take-append-drop (stop c o) (outputs c.new)

-- how many outputs a run brought
pub run-length : (c : Change) (o : Option ℕ) (os : List (List Line)) → IsChange c → IsFirstMeeting c o → take (start c) (outputs c.new) ++ os ≡ take (stop c o) (outputs c.new) → start c + length os ≡ stop c o
run-length c o os is first on =
    let le : start c ≤ stop c o = start-first c o is first in
    let within : stop c o ≤ length c.new.blocks = stop-within c o is first in
    let front : length (take (start c) (outputs c.new)) ≡ start c = length-take-le (start c) (outputs c.new) (omega (arith, length-outputs c.new)) in
    let whole : length (take (stop c o) (outputs c.new)) ≡ stop c o = length-take-le (stop c o) (outputs c.new) (omega (arith, length-outputs c.new)) in
    omega (arith, ap length on, length-append (take (start c) (outputs c.new)) os)

pub new_mismatches-ready : (c : Change) (splice : Splice) (o : Option ℕ) (os : List (List Line)) → splice.old_rest ≡ c.old_rest → splice.new_rest ≡ c.new_rest → IsChange c → StayWhole c → IsFirstMeeting c o → take (start c) (outputs c.new) ++ os ≡ take (stop c o) (outputs c.new) → IsUpdated c.old c.new splice (start c) os (old_stop c o)
new_mismatches-ready c splice o os olds news is whole first on =
    let long : start c + length os ≡ stop c o = run-length c o os is first on in
    record {
      same_front = front-part c (start c) c.new.blocks c.old.blocks whole.same_front (start-le c);
      same_answers = outputs-front c.new c.old (start c) (front-of c (start c) is (start-le c));
      answers_on = on ∙ ap (λ (n : ℕ). take n (outputs c.new)) (sym long);
      same_rest = ap (λ (n : ℕ). drop n c.new.blocks) long ∙ blocks-end c o whole first;
      same_end = ap (λ (n : ℕ). drop n (outputs c.new)) long ∙ outputs-end c o is first;
      moved = rw (olds, news) (long ∙ moved-stop c o is first);
      in_rest = rw olds (rest-first c o is first);
      order = start-old c o is first;
      old_within = old_stop-within c o is first;
      new_within = rw long (stop-within c o is first);
    }

-- ---- clusters that are kept

-- the points of what stays, of what was run, and of what is used again
abbrev pub joined_points : Change → Option ℕ → List ℕ
joined_points c o =
    filter (λ p. nat_lt p (front_bound c o)) c.points ++ (run_points c o ++ map (new_point c) (filter (λ p. nat_le (old_stop c o + 1) p) c.points))

none-past : (n : ℕ) (ps : List ℕ) → All (λ p. p ≤ n) ps → filter (λ p. nat_le (n + 1) p) ps ≡ []
none-past n [] all = refl
none-past n (p ∷ ps) all =
    let here : p ≤ n = All-head (λ p. p ≤ n) p ps all in
    let no : nat_le (n + 1) p ≡ false = lt-leb (n + 1) p (omega arith) in
    rw no (none-past n ps (All-tail (λ p. p ≤ n) p ps all))

pub joined-before : (c : Change) (o : Option ℕ) → IsChange c → IsFirstMeeting c o → joined_points c o ≡ points_before c o
joined-before c None is first =
    let none : filter (λ p. nat_le (length c.old.blocks + 1) p) c.points ≡ [] =
    none-past (length c.old.blocks) c.points (kept-all c.checkpoint_interval (length c.old.blocks) c.points is.kept) in
    ap (λ (ps : List ℕ). filter (λ p. nat_lt p (start c + 1)) c.points ++ (fresh_points c None ++ map (new_point c) ps)) none
    ∙ ap (λ (ps : List ℕ). filter (λ p. nat_lt p (start c + 1)) c.points ++ ps) (append-nil (fresh_points c None))
joined-before c (Some s) is first =
    ap (λ (ps : List ℕ). filter (λ p. nat_lt p (min (start c + 1) s)) c.points ++ ps)
    (append_assoc (fresh_points c (Some s)) (s ∷ []) (map (new_point c) (filter (λ p. nat_le (old_point c s + 1) p) c.points))
    ∙ ap (λ (ps : List ℕ). fresh_points c (Some s) ++ ps) (points-met c s is first.0))

front-small : (c : Change) (o : Option ℕ) (p : ℕ) → p < front_bound c o → p ≤ c.front
front-small c None p lt = let le : start c ≤ c.front = start-le c in omega arith
front-small c (Some s) p lt = let le : start c ≤ c.front = start-le c in omega arith

moved-states : (c : Change) (o : Option ℕ) (p : ℕ) → IsChange c → IsFirstMeeting c o → old_stop c o + 1 ≤ p → p ≤ length c.old.blocks → state c.old p ≡ state c.new (new_point c p)
moved-states c None p is first past within = absurd (omega arith)
moved-states c (Some s) p is first past within =
    let le : c.new_rest ≤ s = first.0.in_rest in
    let back : old_point c (new_point c p) ≡ p = omega arith in
    sym (states-after c s (new_point c p) is le (omega arith) first.0.same ∙ ap (state c.old) back)

-- clusters at the points that pass a test
same-at : (f h : ℕ → Cluster) (test : ℕ → Bool) (n : ℕ) (ps : List ℕ)
    → All (λ p. p ≤ n) ps → ((p : ℕ) → test p ≡ true → p ≤ n → f p ≡ h p) → map f (filter test ps) ≡ map h (filter test ps)
same-at f h test n [] all same = refl
same-at f h test n (p ∷ ps) all same =
    let rest : map f (filter test ps) ≡ map h (filter test ps) = same-at f h test n ps (All-tail (λ p. p ≤ n) p ps all) same in
    elim (test p) as (λ b. test p ≡ b → map f (cond b (p ∷ filter test ps) (filter test ps)) ≡ map h (cond b (p ∷ filter test ps) (filter test ps))) [
      | true ↦ λ yes. ap₂ (λ (x : Cluster) (xs : List Cluster). x ∷ xs) (same p yes (All-head (λ p. p ≤ n) p ps all)) rest
      | false ↦ λ no. rest
    ] refl

pub states-ready : (c : Change) (o : Option ℕ) (rejoin : Rejoin) (kept fresh : List Cluster) → IsChange c → IsFirstMeeting c o → IsRejoin c o rejoin → kept ≡ map (state c.old) c.points → fresh ≡ map (state c.new) (run_points c o)
    → take rejoin.front kept ++ (fresh ++ drop rejoin.rest kept) ≡ map (state c.new) (joined_points c o)
states-ready c o rejoin kept fresh is first at olds run =
    let within : All (λ p. p ≤ length c.old.blocks) c.points = kept-all c.checkpoint_interval (length c.old.blocks) c.points is.kept in
    let one : take rejoin.front kept ≡ map (state c.new) (filter (λ p. nat_lt p (front_bound c o)) c.points) =
    ap (take rejoin.front) olds ∙ take-map (state c.old) rejoin.front c.points ∙ ap (map (state c.old)) at.fronts
    ∙ same-at (state c.old) (state c.new) (λ p. nat_lt p (front_bound c o)) (length c.old.blocks) c.points within
    (λ p lt le. states-before c p is (front-small c o p (ltb-true p (front_bound c o) lt))) in
    let three : drop rejoin.rest kept ≡ map (state c.new) (map (new_point c) (filter (λ p. nat_le (old_stop c o + 1) p) c.points)) =
    ap (drop rejoin.rest) olds ∙ drop-map (state c.old) rejoin.rest c.points ∙ ap (map (state c.old)) at.rests
    ∙ same-at (state c.old) (λ p. state c.new (new_point c p)) (λ p. nat_le (old_stop c o + 1) p) (length c.old.blocks) c.points within
    (λ p past le. moved-states c o p is first (leb-true (old_stop c o + 1) p past) le)
    ∙ sym (map-map (state c.new) (new_point c) (filter (λ p. nat_le (old_stop c o + 1) p) c.points)) in
    ap₂ (λ (a b : List Cluster). a ++ b) one (ap₂ (λ (a b : List Cluster). a ++ b) run three ∙ sym (map-append (state c.new) (run_points c o) (map (new_point c) (filter (λ p. nat_le (old_stop c o + 1) p) c.points))))
    ∙ sym (map-append (state c.new) (filter (λ p. nat_lt p (front_bound c o)) c.points) (run_points c o ++ map (new_point c) (filter (λ p. nat_le (old_stop c o + 1) p) c.points)))

-- the front stays before the rest
pub bounds-order : (c : Change) (o : Option ℕ) → IsChange c → IsFirstMeeting c o → front_bound c o ≤ old_stop c o + 1
bounds-order c None is first = let le : start c ≤ old_stop c None = start-old c None is first in omega arith
bounds-order c (Some s) is first = let le : start c ≤ old_stop c (Some s) = start-old c (Some s) is first in omega arith
