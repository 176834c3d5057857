-- The points of a changed script are near.
use Rattle.std.proofs.Common.{◌≡◌, ℕ, zero, suc, ◌+◌, ◌-◌, ◌*◌, ◌/◌, ◌<◌, ◌≤◌, max, min, List, [], ◌∷◌, ◌++◌, length, map, refl, ap, ap₂, sym, ◌∙◌, arith, Option, Some, None, inl, inr, get_or, true, false, subst}
use Rattle.std.specs.Prelude.{Contains, filter, nat_lt, nat_le}
use Rattle.std.proofs.lemmas.Bool.{cases_lt, le-leb, lt-leb}
use Rattle.std.proofs.lemmas.Bool.Decides.{leb_tells}
use Rattle.std.proofs.lemmas.List.{append-nil}
use Rattle.std.proofs.Math.Nat.{div-eq_of_lt, div-mul-le_self, lt-div-mul-add}
use Rattle.rb_replay.specs.Points.{IsRising, AreNear, AreKept, AreSparse, AreSparseAfter, last_up_to, every}
use Rattle.rb_replay.specs.Reuse.{Change, start, old_point, new_point, Meets, IsFirstMeeting, IsChange, fresh_points, points_before, points_after}
use Rattle.rb_replay.proofs.NextLaws.{rising-first}
use Rattle.rb_replay.proofs.PointLaws.{StartNear, thin-kept}
use Rattle.rb_replay.proofs.PartLaws.{nothing_below}
use Rattle.rb_replay.proofs.ReuseLaws.{start-le}
use Rattle.rb_replay.proofs.ReadyLaws.{near-rising, all-from, none_up_to, points-met}

-- steps of at most K from a to b
abbrev pub Leads : ℕ → ℕ → List ℕ → ℕ → Type 0
Leads K a [] b = a ≡ b
Leads K a (x ∷ xs) b = (a < x) × (x ≤ a + K) × Leads K x xs b

leads-near : (K n a b : ℕ) (xs ys : List ℕ) → Leads K a xs b → AreNear K n b ys → AreNear K n a (xs ++ ys)
leads-near K n a b [] ys leads near = subst (λ (x : ℕ). AreNear K n x ys) (sym leads) near
leads-near K n a b (x ∷ xs) ys leads near = (leads.0, leads.1, leads-near K n x b xs ys leads.2 near)

leads-snoc : (K a b x : ℕ) (xs : List ℕ) → Leads K a xs b → b < x → x ≤ b + K → Leads K a (xs ++ x ∷ []) x
leads-snoc K a b x [] leads lt le = (omega arith, omega arith, refl)
leads-snoc K a b x (y ∷ xs) leads lt le = (leads.0, leads.1, leads-snoc K y b x xs leads.2 lt le)

every-leads : (K from j : ℕ) → 1 ≤ K → Leads K from (every K from j) (from + j * K)
every-leads K from zero one = omega arith
every-leads K from (suc j) one = leads-snoc K from (from + j * K) (from + suc j * K) (every K from j) (every-leads K from j one) (omega arith) (omega arith)

front-leads : (K n q a m : ℕ) (ps : List ℕ) → AreNear K n a ps → a ≤ q → m ≡ max a (last_up_to q ps) → Leads K a (filter (λ p. nat_lt p (m + 1)) ps) m
front-leads K n q a m [] near le e = omega arith
front-leads K n q a m (p ∷ ps) near le e =
    elim (leb_tells p q) [
      | inl t ↦
          let last : last_up_to q (p ∷ ps) ≡ max p (last_up_to q ps) = rw t.0 refl in
          let m_is : m ≡ max p (last_up_to q ps) = omega (arith, near.0) in
          let yes : nat_lt p (m + 1) ≡ true = le-leb (suc p) (m + 1) (omega arith) in
          rw yes (near.0, near.1, front-leads K n q p m ps near.2 t.1 m_is)
      | inr f ↦
          let rising : IsRising (p + 1) ps = near-rising K n p ps near.2 in
          let last : last_up_to q (p ∷ ps) ≡ 0 = none_up_to p q (p ∷ ps) f.1 (omega arith, rising) in
          let m_is : m ≡ a = omega arith in
          rw (← (nothing_below p (m + 1) (p ∷ ps) (omega (arith, near.0)) (omega arith, rising)).0) (sym m_is)
    ]

below-leads : (K n a b : ℕ) (ps : List ℕ) → AreNear K n a ps → a < b → b ≤ n + 1 → (e : ℕ) × Leads K a (filter (λ p. nat_lt p b) ps) e × (e < b) × (b ≤ e + K)
below-leads K n a b [] near lt le = (a, refl, lt, omega arith)
below-leads K n a b (p ∷ ps) near lt le =
    elim (leb_tells (suc p) b) [
      | inl t ↦
          let ih = below-leads K n p b ps near.2 t.1 le in
          rw t.0 (ih.0, (near.0, near.1, ih.1), ih.2, ih.3)
      | inr f ↦
          rw (← (nothing_below p b (p ∷ ps) (omega arith) (omega arith, near-rising K n p ps near.2)).0) (a, refl, lt, omega (arith, near.1))
    ]

-- those after a kept point
after-kept : (K n x k p : ℕ) (ps : List ℕ) → AreNear K n p ps → k < suc (length ps) → get_or (p ∷ ps) k x ≡ x → AreNear K n x (filter (λ y. nat_le (x + 1) y) (p ∷ ps))
after-kept K n x zero p ps near lt is =
    let past : nat_le (x + 1) p ≡ false = lt-leb (x + 1) p (omega (arith, is)) in
    rw past (rw (all-from (p + 1) (x + 1) ps (omega (arith, is)) (near-rising K n p ps near)) (subst (λ (y : ℕ). AreNear K n y ps) is near))
after-kept K n x (suc k) p [] near lt is = absurd (omega arith)
after-kept K n x (suc k) p (q ∷ ps) near lt is =
    let above : p + 1 ≤ get_or (q ∷ ps) k x = rising-first (p + 1) k x (q ∷ ps) (near-rising K n p (q ∷ ps) near) (omega arith) in
    let before : nat_le (x + 1) p ≡ false = lt-leb (x + 1) p (omega (arith, is)) in
    rw before (after-kept K n x k q ps near.2 (omega arith) is)

shift-near : (K n x r t : ℕ) (ps : List ℕ) → AreNear K n x ps → r ≤ x → AreNear K (n - r + t) (x - r + t) (map (λ p. p - r + t) ps)
shift-near K n x r t [] near le = (omega arith, omega arith)
shift-near K n x r t (p ∷ ps) near le = (omega (arith, near.0), omega (arith, near.0, near.1), shift-near K n p r t ps near.2 (omega (arith, near.0)))

-- how far the points on the way go
on_way : (K d : ℕ) → 1 ≤ K → ((d / K) * K ≤ d) × (d < (d / K) * K + K)
on_way K d one = let pos : zero < K = omega arith in (div-mul-le_self d K, lt-div-mul-add pos)

-- the points on the way up to the end
way-end : (K n st : ℕ) → 1 ≤ K → st ≤ n → AreNear K n st (every K st ((n - st) / K))
way-end K n st one le =
    let far = on_way K (n - st) one in
    subst (AreNear K n st) (append-nil (every K st ((n - st) / K)))
    (leads-near K n st (st + ((n - st) / K) * K) (every K st ((n - st) / K)) [] (every-leads K st ((n - st) / K) one) (omega (arith, far.0), omega (arith, far.1)))

-- the points up to the start, and near ones from there on
front-near : (K q n m st : ℕ) (ps rest : List ℕ) → AreKept K n ps → st ≡ last_up_to q ps → st ≤ q → AreNear K m st rest
    → StartNear K m (filter (λ y. nat_lt y (st + 1)) ps ++ rest)
front-near K q n m st [] rest kept e st_le near = absurd kept
front-near K q n m st (p ∷ ps) rest kept e st_le near =
    let first : p ≡ 0 = kept.0 in
    let yes : nat_le p q ≡ true = le-leb p q (omega arith) in
    let last : last_up_to q (p ∷ ps) ≡ max p (last_up_to q ps) = rw yes refl in
    let here : nat_lt p (st + 1) ≡ true = le-leb (suc p) (st + 1) (omega arith) in
    rw here (first, leads-near K m p st (filter (λ y. nat_lt y (st + 1)) ps) rest (front-leads K n q p st ps kept.1 (omega arith) (e ∙ last)) near)

-- a tail that begins at a meeting
met-near : (K q n m st s b : ℕ) (ps tail : List ℕ) → 1 ≤ K → AreKept K n ps → st ≡ last_up_to q ps → st ≤ q → q ≤ n → st ≤ s → b ≡ min (st + 1) s → AreNear K m s tail
    → StartNear K m (filter (λ p. nat_lt p b) ps ++ (every K st ((s - 1 - st) / K) ++ s ∷ tail))
met-near K q n m st s b ps tail one kept e st_le q_le st_s b_is near =
    elim (cases_lt st s) [
      | inl lt ↦
          let whole : b ≡ st + 1 = omega arith in
          let far = on_way K (s - 1 - st) one in
          subst (λ (w : ℕ). StartNear K m (filter (λ y. nat_lt y w) ps ++ (every K st ((s - 1 - st) / K) ++ s ∷ tail))) (sym whole)
          (front-near K q n m st ps (every K st ((s - 1 - st) / K) ++ s ∷ tail) kept e st_le
          (leads-near K m st (st + ((s - 1 - st) / K) * K) (every K st ((s - 1 - st) / K)) (s ∷ tail) (every-leads K st ((s - 1 - st) / K) one)
          (omega (arith, far.0), omega (arith, far.1), near)))
      | inr ge ↦
          let whole : b ≡ s = omega arith in
          let none : (s - 1 - st) / K ≡ 0 = div-eq_of_lt (omega arith) in
          subst (λ (w : ℕ). StartNear K m (filter (λ y. nat_lt y w) ps ++ (every K st ((s - 1 - st) / K) ++ s ∷ tail))) (sym whole)
          (subst (λ (j : ℕ). StartNear K m (filter (λ y. nat_lt y s) ps ++ (every K st j ++ s ∷ tail))) (sym none) (at_start K n m s ps tail kept (omega arith) near))
    ]
  where
    at_start : (K n m s : ℕ) (ps tail : List ℕ) → AreKept K n ps → s ≤ n → AreNear K m s tail → StartNear K m (filter (λ y. nat_lt y s) ps ++ ([] ++ s ∷ tail))
    at_start K n m s [] tail kept le near = absurd kept
    at_start K n m s (p ∷ ps) tail kept le near =
        elim (cases_lt p s) [
          | inl lt ↦
              let here : nat_lt p s ≡ true = le-leb (suc p) s lt in
              let front = below-leads K n p s ps kept.1 lt (omega arith) in
              rw here (kept.0, leads-near K m p front.0 (filter (λ y. nat_lt y s) ps) (s ∷ tail) front.1 (front.2, front.3, near))
          | inr ge ↦
              let none : [] ≡ filter (λ y. nat_lt y s) (p ∷ ps) = (nothing_below p s (p ∷ ps) ge (omega arith, near-rising K n p ps kept.1)).0 in
              subst (λ (xs : List ℕ). StartNear K m (xs ++ ([] ++ s ∷ tail))) none (omega (arith, kept.0), near)
        ]

tail-near : (K n r t s x : ℕ) (ps : List ℕ) → AreKept K n ps → Contains ps x → r ≤ x → s ≡ x - r + t → AreNear K (n - r + t) s (map (λ p. p - r + t) (filter (λ p. nat_le (x + 1) p) ps))
tail-near K n r t s x [] kept has le e = absurd kept
tail-near K n r t s x (p ∷ ps) kept has le e = rw e (shift-near K n x r t (filter (λ y. nat_le (x + 1) y) (p ∷ ps)) (after-kept K n x has.0 p ps kept.1 has.1 has.2) le)

-- the points before thinning are near, and so those of the changed script are near, and few
pub before-near : (c : Change) (o : Option ℕ) → IsChange c → IsFirstMeeting c o → StartNear c.checkpoint_interval (length c.new.blocks) (points_before c o)
before-near c None is first =
    let le : start c ≤ c.front = start-le c in
    front-near c.checkpoint_interval c.front (length c.old.blocks) (length c.new.blocks) (start c) c.points (fresh_points c None) is.kept refl le
    (way-end c.checkpoint_interval (length c.new.blocks) (start c) is.spaced (omega (arith, is.new_from, is.new_within)))
before-near c (Some s) is first =
    let m : Meets c s = first.0 in
    let le : start c ≤ c.front = start-le c in
    let long : length c.old.blocks - c.old_rest + c.new_rest ≡ length c.new.blocks = omega (arith, is.lengths, is.old_within) in
    let there : s ≡ old_point c s - c.old_rest + c.new_rest = omega (arith, m.in_rest) in
    let near : AreNear c.checkpoint_interval (length c.new.blocks) s (map (new_point c) (filter (λ p. nat_le (old_point c s + 1) p) c.points)) =
    subst (λ (n : ℕ). AreNear c.checkpoint_interval n s (map (new_point c) (filter (λ p. nat_le (old_point c s + 1) p) c.points))) long (tail-near c.checkpoint_interval (length c.old.blocks) c.old_rest c.new_rest s (old_point c s) c.points is.kept m.is_kept (omega arith) there) in
    rw (← (points-met c s is m)) (met-near c.checkpoint_interval c.front (length c.old.blocks) (length c.new.blocks) (start c) s (min (start c + 1) s) c.points
    (map (new_point c) (filter (λ p. nat_le (old_point c s + 1) p) c.points)) is.spaced is.kept refl le
    (omega (arith, is.old_from, is.old_within)) m.from_start refl near)

pub points-kept : (c : Change) (o : Option ℕ) → IsChange c → IsFirstMeeting c o → AreKept c.checkpoint_interval (length c.new.blocks) (points_after c o)
points-kept c o is first = thin-kept c.checkpoint_interval (length c.new.blocks) (points_before c o) (before-near c o is first)

-- and they are ascending
start-rising : (K n : ℕ) (ps : List ℕ) → StartNear K n ps → IsRising 0 ps
start-rising K n [] near = absurd near
start-rising K n (p ∷ ps) near = (omega arith, near-rising K n p ps near.1)

pub before-rising : (c : Change) (o : Option ℕ) → IsChange c → IsFirstMeeting c o → IsRising 0 (points_before c o)
before-rising c o is first = start-rising c.checkpoint_interval (length c.new.blocks) (points_before c o) (before-near c o is first)

-- the points that a start keeps
every-first : (K from j : ℕ) → every K from (suc j) ≡ (from + K) ∷ every K (from + K) j
every-first K from zero = ap (λ (x : ℕ). x ∷ []) (omega arith)
every-first K from (suc j) = ap₂ (λ (xs : List ℕ) (x : ℕ). xs ++ x ∷ []) (every-first K from j) (omega arith)

every-sparse : (K a j : ℕ) → 1 ≤ K → AreSparse K a (a + K) (every K (a + K) j)
every-sparse K a zero one = tt
every-sparse K a (suc j) one = rw every-first (omega arith, every-sparse K (a + K) j one)

every-after : (K j : ℕ) → 1 ≤ K → AreSparseAfter K 0 (every K 0 j)
every-after K zero one = tt
every-after K (suc j) one = rw every-first (every-sparse K 0 j one)

pub start-kept : (K n : ℕ) → 1 ≤ K → AreKept K n (0 ∷ every K 0 (n / K))
start-kept K n one =
    let whole : n - 0 ≡ n = omega arith in
    (refl, subst (λ (d : ℕ). AreNear K n 0 (every K 0 (d / K))) whole (way-end K n 0 one (omega arith)), every-after K (n / K) one)
