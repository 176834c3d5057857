-- Spots: an index and the term of the entry there. Links make a tree of them, whose root is where all logs begin; a log is a way down from
-- its last spot. Nothing here is about nodes.
use Rattle.std.proofs.Common.{◌≡◌, ℕ, zero, suc, ◌-◌, ◌<◌, ◌≤◌, List, refl, sym, ap, subst, ◌∙◌, arith, inl, inr}
use Rattle.std.specs.Prelude.{Contains}
use Rattle.std.proofs.lemmas.Bool.{cases_lt}
use Rattle.rb_laws.proofs.Links.{Link, AreSingle, Extends}

pub record Spot : Type 0 where
  pub index : ℕ
  pub term : ℕ

abbrev pub spot : ℕ → ℕ → Spot
spot index term = record { index = index; term = term }

pub same_spot : (x y : Spot) → x.index ≡ y.index → x.term ≡ y.term → x ≡ y
same_spot x y index term = ap (λ (i : ℕ). spot i x.term) index ∙ ap (λ (t : ℕ). spot y.index t) term

-- where a link's entry stands, and the spot before it
abbrev pub site : Link → Spot
site l = spot l.index l.entry.term

abbrev pub under : Link → Spot
under l = spot (l.index - 1) l.before

-- the second spot is this number of links below the first
abbrev pub Down : List Link → Spot → ℕ → Spot → Type 0
Down ls low zero x = x ≡ low
Down ls low (suc d) x = (l : Link) × Contains ls l × (site l ≡ x) × Down ls low d (under l)

-- a log that ends site x has the spot low, if it begins no later
pub record Descends (ls : List Link) (x low : Spot) : Type 0 where
  pub steps : ℕ
  pub down : Down ls low steps x

pub record IsTree (root : Spot) (ls : List Link) : Type 0 where
  pub single : AreSingle ls
  pub above : (l : Link) → Contains ls l → root.index < l.index
  pub rising : (l : Link) → Contains ls l → l.before ≤ l.entry.term
  pub rooted : (l : Link) → Contains ls l → Descends ls (under l) root

-- ---- ways down

pub here : (ls : List Link) (x : Spot) → Descends ls x x
here ls x = record { steps = zero; down = refl }

pub one_down : (ls : List Link) (l : Link) (low : Spot) → Contains ls l → Descends ls (under l) low → Descends ls (site l) low
one_down ls l low among r = record { steps = suc r.steps; down = (l, among, refl, r.down) }

down_then : (ls : List Link) (a b c : Spot) (d e : ℕ) → Down ls a d b → Down ls b e c → Descends ls c a
down_then ls a b c d zero h k = record { steps = d; down = subst (λ (x : Spot). Down ls a d x) (sym k) h }
down_then ls a b c d (suc e) h k =
    let r = down_then ls a b (under k.0) d e h k.3 in
    record { steps = suc r.steps; down = (k.0, k.1, k.2, r.down) }

pub through : (ls : List Link) (a b c : Spot) → Descends ls c b → Descends ls b a → Descends ls c a
through ls a b c p q = down_then ls a b c q.steps p.steps q.down p.down

still_down : (old new : List Link) (low x : Spot) (d : ℕ) → Extends old new → Down old low d x → Down new low d x
still_down old new low x zero more h = h
still_down old new low x (suc d) more h = (h.0, more h.0 h.1, h.2, still_down old new low (under h.0) d more h.3)

pub still_descends : (old new : List Link) (x low : Spot) → Extends old new → Descends old x low → Descends new x low
still_descends old new x low more r = record { steps = r.steps; down = still_down old new low x r.steps more r.down }

-- ---- indexes and terms rise

index_down : (ls : List Link) (low x : Spot) (d : ℕ) → Down ls low d x → low.index ≤ x.index
index_down ls low x zero h = let e = ap (λ (s : Spot). s.index) h in omega (arith, e)
index_down ls low x (suc d) h =
    let below = index_down ls low (under h.0) d h.3 in
    let e = ap (λ (s : Spot). s.index) h.2 in
    omega (arith, below, e)

pub lower : (ls : List Link) (x low : Spot) → Descends ls x low → low.index ≤ x.index
lower ls x low r = index_down ls low x r.steps r.down

term_down : (root : Spot) (ls : List Link) (low x : Spot) (d : ℕ) → IsTree root ls → Down ls low d x → low.term ≤ x.term
term_down root ls low x zero tree h = let e = ap (λ (s : Spot). s.term) h in omega (arith, e)
term_down root ls low x (suc d) tree h =
    let below = term_down root ls low (under h.0) d tree h.3 in
    let up = tree.rising h.0 h.1 in
    let e = ap (λ (s : Spot). s.term) h.2 in
    omega (arith, below, up, e)

pub older : (root : Spot) (ls : List Link) (x low : Spot) → IsTree root ls → Descends ls x low → low.term ≤ x.term
older root ls x low tree r = term_down root ls low x r.steps tree r.down

-- ---- one way down from each spot

flat_down : (root : Spot) (ls : List Link) (low x : Spot) (d : ℕ) → IsTree root ls → Down ls low d x → low.index ≡ x.index → x ≡ low
flat_down root ls low x zero tree h same = h
flat_down root ls low x (suc d) tree h same =
    let below = index_down ls low (under h.0) d h.3 in
    let past = tree.above h.0 h.1 in
    let e = ap (λ (s : Spot). s.index) h.2 in
    absurd (omega (arith, below, past, e, same))

pub flat : (root : Spot) (ls : List Link) (x low : Spot) → IsTree root ls → Descends ls x low → low.index ≡ x.index → x ≡ low
flat root ls x low tree r same = flat_down root ls low x r.steps tree r.down same

pub same_link : (root : Spot) (ls : List Link) (x : Spot) (l m : Link) → IsTree root ls → Contains ls l → Contains ls m → site l ≡ x → site m ≡ x → l ≡ m
same_link root ls x l m tree first second a b =
    let e = a ∙ sym b in
    tree.single l m first second (ap (λ (s : Spot). s.index) e) (ap (λ (s : Spot). s.term) e)

line_down : (root : Spot) (ls : List Link) (a b x : Spot) (d e : ℕ) → IsTree root ls → Down ls a d x → Down ls b e x → a.index ≤ b.index → Descends ls b a
line_down root ls a b x d zero tree h k low = record { steps = d; down = subst (λ (s : Spot). Down ls a d s) k h }
line_down root ls a b x zero (suc e) tree h k low =
    let below = index_down ls b (under k.0) e k.3 in
    let past = tree.above k.0 k.1 in
    let here_index = ap (λ (s : Spot). s.index) k.2 in
    let same = ap (λ (s : Spot). s.index) h in
    absurd (omega (arith, below, past, here_index, same, low))
line_down root ls a b x (suc d) (suc e) tree h k low =
    let one : k.0 ≡ h.0 = same_link root ls x k.0 h.0 tree k.1 h.1 k.2 h.2 in
    line_down root ls a b (under h.0) d e tree h.3 (subst (λ (l : Link). Down ls b e (under l)) one k.3) low

-- of two spots on one way down, the higher reaches the lower
pub line : (root : Spot) (ls : List Link) (x a b : Spot) → IsTree root ls → Descends ls x a → Descends ls x b → a.index ≤ b.index → Descends ls b a
line root ls x a b tree p q low = line_down root ls a b x p.steps q.steps tree p.down q.down low

-- at an index there is one
pub one_at : (root : Spot) (ls : List Link) (x a b : Spot) → IsTree root ls → Descends ls x a → Descends ls x b → a.index ≡ b.index → b ≡ a
one_at root ls x a b tree p q same = flat root ls b a tree (line root ls x a b tree p q (omega (arith, same))) same

stop_down : (root : Spot) (ls : List Link) (i : ℕ) (x : Spot) (d : ℕ) → Down ls root d x → root.index ≤ i → i ≤ x.index → (t : ℕ) × Descends ls x (spot i t)
stop_down root ls i x zero h above within =
    let e = ap (λ (s : Spot). s.index) h in
    (x.term, record { steps = zero; down = same_spot x (spot i x.term) (omega (arith, e, above, within)) refl })
stop_down root ls i x (suc d) h above within =
    elim (cases_lt i x.index) as (λ _. (t : ℕ) × Descends ls x (spot i t)) [
      | inr over ↦ (x.term, record { steps = zero; down = same_spot x (spot i x.term) (omega (arith, over, within)) refl })
      | inl low ↦
          let e = ap (λ (s : Spot). s.index) h.2 in
          let r = stop_down root ls i (under h.0) d h.3 above (omega (arith, low, e)) in
          (r.0, record { steps = suc r.1.steps; down = (h.0, h.1, h.2, r.1.down) })
    ]

-- at each index down to the root there is one
pub stop : (root : Spot) (ls : List Link) (i : ℕ) (x : Spot) → Descends ls x root → root.index ≤ i → i ≤ x.index → (t : ℕ) × Descends ls x (spot i t)
stop root ls i x r above within = stop_down root ls i x r.steps r.down above within

-- a spot that is no root has a link
first_down : (ls : List Link) (low x : Spot) (d : ℕ) → Down ls low d x → low.index < x.index → (l : Link) × Contains ls l × (site l ≡ x)
first_down ls low x zero h past = let e = ap (λ (s : Spot). s.index) h in absurd (omega (arith, e, past))
first_down ls low x (suc d) h past = (h.0, h.1, h.2)

pub link_of : (ls : List Link) (x low : Spot) → Descends ls x low → low.index < x.index → (l : Link) × Contains ls l × (site l ≡ x)
link_of ls x low r past = first_down ls low x r.steps r.down past

pub link_rooted : (root : Spot) (ls : List Link) (l : Link) → IsTree root ls → Contains ls l → Descends ls (site l) root
link_rooted root ls l tree among = one_down ls l root among (tree.rooted l among)
