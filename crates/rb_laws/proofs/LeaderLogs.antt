-- Elections and acknowledgements over links: the log of a term's leader grows at its end, what it lacks of an earlier leader's, and what a vote keeps
-- (Ongaro's thesis, sections 3.4 and 3.6.3). Nothing here is about nodes.
use Rattle.std.proofs.Common.{◌≡◌, ◌⊎◌, ℕ, zero, suc, ◌-◌, ◌<◌, ◌≤◌, List, refl, sym, ap, subst, ◌∙◌, arith, inl, inr}
use Rattle.std.specs.Prelude.{Contains}
use Rattle.std.proofs.lemmas.Bool.{cases_lt, cases_eq}
use Rattle.rb_laws.proofs.Links.{Link}
use Rattle.rb_laws.proofs.Spots.{Spot, spot, same_spot, site, under, Descends, IsTree, here, one_down, through, lower, older, flat, line, one_at, stop, link_of, link_rooted}

-- a node that stood in a term, or was elected in it, and where its log ended then
pub record Election : Type 0 where
  pub term : ℕ
  pub id : ℕ
  pub tip : Spot

-- a node's answer to a leader of a term: it holds that leader's log up to an index
pub record Ack : Type 0 where
  pub voter : ℕ
  pub term : ℕ
  pub index : ℕ

-- what happened: the links that were made, who stood in which terms, who of them was elected, and what was acknowledged
pub record History : Type 0 where
  pub links : List Link
  pub candidacies : List Election
  pub elections : List Election
  pub acks : List Ack
  -- the candidacies and the acknowledgements that other nodes may have heard of
  pub out_candidacies : List Election
  pub out_acks : List Ack

-- the part of it that other nodes may have heard of
abbrev pub out_of : History → History
out_of st = record st { candidacies = st.out_candidacies; acks = st.out_acks }

-- A link of a term was made by who was elected in it: behind the tip of its log then, or behind another link of the term.
pub record IsBuilt (st : History) (l : Link) : Type 0 where
  pub election : Election
  pub among : Contains st.elections election
  pub of_term : election.term ≡ l.entry.term
  pub past : election.tip.index < l.index
  pub behind : (under l ≡ election.tip) ⊎ ((m : Link) × Contains st.links m × (m.entry.term ≡ l.entry.term) × (site m ≡ under l))

pub record IsHistory (root : Spot) (st : History) : Type 0 where
  pub tree : IsTree root st.links
  pub once : (a b : Election) → Contains st.elections a → Contains st.elections b → a.term ≡ b.term → a ≡ b
  pub rooted : (e : Election) → Contains st.elections e → Descends st.links e.tip root
  pub made : (l : Link) → Contains st.links l → IsBuilt st l

-- ---- a leader's log grows at its end

pub from_tip : (root : Spot) (st : History) (n : ℕ) (l : Link) (e : Election) → IsHistory root st → l.index ≤ n → Contains st.links l → Contains st.elections e → e.term ≡ l.entry.term → Descends st.links (site l) e.tip
from_tip root st zero l e s low among elected term =
    let past = (s.made l among).past in
    absurd (omega (arith, low, past))
from_tip root st (suc n) l e s low among elected term =
    let made = s.made l among in
    let past = made.past in
    let same : made.election ≡ e = s.once made.election e made.among elected (made.of_term ∙ sym term) in
    elim made.behind as (λ _. Descends st.links (site l) e.tip) [
      | inl first ↦
          one_down st.links l e.tip among
          (subst (λ (x : Spot). Descends st.links x e.tip) (sym (first ∙ ap (λ (x : Election). x.tip) same)) (here st.links e.tip))
      | inr next ↦
          let index : next.0.index ≡ l.index - 1 = ap (λ (x : Spot). x.index) next.3 in
          let r = from_tip root st n next.0 e s (omega (arith, low, index, past)) next.1 elected (term ∙ sym next.2) in
          one_down st.links l e.tip among (subst (λ (x : Spot). Descends st.links x e.tip) next.3 r)
    ]

pub from_link : (root : Spot) (st : History) (n : ℕ) (l m : Link) → IsHistory root st → l.index ≤ n → Contains st.links l → Contains st.links m → m.entry.term ≡ l.entry.term → m.index ≤ l.index → Descends st.links (site l) (site m)
from_link root st zero l m s low one two term less =
    let past = (s.made l one).past in
    absurd (omega (arith, low, past))
from_link root st (suc n) l m s low one two term less =
    let made = s.made l one in
    let past = made.past in
    elim (cases_lt m.index l.index) as (λ _. Descends st.links (site l) (site m)) [
      | inr over ↦
          subst (λ (x : Spot). Descends st.links (site l) x) (same_spot (site l) (site m) (omega (arith, over, less)) (sym term)) (here st.links (site l))
      | inl below ↦ elim made.behind as (λ _. Descends st.links (site l) (site m)) [
        | inl first ↦
            let other = s.made m two in
            let beyond = other.past in
            let same : other.election ≡ made.election = s.once other.election made.election other.among made.among (other.of_term ∙ term ∙ sym made.of_term) in
            let tips : other.election.tip.index ≡ l.index - 1 = ap (λ (x : Election). x.tip.index) same ∙ sym (ap (λ (x : Spot). x.index) first) in
            absurd (omega (arith, beyond, tips, below, past))
        | inr next ↦
            let index : next.0.index ≡ l.index - 1 = ap (λ (x : Spot). x.index) next.3 in
            let r = from_link root st n next.0 m s (omega (arith, low, index, past)) next.1 two (term ∙ sym next.2) (omega (arith, index, below)) in
            one_down st.links l (site m) one (subst (λ (x : Spot). Descends st.links x (site m)) next.3 r)
      ]
    ]

-- where the log of a term's leader ended at some time
pub record IsTip (st : History) (term : ℕ) (x : Spot) : Type 0 where
  pub election : Election
  pub among : Contains st.elections election
  pub of_term : election.term ≡ term
  pub is : (x ≡ election.tip) ⊎ ((l : Link) × Contains st.links l × (l.entry.term ≡ term) × (site l ≡ x))

-- a spot of that leader's log
pub record IsOfTerm (st : History) (term : ℕ) (x : Spot) : Type 0 where
  pub tip : Spot
  pub ends : IsTip st term tip
  pub descends : Descends st.links tip x

tips_meet : (root : Spot) (st : History) (term : ℕ) (x y : Spot) → IsHistory root st → IsTip st term x → IsTip st term y → x.index ≤ y.index → Descends st.links y x
tips_meet root st term x y s a b low =
    let same : a.election ≡ b.election = s.once a.election b.election a.among b.among (a.of_term ∙ sym b.of_term) in
    elim a.is as (λ _. Descends st.links y x) [
      | inl first ↦ elim b.is as (λ _. Descends st.links y x) [
        | inl second ↦
            subst (λ (z : Spot). Descends st.links y z) (second ∙ sym (ap (λ (e : Election). e.tip) same) ∙ sym first) (here st.links y)
        | inr l ↦
            let r = from_tip root st l.0.index l.0 a.election s (omega arith) l.1 a.among (a.of_term ∙ sym l.2) in
            subst (λ (z : Spot). Descends st.links z x) l.3 (subst (λ (z : Spot). Descends st.links (site l.0) z) (sym first) r)
      ]
      | inr m ↦ elim b.is as (λ _. Descends st.links y x) [
        | inl second ↦
            let made = s.made m.0 m.1 in
            let past = made.past in
            let one : made.election ≡ b.election = s.once made.election b.election made.among b.among (made.of_term ∙ m.2 ∙ sym b.of_term) in
            let tips : made.election.tip.index ≡ y.index = ap (λ (e : Election). e.tip.index) one ∙ sym (ap (λ (z : Spot). z.index) second) in
            let index : m.0.index ≡ x.index = ap (λ (z : Spot). z.index) m.3 in
            absurd (omega (arith, past, tips, index, low))
        | inr l ↦
            let first : m.0.index ≡ x.index = ap (λ (z : Spot). z.index) m.3 in
            let second : l.0.index ≡ y.index = ap (λ (z : Spot). z.index) l.3 in
            let r = from_link root st l.0.index l.0 m.0 s (omega arith) l.1 m.1 (m.2 ∙ sym l.2) (omega (arith, first, second, low)) in
            subst (λ (z : Spot). Descends st.links z x) l.3 (subst (λ (z : Spot). Descends st.links (site l.0) z) m.3 r)
      ]
    ]

-- two spots of one leader's log are on one way down
pub of_term_meet : (root : Spot) (st : History) (term : ℕ) (x y : Spot) → IsHistory root st → IsOfTerm st term x → IsOfTerm st term y → x.index ≤ y.index → Descends st.links y x
of_term_meet root st term x y s a b low =
    elim (cases_lt a.tip.index b.tip.index) as (λ _. Descends st.links y x) [
      | inl less ↦
          let up = tips_meet root st term a.tip b.tip s a.ends b.ends (omega (arith, less)) in
          line root st.links b.tip x y s.tree (through st.links x a.tip b.tip up a.descends) b.descends low
      | inr over ↦
          let up = tips_meet root st term b.tip a.tip s b.ends a.ends over in
          line root st.links a.tip x y s.tree a.descends (through st.links y b.tip a.tip up b.descends) low
    ]

-- ---- what a leader lacks

-- a node said that it holds a link's entry
pub record IsAcked (st : History) (voter : ℕ) (l : Link) : Type 0 where
  pub ack : Ack
  pub among : Contains st.acks ack
  pub by : ack.voter ≡ voter
  pub of_term : ack.term ≡ l.entry.term
  pub upto : l.index ≤ ack.index

pub acked_within : (st : History) (v : ℕ) (l : Link) → ((a : Ack) → Contains st.out_acks a → Contains st.acks a) → IsAcked (out_of st) v l → IsAcked st v l
acked_within st v l within h = record { ack = h.ack; among = within h.ack h.among; by = h.by; of_term = h.of_term; upto = h.upto }

-- who was elected in a term has no such entry: its log was shorter, or had another there
pub record Lacks (st : History) (term : ℕ) (l : Link) : Type 0 where
  pub election : Election
  pub among : Contains st.elections election
  pub of_term : election.term ≡ term
  pub lacking : (election.tip.index < l.index) ⊎ ((t : ℕ) × Descends st.links election.tip (spot l.index t) × (t ≡ l.entry.term → ⊥))

pub never_lacks : (root : Spot) (st : History) (term : ℕ) (l : Link) → IsHistory root st → (k : Lacks st term l) → Descends st.links k.election.tip (site l) → ⊥
never_lacks root st term l s k r =
    elim k.lacking as (λ _. ⊥) [
      | inl short ↦ (let low = lower st.links k.election.tip (site l) r in omega (arith, low, short))
      | inr other ↦ other.2 (ap (λ (x : Spot). x.term) (one_at root st.links k.election.tip (site l) (spot l.index other.0) s.tree r other.1 refl))
    ]

pub has_or_lacks : (root : Spot) (st : History) (e : Election) (l : Link) → IsHistory root st → Contains st.elections e → Contains st.links l → Descends st.links e.tip (site l) ⊎ Lacks st e.term l
has_or_lacks root st e l s elected among =
    elim (cases_lt e.tip.index l.index) as (λ _. Descends st.links e.tip (site l) ⊎ Lacks st e.term l) [
      | inl short ↦ inr (record { election = e; among = elected; of_term = refl; lacking = inl short })
      | inr within ↦
          let above = s.tree.above l among in
          let t = stop root st.links l.index e.tip (s.rooted e elected) (omega (arith, above)) within in
          elim (cases_eq t.0 l.entry.term) as (λ _. Descends st.links e.tip (site l) ⊎ Lacks st e.term l) [
            | inl same ↦ inl (subst (λ (k : ℕ). Descends st.links e.tip (spot l.index k)) same t.1)
            | inr other ↦ inr (record { election = e; among = elected; of_term = refl; lacking = inr (t.0, t.1, other) })
          ]
    ]

-- a log that ends at a spot has a link's entry, unless the leader of a term between lacks it
abbrev pub HasStill : History → Spot → ℕ → Link → Type 0
HasStill st x bound l = Descends st.links x (site l) ⊎ ((t : ℕ) × (l.entry.term < t) × (t < bound) × Lacks st t l)

-- ---- a vote

-- Who is as new as a voter has what the voter has, unless a leader between lacks it.
pub vote_keeps : (root : Spot) (st : History) (bound : ℕ) (voter candidate : Spot) (l : Link) → IsHistory root st → Descends st.links voter root → Descends st.links candidate root → candidate.term < bound
    → (voter.term < candidate.term) ⊎ ((candidate.term ≡ voter.term) × (voter.index ≤ candidate.index)) → Contains st.links l → Descends st.links voter (site l) → HasStill st candidate bound l
vote_keeps root st bound voter candidate l s v_root c_root low newer among has =
    let tree = s.tree in
    let above = tree.above l among in
    let far = lower st.links voter (site l) has in
    let old = older root st.links voter (site l) tree has in
    elim newer as (λ _. HasStill st candidate bound l) [
      | inr same ↦
          let longer = same.1 in
          let a = link_of st.links voter root v_root (omega (arith, above, far)) in
          let b = link_of st.links candidate root c_root (omega (arith, above, far, longer)) in
          let i : a.0.index ≡ voter.index = ap (λ (x : Spot). x.index) a.2 in
          let j : b.0.index ≡ candidate.index = ap (λ (x : Spot). x.index) b.2 in
          let terms : a.0.entry.term ≡ b.0.entry.term = ap (λ (x : Spot). x.term) a.2 ∙ sym same.0 ∙ sym (ap (λ (x : Spot). x.term) b.2) in
          let r = from_link root st b.0.index b.0 a.0 s (omega arith) b.1 a.1 terms (omega (arith, i, j, longer)) in
          let up : Descends st.links candidate voter = subst (λ (x : Spot). Descends st.links x voter) b.2 (subst (λ (x : Spot). Descends st.links (site b.0) x) a.2 r) in
          inl (through st.links (site l) voter candidate up has)
      | inl later ↦ elim (cases_lt root.index candidate.index) as (λ _. HasStill st candidate bound l) [
        | inr short ↦
            let least = lower st.links candidate root c_root in
            let is : candidate ≡ root = flat root st.links candidate root tree c_root (omega (arith, short, least)) in
            let e = ap (λ (x : Spot). x.term) is in
            let first = older root st.links (site l) root tree (link_rooted root st.links l tree among) in
            absurd (omega (arith, e, first, old, later))
        | inl past ↦
            let b = link_of st.links candidate root c_root past in
            let made = s.made b.0 b.1 in
            let t : made.election.term ≡ candidate.term = made.of_term ∙ ap (λ (x : Spot). x.term) b.2 in
            elim (has_or_lacks root st made.election l s made.among among) as (λ _. HasStill st candidate bound l) [
              | inl there ↦
                  let r = from_tip root st b.0.index b.0 made.election s (omega arith) b.1 made.among made.of_term in
                  inl (through st.links (site l) made.election.tip candidate (subst (λ (x : Spot). Descends st.links x made.election.tip) b.2 r) there)
              | inr lacks ↦ inr (made.election.term, omega (arith, t, old, later), omega (arith, t, low), lacks)
            ]
      ]
    ]
