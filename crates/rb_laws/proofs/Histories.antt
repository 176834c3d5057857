-- A history goes on: one more link, acknowledgement, candidacy or election. What is known of it stays, and what it promises is kept. Nothing
-- here is about nodes.
use Rattle.std.proofs.Common.{◌≡◌, ◌⊎◌, ℕ, zero, suc, ◌+◌, ◌<◌, ◌≤◌, Bool, true, List, [], ◌∷◌, ◌++◌, refl, sym, ap, subst, ◌∙◌, arith, inl, inr}
use Rattle.std.specs.Prelude.{Contains}
use Rattle.std.proofs.lemmas.Bool.{cases_lt}
use Rattle.std.proofs.lemmas.List.Elements.{Contains-append_left, Contains-push_cases}
use Rattle.rb_raftlog.specs.Bodies.{is_change}
use Rattle.rb_tracker.specs.Changes.{IsConfig}
use Rattle.rb_message.specs.declared.message.Message.{Message}
use Rattle.rb_laws.specs.Votes.{IsCast}
use Rattle.rb_laws.proofs.Links.{Link, Extends, push_extends, push_single}
use Rattle.rb_laws.proofs.Spots.{Spot, spot, site, under, Descends, IsTree, still_descends, lower}
use Rattle.rb_laws.proofs.LeaderLogs.{Election, Ack, History, out_of, IsBuilt, IsHistory, IsTip, IsOfTerm, IsAcked, Lacks, HasStill}
use Rattle.rb_laws.proofs.Applied.{Applied, IsProper, still_made}
use Rattle.rb_laws.proofs.Completeness.{Decides, IsDecision, Settled, IsSettled, IsKnownBefore, IsVoted, IsLawful, safe_of_term}
use Rattle.rb_laws.proofs.KeptEntries.{IsOn}

-- ---- more of a history

pub record IsMore (old new : History) : Type 0 where
  pub links : Extends old.links new.links
  pub candidacies : (e : Election) → Contains old.candidacies e → Contains new.candidacies e
  pub elections : (e : Election) → Contains old.elections e → Contains new.elections e
  pub acks : (a : Ack) → Contains old.acks a → Contains new.acks a
  pub out_candidacies : (e : Election) → Contains old.out_candidacies e → Contains new.out_candidacies e
  pub out_acks : (a : Ack) → Contains old.out_acks a → Contains new.out_acks a

-- what is never forgotten
pub record IsSince (old new : History) : Type 0 where
  pub links : Extends old.links new.links
  pub elections : (e : Election) → Contains old.elections e → Contains new.elections e
  pub out_acks : (a : Ack) → Contains old.out_acks a → Contains new.out_acks a

pub of_more : (old new : History) → IsMore old new → IsSince old new
of_more old new more = record { links = more.links; elections = more.elections; out_acks = more.out_acks }

pub more_out : (old new : History) → IsMore old new → IsMore (out_of old) (out_of new)
more_out old new more = record {
  links = more.links;
  candidacies = more.out_candidacies;
  elections = more.elections;
  acks = more.out_acks;
  out_candidacies = more.out_candidacies;
  out_acks = more.out_acks;
}

abbrev pub with_link : History → Link → History
with_link st l = record st { links = st.links ++ l ∷ [] }

abbrev pub with_ack : History → Ack → History
with_ack st a = record st { acks = st.acks ++ a ∷ [] }

abbrev pub with_candidacy : History → Election → History
with_candidacy st e = record st { candidacies = st.candidacies ++ e ∷ [] }

abbrev pub with_election : History → Election → History
with_election st e = record st { elections = st.elections ++ e ∷ [] }

pub more_link : (st : History) (l : Link) → IsMore st (with_link st l)
more_link st l = record { links = push_extends st.links l; candidacies = λ e among. among; elections = λ e among. among; acks = λ a among. among; out_candidacies = λ e among. among; out_acks = λ a among. among }

pub more_ack : (st : History) (a : Ack) → IsMore st (with_ack st a)
more_ack st a = record { links = λ l among. among; candidacies = λ e among. among; elections = λ e among. among; acks = λ b among. Contains-append_left st.acks (a ∷ []) b among; out_candidacies = λ e among. among; out_acks = λ b among. among }

pub more_candidacy : (st : History) (e : Election) → IsMore st (with_candidacy st e)
more_candidacy st e = record { links = λ l among. among; candidacies = λ x among. Contains-append_left st.candidacies (e ∷ []) x among; elections = λ x among. among; acks = λ a among. among; out_candidacies = λ e among. among; out_acks = λ a among. among }

pub more_election : (st : History) (e : Election) → IsMore st (with_election st e)
more_election st e = record { links = λ l among. among; candidacies = λ x among. among; elections = λ x among. Contains-append_left st.elections (e ∷ []) x among; acks = λ a among. among; out_candidacies = λ e among. among; out_acks = λ a among. among }

-- ---- what stays known

abbrev pub still_tip : (old new : History) (term : ℕ) (x : Spot) → IsMore old new → IsTip old term x → IsTip new term x
still_tip old new term x more t = record {
  election = t.election;
  among = more.elections t.election t.among;
  of_term = t.of_term;
  is = elim t.is as (λ _. (x ≡ t.election.tip) ⊎ ((l : Link) × Contains new.links l × (l.entry.term ≡ term) × (site l ≡ x))) [
    | inl first ↦ inl first
    | inr l ↦ inr (l.0, more.links l.0 l.1, l.2, l.3)
  ];
}

pub still_of_term : (old new : History) (term : ℕ) (x : Spot) → IsMore old new → IsOfTerm old term x → IsOfTerm new term x
still_of_term old new term x more h = record {
  tip = h.tip;
  ends = still_tip old new term h.tip more h.ends;
  descends = still_descends old.links new.links h.tip x more.links h.descends;
}

pub still_lacks : (old new : History) (term : ℕ) (l : Link) → IsMore old new → Lacks old term l → Lacks new term l
still_lacks old new term l more h = record {
  election = h.election;
  among = more.elections h.election h.among;
  of_term = h.of_term;
  lacking = elim h.lacking as (λ _. (h.election.tip.index < l.index) ⊎ ((t : ℕ) × Descends new.links h.election.tip (spot l.index t) × (t ≡ l.entry.term → ⊥))) [
    | inl short ↦ inl short
    | inr other ↦ inr (other.0, still_descends old.links new.links h.election.tip (spot l.index other.0) more.links other.1, other.2)
  ];
}

pub still_has : (old new : History) (x : Spot) (bound : ℕ) (l : Link) → IsMore old new → HasStill old x bound l → HasStill new x bound l
still_has old new x bound l more h =
    elim h as (λ _. HasStill new x bound l) [
      | inl there ↦ inl (still_descends old.links new.links x (site l) more.links there)
      | inr lacks ↦ inr (lacks.0, lacks.1, lacks.2, still_lacks old new lacks.0 l more lacks.3)
    ]

-- ---- decisions stay

since_decides : (root : Spot) (start : Applied) (old new : History) (before after : Spot → Type 0) (top : Spot) (deciders : ℕ → Bool) → IsSince old new → ((x : Spot) → before x → after x) → Decides root start old before top deciders → Decides root start new after top deciders
since_decides root start old new before after top deciders since known h = record {
  by = h.by;
  known = known h.by h.known;
  behind = still_descends old.links new.links top h.by since.links h.behind;
  made = h.made;
  is = still_made old.links new.links root start h.by h.made since.links h.is;
  newest = h.newest;
  ends = still_made old.links new.links root start top h.newest since.links h.ends;
  few = h.few;
  quorum = h.quorum;
}

since_decision : (root : Spot) (start : Applied) (old new : History) (before after : Spot → Type 0) (l : Link) → IsSince old new → ((x : Spot) → before x → after x) → IsDecision root start old before l → IsDecision root start new after l
since_decision root start old new before after l since known h = record {
  among = since.links l h.among;
  holders = h.holders;
  held = λ v holds. (let a = h.held v holds in record { ack = a.ack; among = since.out_acks a.ack a.among; by = a.by; of_term = a.of_term; upto = a.upto });
  decides = since_decides root start old new before after (site l) h.holders since known h.decides;
}

since_at : (root : Spot) (start : Applied) (old new : History) (n term : ℕ) (x : Spot) → IsSince old new → Settled root start old n term x → Settled root start new n term x
since_at root start old new zero term x since h = h
since_at root start old new (suc n) term x since h =
    elim h as (λ _. Settled root start new (suc n) term x) [
      | inl first ↦ inl first
      | inr k ↦
          let l = k.0 in
          let t = l.entry.term in
          let d = since_decision root start old new (Settled root start old n t) (Settled root start new n t) l since (λ y known. since_at root start old new n t y since known) k.1 in
          inr (l, d, k.2, still_descends old.links new.links (site l) x since.links k.3)
    ]

pub since_settled : (root : Spot) (start : Applied) (old new : History) (term : ℕ) (x : Spot) → IsSince old new → IsSettled root start old term x → IsSettled root start new term x
since_settled root start old new term x since h =
    elim h as (λ _. IsSettled root start new term x) [
      | inl first ↦ inl first
      | inr k ↦
          let l = k.0 in
          let t = l.entry.term in
          let n = k.1.rank in
          let d = since_decision root start old new (Settled root start old n t) (Settled root start new n t) l since (λ y known. since_at root start old new n t y since known) k.1.is in
          inr (l, record { rank = n; is = d }, k.2, still_descends old.links new.links (site l) x since.links k.3)
    ]

since_known : (root : Spot) (start : Applied) (old new : History) (term : ℕ) (x : Spot) → IsSince old new → IsKnownBefore root start old term x → IsKnownBefore root start new term x
since_known root start old new term x since h = record { bound = h.bound; earlier = h.earlier; settled = since_settled root start old new h.bound x since h.settled }

pub since_elected : (root : Spot) (start : Applied) (old new : History) (e : Election) (voters : ℕ → Bool) → IsSince old new → Decides root start old (IsKnownBefore root start old e.term) e.tip voters → Decides root start new (IsKnownBefore root start new e.term) e.tip voters
since_elected root start old new e voters since h = since_decides root start old new (IsKnownBefore root start old e.term) (IsKnownBefore root start new e.term) e.tip voters since (λ x known. since_known root start old new e.term x since known) h

pub still_settled : (root : Spot) (start : Applied) (old new : History) (term : ℕ) (x : Spot) → IsMore old new → IsSettled root start old term x → IsSettled root start new term x
still_settled root start old new term x more h = since_settled root start old new term x (of_more old new more) h

pub later_settled : (root : Spot) (start : Applied) (st : History) (term later : ℕ) (x : Spot) → term ≤ later → IsSettled root start st term x → IsSettled root start st later x
later_settled root start st term later x up h =
    elim h as (λ _. IsSettled root start st later x) [ inl first ↦ inl first | inr l ↦ (let low = l.2 in inr (l.0, l.1, omega (arith, low, up), l.3)) ]

pub still_is_on : (root : Spot) (start : Applied) (old new : History) (term : ℕ) (x : Spot) → IsMore old new → IsOn root start old term x → IsOn root start new term x
still_is_on root start old new term x more h =
    elim h as (λ _. IsOn root start new term x) [
      | inl own ↦ inl (still_of_term old new term x more own)
      | inr settled ↦ inr (still_settled root start old new term x more settled)
    ]

pub still_built : (old new : History) (l : Link) → IsMore old new → IsBuilt old l → IsBuilt new l
still_built old new l more h = record {
  election = h.election;
  among = more.elections h.election h.among;
  of_term = h.of_term;
  past = h.past;
  behind = elim h.behind as (λ _. (under l ≡ h.election.tip) ⊎ ((m : Link) × Contains new.links m × (m.entry.term ≡ l.entry.term) × (site m ≡ under l))) [
    | inl first ↦ inl first
    | inr m ↦ inr (m.0, more.links m.0 m.1, m.2, m.3)
  ];
}

-- ---- what was acknowledged stands on the leader's way, or is committed

abbrev pub AreHeld : Spot → Applied → History → Type 0
AreHeld root start st = (a : Ack) → Contains st.acks a → (t : ℕ) × IsOn root start st a.term (spot a.index t)

-- an election stays as it was, if its voters have said nothing new of earlier terms
pub still_voted : (root : Spot) (start : Applied) (said : List Message) (old new : History) (e : Election) → IsMore old new → ((v : ℕ) (l : Link) → IsCast said v e.term e.id → Contains new.links l → l.entry.term < e.term → IsAcked new v l → Contains old.links l × IsAcked old v l) → IsVoted root start said old e → IsVoted root start said new e
still_voted root start said old new e more back h = record {
  voters = h.voters;
  decides = since_elected root start old new e h.voters (of_more old new more) h.decides;
  cast = h.cast;
  each = λ v votes l among earlier acked.
      (let was = back v l (h.cast v votes) among earlier acked in
      still_has old new e.tip e.term l more (h.each v votes l was.0 earlier was.1));
}

-- ---- a leader's link

-- its log ended at a spot, past which no link of its term is
pub record IsTop (root : Spot) (st : History) (l : Link) : Type 0 where
  pub top : Spot
  pub ends : IsTip st l.entry.term top
  pub behind : under l ≡ top
  pub next : l.index ≡ top.index + 1
  pub rooted : Descends st.links top root
  pub rising : l.before ≤ l.entry.term
  pub highest : (m : Link) → Contains st.links m → m.entry.term ≡ l.entry.term → m.index ≤ top.index

-- so is each end of its log before
pub tip_within : (root : Spot) (st : History) (l : Link) (x : Spot) → IsHistory root st → (top : IsTop root st l) → IsTip st l.entry.term x → x.index ≤ top.top.index
tip_within root st l x s top h =
    let ends = top.ends in
    let same : h.election ≡ ends.election = s.once h.election ends.election h.among ends.among (h.of_term ∙ sym ends.of_term) in
    elim h.is as (λ _. x.index ≤ top.top.index) [
      | inr m ↦ (let high = top.highest m.0 m.1 m.2 in let index = ap (λ (y : Spot). y.index) m.3 in omega (arith, high, index))
      | inl first ↦
          let start : x.index ≡ ends.election.tip.index = ap (λ (y : Spot). y.index) first ∙ ap (λ (e : Election). e.tip.index) same in
          elim ends.is as (λ _. x.index ≤ top.top.index) [
            | inl own ↦ (let index = ap (λ (y : Spot). y.index) own in omega (arith, start, index))
            | inr m ↦
                let made = s.made m.0 m.1 in
                let past = made.past in
                let one : made.election ≡ ends.election = s.once made.election ends.election made.among ends.among (made.of_term ∙ m.2 ∙ sym ends.of_term) in
                let tips : made.election.tip.index ≡ ends.election.tip.index = ap (λ (e : Election). e.tip.index) one in
                let index = ap (λ (y : Spot). y.index) m.3 in
                omega (arith, start, past, tips, index)
          ]
    ]

-- so nobody has said that it holds it
pub none_acked : (root : Spot) (start : Applied) (said : List Message) (st : History) (l : Link) → IsLawful root start said st → AreHeld root start st → IsTop root st l → (a : Ack) → Contains st.acks a → a.term ≡ l.entry.term → a.index < l.index
none_acked root start said st l s held top a among term =
    let h = held a among in
    let x = spot a.index h.0 in
    let e = top.ends.election in
    let t : e.term ≡ a.term = top.ends.of_term ∙ sym term in
    let own : IsOfTerm st l.entry.term x =
    elim h.1 as (λ _. IsOfTerm st l.entry.term x) [
      | inl of_term ↦ subst (λ (n : ℕ). IsOfTerm st n x) term of_term
      | inr settled ↦
          subst (λ (n : ℕ). IsOfTerm st n x) top.ends.of_term
          (safe_of_term root start said st e x s top.ends.among (subst (λ (n : ℕ). IsSettled root start st n x) (sym t) settled))
    ] in
    let below = lower st.links own.tip x own.descends in
    let high : own.tip.index ≤ top.top.index = tip_within root st l own.tip s.history top own.ends in
    let next = top.next in
    omega (arith, below, high, next)

tree_link : (root : Spot) (st : History) (l : Link) → IsTree root st.links → IsTop root st l → IsTree root (st.links ++ l ∷ [])
tree_link root st l tree top =
    let old = st.links in
    let new = old ++ l ∷ [] in
    let next = top.next in
    let more = push_extends old l in
    let low = lower old top.top root top.rooted in
    record {
      single = push_single old l (λ m among index term. (let high = top.highest m among term in omega (arith, high, index, next))) tree.single;
      above = λ m among.
          elim (Contains-push_cases old l m among) as (λ _. root.index < m.index) [
            | inl before ↦ tree.above m before
            | inr now ↦ (let index = ap (λ (z : Link). z.index) now in omega (arith, low, next, index))
          ];
      rising = λ m among.
          elim (Contains-push_cases old l m among) as (λ _. m.before ≤ m.entry.term) [
            | inl before ↦ tree.rising m before
            | inr now ↦ subst (λ (z : Link). z.before ≤ z.entry.term) now top.rising
          ];
      rooted = λ m among.
          elim (Contains-push_cases old l m among) as (λ _. Descends new (under m) root) [
            | inl before ↦ still_descends old new (under m) root more (tree.rooted m before)
            | inr now ↦
                subst (λ (z : Link). Descends new (under z) root) now
                (subst (λ (x : Spot). Descends new x root) (sym top.behind) (still_descends old new top.top root more top.rooted))
          ];
    }

built_link : (root : Spot) (st : History) (l : Link) → IsHistory root st → IsTop root st l → IsBuilt (with_link st l) l
built_link root st l s top =
    let e = top.ends.election in
    let next = top.next in
    let first : IsTip st l.entry.term e.tip = record { election = e; among = top.ends.among; of_term = top.ends.of_term; is = inl refl } in
    let high = tip_within root st l e.tip s top first in
    record {
      election = e;
      among = top.ends.among;
      of_term = top.ends.of_term;
      past = omega (arith, high, next);
      behind = elim top.ends.is as (λ _. (under l ≡ e.tip) ⊎ ((m : Link) × Contains (st.links ++ l ∷ []) m × (m.entry.term ≡ l.entry.term) × (site m ≡ under l))) [
        | inl own ↦ inl (top.behind ∙ own)
        | inr m ↦ inr (m.0, push_extends st.links l m.0 m.1, m.2, m.3 ∙ sym top.behind)
      ];
    }

story_link : (root : Spot) (st : History) (l : Link) → IsHistory root st → IsTop root st l → IsHistory root (with_link st l)
story_link root st l s top =
    let new = with_link st l in
    let more = more_link st l in
    record {
      tree = tree_link root st l s.tree top;
      once = s.once;
      rooted = λ e among. still_descends st.links new.links e.tip root more.links (s.rooted e among);
      made = λ m among.
          elim (Contains-push_cases st.links l m among) as (λ _. IsBuilt new m) [
            | inl before ↦ still_built st new m more (s.made m before)
            | inr now ↦ subst (IsBuilt new) now (built_link root st l s top)
          ];
    }

-- an entry that somebody holds is no new one
pub held_before : (root : Spot) (start : Applied) (said : List Message) (st : History) (l m : Link) (v : ℕ) → IsLawful root start said st → AreHeld root start st → IsTop root st l → Contains (with_link st l).links m → IsAcked (with_link st l) v m → Contains st.links m × IsAcked st v m
held_before root start said st l m v s held top among acked =
    let was : IsAcked st v m = record { ack = acked.ack; among = acked.among; by = acked.by; of_term = acked.of_term; upto = acked.upto } in
    elim (Contains-push_cases st.links l m among) as (λ _. Contains st.links m × IsAcked st v m) [
      | inl before ↦ (before, was)
      | inr now ↦
          let term = ap (λ (z : Link). z.entry.term) now in
          let index = ap (λ (z : Link). z.index) now in
          let low = none_acked root start said st l s held top acked.ack acked.among (acked.of_term ∙ sym term) in
          let high = acked.upto in
          absurd (omega (arith, low, index, high))
    ]

proper_link : (ls : List Link) (start : Applied) (l : Link) → IsProper ls start → (is_change l.entry.body ≡ true → IsConfig start.config) → IsProper (ls ++ l ∷ []) start
proper_link ls start l proper new m among changes =
    elim (Contains-push_cases ls l m among) as (λ _. IsConfig start.config) [ inl before ↦ proper m before changes | inr now ↦ new (ap (λ (z : Link). is_change z.entry.body) now ∙ changes) ]

pub lawful_link : (root : Spot) (start : Applied) (said : List Message) (st : History) (l : Link) → IsLawful root start said st → AreHeld root start st → IsTop root st l → (is_change l.entry.body ≡ true → IsConfig start.config) → IsLawful root start said (with_link st l)
lawful_link root start said st l s held top proper = record {
  history = story_link root st l s.history top;
  first = s.first;
  proper = proper_link st.links start l s.proper proper;
  voted = λ e among. still_voted root start said st (with_link st l) e (more_link st l)
      (λ v m _ there _ acked. held_before root start said st l m v s held top there acked) (s.voted e among);
  within = s.within;
}

pub held_link : (root : Spot) (start : Applied) (st : History) (l : Link) → AreHeld root start st → AreHeld root start (with_link st l)
held_link root start st l held = λ a among. (let h = held a among in (h.0, still_is_on root start st (with_link st l) a.term (spot a.index h.0) (more_link st l) h.1))

-- ---- an acknowledgement

-- whoever it voted for stood in no later term
abbrev pub IsLate : List Message → Ack → Type 0
IsLate said a = (term candidate : ℕ) → IsCast said a.voter term candidate → term ≤ a.term

acked_before : (said : List Message) (st : History) (a : Ack) (v term candidate : ℕ) (l : Link) → IsLate said a → IsCast said v term candidate → l.entry.term < term → IsAcked (with_ack st a) v l → IsAcked st v l
acked_before said st a v term candidate l late cast earlier acked =
    elim (Contains-push_cases st.acks a acked.ack acked.among) as (λ _. IsAcked st v l) [
      | inl before ↦ record { ack = acked.ack; among = before; by = acked.by; of_term = acked.of_term; upto = acked.upto }
      | inr now ↦
          let by : a.voter ≡ v = ap (λ (x : Ack). x.voter) now ∙ acked.by in
          let of_term : a.term ≡ l.entry.term = ap (λ (x : Ack). x.term) now ∙ acked.of_term in
          let up = late term candidate (subst (λ (i : ℕ). IsCast said i term candidate) (sym by) cast) in
          absurd (omega (arith, up, of_term, earlier))
    ]

pub lawful_ack : (root : Spot) (start : Applied) (said : List Message) (st : History) (a : Ack) → IsLawful root start said st → IsLate said a → IsLawful root start said (with_ack st a)
lawful_ack root start said st a s late =
    let old = s.history in
    let more = more_ack st a in
    record {
      history = record { tree = old.tree; once = old.once; rooted = old.rooted; made = λ l among. still_built st (with_ack st a) l more (old.made l among) };
      first = s.first;
      proper = s.proper;
      voted = λ e among. still_voted root start said st (with_ack st a) e more
          (λ v l cast there earlier acked. (there, acked_before said st a v e.term e.id l late cast earlier acked)) (s.voted e among);
      within = λ b among. Contains-append_left st.acks (a ∷ []) b (s.within b among);
    }

pub held_ack : (root : Spot) (start : Applied) (st : History) (a : Ack) (t : ℕ) → AreHeld root start st → IsOn root start st a.term (spot a.index t) → AreHeld root start (with_ack st a)
held_ack root start st a t held on = λ b among.
    (elim (Contains-push_cases st.acks a b among) as (λ _. (u : ℕ) × IsOn root start (with_ack st a) b.term (spot b.index u)) [
      | inl before ↦ (let h = held b before in (h.0, still_is_on root start st (with_ack st a) b.term (spot b.index h.0) (more_ack st a) h.1))
      | inr now ↦ (t, subst (λ (x : Ack). IsOn root start (with_ack st a) x.term (spot x.index t)) now (still_is_on root start st (with_ack st a) a.term (spot a.index t) (more_ack st a) on))
    ])

-- ---- a vote, and an election

-- a candidacy that others may have heard of, or one of the nodes that a fact is about
abbrev pub HasStood : History → (ℕ → Type 0) → Election → Type 0
HasStood st own e = Contains st.out_candidacies e ⊎ (own e.id × Contains st.candidacies e)

pub still_stood : (old new : History) (own : ℕ → Type 0) (e : Election) → IsMore old new → HasStood old own e → HasStood new own e
still_stood old new own e more h = elim h as (λ _. HasStood new own e) [ inl out ↦ inl (more.out_candidacies e out) | inr mine ↦ inr (mine.0, more.candidacies e mine.1) ]

-- A node that votes for one that stood in a term, or may: what it has said to hold in earlier terms that one's log has, unless a leader up
-- to that term lacks it.
pub record IsPledged (st : History) (own : ℕ → Type 0) (voter term candidate : ℕ) : Type 0 where
  pub stood : Election
  pub among : HasStood st own stood
  pub of_term : stood.term ≡ term
  pub of_id : stood.id ≡ candidate
  pub each : (l : Link) → Contains st.links l → l.entry.term < term → IsAcked st voter l → HasStill st stood.tip (term + 1) l

-- where nobody was elected in the term yet, the leader that lacks it is of an earlier one
pub pledge_before : (st : History) (x : Spot) (term : ℕ) (l : Link) → ((e : Election) → Contains st.elections e → e.term ≡ term → ⊥) → HasStill st x (term + 1) l → HasStill st x term l
pledge_before st x term l none h =
    elim h as (λ _. HasStill st x term l) [
      | inl there ↦ inl there
      | inr lacks ↦ elim (cases_lt lacks.0 term) as (λ _. HasStill st x term l) [
        | inl earlier ↦ inr (lacks.0, lacks.1, earlier, lacks.3)
        | inr over ↦
            let up = lacks.2 in
            let k = lacks.3 in
            absurd (none k.election k.among (k.of_term ∙ (let same : lacks.0 ≡ term = omega (arith, over, up) in same)))
      ]
    ]

pub lawful_election : (root : Spot) (start : Applied) (said : List Message) (st : History) (e : Election) → IsLawful root start said st → ((x : Election) → Contains st.elections x → x.term ≡ e.term → ⊥) → Descends st.links e.tip root → IsVoted root start said st e → IsLawful root start said (with_election st e)
lawful_election root start said st e s none rooted voted =
    let old = s.history in
    let new = with_election st e in
    let more = more_election st e in
    let still : (x : Election) → IsVoted root start said st x → IsVoted root start said new x = λ x h.
    still_voted root start said st new x more (λ v l _ there _ acked. (there, record { ack = acked.ack; among = acked.among; by = acked.by; of_term = acked.of_term; upto = acked.upto })) h in
    record {
      history = record {
        tree = old.tree;
        once = λ a b one two term.
            elim (Contains-push_cases st.elections e a one) as (λ _. a ≡ b) [
              | inl first ↦ elim (Contains-push_cases st.elections e b two) as (λ _. a ≡ b) [
                | inl second ↦ old.once a b first second term
                | inr new_b ↦ absurd (none a first (term ∙ sym (ap (λ (x : Election). x.term) new_b)))
              ]
              | inr new_a ↦ elim (Contains-push_cases st.elections e b two) as (λ _. a ≡ b) [
                | inl second ↦ absurd (none b second (sym term ∙ sym (ap (λ (x : Election). x.term) new_a)))
                | inr new_b ↦ sym new_a ∙ new_b
              ]
            ];
        rooted = λ x among.
            elim (Contains-push_cases st.elections e x among) as (λ _. Descends st.links x.tip root) [
              | inl before ↦ old.rooted x before
              | inr now ↦ subst (λ (y : Election). Descends st.links y.tip root) now rooted
            ];
        made = λ l among. still_built st new l more (old.made l among);
      };
      first = s.first;
      proper = s.proper;
      voted = λ x among.
          elim (Contains-push_cases st.elections e x among) as (λ _. IsVoted root start said new x) [
            | inl before ↦ still x (s.voted x before)
            | inr now ↦ subst (IsVoted root start said new) now (still e voted)
          ];
      within = s.within;
    }
