-- What a node knows by a history, after its moves (rb_laws' Moves): it takes an append or a snapshot, votes, learns of a commit, and
-- commits itself
use Rattle.std.proofs.Common.{◌≡◌, ℕ, ◌+◌, ◌<◌, ◌≤◌, Bool, true, false, List, length, max, Ok, refl, sym, ap, subst, ◌∙◌, arith, inl, inr}
use Rattle.std.specs.Prelude.{Contains}
use Rattle.std.proofs.lemmas.Bool.{cases_lt, cases_Bool, and_parts, leb-true}
use Rattle.rb_raftlog.specs.Bodies.{is_change}
use Rattle.rb_raftlog.specs.declared.entry.Entry.{Entry}
use Rattle.rb_raftlog.specs.declared.snapshot.Snapshot.{Snapshot}
use Rattle.rb_raftlog.specs.Log.{LogValue, last, last_term, term_at, is_term, is_up_to_date, appended}
use Rattle.rb_raftlog.proofs.AnswerLaws.{as_new}
use Rattle.rb_raftlog.proofs.AppendLaws.{by_append, appended_refused, committed-term}
use Rattle.rb_raftlog.proofs.TermLaws.{term_base, held_in, is_term_is}
use Rattle.rb_tracker.specs.Commits.{match_of, holds, is_held}
use Rattle.rb_tracker.specs.Quorum.{IsQuorum}
use Rattle.rb_tracker.specs.declared.config.Config.{Config}
use Rattle.rb_message.specs.Appends.{PlainAppend}
use Rattle.rb_message.specs.declared.message.Message.{Message}
use Rattle.rb_message.specs.declared.role.Role.TheVariants as role
use Rattle.rb_node.specs.declared.clock.Clock.{Clock}
use Rattle.rb_node.specs.Following.{with_appended, restored_to}
use Rattle.rb_node.specs.Node.{PlainNode}
use Rattle.rb_node.specs.Votes.{grants, can_vote_for, voted_for}
use Rattle.rb_laws.proofs.Links.{Link, IsLinked, held_term}
use Rattle.rb_laws.proofs.Holding.{IsElected, follower_leads, follower_stands}
use Rattle.rb_laws.proofs.LinkedLogs.{log_from, none_linked, appended_linked}
use Rattle.rb_laws.proofs.Spots.{Spot, spot, site, Descends, here, through, line, flat, lower, older, link_of, link_rooted}
use Rattle.rb_laws.proofs.Contents.{IsContentAt, IsFilled, filled_of}
use Rattle.rb_laws.proofs.LeaderLogs.{Election, Ack, History, out_of, IsOfTerm, IsAcked, HasStill, vote_keeps}
use Rattle.rb_laws.proofs.Applied.{Applied, root_made, plain_made}
use Rattle.rb_laws.proofs.Completeness.{Decides, IsCommitted, IsLawful, IsSettled}
use Rattle.rb_laws.proofs.KeptEntries.{IsOn, on_meet, still_on, still_kept}
use Rattle.rb_laws.proofs.Histories.{AreHeld, IsPledged}
use Rattle.rb_laws.proofs.Tips.{tip, base_spot, log_descends, log_holds, tip_rooted, appended_tip, restored_tip}
use Rattle.rb_laws.proofs.NodeKnowledge.{Ground, TellsAppend, TellsCommit, HasAcked, Knows, election, mine}

-- all that holds of a history
pub record IsWhole (g : Ground) (said : List Message) (st : History) : Type 0 where
  pub lawful : IsLawful g.root g.start said st
  pub plain : (l : Link) → Contains st.links l → is_change l.entry.body ≡ false
  pub held : AreHeld g.root g.start st
  pub low : g.root.term ≤ 1
  pub elected : (e : Election) → Contains st.elections e → IsElected g.setting said e.id e.term
  pub some : (e : Election) → Contains st.elections e → 0 < e.term
  pub late : (e : Election) → Contains st.elections e → e.tip.term ≤ e.term
  pub stood_rooted : (e : Election) → Contains st.candidacies e → Descends st.links e.tip g.root
  pub stood_late : (e : Election) → Contains st.candidacies e → e.tip.term ≤ e.term
  pub stood_within : (e : Election) → Contains st.out_candidacies e → Contains st.candidacies e
  pub stood_once : (a b : Election) → Contains st.candidacies a → Contains st.candidacies b → a.term ≡ b.term → a.id ≡ b.id → a ≡ b

-- ---- another end of the log

-- of the log of a term's leader, or settled: its term is no later
on_late : (g : Ground) (said : List Message) (st : History) (term : ℕ) (x : Spot) → IsWhole g said st → IsOn g.root g.start st term x → x.term ≤ max term g.root.term
on_late g said st term x w on =
    let tree = w.lawful.history.tree in
    elim on as (λ _. x.term ≤ max term g.root.term) [
      | inl own ↦
          let e = own.ends.election in
          let t = own.ends.of_term in
          let below = older g.root st.links own.tip x tree own.descends in
          let late = w.late e own.ends.among in
          elim own.ends.is as (λ _. x.term ≤ max term g.root.term) [
            | inl first ↦ (let is = ap (λ (y : Spot). y.term) first in omega (arith, below, late, is, t))
            | inr l ↦ (let is = ap (λ (y : Spot). y.term) l.3 in let of_term = l.2 in omega (arith, below, is, of_term))
          ]
      | inr settled ↦ elim settled as (λ _. x.term ≤ max term g.root.term) [
        | inl first ↦ (let is = ap (λ (y : Spot). y.term) first in omega (arith, is))
        | inr l ↦ (let below = older g.root st.links (site l.0) x tree l.3 in let low = l.2 in omega (arith, below, low))
      ]
    ]

-- with the other end it still has what it has said to hold
acked_on : (g : Ground) (said : List Message) (st : History) (n m : PlainNode) (a : Ack) → IsWhole g said st → m.term ≡ n.term → Descends st.links (tip n.log) g.root
    → IsOn g.root g.start st n.term (tip m.log) → (Descends st.links (tip n.log) (tip m.log) → ⊥) → HasAcked g st n.term (tip n.log) a → HasAcked g st m.term (tip m.log) a
acked_on g said st n m a w same rooted on none h =
    let reached = h.reached in
    record {
      reached = omega (arith, reached, same);
      now = λ is.
          (let k = h.now (is ∙ same) in
          let there = subst (λ (t : ℕ). IsOn g.root g.start st t (spot a.index k.0)) (is ∙ same) k.2 in
          (k.0, still_on g.root g.start said st n.term (tip n.log) (tip m.log) (spot a.index k.0) w.lawful on none there k.1, k.2));
      past = λ later l among term low.
          subst (λ (t : ℕ). HasStill st (tip m.log) (t + 1) l) (sym same)
          (still_kept g.root g.start said st n.term (n.term + 1) (tip n.log) (tip m.log) l w.lawful among (omega (arith, term, later, same)) (omega arith) on none rooted
          (h.past (omega (arith, later, same)) l among term low));
    }

-- and so it has with the same end
pub acked_same : (g : Ground) (st : History) (n m : PlainNode) (a : Ack) → m.term ≡ n.term → tip m.log ≡ tip n.log → HasAcked g st n.term (tip n.log) a → HasAcked g st m.term (tip m.log) a
acked_same g st n m a same ends h =
    let reached = h.reached in
    record {
      reached = omega (arith, reached, same);
      now = λ is. (let k = h.now (is ∙ same) in (k.0, subst (λ (x : Spot). Descends st.links x (spot a.index k.0)) (sym ends) k.1, k.2));
      past = λ later l among term low.
          subst (λ (t : ℕ). HasStill st (tip m.log) (t + 1) l) (sym same)
          (subst (λ (x : Spot). HasStill st x (n.term + 1) l) (sym ends) (h.past (omega (arith, later, same)) l among term low));
    }

-- ---- an append

appended_base : (v : LogValue) (prev term commit : ℕ) (es : List Entry) → base_spot (appended v prev term es commit) ≡ base_spot v
appended_base v prev term commit es = by_append v prev term commit es (λ (x : LogValue). base_spot x ≡ base_spot v) refl (λ c _ _ _. refl)

-- an append that names no term is past all logs' beginning, and matches no log
pub not_past : (g : Ground) (said : List Message) (st : History) (v : LogValue) (prev term : ℕ) → IsWhole g said st → IsLinked st.links v → Descends st.links (base_spot v) g.root → term ≡ 0 → g.root.index < prev → term_at v prev ≡ Ok term → ⊥
not_past g said st v prev term w linked rooted none past held =
    let tree = w.lawful.history.tree in
    let r = log_descends st.links v prev term linked held in
    let in_tree = line g.root st.links (tip v) g.root (spot prev term) tree (tip_rooted g.root st.links v linked rooted) r (omega (arith, past)) in
    let l = link_of st.links (spot prev term) g.root in_tree past in
    let made = w.lawful.history.made l.0 l.1 in
    let some = w.some made.election made.among in
    let of_term = made.of_term in
    let is = ap (λ (x : Spot). x.term) l.2 in
    omega (arith, some, of_term, is, none)

-- ---- a follower with another log, of the same term, vote, commit and messages

abbrev relogged : PlainNode → LogValue → ℕ → Clock → PlainNode
relogged n v lead clock = record n { log = v; lead = lead; clock = clock }

knows_by : (g : Ground) (st : History) (id : ℕ) (n : PlainNode) (v : LogValue) (lead : ℕ) (clock : Clock) → n.role ≡ role.Follower → Knows g st id n → IsLinked st.links v → Descends st.links (base_spot v) g.root → last_term v ≤ max n.term g.root.term
    → term_at v n.commit ≡ term_at n.log n.commit → IsFilled st.links g.root g.start v n.applied n.content → ((a : Ack) → HasAcked g st n.term (tip n.log) a → HasAcked g st n.term (tip v) a) → Knows g st id (relogged n v lead clock)
knows_by g st id n v lead clock follows h linked rooted old held filled acked = record {
  log = record {
    itself = h.log.itself;
    linked = linked;
    rooted = rooted;
    old = old;
    leads = λ is. absurd (follower_leads (sym follows ∙ is));
    stands = λ is. absurd (follower_stands (sym follows ∙ is));
    stood = h.log.stood;
    led = h.log.led;
    acked = λ a among by. acked a (h.log.acked a among by);
    pledged = h.log.pledged;
    commit_term = h.log.commit_term;
    commit_held = held ∙ h.log.commit_held;
    commit = h.log.commit;
    filled = filled;
  };
  words = record {
    counts = λ is. absurd (follower_leads (sym follows ∙ is));
    sent = h.words.sent;
    waiting = h.words.waiting;
  };
}

-- A node takes an append that its term's leader put out, and still knows what it knew.
pub takes_knows : (g : Ground) (said : List Message) (st : History) (id : ℕ) (n : PlainNode) (from : ℕ) (append : PlainAppend) → IsWhole g said st → n.role ≡ role.Follower → n.applied ≤ n.commit → TellsAppend g st n.term append → Knows g st id n → Knows g st id (with_appended n from append)
takes_knows g said st id n from append w follows known told h =
    let v = n.log in
    let prev = append.prev in
    let term = append.prev_term in
    let es = append.entries in
    let new = appended v prev term es n.commit in
    let sent = log_from prev term es in
    let m = with_appended n from append in
    let tree = w.lawful.history.tree in
    let linked : IsLinked st.links new = appended_linked st.links v prev term n.commit es h.log.linked told.linked in
    let rooted : Descends st.links (base_spot new) g.root = subst (λ (x : Spot). Descends st.links x g.root) (sym (appended_base v prev term n.commit es)) h.log.rooted in
    let held = committed-term v prev term n.commit n.commit es (omega arith) in
    let filled : IsFilled st.links g.root g.start new n.applied n.content = filled_of st.links g.root g.start v new n.applied n.content (committed-term v prev term n.commit n.applied es known) h.log.filled in
    let clock : Clock = record n.clock { elapsed = 0 } in
    let same : tip new ≡ tip v → Knows g st id m = λ ends.
    (let old = h.log.old in
    let is = ap (λ (x : Spot). x.term) ends in
    knows_by g st id n new from clock follows h linked rooted (omega (arith, old, is)) held filled (λ a acked. acked_same g st n m a refl ends acked)) in
    elim told.ends as (λ _. Knows g st id m) [
      | inr past ↦
          elim (cases_Bool (is_term (term_at v prev) term)) as (λ _. Knows g st id m) [
            | inl holds ↦ absurd (not_past g said st v prev term w h.log.linked h.log.rooted past.0 past.1 (is_term_is (term_at v prev) term holds))
            | inr fails ↦ same (ap tip (appended_refused v prev term n.commit es fails))
          ]
      | inl own ↦
          elim (appended_tip g.root st.links v prev term n.commit es tree h.log.linked told.linked) as (λ _. Knows g st id m) [
            | inl ends ↦ same ends
            | inr ends ↦
                let on : IsOn g.root g.start st n.term (tip new) = subst (IsOn g.root g.start st n.term) (sym ends.0) (inl own) in
                let none : Descends st.links (tip v) (tip new) → ⊥ = λ r. ends.1 (subst (λ (x : Spot). Descends st.links (tip v) x) ends.0 r) in
                knows_by g st id n new from clock follows h linked rooted (on_late g said st n.term (tip new) w on) held filled
                (λ a acked. acked_on g said st n m a w refl (tip_rooted g.root st.links v h.log.linked h.log.rooted) on none acked)
          ]
    ]

-- ---- a snapshot

-- A node restores a snapshot of its term that is settled, of an entry that it hasn't.
pub restores_knows : (g : Ground) (said : List Message) (st : History) (id : ℕ) (n : PlainNode) (s : Snapshot) → IsWhole g said st → n.role ≡ role.Follower → IsSettled g.root g.start st n.term (spot s.index s.term) → IsContentAt st.links g.root g.start (spot s.index s.term) s.content → n.log.base ≤ s.index → (term_at n.log s.index ≡ Ok s.term → ⊥)
    → Knows g st id n → Knows g st id (restored_to n s)
restores_knows g said st id n s w follows settled content above other h =
    let m = restored_to n s in
    let x = spot s.index s.term in
    let tree = w.lawful.history.tree in
    let ends : tip m.log ≡ x = restored_tip n.log s in
    let on : IsOn g.root g.start st n.term (tip m.log) = inr (subst (IsSettled g.root g.start st n.term) (sym ends) settled) in
    let rooted : Descends st.links x g.root =
    elim settled as (λ _. Descends st.links x g.root) [
      | inl first ↦ subst (λ (y : Spot). Descends st.links y g.root) (sym first) (here st.links g.root)
      | inr l ↦
          let low = lower st.links (base_spot n.log) g.root h.log.rooted in
          line g.root st.links (site l.0) g.root x tree (link_rooted g.root st.links l.0 tree l.1.is.among) l.3 (omega (arith, low, above))
    ] in
    let none : Descends st.links (tip n.log) (tip m.log) → ⊥ = λ r.
    other (log_holds g.root st.links n.log s.index s.term tree h.log.linked above (subst (λ (y : Spot). Descends st.links (tip n.log) y) ends r)) in
    record {
      log = record {
        itself = h.log.itself;
        linked = none_linked st.links m.log refl;
        rooted = rooted;
        old = on_late g said st n.term (tip m.log) w on;
        leads = λ is. absurd (follower_leads (sym follows ∙ is));
        stands = λ is. absurd (follower_stands (sym follows ∙ is));
        stood = h.log.stood;
        led = h.log.led;
        acked = λ a among by. acked_on g said st n m a w refl (tip_rooted g.root st.links n.log h.log.linked h.log.rooted) on none (h.log.acked a among by);
        pledged = h.log.pledged;
        commit_term = s.term;
        commit_held = term_base m.log;
        commit = settled;
        filled = record { term = s.term; held = term_base m.log; is = content };
      };
      words = record {
        counts = λ is. absurd (follower_leads (sym follows ∙ is));
        sent = h.words.sent;
        waiting = h.words.waiting;
      };
    }

-- ---- a vote

-- A node that votes for one that asked in its term is pledged to it.
pub votes_knows : (g : Ground) (said : List Message) (st : History) (id : ℕ) (n : PlainNode) (m : Message) (last_term last_index : ℕ) → IsWhole g said st → m.term ≡ n.term → Contains st.out_candidacies (election m.term m.from (spot last_index last_term)) → grants n m last_term last_index false ≡ true
    → Knows g st id n → Knows g st id (voted_for n m.from)
votes_knows g said st id n m last_term last_index w same stood gives h =
    let stood_at = spot last_index last_term in
    let e = election m.term m.from stood_at in
    let newer = (as_new n.log last_index last_term).0 (and_parts (can_vote_for n m false) (is_up_to_date n.log last_index last_term) gives).1 in
    let late : last_term ≤ m.term = w.stood_late e (w.stood_within e stood) in
    let pledged : IsPledged st (mine id) id n.term m.from = record {
      stood = e;
      among = inl stood;
      of_term = same;
      of_id = refl;
      each = λ l among earlier acked.
          (let k = h.log.acked acked.ack acked.among acked.by in
          let of_term = acked.of_term in
          elim (k.past (omega (arith, of_term, earlier)) l among (sym acked.of_term) acked.upto) as (λ _. HasStill st stood_at (n.term + 1) l) [
            | inr lacks ↦ inr lacks
            | inl has ↦
                vote_keeps g.root st (n.term + 1) (tip n.log) stood_at l w.lawful.history (tip_rooted g.root st.links n.log h.log.linked h.log.rooted) (w.stood_rooted e (w.stood_within e stood)) (omega (arith, late, same))
                newer among has
          ]);
    } in
    record {
      log = record {
        itself = h.log.itself;
        linked = h.log.linked;
        rooted = h.log.rooted;
        old = h.log.old;
        leads = h.log.leads;
        stands = h.log.stands;
        stood = h.log.stood;
        led = h.log.led;
        acked = h.log.acked;
        pledged = λ _. pledged;
        commit_term = h.log.commit_term;
        commit_held = h.log.commit_held;
        commit = h.log.commit;
        filled = h.log.filled;
      };
      words = h.words;
    }

-- ---- a commit

-- a settled spot that is behind another at the same index in a log
pub knows_commit : (g : Ground) (st : History) (id : ℕ) (n : PlainNode) (i t : ℕ) → term_at n.log i ≡ Ok t → IsSettled g.root g.start st n.term (spot i t) → Knows g st id n → Knows g st id (record n { commit = i })
knows_commit g st id n i t held settled h = record {
  log = record {
    itself = h.log.itself;
    linked = h.log.linked;
    rooted = h.log.rooted;
    old = h.log.old;
    leads = h.log.leads;
    stands = h.log.stands;
    stood = h.log.stood;
    led = h.log.led;
    acked = h.log.acked;
    pledged = h.log.pledged;
    commit_term = t;
    commit_held = held;
    commit = settled;
    filled = h.log.filled;
  };
  words = h.words;
}

-- what is behind a settled spot is settled
pub behind_settled : (root : Spot) (start : Applied) (said : List Message) (st : History) (term : ℕ) (x low : Spot) → IsLawful root start said st → root.index ≤ low.index → IsSettled root start st term x → Descends st.links x low → IsSettled root start st term low
behind_settled root start said st term x low s above settled r =
    elim settled as (λ _. IsSettled root start st term low) [
      | inl first ↦
          let high = lower st.links x low r in
          let is = ap (λ (y : Spot). y.index) first in
          inl (sym (flat root st.links x low s.history.tree r (omega (arith, high, is, above))) ∙ first)
      | inr l ↦ inr (l.0, l.1, l.2, through st.links low x (site l.0) l.3 r)
    ]

-- A follower learns by a heartbeat: what it had said to hold, it holds as its leader has it.
pub beat_settled : (g : Ground) (said : List Message) (st : History) (id : ℕ) (n : PlainNode) (commit i : ℕ) → IsWhole g said st → TellsCommit g st n.term id commit → n.log.base ≤ i → i ≤ commit → i ≤ last n.log → Knows g st id n → (t : ℕ) × (term_at n.log i ≡ Ok t) × IsSettled g.root g.start st n.term (spot i t)
beat_settled g said st id n commit i w told above low within h =
    let s = w.lawful in
    let tree = s.history.tree in
    let said_it = told.held in
    let k = (h.log.acked said_it.ack (s.within said_it.ack said_it.among) said_it.by).now said_it.of_term in
    let acked = spot said_it.ack.index k.0 in
    let on : IsOn g.root g.start st n.term acked = subst (λ (t : ℕ). IsOn g.root g.start st t acked) said_it.of_term k.2 in
    let top = spot told.index told.index_term in
    let upto = said_it.upto in
    let high = told.high in
    let t = held_term n.log i above within in
    let x = spot i t.0 in
    let mine : Descends st.links (tip n.log) x = log_descends st.links n.log i t.0 h.log.linked t.1 in
    let start = lower st.links (base_spot n.log) g.root h.log.rooted in
    let behind : Descends st.links acked x = line g.root st.links (tip n.log) x acked tree mine k.1 (omega (arith, low, upto)) in
    let settled : IsSettled g.root g.start st n.term x =
    elim (cases_lt said_it.ack.index told.index) as (λ _. IsSettled g.root g.start st n.term x) [
      | inl less ↦
          let r = on_meet g.root g.start said st n.term acked top s on (inr told.settled) (omega (arith, less)) in
          behind_settled g.root g.start said st n.term top x s (omega (arith, start, above)) told.settled (through st.links x acked top r behind)
      | inr over ↦
          let r = on_meet g.root g.start said st n.term top acked s (inr told.settled) on over in
          behind_settled g.root g.start said st n.term top x s (omega (arith, start, above)) told.settled (line g.root st.links acked x top tree behind r (omega (arith, low, high)))
    ] in
    (t.0, t.1, settled)

-- A follower learns by an append: up to the append's end it holds what its leader has.
pub append_settled : (g : Ground) (said : List Message) (st : History) (id : ℕ) (n : PlainNode) (append : PlainAppend) (i : ℕ) → IsWhole g said st → TellsAppend g st n.term append → term_at n.log (append.prev + length append.entries) ≡ Ok (last_term (log_from append.prev append.prev_term append.entries)) → n.log.base ≤ i → i ≤ append.commit → i ≤ append.prev + length append.entries
    → (append.prev_term ≡ 0 → g.root.index < append.prev → ⊥) → Knows g st id n → (t : ℕ) × (term_at n.log i ≡ Ok t) × IsSettled g.root g.start st n.term (spot i t)
append_settled g said st id n append i w told held above low within named h =
    let s = w.lawful in
    let tree = s.history.tree in
    let sent = tip (log_from append.prev append.prev_term append.entries) in
    let mine : Descends st.links (tip n.log) sent = log_descends st.links n.log (append.prev + length append.entries) (last_term (log_from append.prev append.prev_term append.entries)) h.log.linked held in
    let far = (held_in n.log (append.prev + length append.entries) (last_term (log_from append.prev append.prev_term append.entries)) held).1 in
    let t = held_term n.log i above (omega (arith, within, far)) in
    let x = spot i t.0 in
    let start = lower st.links (base_spot n.log) g.root h.log.rooted in
    let has : Descends st.links (tip n.log) x = log_descends st.links n.log i t.0 h.log.linked t.1 in
    let behind : Descends st.links sent x = line g.root st.links (tip n.log) x sent tree has mine within in
    let top = spot append.commit told.commit_term in
    let own : IsOfTerm st n.term sent = elim told.ends as (λ _. IsOfTerm st n.term sent) [ inl is ↦ is | inr past ↦ absurd (named past.0 past.1) ] in
    let settled : IsSettled g.root g.start st n.term x =
    elim (cases_lt sent.index append.commit) as (λ _. IsSettled g.root g.start st n.term x) [
      | inl less ↦
          let r = on_meet g.root g.start said st n.term sent top s (inl own) (inr told.commit) (omega (arith, less)) in
          behind_settled g.root g.start said st n.term top x s (omega (arith, start, above)) told.commit (through st.links x sent top r behind)
      | inr over ↦
          let r = on_meet g.root g.start said st n.term top sent s (inr told.commit) (inl own) over in
          behind_settled g.root g.start said st n.term top x s (omega (arith, start, above)) told.commit (line g.root st.links sent x top tree behind r low)
    ] in
    (t.0, t.1, settled)

-- with fixed members, all decisions rest on the root
pub decides_fixed : (g : Ground) (said : List Message) (st : History) (is_known : Spot → Type 0) (top : Spot) (deciders : ℕ → Bool) → IsWhole g said st → is_known g.root → Descends st.links top g.root → IsQuorum g.setting.config deciders → Decides g.root g.start st is_known top deciders
decides_fixed g said st is_known top deciders w known rooted quorum =
    let newest = plain_made st.links g.root g.start top w.plain rooted in
    let none = newest.2 in
    record {
      by = g.root;
      known = known;
      behind = rooted;
      made = g.start;
      is = root_made st.links g.root g.start;
      newest = newest.0;
      ends = newest.1;
      few = omega (arith, none);
      quorum = subst (λ (c : Config). IsQuorum c deciders) (sym g.same) quorum;
    }

-- A leader commits what a quorum holds by its views: an entry of its term that a quorum has said to hold.
pub commits_settled : (g : Ground) (said : List Message) (st : History) (id : ℕ) (n : PlainNode) (i : ℕ) → IsWhole g said st → n.role ≡ role.Leader → n.tracker.config ≡ g.setting.config → 0 < length g.setting.config.incoming → is_held n.tracker i ≡ true → n.commit < i → term_at n.log i ≡ Ok n.term
    → Knows g st id n → IsSettled g.root g.start st n.term (spot i n.term)
commits_settled g said st id n i w leads config some held past own h =
    let s = w.lawful in
    let tree = s.history.tree in
    let k = h.log.leads leads in
    let x = spot i n.term in
    let commit = (held_in n.log n.commit h.log.commit_term h.log.commit_held).0 in
    let start = lower st.links (base_spot n.log) g.root h.log.rooted in
    let r = log_descends st.links n.log i n.term h.log.linked own in
    let in_tree = line g.root st.links (tip n.log) g.root x tree (tip_rooted g.root st.links n.log h.log.linked h.log.rooted) r (omega (arith, start, commit, past)) in
    let l = link_of st.links x g.root in_tree (omega (arith, start, commit, past)) in
    let index : l.0.index ≡ i = ap (λ (y : Spot). y.index) l.2 in
    let term : l.0.entry.term ≡ n.term = ap (λ (y : Spot). y.term) l.2 in
    let holders : ℕ → Bool = λ v. holds n.tracker.views i v in
    let quorum : IsQuorum g.setting.config holders = subst (λ (c : Config). IsQuorum c holders) config (record { some = subst (λ (c : Config). 0 < length c.incoming) (sym config) some; decides = held }) in
    let held_by : (v : ℕ) → holders v ≡ true → IsAcked (out_of st) v l.0 = λ v yes.
    (let matched : i ≤ match_of n.tracker.views v = leb-true i (match_of n.tracker.views v) yes in
    elim (h.words.counts leads v) as (λ _. IsAcked (out_of st) v l.0) [
      | inl first ↦ absurd (omega (arith, first, matched, start, commit, past))
      | inr rest ↦ elim rest as (λ _. IsAcked (out_of st) v l.0) [
        | inl itself ↦
            let e = itself.1 in
            let made = s.history.made l.0 l.1 in
            let beyond = made.past in
            let same : made.election ≡ e.0 = s.history.once made.election e.0 made.among e.1 (made.of_term ∙ term ∙ sym e.2) in
            let tips : made.election.tip.index ≡ e.0.tip.index = ap (λ (y : Election). y.tip.index) same in
            let low = e.3 in
            absurd (omega (arith, beyond, tips, low, matched, index))
        | inr said_it ↦
            let upto = said_it.upto in
            record { ack = said_it.ack; among = said_it.among; by = said_it.by; of_term = said_it.of_term ∙ sym term; upto = omega (arith, upto, matched, index) }
      ]
    ]) in
    let committed : IsCommitted g.root g.start st l.0 = record {
      rank = 0;
      is = record {
        among = l.1;
        holders = holders;
        held = held_by;
        decides = decides_fixed g said st (λ y. y ≡ g.root) (site l.0) holders w refl (link_rooted g.root st.links l.0 tree l.1) quorum;
      };
    } in
    inr (l.0, committed, omega (arith, term), subst (λ (y : Spot). Descends st.links (site l.0) y) l.2 (here st.links (site l.0)))
