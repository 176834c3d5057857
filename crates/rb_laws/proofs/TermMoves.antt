-- What a node knows by a history after a later term, a campaign, and an answer
use Rattle.std.proofs.Common.{[], ◌∷◌, ◌≡◌, ℕ, ◌+◌, ◌<◌, ◌≤◌, List, refl, sym, ap, subst, ◌∙◌, arith, inl, inr, if◌then◌else◌, ◌==◌, eqb-true}
use Rattle.std.specs.Prelude.{All, Contains}
use Rattle.std.proofs.lemmas.Bool.{cases_lt}
use Rattle.std.proofs.lemmas.List.Elements.{All-push, Contains-append_left, Contains-push, Contains-push_cases}
use Rattle.rb_raftlog.specs.Log.{last_term}
use Rattle.rb_tracker.proofs.SetLaws.{if_both}
use Rattle.rb_tracker.specs.Commits.{match_of}
use Rattle.rb_message.specs.declared.message.Message.{Message}
use Rattle.rb_node.specs.Campaigns.{candidate}
use Rattle.rb_node.specs.Node.{PlainNode}
use Rattle.rb_calls.proofs.Moves.{following}
use Rattle.rb_calls.proofs.Saying.{with_sent, with_waiting}
use Rattle.rb_laws.proofs.Holding.{follower_leads, follower_stands, candidate_leads}
use Rattle.rb_laws.proofs.Links.{Link}
use Rattle.rb_laws.proofs.Spots.{Spot, spot, site, Descends, through}
use Rattle.rb_laws.proofs.LeaderLogs.{Election, Ack, History, IsOfTerm, HasStill}
use Rattle.rb_laws.proofs.KeptEntries.{IsOn, on_meet}
use Rattle.rb_laws.proofs.Tips.{tip, tip_rooted}
use Rattle.rb_laws.proofs.Histories.{of_more, since_elected, with_ack, with_candidacy, more_ack, more_candidacy, still_has, still_settled, still_is_on, later_settled, IsPledged}
use Rattle.rb_laws.proofs.NodeKnowledge.{Ground, election, mine, HasAcked, Knows, TellsTrue, still_all, still_has_acked, still_pledged, still_counted}
use Rattle.rb_laws.proofs.FollowerMoves.{IsWhole}
use Rattle.rb_laws.proofs.OtherNodes.{AreReached, back_ack, back_acks, same_back}

-- ---- a later term

longer_still : (st : History) (x : Spot) (bound later : ℕ) (l : Link) → bound ≤ later → HasStill st x bound l → HasStill st x later l
longer_still st x bound later l up h =
    elim h as (λ _. HasStill st x later l) [ inl has ↦ inl has | inr lacks ↦ (let low = lacks.2 in inr (lacks.0, lacks.1, omega (arith, low, up), lacks.3)) ]

-- a link of a term is of the log of the term's leader
link_of_term : (g : Ground) (said : List Message) (st : History) (l : Link) → IsWhole g said st → Contains st.links l → IsOfTerm st l.entry.term (site l)
link_of_term g said st l w among =
    let made = w.lawful.history.made l among in
    record {
      tip = site l;
      ends = record { election = made.election; among = made.among; of_term = made.of_term; is = inr (l, among, refl, refl) };
      descends = record { steps = 0; down = refl };
    }

-- what it has said to hold in this term, it has in a later one
pub acked_later : (g : Ground) (said : List Message) (st : History) (term later : ℕ) (y : Spot) (a : Ack) → IsWhole g said st → term ≤ later → HasAcked g st term y a → HasAcked g st later y a
acked_later g said st term later y a w up h =
    let reached = h.reached in
    record {
      reached = omega (arith, reached, up);
      now = λ same. h.now (omega (arith, reached, up, same));
      past = λ past l among of_term low.
          elim (cases_lt a.term term) as (λ _. HasStill st y (later + 1) l) [
            | inl before ↦ longer_still st y (term + 1) (later + 1) l (omega (arith, up)) (h.past before l among of_term low)
            | inr over ↦
                let k = h.now (omega (arith, reached, over)) in
                let x = spot a.index k.0 in
                let own : IsOn g.root g.start st a.term (site l) = inl (subst (λ (t : ℕ). IsOfTerm st t (site l)) of_term (link_of_term g said st l w among)) in
                inl (through st.links (site l) x y k.1 (on_meet g.root g.start said st a.term (site l) x w.lawful own k.2 low))
          ];
    }

-- a vote stays in its term, and is gone in another
pub vote_stays : (st : History) (own : ℕ → Type 0) (id old new vote : ℕ) → (0 < vote → IsPledged st own id old vote) → 0 < (if old == new then vote else 0) → IsPledged st own id new (if old == new then vote else 0)
vote_stays st own id old new vote pledged =
    if_both (λ (v : ℕ). 0 < v → IsPledged st own id new v) (old == new) vote 0
    (λ same some. subst (λ (t : ℕ). IsPledged st own id t vote) (eqb-true old new same) (pledged some))
    (λ _ none. absurd (omega (arith, none)))

pub follows_knows : (g : Ground) (said : List Message) (st : History) (id : ℕ) (n : PlainNode) (term lead : ℕ) → IsWhole g said st → n.term ≤ term → Knows g st id n → Knows g st id (following n term lead)
follows_knows g said st id n term lead w up h =
    let old = h.log.old in
    record {
      log = record {
        itself = h.log.itself;
        linked = h.log.linked;
        rooted = h.log.rooted;
        old = omega (arith, old, up);
        leads = λ is. absurd (follower_leads is);
        stands = λ is. absurd (follower_stands is);
        stood = λ e among own. (let low = h.log.stood e among own in omega (arith, low, up));
        led = λ e among own. (let low = h.log.led e among own in omega (arith, low, up));
        acked = λ a among by. acked_later g said st n.term term (tip n.log) a w up (h.log.acked a among by);
        pledged = vote_stays st (mine id) id n.term term n.vote h.log.pledged;
        commit_term = h.log.commit_term;
        commit_held = h.log.commit_held;
        commit = later_settled g.root g.start st n.term term (spot n.commit h.log.commit_term) up h.log.commit;
        filled = h.log.filled;
      };
      words = record {
        counts = λ is. absurd (follower_leads is);
        sent = h.words.sent;
        waiting = h.words.waiting;
      };
    }

-- ---- a campaign

pub whole_candidacy : (g : Ground) (said : List Message) (st : History) (id : ℕ) (n : PlainNode) → IsWhole g said st → Knows g st id n → IsWhole g said (with_candidacy st (election (n.term + 1) id (tip n.log)))
whole_candidacy g said st id n w h =
    let e = election (n.term + 1) id (tip n.log) in
    let low = w.low in
    let old = h.log.old in
    record {
      lawful = record {
        history = record { tree = w.lawful.history.tree; once = w.lawful.history.once; rooted = w.lawful.history.rooted; made = λ l among. (let b = w.lawful.history.made l among in record { election = b.election; among = b.among; of_term = b.of_term; past = b.past; behind = b.behind }) };
        first = w.lawful.first;
        proper = w.lawful.proper;
        voted = λ x among. (let b = w.lawful.voted x among in record {
          voters = b.voters;
          decides = since_elected g.root g.start st (with_candidacy st e) x b.voters (of_more st (with_candidacy st e) (more_candidacy st e)) b.decides;
          cast = b.cast;
          each = λ v votes l there earlier acked. still_has st (with_candidacy st e) x.tip x.term l (more_candidacy st e) (b.each v votes l there earlier (record { ack = acked.ack; among = acked.among; by = acked.by; of_term = acked.of_term; upto = acked.upto }));
        });
        within = w.lawful.within;
      };
      plain = w.plain;
      held = λ a among. (let k = w.held a among in (k.0, still_is_on g.root g.start st (with_candidacy st e) a.term (spot a.index k.0) (more_candidacy st e) k.1));
      low = w.low;
      elected = w.elected;
      some = w.some;
      late = w.late;
      stood_rooted = λ x among.
          elim (Contains-push_cases st.candidacies e x among) as (λ _. Descends st.links x.tip g.root) [
            | inl before ↦ w.stood_rooted x before
            | inr now ↦ subst (λ (y : Election). Descends st.links y.tip g.root) now (tip_rooted g.root st.links n.log h.log.linked h.log.rooted)
          ];
      stood_late = λ x among.
          elim (Contains-push_cases st.candidacies e x among) as (λ _. x.tip.term ≤ x.term) [
            | inl before ↦ w.stood_late x before
            | inr now ↦ subst (λ (y : Election). y.tip.term ≤ y.term) now (let is : last_term n.log ≤ n.term + 1 = omega (arith, low, old) in is)
          ];
      stood_within = λ x among. Contains-append_left st.candidacies (e ∷ []) x (w.stood_within x among);
      stood_once = λ a b one two term who.
          elim (Contains-push_cases st.candidacies e a one) as (λ _. a ≡ b) [
            | inl first ↦ elim (Contains-push_cases st.candidacies e b two) as (λ _. a ≡ b) [
              | inl second ↦ w.stood_once a b first second term who
              | inr now ↦
                  let t = ap (λ (y : Election). y.term) now in
                  let own : a.id ≡ id = who ∙ sym (ap (λ (y : Election). y.id) now) in
                  let up = h.log.stood a first own in
                  absurd (omega (arith, t, up, term))
            ]
            | inr new_a ↦ elim (Contains-push_cases st.candidacies e b two) as (λ _. a ≡ b) [
              | inr new_b ↦ sym new_a ∙ new_b
              | inl second ↦
                  let t = ap (λ (y : Election). y.term) new_a in
                  let own : b.id ≡ id = sym who ∙ sym (ap (λ (y : Election). y.id) new_a) in
                  let up = h.log.stood b second own in
                  absurd (omega (arith, t, up, term))
            ]
          ];
    }

pub stands_knows : (g : Ground) (said : List Message) (st : History) (id : ℕ) (n : PlainNode) → IsWhole g said st → Knows g st id n → Knows g (with_candidacy st (election (n.term + 1) id (tip n.log))) id (candidate n)
stands_knows g said st id n w h =
    let e = election (n.term + 1) id (tip n.log) in
    let new = with_candidacy st e in
    let more = more_candidacy st e in
    let old = h.log.old in
    let there : Contains new.candidacies e = Contains-push st.candidacies e in
    let up : n.term ≤ n.term + 1 = omega arith in
    record {
      log = record {
        itself = h.log.itself;
        linked = h.log.linked;
        rooted = h.log.rooted;
        old = omega (arith, old);
        leads = λ is. absurd (candidate_leads is);
        stands = λ _. record { some = omega arith; stood = there; never_led = λ x among term own. (let low = h.log.led x among own in omega (arith, low, term)) };
        stood = λ x among own.
            elim (Contains-push_cases st.candidacies e x among) as (λ _. x.term ≤ n.term + 1) [
              | inl before ↦ (let low = h.log.stood x before own in omega (arith, low))
              | inr now ↦ (let t = ap (λ (y : Election). y.term) now in omega (arith, t))
            ];
        led = λ x among own. (let low = h.log.led x among own in omega (arith, low));
        acked = λ a among by.
            still_has_acked g st new (n.term + 1) (tip n.log) a more (λ l has _ _. has) (acked_later g said st n.term (n.term + 1) (tip n.log) a w up (h.log.acked a among by));
        pledged = λ _. record {
          stood = e;
          among = inr (refl, there);
          of_term = refl;
          of_id = sym h.log.itself;
          each = λ l has earlier acked.
              (let k = acked_later g said st n.term (n.term + 1) (tip n.log) acked.ack w up (h.log.acked acked.ack acked.among acked.by) in
              let of_term = acked.of_term in
              still_has st new (tip n.log) (n.term + 1 + 1) l more (k.past (omega (arith, of_term, earlier)) l has (sym acked.of_term) acked.upto));
        };
        commit_term = h.log.commit_term;
        commit_held = h.log.commit_held;
        commit = later_settled g.root g.start new n.term (n.term + 1) (spot n.commit h.log.commit_term) up (still_settled g.root g.start st new n.term (spot n.commit h.log.commit_term) more h.log.commit);
        filled = h.log.filled;
      };
      words = record {
        counts = λ is. absurd (candidate_leads is);
        sent = still_all g st new (mine id) n.sent more (same_back st new n.sent (λ x among. among) (λ a among. among)) h.words.sent;
        waiting = still_all g st new (mine id) n.waiting more (same_back st new n.waiting (λ x among. among) (λ a among. among)) h.words.waiting;
      };
    }

-- ---- what it says

pub sent_knows : (g : Ground) (st : History) (id : ℕ) (n : PlainNode) (m : Message) → TellsTrue g st (mine id) m → Knows g st id n → Knows g st id (with_sent n m)
sent_knows g st id n m tells h = record {
  log = h.log;
  words = record {
    counts = h.words.counts;
    sent = All-push (TellsTrue g st (mine id)) n.sent m h.words.sent tells;
    waiting = h.words.waiting;
  };
}

pub waiting_knows : (g : Ground) (st : History) (id : ℕ) (n : PlainNode) (m : Message) → TellsTrue g st (mine id) m → Knows g st id n → Knows g st id (with_waiting n m)
waiting_knows g st id n m tells h = record {
  log = h.log;
  words = record {
    counts = h.words.counts;
    sent = h.words.sent;
    waiting = All-push (TellsTrue g st (mine id)) n.waiting m h.words.waiting tells;
  };
}

-- An acknowledgement of a spot that the log has, of its leader's way or settled: the history has it from now on.
pub acks_knows : (g : Ground) (st : History) (id : ℕ) (n : PlainNode) (a : Ack) (t : ℕ) → a.voter ≡ id → a.term ≡ n.term → Descends st.links (tip n.log) (spot a.index t) → IsOn g.root g.start st a.term (spot a.index t) → All (AreReached a) n.sent → All (AreReached a) n.waiting → Knows g st id n → Knows g (with_ack st a) id n
acks_knows g st id n a t by of_term has on sent waiting h =
    let new = with_ack st a in
    let more = more_ack st a in
    let still : (b : Ack) → HasAcked g st n.term (tip n.log) b → HasAcked g new n.term (tip n.log) b = λ b k.
    still_has_acked g st new n.term (tip n.log) b more (λ l there _ _. there) k in
    let first : HasAcked g new n.term (tip n.log) a = record {
      reached = omega (arith, of_term);
      now = λ _. (t, has, still_is_on g.root g.start st new a.term (spot a.index t) more on);
      past = λ later l there term low. absurd (omega (arith, later, of_term));
    } in
    record {
      log = record {
        itself = h.log.itself;
        linked = h.log.linked;
        rooted = h.log.rooted;
        old = h.log.old;
        leads = λ is. (let k = h.log.leads is in record { ends = record { election = k.ends.election; among = k.ends.among; of_term = k.ends.of_term; is = k.ends.is }; own = k.own; highest = k.highest });
        stands = λ is. (let k = h.log.stands is in record { some = k.some; stood = k.stood; never_led = k.never_led });
        stood = h.log.stood;
        led = h.log.led;
        acked = λ b among own.
            elim (Contains-push_cases st.acks a b among) as (λ _. HasAcked g new n.term (tip n.log) b) [
              | inl before ↦ still b (h.log.acked b before own)
              | inr now ↦ subst (λ (x : Ack). HasAcked g new n.term (tip n.log) x) now first
            ];
        pledged = λ some. still_pledged st new (mine id) id n.term n.vote more (back_ack st a id n.term (λ _. omega (arith, of_term))) (h.log.pledged some);
        commit_term = h.log.commit_term;
        commit_held = h.log.commit_held;
        commit = still_settled g.root g.start st new n.term (spot n.commit h.log.commit_term) more h.log.commit;
        filled = h.log.filled;
      };
      words = record {
        counts = λ is v. still_counted g st new id n.term v (match_of n.tracker.views v) more (h.words.counts is v);
        sent = still_all g st new (mine id) n.sent more (back_acks st a n.sent sent) h.words.sent;
        waiting = still_all g st new (mine id) n.waiting more (back_acks st a n.waiting waiting) h.words.waiting;
      };
    }
