-- A history without candidacies and acknowledgements that no other node may have heard of: what rests on the others stays known. Nothing here
-- is about what a node does.
use Rattle.std.proofs.Common.{◌≡◌, ◌⊎◌, ℕ, ◌+◌, ◌<◌, ◌≤◌, List, refl, sym, subst, inl, inr}
use Rattle.std.specs.Prelude.{Contains, slice_index_or}
use Rattle.rb_raftlog.specs.Log.{last_term}
use Rattle.rb_tracker.specs.Commits.{match_of}
use Rattle.rb_message.specs.declared.kind.MessageKind.{MessageKind}
use Rattle.rb_message.specs.declared.kind.MessageKind.TheVariants as kind
use Rattle.rb_message.specs.declared.message.Message.{Message}
use Rattle.rb_node.specs.Node.{PlainNode}
use Rattle.rb_laws.proofs.Links.{Link}
use Rattle.rb_laws.proofs.LinkedLogs.{log_from}
use Rattle.rb_laws.proofs.Spots.{Spot, spot, site, Descends, still_descends}
use Rattle.rb_laws.proofs.Applied.{Applied}
use Rattle.rb_laws.proofs.LeaderLogs.{Election, Ack, History, out_of, IsTip, IsOfTerm, IsAcked, HasStill}
use Rattle.rb_laws.proofs.KeptEntries.{IsOn}
use Rattle.rb_laws.proofs.Histories.{IsSince, since_settled, since_elected, HasStood, IsPledged}
use Rattle.rb_laws.proofs.Tips.{tip}
use Rattle.rb_laws.proofs.NodeKnowledge.{Ground, election, mine, IsSaidUpTo, HasSaidUpTo, TellsCommit, TellsBy, TellsTrue, IsCounted, Knows}
use Rattle.rb_laws.proofs.FollowerMoves.{IsWhole}

-- ---- what is never forgotten (Histories) stays known

abbrev pub since_tip : (old new : History) (term : ℕ) (x : Spot) → IsSince old new → IsTip old term x → IsTip new term x
since_tip old new term x since t = record {
  election = t.election;
  among = since.elections t.election t.among;
  of_term = t.of_term;
  is = elim t.is as (λ _. (x ≡ t.election.tip) ⊎ ((l : Link) × Contains new.links l × (l.entry.term ≡ term) × (site l ≡ x))) [
    | inl first ↦ inl first
    | inr l ↦ inr (l.0, since.links l.0 l.1, l.2, l.3)
  ];
}

pub since_of_term : (old new : History) (term : ℕ) (x : Spot) → IsSince old new → IsOfTerm old term x → IsOfTerm new term x
since_of_term old new term x since h = record {
  tip = h.tip;
  ends = since_tip old new term h.tip since h.ends;
  descends = still_descends old.links new.links h.tip x since.links h.descends;
}

since_has : (old new : History) (x : Spot) (bound : ℕ) (l : Link) → IsSince old new → HasStill old x bound l → HasStill new x bound l
since_has old new x bound l since h =
    elim h as (λ _. HasStill new x bound l) [
      | inl there ↦ inl (still_descends old.links new.links x (site l) since.links there)
      | inr lacks ↦
          let k = lacks.3 in
          inr (
            lacks.0,
            lacks.1,
            lacks.2,
            record {
              election = k.election;
              among = since.elections k.election k.among;
              of_term = k.of_term;
              lacking = elim k.lacking as (λ _. (k.election.tip.index < l.index) ⊎ ((t : ℕ) × Descends new.links k.election.tip (spot l.index t) × (t ≡ l.entry.term → ⊥))) [
                | inl short ↦ inl short
                | inr other ↦ inr (other.0, still_descends old.links new.links k.election.tip (spot l.index other.0) since.links other.1, other.2)
              ];
            },
          )
    ]

since_on : (root : Spot) (start : Applied) (old new : History) (term : ℕ) (x : Spot) → IsSince old new → IsOn root start old term x → IsOn root start new term x
since_on root start old new term x since h =
    elim h as (λ _. IsOn root start new term x) [ inl own ↦ inl (since_of_term old new term x since own) | inr settled ↦ inr (since_settled root start old new term x since settled) ]

-- ---- a part of a history

abbrev pub with_only : History → List Election → List Ack → History
with_only st stood acks = record st { candidacies = stood; acks = acks }

-- it has all that others may have heard of
pub record IsPart (st : History) (stood : List Election) (acks : List Ack) : Type 0 where
  pub stood_among : (e : Election) → Contains stood e → Contains st.candidacies e
  pub stood_out : (e : Election) → Contains st.out_candidacies e → Contains stood e
  pub acks_among : (a : Ack) → Contains acks a → Contains st.acks a
  pub acks_out : (a : Ack) → Contains st.out_acks a → Contains acks a

-- and all of some nodes
pub record HasOwn (st : History) (stood : List Election) (acks : List Ack) (own : ℕ → Type 0) : Type 0 where
  pub all_stood : (e : Election) → own e.id → Contains st.candidacies e → Contains stood e
  pub all_acks : (a : Ack) → own a.voter → Contains st.acks a → Contains acks a

part_since : (st : History) (stood : List Election) (acks : List Ack) → IsSince st (with_only st stood acks)
part_since st stood acks = record { links = λ l among. among; elections = λ e among. among; out_acks = λ a among. among }

acked_among : (st : History) (stood : List Election) (acks : List Ack) (v : ℕ) (l : Link) → IsPart st stood acks → IsAcked (with_only st stood acks) v l → IsAcked st v l
acked_among st stood acks v l p h = record { ack = h.ack; among = p.acks_among h.ack h.among; by = h.by; of_term = h.of_term; upto = h.upto }

pub whole_part : (g : Ground) (said : List Message) (st : History) (stood : List Election) (acks : List Ack) → IsPart st stood acks → IsWhole g said st → IsWhole g said (with_only st stood acks)
whole_part g said st stood acks p w =
    let new = with_only st stood acks in
    let since = part_since st stood acks in
    record {
      lawful = record {
        history = record {
          tree = w.lawful.history.tree;
          once = w.lawful.history.once;
          rooted = w.lawful.history.rooted;
          made = λ l among. (let b = w.lawful.history.made l among in record { election = b.election; among = b.among; of_term = b.of_term; past = b.past; behind = b.behind });
        };
        first = w.lawful.first;
        proper = w.lawful.proper;
        voted = λ e among. (let v = w.lawful.voted e among in record {
          voters = v.voters;
          decides = since_elected g.root g.start st new e v.voters since v.decides;
          cast = v.cast;
          each = λ x votes l there earlier acked. since_has st new e.tip e.term l since (v.each x votes l there earlier (acked_among st stood acks x l p acked));
        });
        within = p.acks_out;
      };
      plain = w.plain;
      held = λ a among. (let k = w.held a (p.acks_among a among) in (k.0, since_on g.root g.start st new a.term (spot a.index k.0) since k.1));
      low = w.low;
      elected = w.elected;
      some = w.some;
      late = w.late;
      stood_rooted = λ e among. w.stood_rooted e (p.stood_among e among);
      stood_late = λ e among. w.stood_late e (p.stood_among e among);
      stood_within = p.stood_out;
      stood_once = λ a b one two. w.stood_once a b (p.stood_among a one) (p.stood_among b two);
    }

-- ---- what messages tell

part_pledged : (st : History) (stood : List Election) (acks : List Ack) (own : ℕ → Type 0) (v t c : ℕ) → IsPart st stood acks → HasOwn st stood acks own → IsPledged st own v t c → IsPledged (with_only st stood acks) own v t c
part_pledged st stood acks own v t c p k h = record {
  stood = h.stood;
  among = elim h.among as (λ _. HasStood (with_only st stood acks) own h.stood) [ inl out ↦ inl out | inr its ↦ inr (its.0, k.all_stood h.stood its.0 its.1) ];
  of_term = h.of_term;
  of_id = h.of_id;
  each = λ l among earlier acked. since_has st (with_only st stood acks) h.stood.tip (t + 1) l (part_since st stood acks) (h.each l among earlier (acked_among st stood acks v l p acked));
}

part_said : (st : History) (stood : List Election) (acks : List Ack) (v t i : ℕ) → IsSaidUpTo st v t i → IsSaidUpTo (with_only st stood acks) v t i
part_said st stood acks v t i h = record { ack = h.ack; among = h.among; by = h.by; of_term = h.of_term; upto = h.upto }

part_tells_by : (g : Ground) (st : History) (stood : List Election) (acks : List Ack) (own : ℕ → Type 0) (k : MessageKind) (m : Message) → IsPart st stood acks → HasOwn st stood acks own → TellsBy g st own k m → TellsBy g (with_only st stood acks) own k m
part_tells_by g st stood acks own (kind.Append append) m p o h =
    let new = with_only st stood acks in
    let since = part_since st stood acks in
    let sent = tip (log_from append.prev append.prev_term append.entries) in
    record {
      ends = elim h.ends as (λ _. IsOfTerm new m.term sent ⊎ ((append.prev_term ≡ 0) × (g.root.index < append.prev))) [ inl own ↦ inl (since_of_term st new m.term sent since own) | inr past ↦ inr past ];
      linked = h.linked;
      commit_term = h.commit_term;
      commit = since_settled g.root g.start st new m.term (spot append.commit h.commit_term) since h.commit;
    }
part_tells_by g st stood acks own (kind.Heartbeat commit) m p o h =
    let new = with_only st stood acks in
    elim h as (λ _. (commit ≤ g.root.index) ⊎ TellsCommit g new m.term m.to commit) [
      | inl low ↦ inl low
      | inr beat ↦ inr (record {
        held = part_said st stood acks m.to m.term commit beat.held;
        index = beat.index;
        high = beat.high;
        index_term = beat.index_term;
        settled = since_settled g.root g.start st new m.term (spot beat.index beat.index_term) (part_since st stood acks) beat.settled;
      })
    ]
part_tells_by g st stood acks own (kind.Snapshot snapshot) m p o h =
    (since_settled g.root g.start st (with_only st stood acks) m.term (spot snapshot.index snapshot.term) (part_since st stood acks) h.0, h.1)
part_tells_by g st stood acks own (kind.Vote last_term last_index transfer) m p o h =
    (let e = election m.term m.from (spot last_index last_term) in
    elim h as (λ _. HasStood (with_only st stood acks) own e) [ inl out ↦ inl out | inr its ↦ inr (its.0, o.all_stood e its.0 its.1) ])
part_tells_by g st stood acks own (kind.VoteResponse granted) m p o h = λ yes some. part_pledged st stood acks own m.from m.term m.to p o (h yes some)
part_tells_by g st stood acks own (kind.AppendResponse matched) m p o h =
    let new = with_only st stood acks in
    elim h as (λ _. (matched ≤ g.root.index) ⊎ HasSaidUpTo new own m.from m.term matched) [
      | inl low ↦ inl low
      | inr said ↦ elim said as (λ _. (matched ≤ g.root.index) ⊎ HasSaidUpTo new own m.from m.term matched) [
        | inl out ↦ inr (inl (part_said st stood acks m.from m.term matched out))
        | inr its ↦
            let x = its.1 in
            let there = o.all_acks x.ack (subst own (sym x.by) its.0) x.among in
            inr (inr (its.0, record { ack = x.ack; among = there; by = x.by; of_term = x.of_term; upto = x.upto }))
      ]
    ]
part_tells_by g st stood acks own _ m p o h = tt

pub part_tells : (g : Ground) (st : History) (stood : List Election) (acks : List Ack) (own : ℕ → Type 0) (m : Message) → IsPart st stood acks → HasOwn st stood acks own → TellsTrue g st own m → TellsTrue g (with_only st stood acks) own m
part_tells g st stood acks own m p o h = part_tells_by g st stood acks own m.kind m p o h

-- ---- what a node knows, of which all is kept

part_counted : (g : Ground) (st : History) (stood : List Election) (acks : List Ack) (id term v matched : ℕ) → IsCounted g st id term v matched → IsCounted g (with_only st stood acks) id term v matched
part_counted g st stood acks id term v matched h =
    elim h as (λ _. IsCounted g (with_only st stood acks) id term v matched) [
      | inl first ↦ inl first
      | inr rest ↦ elim rest as (λ _. IsCounted g (with_only st stood acks) id term v matched) [
        | inl own ↦ inr (inl own)
        | inr said ↦ inr (inr (part_said st stood acks v term matched said))
      ]
    ]

pub part_knows : (g : Ground) (st : History) (stood : List Election) (acks : List Ack) (id : ℕ) (n : PlainNode) → IsPart st stood acks → HasOwn st stood acks (mine id) → Knows g st id n → Knows g (with_only st stood acks) id n
part_knows g st stood acks id n p o h =
    let new = with_only st stood acks in
    let since = part_since st stood acks in
    record {
      log = record {
        itself = h.log.itself;
        linked = h.log.linked;
        rooted = h.log.rooted;
        old = h.log.old;
        leads = λ is. (let k = h.log.leads is in record { ends = since_tip st new n.term (tip n.log) since k.ends; own = k.own; highest = k.highest });
        stands = λ is. (let k = h.log.stands is in record { some = k.some; stood = o.all_stood (election n.term id (tip n.log)) refl k.stood; never_led = k.never_led });
        stood = λ e among own. h.log.stood e (p.stood_among e among) own;
        led = h.log.led;
        acked = λ a among by. (let k = h.log.acked a (p.acks_among a among) by in record {
          reached = k.reached;
          now = λ same. (let x = k.now same in (x.0, x.1, since_on g.root g.start st new a.term (spot a.index x.0) since x.2));
          past = λ later l there term low. since_has st new (tip n.log) (n.term + 1) l since (k.past later l there term low);
        });
        pledged = λ some. part_pledged st stood acks (mine id) id n.term n.vote p o (h.log.pledged some);
        commit_term = h.log.commit_term;
        commit_held = h.log.commit_held;
        commit = since_settled g.root g.start st new n.term (spot n.commit h.log.commit_term) since h.log.commit;
        filled = h.log.filled;
      };
      words = record {
        counts = λ is v. part_counted g st stood acks id n.term v (match_of n.tracker.views v) (h.words.counts is v);
        sent = λ k d low. part_tells g st stood acks (mine id) (slice_index_or n.sent k d) p o (h.words.sent k d low);
        waiting = λ k d low. part_tells g st stood acks (mine id) (slice_index_or n.waiting k d) p o (h.words.waiting k d low);
      };
    }

-- ---- what others may have heard of

pub out_is_part : (g : Ground) (said : List Message) (st : History) → IsWhole g said st → IsPart st st.out_candidacies st.out_acks
out_is_part g said st w = record { stood_among = w.stood_within; stood_out = λ e among. among; acks_among = w.lawful.within; acks_out = λ a among. among }

pub whole_out : (g : Ground) (said : List Message) (st : History) → IsWhole g said st → IsWhole g said (out_of st)
whole_out g said st w = whole_part g said st st.out_candidacies st.out_acks (out_is_part g said st w) w
