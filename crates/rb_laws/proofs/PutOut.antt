-- A node puts out what waits: from then on others may have heard of all its candidacies and acknowledgements, and what it then has saved it knows
-- by these
use Rattle.std.proofs.Common.{◌≡◌, ◌⊎◌, ℕ, ◌≤◌, List, [], ◌++◌, sym, ◌∙◌, inl, inr}
use Rattle.std.specs.Prelude.{All, Contains, slice_index_or}
use Rattle.std.proofs.lemmas.List.Elements.{All-nil, All-same, Contains-append_left, Contains-append_right, Contains-append_cases}
use Rattle.rb_message.specs.declared.kind.MessageKind.{MessageKind}
use Rattle.rb_message.specs.declared.kind.MessageKind.TheVariants as kind
use Rattle.rb_message.specs.declared.message.Message.{Message}
use Rattle.rb_message.specs.declared.role.Role.TheVariants as role
use Rattle.rb_node.specs.Node.{PlainNode}
use Rattle.rb_laws.proofs.Spots.{spot}
use Rattle.rb_calls.proofs.ListLaws.{picked}
use Rattle.rb_laws.proofs.Links.{Link}
use Rattle.rb_laws.proofs.LeaderLogs.{Election, Ack, History, out_of, IsAcked}
use Rattle.rb_laws.proofs.Histories.{IsMore, more_out, still_voted, still_is_on, HasStood}
use Rattle.rb_laws.proofs.NodeKnowledge.{Ground, election, mine, nobody, HasSaidUpTo, TellsBy, TellsTrue, AreBack, IsNoNews, Knows, still_knows, still_tells, still_all}
use Rattle.rb_laws.proofs.FollowerMoves.{IsWhole}
use Rattle.rb_laws.proofs.OtherNodes.{same_back}
use Rattle.rb_laws.proofs.AmongOthers.{KnowsSaved}
use Rattle.rb_laws.proofs.Forgetting.{HasOwn, part_knows, out_is_part}

abbrev its_candidacies : History → ℕ → List Election
its_candidacies st id = (picked (λ (e : Election). e.id) id st.candidacies).0

abbrev its_acks : History → ℕ → List Ack
its_acks st id = (picked (λ (a : Ack). a.voter) id st.acks).0

abbrev pub put_by : History → ℕ → History
put_by st id = record st { out_candidacies = st.out_candidacies ++ its_candidacies st id; out_acks = st.out_acks ++ its_acks st id }

pub more_put : (st : History) (id : ℕ) → IsMore st (put_by st id)
more_put st id = record {
  links = λ l among. among;
  candidacies = λ e among. among;
  elections = λ e among. among;
  acks = λ a among. among;
  out_candidacies = λ e among. Contains-append_left st.out_candidacies (its_candidacies st id) e among;
  out_acks = λ a among. Contains-append_left st.out_acks (its_acks st id) a among;
}

same_acked : (st : History) (id v : ℕ) (l : Link) → IsAcked (put_by st id) v l → IsAcked st v l
same_acked st id v l h = record { ack = h.ack; among = h.among; by = h.by; of_term = h.of_term; upto = h.upto }

pub whole_put : (g : Ground) (said : List Message) (st : History) (id : ℕ) → IsWhole g said st → IsWhole g said (put_by st id)
whole_put g said st id w =
    let new = put_by st id in
    let more = more_put st id in
    record {
      lawful = record {
        history = record {
          tree = w.lawful.history.tree;
          once = w.lawful.history.once;
          rooted = w.lawful.history.rooted;
          made = λ l among. (let b = w.lawful.history.made l among in record { election = b.election; among = b.among; of_term = b.of_term; past = b.past; behind = b.behind });
        };
        first = w.lawful.first;
        proper = w.lawful.proper;
        voted = λ e among. still_voted g.root g.start said st new e more (λ v l _ there _ acked. (there, same_acked st id v l acked)) (w.lawful.voted e among);
        within = λ a among.
            elim (Contains-append_cases st.out_acks (its_acks st id) a among) as (λ _. Contains st.acks a) [
              | inl before ↦ w.lawful.within a before
              | inr now ↦ ((picked (λ (x : Ack). x.voter) id st.acks).1 a now).0
            ];
      };
      plain = w.plain;
      held = λ a among. (let k = w.held a among in (k.0, still_is_on g.root g.start st new a.term (spot a.index k.0) more k.1));
      low = w.low;
      elected = w.elected;
      some = w.some;
      late = w.late;
      stood_rooted = w.stood_rooted;
      stood_late = w.stood_late;
      stood_within = λ e among.
          elim (Contains-append_cases st.out_candidacies (its_candidacies st id) e among) as (λ _. Contains st.candidacies e) [
            | inl before ↦ w.stood_within e before
            | inr now ↦ ((picked (λ (x : Election). x.id) id st.candidacies).1 e now).0
          ];
      stood_once = w.stood_once;
    }

-- ---- what it says rests on nothing unsaved any more

out_stood : (st : History) (id : ℕ) (e : Election) → e.id ≡ id → Contains st.candidacies e → Contains (put_by st id).out_candidacies e
out_stood st id e own among = Contains-append_right st.out_candidacies (its_candidacies st id) e ((picked (λ (x : Election). x.id) id st.candidacies).2 e among own)

out_acked : (st : History) (id : ℕ) (a : Ack) → a.voter ≡ id → Contains st.acks a → Contains (put_by st id).out_acks a
out_acked st id a own among = Contains-append_right st.out_acks (its_acks st id) a ((picked (λ (x : Ack). x.voter) id st.acks).2 a among own)

put_tells_by : (g : Ground) (st : History) (id : ℕ) (k : MessageKind) (m : Message) → TellsBy g (put_by st id) (mine id) k m → TellsBy g (put_by st id) nobody k m
put_tells_by g st id (kind.Vote last_term last_index transfer) m h =
    (let e = election m.term m.from (spot last_index last_term) in
    elim h as (λ _. HasStood (put_by st id) nobody e) [ inl out ↦ inl out | inr its ↦ inl (out_stood st id e its.0 its.1) ])
put_tells_by g st id (kind.VoteResponse granted) m h = λ yes some. (let p = h yes some in record {
  stood = p.stood;
  among = elim p.among as (λ _. HasStood (put_by st id) nobody p.stood) [ inl out ↦ inl out | inr its ↦ inl (out_stood st id p.stood its.0 its.1) ];
  of_term = p.of_term;
  of_id = p.of_id;
  each = p.each;
})
put_tells_by g st id (kind.AppendResponse matched) m h =
    elim h as (λ _. (matched ≤ g.root.index) ⊎ HasSaidUpTo (put_by st id) nobody m.from m.term matched) [
      | inl low ↦ inl low
      | inr said ↦ elim said as (λ _. (matched ≤ g.root.index) ⊎ HasSaidUpTo (put_by st id) nobody m.from m.term matched) [
        | inl out ↦ inr (inl out)
        | inr its ↦
            let x = its.1 in
            inr (inl (record { ack = x.ack; among = out_acked st id x.ack (x.by ∙ its.0) x.among; by = x.by; of_term = x.of_term; upto = x.upto }))
      ]
    ]
put_tells_by g st id (kind.Append append) m h = h
put_tells_by g st id (kind.Heartbeat commit) m h = h
put_tells_by g st id (kind.Snapshot snapshot) m h = h
put_tells_by g st id _ m h = tt

pub put_tells : (g : Ground) (st : History) (id : ℕ) (ms : List Message) → All (TellsTrue g st (mine id)) ms → All (TellsTrue g (put_by st id) nobody) ms
put_tells g st id ms h = λ k d low.
    (let m = slice_index_or ms k d in
    put_tells_by g st id m.kind m (still_tells g st (put_by st id) (mine id) m (more_put st id) (same_back st (put_by st id) ms (λ l among. among) (λ a among. among) k d low) (h k d low)))

-- ---- and is no news to anybody

pub put_all : (g : Ground) (st : History) (id : ℕ) (ms : List Message) → All (TellsTrue g st nobody) ms → All (TellsTrue g (put_by st id) nobody) ms
put_all g st id ms h = still_all g st (put_by st id) nobody ms (more_put st id) (same_back st (put_by st id) ms (λ l among. among) (λ a among. among)) h

pub put_knows : (g : Ground) (st : History) (id j : ℕ) (n : PlainNode) → Knows g st j n → Knows g (put_by st id) j n
put_knows g st id j n h =
    let new = put_by st id in
    let none : IsNoNews st new j n = record {
      links = λ _ l among _. among;
      elections = λ e among _. inl among;
      candidacies = λ e among _. among;
      acks = λ a among _. among;
      held = λ a l _ there _ _. there;
      pledged = λ l among _ acked. (among, same_acked st id j l acked);
      sent = same_back st new n.sent (λ l among. among) (λ a among. among);
      waiting = same_back st new n.waiting (λ l among. among) (λ a among. among);
    } in
    still_knows g st new j n (more_put st id) none h

-- nor to what another has saved
pub put_saved : (g : Ground) (st : History) (id j : ℕ) (y : PlainNode) → (j ≡ id → ⊥) → KnowsSaved g st j y → KnowsSaved g (put_by st id) j y
put_saved g st id j y other k =
    let old = out_of st in
    let new = out_of (put_by st id) in
    let acks : (a : Ack) → Contains new.acks a → a.voter ≡ j → Contains old.acks a = λ a among by.
    (elim (Contains-append_cases st.out_acks (its_acks st id) a among) as (λ _. Contains old.acks a) [
      | inl before ↦ before
      | inr now ↦ absurd (other (sym by ∙ ((picked (λ (x : Ack). x.voter) id st.acks).1 a now).1))
    ]) in
    let none : IsNoNews old new j y = record {
      links = λ _ l among _. among;
      elections = λ e among _. inl among;
      candidacies = λ e among own.
          elim (Contains-append_cases st.out_candidacies (its_candidacies st id) e among) as (λ _. Contains old.candidacies e) [
            | inl before ↦ before
            | inr now ↦ absurd (other (sym own ∙ ((picked (λ (x : Election). x.id) id st.candidacies).1 e now).1))
          ];
      acks = acks;
      held = λ a l _ there _ _. there;
      pledged = λ l among _ acked. (among, record { ack = acked.ack; among = acks acked.ack acked.among acked.by; by = acked.by; of_term = acked.of_term; upto = acked.upto });
      sent = All-same (AreBack old new) y.sent [] k.none_sent (All-nil (AreBack old new));
      waiting = All-same (AreBack old new) y.waiting [] k.none_waiting (All-nil (AreBack old new));
    } in
    record {
      follows = k.follows;
      none_sent = k.none_sent;
      none_waiting = k.none_waiting;
      knows = still_knows g old new j y (more_out st (put_by st id) (more_put st id)) none k.knows;
    }

-- ---- what it saves

-- all that a follower that says nothing knows it knows by what others may have heard of
pub saves_known : (g : Ground) (said : List Message) (st : History) (id : ℕ) (y : PlainNode) → IsWhole g said st → y.role ≡ role.Follower → y.sent ≡ [] → y.waiting ≡ [] → Knows g st id y → KnowsSaved g (put_by st id) id y
saves_known g said st id y w follows sent waiting h =
    let new = put_by st id in
    let own : HasOwn new new.out_candidacies new.out_acks (mine id) = record {
      all_stood = λ e own among. out_stood st id e own among;
      all_acks = λ a own among. out_acked st id a own among;
    } in
    record {
      follows = follows;
      none_sent = sent;
      none_waiting = waiting;
      knows = part_knows g new new.out_candidacies new.out_acks id y (out_is_part g said new (whole_put g said st id w)) own (put_knows g st id id y h);
    }
