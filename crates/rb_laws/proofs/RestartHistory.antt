-- A network whose nodes restart, and whose nodes begin at one spot: the history that tells of it forgets what a node did that it hadn't put out when it
-- restarts. What is committed, and what is linked, stays (Ongaro's thesis, sections 3.6.3 and 3.8).
use Rattle.std.proofs.Common.{◌≡◌, ℕ, ◌+◌, true, List, [], ◌∷◌, ◌++◌, Option, Some, None, min, refl, sym, subst, ◌∙◌, arith, inl, inr}
use Rattle.std.specs.Prelude.{All, Contains, slice_get, slice_set, slice_index_or}
use Rattle.std.proofs.lemmas.List.Elements.{All-nil, All-same, All-append, Contains-push, Contains-append_left, Contains-append_right, Contains-append_cases}
use Rattle.rb_raftlog.specs.declared.raft_log.CompactFault.{CompactFault}
use Rattle.rb_raftlog.specs.Log.{compact_fault}
use Rattle.rb_message.specs.declared.event.Event.{Event}
use Rattle.rb_message.specs.declared.message.Message.{Message}
use Rattle.rb_message.specs.declared.role.Role.TheVariants as role
use Rattle.rb_node.specs.Node.{PlainNode, NodeStep, node_step}
use Rattle.rb_node.specs.Restarting.{restarted}
use Rattle.rb_calls.specs.Calling.{Call, Step, Advance, Compact, after, compacted_unless}
use Rattle.rb_calls.specs.Sound.{IsSound, HasSoundViews}
use Rattle.rb_laws.specs.Network.{Network, Happening, put_out, happened_to}
use Rattle.rb_laws.specs.Safety.{IsTrueCall, IsStateCall}
use Rattle.rb_laws.specs.Restarts.{Occurrence, Called, Restarted, restarted_to, occurred, passed, IsHonestOccurrence, AreHonestThrough, IsTrueOccurrence, AreTrueThrough}
use Rattle.rb_laws.specs.Honesty.{IsHonestCall}
use Rattle.rb_laws.proofs.ViewLaws.{no_views}
use Rattle.rb_calls.proofs.ListLaws.{set_cases, left_out}
use Rattle.rb_laws.proofs.Holding.{follower_leads}
use Rattle.rb_laws.proofs.NetworkLaws.{called_network}
use Rattle.rb_laws.proofs.LeaderLogs.{Election, Ack, History, out_of}
use Rattle.rb_laws.proofs.Histories.{IsMore, IsSince, of_more}
use Rattle.rb_laws.proofs.NodeKnowledge.{Ground, mine, nobody, TellsTrue, AreBack, IsNoNews, Knows, still_knows}
use Rattle.rb_laws.proofs.FollowerMoves.{IsWhole}
use Rattle.rb_laws.proofs.AmongOthers.{KnowsSaved, saved_still, same_history}
use Rattle.rb_laws.proofs.StepMoves.{onward_more}
use Rattle.rb_laws.proofs.Forgetting.{with_only, IsPart, HasOwn, whole_part, part_tells, part_knows, whole_out}
use Rattle.rb_laws.proofs.PutOut.{put_by, more_put, put_tells, put_saved, saves_known}
use Rattle.rb_laws.proofs.NetworkHistory.{IsKnown, KnownThen, known_put, called_then, state_known, true_more}
use Rattle.rb_laws.proofs.RestartedKnowledge.{start_filled, saved_knows, compacted_knows}
use Rattle.rb_laws.proofs.RestartedLogs.{again_twice, IsRestartable, saved_base, saved_again, again_saved, compacts_to, by_call}
use Rattle.rb_laws.proofs.RestartedNodes.{IsSaneWith, restarted_network, occurs_sane}
use Rattle.rb_laws.proofs.SavedStates.{LeavesSaved, call_leaves, same_again, advance_saves}

-- ---- what holds

pub record IsKnownWith (g : Ground) (s : Network) (heard : List Message) (st : History) : Type 0 where
  pub known : IsKnown g s heard st
  pub saved : (k : ℕ) (n : PlainNode) → slice_get s.nodes k ≡ Some n → KnowsSaved g st (k + 1) (restarted n)

-- the history then, which forgets nothing that others may have heard of
pub record KnownAt (g : Ground) (st : History) (s : Network) (heard : List Message) : Type 0 where
  pub history : History
  pub since : IsSince st history
  pub known : IsKnownWith g s heard history

pub record KnownThrough (g : Ground) (st : History) (s : Network) : Type 0 where
  pub heard : List Message
  pub history : History
  pub since : IsSince st history
  pub known : IsKnownWith g s heard history

pub same_since : (st : History) → IsSince st st
same_since st = of_more st st (same_history st)

pub since_then : (a b c : History) → IsSince a b → IsSince b c → IsSince a c
since_then a b c p q = record {
  links = λ l among. q.links l (p.links l among);
  elections = λ e among. q.elections e (p.elections e among);
  out_acks = λ x among. q.out_acks x (p.out_acks x among);
}

then_known : {g : Ground} {st : History} {s : Network} {heard : List Message} → KnownAt g st s heard → KnownThrough g st s
then_known {g} {st} {s} {heard} k = record { heard = heard; history = k.history; since = k.since; known = k.known }

-- ---- a call

-- what is put out goes into the history first, and what is saved is known by it
record PutsAndSaves (g : Ground) (s : Network) (heard : List Message) (st : History) (place : ℕ) (c : Call) (told : List Event) (n : PlainNode) : Type 0 where
  history : History
  more : IsMore st history
  known : IsKnown g s heard history
  out_told : All (TellsTrue g history nobody) (put_out c n)
  saved : (k : ℕ) (x : PlainNode) → slice_get (called_network s place c told n).nodes k ≡ Some x → KnowsSaved g history (k + 1) (restarted x)

-- the node at a place has saved something else
saved_set : (g : Ground) (st : History) (nodes : List PlainNode) (place : ℕ) (new : PlainNode) → KnowsSaved g st (place + 1) (restarted new) → ((k : ℕ) (x : PlainNode) → (k ≡ place → ⊥) → slice_get nodes k ≡ Some x → KnowsSaved g st (k + 1) (restarted x))
    → (k : ℕ) (x : PlainNode) → slice_get (slice_set nodes place new) k ≡ Some x → KnowsSaved g st (k + 1) (restarted x)
saved_set g st nodes place new here others k x is =
    elim (set_cases nodes place new k x is) as (λ _. KnowsSaved g st (k + 1) (restarted x)) [
      | inl same ↦ subst (λ (j : ℕ). KnowsSaved g st (j + 1) (restarted x)) (sym same.0) (subst (λ (z : PlainNode). KnowsSaved g st (place + 1) (restarted z)) (sym same.1) here)
      | inr there ↦ others k x there.0 there.1
    ]

unless_compacted : (g : Ground) (heard : List Message) (st : History) (place i : ℕ) (n : PlainNode) → IsWhole g heard st → IsSound n → IsRestartable n → KnowsSaved g st (place + 1) (restarted n) → (o : Option CompactFault) → compact_fault n.log i (min n.applied n.log.durable) ≡ o
    → KnowsSaved g st (place + 1) (restarted (compacted_unless o n i))
unless_compacted g heard st place i n w sound r k (Some fault) is = k
unless_compacted g heard st place i n w sound r k None is =
    let c = compacts_to n i is sound r in
    subst (λ (y : PlainNode). KnowsSaved g st (place + 1) y) (sym c.again)
    (record { follows = refl; none_sent = refl; none_waiting = refl; knows = compacted_knows g heard (out_of st) (place + 1) n i (whole_out g heard st w) sound c k.knows })

advance_and_saves : (g : Ground) (s : Network) (heard : List Message) (st : History) (place : ℕ) (told : List Event) (n : PlainNode) → IsSaneWith g.setting s → slice_get s.nodes place ≡ Some n → IsKnownWith g s heard st → PutsAndSaves g s heard st place Advance told n
advance_and_saves g s heard st place told n w at h =
    let id = place + 1 in
    let new = put_by st id in
    let t : NodeStep = node_step n told in
    let good = w.sane.good place n at in
    let safe = w.safe place n at in
    let knows = h.known.knows place n at in
    let whole = h.known.whole in
    let x = advance_saves t good.sound in
    let again = x.again ∙ again_saved n (saved_base n safe.restartable) in
    let filled = start_filled g st id n safe.restartable (h.saved place n at).knows.log.filled knows in
    let here : KnowsSaved g new id (saved_again n) = saves_known g heard st id (saved_again n) whole refl refl refl (saved_knows g heard st id n whole filled knows) in
    record {
      history = new;
      more = more_put st id;
      known = known_put g s heard st id h.known;
      out_told = put_tells g st id (n.sent ++ n.waiting) (All-append (TellsTrue g st (mine id)) n.sent n.waiting knows.words.sent knows.words.waiting);
      saved = saved_set g new s.nodes place (after Advance t).node (subst (λ (y : PlainNode). KnowsSaved g new id y) (sym again) here)
          (λ k y other there. put_saved g st id (k + 1) (restarted y) (λ same. other (omega (arith, same))) (h.saved k y there));
    }

-- a call that puts nothing out
no_words : (c : Call) → LeavesSaved c → (g : Ground) (st : History) (n : PlainNode) → All (TellsTrue g st nobody) (put_out c n)
no_words Advance leaves g st n = absurd leaves
no_words _ leaves g st n = All-nil (TellsTrue g st nobody)

puts_and_saves : (g : Ground) (s : Network) (heard : List Message) (st : History) (place : ℕ) (c : Call) (told : List Event) (n : PlainNode) → IsSaneWith g.setting s → slice_get s.nodes place ≡ Some n → IsKnownWith g s heard st → PutsAndSaves g s heard st place c told n
puts_and_saves g s heard st place c told n w at h =
    let t : NodeStep = node_step n told in
    let good = w.sane.good place n at in
    let safe = w.safe place n at in
    let own = h.saved place n at in
    by_call (λ (d : Call). PutsAndSaves g s heard st place d told n)
    (λ d leaves. record {
      history = st;
      more = same_history st;
      known = h.known;
      out_told = no_words d leaves g st n;
      saved = saved_set g st s.nodes place (after d t).node (subst (λ (y : PlainNode). KnowsSaved g st (place + 1) y) (sym (same_again (call_leaves d t leaves good.sound))) own)
          (λ k y other there. h.saved k y there);
    })
    (advance_and_saves g s heard st place told n w at h)
    (λ i. record {
      history = st;
      more = same_history st;
      known = h.known;
      out_told = All-nil (TellsTrue g st nobody);
      saved = saved_set g st s.nodes place (after (Compact i) t).node
          (unless_compacted g heard st place i n h.known.whole good.sound safe.restartable own (compact_fault n.log i (min n.applied n.log.durable)) refl)
          (λ k y other there. h.saved k y there);
    })
    c

pub calls_known : (g : Ground) (s : Network) (heard : List Message) (st : History) (place : ℕ) (c : Call) (told : List Event) (n : PlainNode) → IsSaneWith g.setting s → slice_get s.nodes place ≡ Some n → IsHonestCall g.setting.config s (place + 1) c → (g.setting.strict ≡ true → ⊥) → IsTrueCall heard (place + 1) c → IsKnownWith g s heard st
    → KnownAt g st (called_network s place c told n) (heard ++ put_out c n)
calls_known g s heard st place c told n w at honest loose true_call k =
    let p = puts_and_saves g s heard st place c told n w at k in
    let after_it = called_network s place c told n in
    let keeps : ℕ → PlainNode → Type 0 = λ j y. (i : ℕ) × (j ≡ i + 1) × (x : PlainNode) × (slice_get after_it.nodes i ≡ Some x) × (y ≡ restarted x) in
    let o : KnownThen g after_it (heard ++ put_out c n) keeps p.history =
    called_then g s heard place c told n keeps p.history w.sane at honest (λ strict. absurd (loose strict)) true_call p.known p.out_told
    (λ j y there.
    subst (λ (z : PlainNode). KnowsSaved g p.history j z) (sym there.4)
    (subst (λ (i : ℕ). KnowsSaved g p.history i (restarted there.2)) (sym there.1) (p.saved there.0 there.2 there.3))) in
    record {
      history = o.history;
      since = of_more st o.history (onward_more st p.history o.history p.more o.more);
      known = record { known = o.known; saved = λ i x there. o.keeps (i + 1) (restarted x) (i, refl, x, there, refl) };
    }

state_comes : (g : Ground) (s : Network) (heard : List Message) (st : History) (place : ℕ) (c : Call) (told : List Event) (n : PlainNode) → IsSaneWith g.setting s → slice_get s.nodes place ≡ Some n → IsHonestCall g.setting.config s (place + 1) c → (g.setting.strict ≡ true → ⊥) → IsStateCall s.nodes (place + 1) c → IsKnownWith g s heard st
    → KnownThrough g st (called_network s place c told n)
state_comes g s heard st place (Step m) told n w at honest loose shown k =
    then_known
    (calls_known g s (heard ++ m ∷ []) st place (Step m) told n w at honest loose (inl (Contains-push heard m, shown.1))
    (record { known = state_known g s heard st m w.sane shown.0 k.known; saved = k.saved }))
state_comes g s heard st place _ told n w at honest loose shown k = absurd shown

-- ---- a node restarts

pub forgets : (g : Ground) (s : Network) (heard : List Message) (st : History) (place : ℕ) (n : PlainNode) → slice_get s.nodes place ≡ Some n → IsKnownWith g s heard st → KnownAt g st (restarted_network s place n) heard
forgets g s heard st place was at k =
    let id = place + 1 in
    let y = restarted was in
    let others = left_out (λ (e : Election). e.id) id st.candidacies in
    let voters = left_out (λ (a : Ack). a.voter) id st.acks in
    let stood = others.0 ++ st.out_candidacies in
    let acks = voters.0 ++ st.out_acks in
    let new = with_only st stood acks in
    let w = k.known.whole in
    let part : IsPart st stood acks = record {
      stood_among = λ e among.
          elim (Contains-append_cases others.0 st.out_candidacies e among) as (λ _. Contains st.candidacies e) [ inl its ↦ (others.1 e its).0 | inr out ↦ w.stood_within e out ];
      stood_out = λ e among. Contains-append_right others.0 st.out_candidacies e among;
      acks_among = λ a among.
          elim (Contains-append_cases voters.0 st.out_acks a among) as (λ _. Contains st.acks a) [ inl its ↦ (voters.1 a its).0 | inr out ↦ w.lawful.within a out ];
      acks_out = λ a among. Contains-append_right voters.0 st.out_acks a among;
    } in
    let own : (j : ℕ) → (j ≡ id → ⊥) → HasOwn st stood acks (mine j) = λ j other. record {
      all_stood = λ e its among. Contains-append_left others.0 st.out_candidacies e (others.2 e among (λ same. other (sym its ∙ same)));
      all_acks = λ a its among. Contains-append_left voters.0 st.out_acks a (voters.2 a among (λ same. other (sym its ∙ same)));
    } in
    let none : HasOwn st stood acks nobody = record { all_stood = λ e its. absurd its; all_acks = λ a its. absurd its } in
    let old = out_of st in
    let x = k.saved place was at in
    let more : IsMore old new = record {
      links = λ l among. among;
      candidacies = part.stood_out;
      elections = λ e among. among;
      acks = part.acks_out;
      out_candidacies = λ e among. among;
      out_acks = λ a among. among;
    } in
    let its_acks : (a : Ack) → Contains new.acks a → a.voter ≡ id → Contains old.acks a = λ a among by.
    (elim (Contains-append_cases voters.0 st.out_acks a among) as (λ _. Contains st.out_acks a) [ inl theirs ↦ absurd ((voters.1 a theirs).1 by) | inr out ↦ out ]) in
    let news : IsNoNews old new id y = record {
      links = λ leads. absurd (follower_leads (sym x.follows ∙ leads));
      elections = λ e among _. inl among;
      candidacies = λ e among by.
          elim (Contains-append_cases others.0 st.out_candidacies e among) as (λ _. Contains st.out_candidacies e) [ inl theirs ↦ absurd ((others.1 e theirs).1 by) | inr out ↦ out ];
      acks = its_acks;
      held = λ a l _ there _ _. there;
      pledged = λ l among _ acked. (among, record { ack = acked.ack; among = its_acks acked.ack acked.among acked.by; by = acked.by; of_term = acked.of_term; upto = acked.upto });
      sent = All-same (AreBack old new) y.sent [] x.none_sent (All-nil (AreBack old new));
      waiting = All-same (AreBack old new) y.waiting [] x.none_waiting (All-nil (AreBack old new));
    } in
    let again : Knows g new id y = still_knows g old new id y more news x.knows in
    record {
      history = new;
      since = record { links = λ l among. among; elections = λ e among. among; out_acks = λ a among. among };
      known = record {
        known = record {
          said = k.known.said;
          votes = k.known.votes;
          whole = whole_part g heard st stood acks part w;
          knows = λ i n there.
              elim (set_cases s.nodes place y i n there) as (λ _. Knows g new (i + 1) n) [
                | inl here ↦ subst (λ (j : ℕ). Knows g new (j + 1) n) (sym here.0) (subst (λ (z : PlainNode). Knows g new id z) (sym here.1) again)
                | inr elsewhere ↦
                    part_knows g st stood acks (i + 1) n part (own (i + 1) (λ same. elsewhere.0 (omega (arith, same)))) (k.known.knows i n elsewhere.1)
              ];
          views = λ i n there.
              elim (set_cases s.nodes place y i n there) as (λ _. HasSoundViews n) [
                | inl here ↦ subst (λ (z : PlainNode). HasSoundViews z) (sym here.1) (no_views role.Follower)
                | inr elsewhere ↦ k.known.views i n elsewhere.1
              ];
          told = λ i d low. part_tells g st stood acks nobody (slice_index_or heard i d) part none (k.known.told i d low);
        };
        saved = saved_set g new s.nodes place y (subst (λ (z : PlainNode). KnowsSaved g new id z) (sym (again_twice was)) (saved_still g st new id y refl x))
            (λ i z other there. saved_still g st new (i + 1) (restarted z) refl (k.saved i z there));
      };
    }

-- ---- all that happens

calls_to : (g : Ground) (s : Network) (heard : List Message) (st : History) (h : Happening) (o : Option PlainNode) → slice_get s.nodes h.place ≡ o → (g.setting.strict ≡ true → ⊥) → IsSaneWith g.setting s → IsHonestOccurrence g.setting.config s (Called h) → IsTrueOccurrence s (Called h) → IsKnownWith g s heard st → KnownThrough g st (happened_to o s h)
calls_to g s heard st h None at loose sane honest true_call k = record { heard = heard; history = st; since = same_since st; known = k }
calls_to g s heard st h (Some n) at loose sane honest true_call k =
    elim true_call as (λ _. KnownThrough g st (happened_to (Some n) s h)) [
      | inl said ↦ then_known (calls_known g s heard st h.place h.call h.told n sane at honest loose (true_more s.said heard (h.place + 1) h.call k.known.said said) k)
      | inr shown ↦ state_comes g s heard st h.place h.call h.told n sane at honest loose shown k
    ]

restarts_to : (g : Ground) (s : Network) (heard : List Message) (st : History) (place : ℕ) (o : Option PlainNode) → slice_get s.nodes place ≡ o → IsSaneWith g.setting s → IsKnownWith g s heard st → KnownThrough g st (restarted_to o s place)
restarts_to g s heard st place None at sane k = record { heard = heard; history = st; since = same_since st; known = k }
restarts_to g s heard st place (Some n) at sane k = then_known (forgets g s heard st place n at k)

occurs_known : (g : Ground) (s : Network) (heard : List Message) (st : History) (o : Occurrence) → (g.setting.strict ≡ true → ⊥) → IsSaneWith g.setting s → IsHonestOccurrence g.setting.config s o → IsTrueOccurrence s o → IsKnownWith g s heard st → KnownThrough g st (occurred s o)
occurs_known g s heard st (Called h) loose sane honest true_call k = calls_to g s heard st h (slice_get s.nodes h.place) refl loose sane honest true_call k
occurs_known g s heard st (Restarted place) loose sane honest true_call k = restarts_to g s heard st place (slice_get s.nodes place) refl sane k

pub pass_known : (g : Ground) (os : List Occurrence) (s : Network) (heard : List Message) (st : History) → (g.setting.strict ≡ true → ⊥) → IsSaneWith g.setting s → AreHonestThrough g.setting.config os s → AreTrueThrough os s → IsKnownWith g s heard st → KnownThrough g st (passed os s)
pass_known g [] s heard st loose sane honest true_calls k = record { heard = heard; history = st; since = same_since st; known = k }
pass_known g (o ∷ os) s heard st loose sane honest true_calls k =
    let first = occurs_known g s heard st o loose sane honest.0 true_calls.0 k in
    let rest = pass_known g os (occurred s o) first.heard first.history loose (occurs_sane g.setting loose s o sane honest.0) honest.1 true_calls.1 first.known in
    record { heard = rest.heard; history = rest.history; since = since_then st first.history rest.history first.since rest.since; known = rest.known }
