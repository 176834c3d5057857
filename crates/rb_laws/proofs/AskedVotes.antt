-- Who gives a vote was asked for it, and who asks for votes has saved the term by the time that others hear of it. So the votes that a node got are of
-- terms that it has saved, and it leads in no term that a restart takes back (Ongaro's thesis, sections 3.4 and 3.8).
use Rattle.std.proofs.Common.{◌≡◌, ◌⊎◌, ℕ, ◌+◌, ◌<◌, ◌≤◌, Bool, true, List, [], ◌∷◌, ◌++◌, length, min, not, ◌==◌, Option, Some, None, refl, sym, ap, subst, ◌∙◌, arith, inl, inr}
use Rattle.std.specs.Prelude.{All, Contains, slice_get, slice_set}
use Rattle.std.proofs.lemmas.List.Elements.{All-nil, All-push, All-weaker, All-contains, Contains-append_left, Contains-append_right, Contains-append_cases}
use Rattle.rb_vocab.specs.declared.conf_state.ConfState.{ConfState}
use Rattle.rb_raftlog.specs.declared.raft_log.CompactFault.{CompactFault}
use Rattle.rb_raftlog.specs.Log.{compact_fault}
use Rattle.rb_tracker.proofs.QuorumLaws.{quorums_meet}
use Rattle.rb_tracker.proofs.SetLaws.{if_both, same_id}
use Rattle.rb_tracker.proofs.VoteLaws.{won_decides}
use Rattle.rb_tracker.specs.Active.{others_marked_inactive}
use Rattle.rb_tracker.specs.Configs.{members}
use Rattle.rb_tracker.specs.Quorum.{ShareVoter}
use Rattle.rb_tracker.specs.Sets.{has}
use Rattle.rb_message.specs.declared.event.Event.{Event}
use Rattle.rb_message.specs.declared.hard_state.HardState.{HardState}
use Rattle.rb_message.specs.declared.kind.MessageKind.{MessageKind}
use Rattle.rb_message.specs.declared.kind.MessageKind.TheVariants as kind
use Rattle.rb_message.specs.declared.message.Message.{Message}
use Rattle.rb_node.specs.Leading.{in_lead}
use Rattle.rb_node.specs.Node.{PlainNode, NodeStep, node_step}
use Rattle.rb_node.specs.Readying.{hard_state}
use Rattle.rb_node.specs.Restarting.{restarted}
use Rattle.rb_calls.specs.Calling.{Call, Step, Propose, Transfer, Advance, Compact, after, compacted_unless}
use Rattle.rb_laws.specs.Network.{Network, put_out, IsStarted, IsBegun}
use Rattle.rb_laws.specs.Restarts.{IsVoteRequest, IsAskedCall}
use Rattle.rb_calls.specs.Sound.{IsSound}
use Rattle.rb_laws.specs.Votes.{IsCast}
use Rattle.rb_calls.specs.Words.{IsYes, Sends, SendsBy, Answers, AnswersBy, HasPromises}
use Rattle.rb_calls.proofs.CallLaws.{calls}
use Rattle.rb_calls.proofs.CallWays.{ways, called_way, with_members_only}
use Rattle.rb_laws.proofs.Electing.{some_voters}
use Rattle.rb_calls.proofs.Goes.{Ways}
use Rattle.rb_laws.proofs.Holding.{Setting, IsElected}
use Rattle.rb_calls.proofs.LeaderLaws.{with_views_only}
use Rattle.rb_calls.proofs.ListLaws.{each_set, set_cases, in_nothing}
use Rattle.rb_calls.proofs.MoveLaws.{call_keeps}
use Rattle.rb_calls.proofs.Moves.{Whole, Allows, over, TellMove, Idle, Sent, ChangeMove, Resigns, Revises, in_config, following, StepMove, StepTells, Passes, Waits, Follows, Stands, Leads, Votes_for, CallMove, CallChanges, CallSteps, Gives_up, Saves}
use Rattle.rb_laws.proofs.NetworkLaws.{called_network}
use Rattle.rb_laws.proofs.PromiseLaws.{Kept, NoYes}
use Rattle.rb_laws.proofs.RestartedLogs.{by_call}
use Rattle.rb_laws.proofs.RestartedNodes.{quiet, restarted_network}
use Rattle.rb_laws.proofs.SavedStates.{call_leaves, same_again, advance_saves}

-- ---- votes and requests

-- a request for votes was put out
pub record Asked (said : List Message) (candidate term : ℕ) : Type 0 where
  pub request : Message
  pub among : Contains said request
  pub asks : IsVoteRequest request.kind
  pub by : request.from ≡ candidate
  pub of_term : request.term ≡ term

still_asked : (said now : List Message) (candidate term : ℕ) → ((m : Message) → Contains said m → Contains now m) → Asked said candidate term → Asked now candidate term
still_asked said now candidate term more a = record { request = a.request; among = more a.request a.among; asks = a.asks; by = a.by; of_term = a.of_term }

-- who gets a vote asked for it, or gives it itself
abbrev pub IsAskedFor : List Message → ℕ → ℕ → ℕ → Type 0
IsAskedFor said id to term = (to ≡ id) ⊎ Asked said to term

still_asked_for : (said now : List Message) (id to term : ℕ) → ((m : Message) → Contains said m → Contains now m) → IsAskedFor said id to term → IsAskedFor now id to term
still_asked_for said now id to term more h = elim h as (λ _. IsAskedFor now id to term) [ inl own ↦ inl own | inr asked ↦ inr (still_asked said now to term more asked) ]

-- ---- a node

abbrev IsFairAnswer : List Message → ℕ → Message → Type 0
IsFairAnswer said id m = (IsYes m → IsAskedFor said id m.to m.term) × (IsVoteRequest m.kind → ⊥)

abbrev IsFairRequest : ℕ → ℕ → Message → Type 0
IsFairRequest id term m = IsVoteRequest m.kind → (m.from ≡ id) × (m.term ≤ term)

pub record AsksFirst (said : List Message) (id self term vote : ℕ) (sent waiting : List Message) : Type 0 where
  pub itself : self ≡ id
  pub given : 0 < vote → IsAskedFor said id vote term
  pub requests : All (IsFairRequest id term) sent
  pub answers : All (IsFairAnswer said id) waiting

abbrev pub Asks : List Message → ℕ → PlainNode → Type 0
Asks said id n = AsksFirst said id n.id n.term n.vote n.sent n.waiting

still_asks : (said now : List Message) (id : ℕ) (n : PlainNode) → ((m : Message) → Contains said m → Contains now m) → Asks said id n → Asks now id n
still_asks said now id n more h = record {
  itself = h.itself;
  given = λ some. still_asked_for said now id n.vote n.term more (h.given some);
  requests = h.requests;
  answers = All-weaker (IsFairAnswer said id) (IsFairAnswer now id) (λ m f. (λ yes. still_asked_for said now id m.to m.term more (f.0 yes), f.1)) n.waiting h.answers;
}

-- what comes was said, if it asks for votes
abbrev HearsAsking : List Message → Ways → Type 0
HearsAsking said w = (m : Message) → w.came m → IsVoteRequest m.kind → Contains said m

sends_asking : (k : MessageKind) (n : PlainNode) (m : Message) → SendsBy k n m → IsVoteRequest k → m.term ≡ n.term
sends_asking (kind.Vote last_term last_index transfer) n m sent asks = sent.0
sends_asking _ n m sent asks = absurd asks

answers_asking : (k : MessageKind) (n : PlainNode) (m : Message) → AnswersBy k n m → IsVoteRequest k → ⊥
answers_asking (kind.Vote last_term last_index transfer) n m answer asks = answer
answers_asking _ n m answer asks = absurd asks

yes_is : (n : PlainNode) (m : Message) → Answers n m → IsYes m → (m.term ≡ n.term) × (n.vote ≡ m.to)
yes_is n m says gives =
    let is : (m.term ≡ n.term) × (true ≡ true → n.vote ≡ m.to) = subst (λ (k : MessageKind). AnswersBy k n m) gives.0 says.1 in
    (is.0, is.1 refl)

says : (said : List Message) (id : ℕ) (n : PlainNode) (m : Message) → Sends n m → Asks said id n → Asks said id (record n { sent = n.sent ++ m ∷ [] })
says said id n m sent h = record {
  itself = h.itself;
  given = h.given;
  requests = All-push (IsFairRequest id n.term) n.sent m h.requests (λ asks. (sent.0 ∙ h.itself, (let same = sends_asking m.kind n m sent.1 asks in omega (arith, same))));
  answers = h.answers;
}

waits : (said : List Message) (id : ℕ) (n : PlainNode) (m : Message) → Answers n m → Asks said id n → Asks said id (record n { waiting = n.waiting ++ m ∷ [] })
waits said id n m answer h = record {
  itself = h.itself;
  given = h.given;
  requests = h.requests;
  answers = All-push (IsFairAnswer said id) n.waiting m h.answers (
    λ yes.
        (let is = yes_is n m answer yes in
        let some : 0 < n.vote = subst (λ (v : ℕ). 0 < v) (sym is.1) yes.1 in
        subst (λ (term : ℕ). IsAskedFor said id m.to term) (sym is.0) (subst (λ (v : ℕ). IsAskedFor said id v n.term) is.1 (h.given some))),
    answers_asking m.kind n m answer.1,
  );
}

-- another term, in which the vote is given anew
follows : (said : List Message) (id : ℕ) (n : PlainNode) (term lead : ℕ) → n.term ≤ term → Asks said id n → Asks said id (following n term lead)
follows said id n term lead up h = record {
  itself = h.itself;
  given =
      if_both (λ (v : ℕ). 0 < v → IsAskedFor said id v term) (n.term == term) n.vote 0
      (λ same some. subst (λ (t : ℕ). IsAskedFor said id n.vote t) (same_id n.term term same) (h.given some))
      (λ _ none. absurd (omega (arith, none)));
  requests = All-weaker (IsFairRequest id n.term) (IsFairRequest id term) (λ m f asks. (let x = f asks in (x.0, (let low = x.1 in omega (arith, low, up))))) n.sent h.requests;
  answers = h.answers;
}

-- ---- each move

telling_asks : {said : List Message} {id : ℕ} {a b : PlainNode} → TellMove a b → IsSound a → Asks said id a → Asks said id b
telling_asks {said} {id} (Idle a b e) s h = subst (λ (x : Whole). AsksFirst said id x.core.id x.core.term x.core.vote x.words.sent x.words.waiting) (sym e) h
telling_asks {said} {id} (Sent n m own sent) s h = says said id n m (sent s) h
telling_asks _ s h = h

step_asks : {said : List Message} {id : ℕ} {w : Ways} → HearsAsking said w → {a b : PlainNode} → StepMove w a b → IsSound a → Asks said id a → Asks said id b
step_asks hears (StepTells m) s h = telling_asks m s h
step_asks {said} {id} hears (Passes n m came sent) s h = says said id n m (sent s) h
step_asks {said} {id} hears (Waits n m answer may) s h = waits said id n m (answer s) h
step_asks {said} {id} hears (Follows n term lead up past) s h = follows said id n term lead up h
step_asks {said} {id} hears (Stands n may) s h = record {
  itself = h.itself;
  given = λ some. inl h.itself;
  requests = All-weaker (IsFairRequest id n.term) (IsFairRequest id (n.term + 1)) (λ m f asks. (let x = f asks in (x.0, (let low = x.1 in omega (arith, low))))) n.sent h.requests;
  answers = h.answers;
}
step_asks {said} {id} hears (Leads n stands elected won) s h =
    (let x = follows said id n n.term 0 (omega arith) h in
    let y : Asks said id (in_lead n) = record { itself = x.itself; given = x.given; requests = x.requests; answers = x.answers } in
    subst (λ (z : PlainNode). Asks said id z) (sym (with_views_only (in_lead n) (members n.tracker.config) (not n.options.check_quorum))) y)
step_asks {said} {id} hears (Votes_for n m last_term last_index transfer grants given came is of_term) s h =
    (let asks : IsVoteRequest m.kind = subst IsVoteRequest (sym is) tt in
    record {
      itself = h.itself;
      given = λ some. inr (record { request = m; among = hears m came asks; asks = asks; by = refl; of_term = of_term });
      requests = h.requests;
      answers = h.answers;
    })
step_asks hears _ s h = h

change_asks : {said : List Message} {id : ℕ} {a b : PlainNode} → ChangeMove a b → Asks said id a → Asks said id b
change_asks {said} {id} (Resigns n c) h = follows said id (in_config n c) n.term 0 (omega arith) h
change_asks {said} {id} (Revises n c leads) h = subst (λ (x : PlainNode). Asks said id x) (sym (with_members_only (in_config n c))) h
change_asks _ h = h

call_asks : {said : List Message} {id : ℕ} {sound : Type 0} {w : Ways} → HearsAsking said w → {a b : PlainNode} → CallMove sound w a b → IsSound a → Asks said id a → Asks said id b
unfolding others_marked_inactive
call_asks hears (CallChanges m has) s h = change_asks m h
call_asks hears (CallSteps m) s h = step_asks hears m s h
call_asks {said} {id} hears (Gives_up n) s h = follows said id n n.term 0 (omega arith) h
call_asks {said} {id} hears (Saves n known) s h = record { itself = h.itself; given = h.given; requests = All-nil (IsFairRequest id n.term); answers = All-nil (IsFairAnswer said id) }
call_asks hears _ s h = h

moves_ask : {said : List Message} {id : ℕ} {sound : Type 0} {w : Ways} → sound → HearsAsking said w → Allows (CallMove sound w) (λ a b. IsSound a × Asks said id a → IsSound b × Asks said id b)
moves_ask known hears = record {
  nothing = λ n p. p;
  chain = λ a b c p q r. q (p r);
  each = λ a b m p. (((call_keeps known m).goes p.0).ordered, call_asks hears m p.0 p.1);
}

hears_asking : (said : List Message) (c : Call) (t : NodeStep) → IsAskedCall said c → HearsAsking (said ++ put_out c t.node) (ways c t)
hears_asking said (Step m) t asked x is asks = (let same : x ≡ m = is in Contains-append_left said [] x (subst (Contains said) (sym same) (asked (subst (λ (y : Message). IsVoteRequest y.kind) same asks))))
hears_asking said Advance t asked x comes asks = Contains-append_right said (t.node.sent ++ t.node.waiting) x (Contains-append_right t.node.sent t.node.waiting x comes.0)
hears_asking said (Propose body) t asked x is asks = absurd (subst (λ (y : Message). IsVoteRequest y.kind) is asks)
hears_asking said (Transfer to) t asked x is asks = absurd (subst (λ (y : Message). IsVoteRequest y.kind) is asks)
hears_asking said _ t asked x comes asks = absurd comes

pub call_asks_first : (said : List Message) (id : ℕ) (c : Call) (t : NodeStep) → IsAskedCall said c → IsSound t.node → Asks (said ++ put_out c t.node) id t.node → Asks (said ++ put_out c t.node) id (after c t).node
call_asks_first said id c t asked s h = ((over (moves_ask s (hears_asking said c t asked)) (called_way c t (λ (o : IsSound t.node). o))) (s, h)).1

-- ---- a network

pub record IsAskedNode (said : List Message) (id : ℕ) (n : PlainNode) : Type 0 where
  pub now : Asks said id n
  -- what it goes back to
  pub again : 0 < n.saved.vote → IsAskedFor said id n.saved.vote n.saved.term
  pub saved : n.saved.term ≤ n.term

-- requests for votes, and the votes that a node got, are of terms that it has saved
pub record AreAsked (s : Network) : Type 0 where
  pub nodes : (k : ℕ) (n : PlainNode) → slice_get s.nodes k ≡ Some n → IsAskedNode s.said (k + 1) n
  pub asked : (m : Message) → Contains s.said m → IsVoteRequest m.kind → (k : ℕ) (n : PlainNode) → slice_get s.nodes k ≡ Some n → m.from ≡ k + 1 → m.term ≤ n.saved.term
  pub chosen : (m : Message) → Contains s.said m → IsYes m → (k : ℕ) (n : PlainNode) → slice_get s.nodes k ≡ Some n → m.to ≡ k + 1 → m.term ≤ n.saved.term

still_node : (said out : List Message) (id : ℕ) (n : PlainNode) → IsAskedNode said id n → IsAskedNode (said ++ out) id n
still_node said out id n h =
    let more : (m : Message) → Contains said m → Contains (said ++ out) m = λ m among. Contains-append_left said out m among in
    record { now = still_asks said (said ++ out) id n more h.now; again = λ some. still_asked_for said (said ++ out) id n.saved.vote n.saved.term more (h.again some); saved = h.saved }

-- what a call does to what a node has saved, and what it puts out
record Hands (said out : List Message) (id : ℕ) (n new : PlainNode) : Type 0 where
  low : n.saved.term ≤ new.saved.term
  node : IsAskedNode (said ++ out) id new
  requests : (m : Message) → Contains out m → IsVoteRequest m.kind → (m.from ≡ id) × (m.term ≤ new.saved.term)
  votes : (m : Message) → Contains out m → IsYes m → ((m.to ≡ id) × (m.term ≤ new.saved.term)) ⊎ Asked (said ++ out) m.to m.term

module _ (s : Network) (place : ℕ) (c : Call) (told : List Event) (n : PlainNode) (at : slice_get s.nodes place ≡ Some n) (a : AreAsked s) where
  abbrev new_node : PlainNode
  new_node = (after c (node_step n told)).node

  abbrev all_said : List Message
  all_said = s.said ++ put_out c n

  asked_then : Hands s.said (put_out c n) (place + 1) n new_node → (m : Message) → Contains all_said m → IsVoteRequest m.kind → (k : ℕ) (x : PlainNode) → slice_get (slice_set s.nodes place new_node) k ≡ Some x → m.from ≡ k + 1 → m.term ≤ x.saved.term
  asked_then h m among asks k x is by =
      elim (set_cases s.nodes place new_node k x is) as (λ _. m.term ≤ x.saved.term) [
        | inl here ↦
            subst (λ (y : PlainNode). m.term ≤ y.saved.term) (sym here.1)
            (elim (Contains-append_cases s.said (put_out c n) m among) as (λ _. m.term ≤ new_node.saved.term) [
              | inl before ↦ (let old = a.asked m before asks place n at (by ∙ ap (λ (j : ℕ). j + 1) here.0) in let low = h.low in omega (arith, old, low))
              | inr now ↦ (h.requests m now asks).1
            ])
        | inr there ↦ elim (Contains-append_cases s.said (put_out c n) m among) as (λ _. m.term ≤ x.saved.term) [
          | inl before ↦ a.asked m before asks k x there.1 by
          | inr now ↦ absurd (there.0 (let own = (h.requests m now asks).0 in omega (arith, own, by)))
        ]
      ]

  chosen_then : Hands s.said (put_out c n) (place + 1) n new_node → (m : Message) → Contains all_said m → IsYes m → (k : ℕ) (x : PlainNode) → slice_get (slice_set s.nodes place new_node) k ≡ Some x → m.to ≡ k + 1 → m.term ≤ x.saved.term
  chosen_then h m among gives k x is for_it =
      elim (Contains-append_cases s.said (put_out c n) m among) as (λ _. m.term ≤ x.saved.term) [
        | inl before ↦ elim (set_cases s.nodes place new_node k x is) as (λ _. m.term ≤ x.saved.term) [
          | inl here ↦
              subst (λ (y : PlainNode). m.term ≤ y.saved.term) (sym here.1)
              (let old = a.chosen m before gives place n at (for_it ∙ ap (λ (j : ℕ). j + 1) here.0) in let low = h.low in omega (arith, old, low))
          | inr there ↦ a.chosen m before gives k x there.1 for_it
        ]
        | inr now ↦ elim (h.votes m now gives) as (λ _. m.term ≤ x.saved.term) [
          | inl own ↦ elim (set_cases s.nodes place new_node k x is) as (λ _. m.term ≤ x.saved.term) [
            | inl here ↦ subst (λ (y : PlainNode). m.term ≤ y.saved.term) (sym here.1) own.1
            | inr there ↦ absurd (there.0 (let to = own.0 in omega (arith, to, for_it)))
          ]
          | inr asked ↦ (let old = asked_then h asked.request asked.among asked.asks k x is (asked.by ∙ for_it) in let term = asked.of_term in omega (arith, old, term))
        ]
      ]

  hands_asked : Hands s.said (put_out c n) (place + 1) n new_node → AreAsked (called_network s place c told n)
  hands_asked h = record {
    nodes = λ k x is. each_set (λ (j : ℕ) (y : PlainNode). IsAskedNode all_said (j + 1) y) s.nodes place n new_node at h.node (λ j y _ there. still_node s.said (put_out c n) (j + 1) y (a.nodes j y there)) k x is;
    asked = λ m among asks k x is by. asked_then h m among asks k x is by;
    chosen = λ m among yes k x is for_it. chosen_then h m among yes k x is for_it;
  }

-- a call that saves nothing puts nothing out
keeps_hands : (said out : List Message) (id : ℕ) (n new : PlainNode) → out ≡ [] → new.saved ≡ n.saved → n.term ≤ new.term → Asks (said ++ out) id new → IsAskedNode said id n → Hands said out id n new
keeps_hands said out id n new none same up now h =
    let term = ap (λ (x : HardState). x.term) same in
    let saved = h.saved in
    record {
      low = omega (arith, term);
      node = record {
        now = now;
        again =
            subst (λ (x : HardState). 0 < x.vote → IsAskedFor (said ++ out) id x.vote x.term) (sym same)
            (λ some. still_asked_for said (said ++ out) id n.saved.vote n.saved.term (λ m among. Contains-append_left said out m among) (h.again some));
        saved = omega (arith, term, saved, up);
      };
      requests = λ m now asks. absurd (in_nothing out m none now);
      votes = λ m now yes. absurd (in_nothing out m none now);
    }

-- an advance saves what it then puts out
advance_hands : (said : List Message) (id : ℕ) (n new : PlainNode) → new.saved ≡ hard_state n → n.term ≤ new.term → HasPromises n → Asks (said ++ put_out Advance n) id new → IsAskedNode said id n → Hands said (put_out Advance n) id n new
advance_hands said id n new same up promises now h =
    let out = put_out Advance n in
    let term = ap (λ (x : HardState). x.term) same in
    let saved = h.saved in
    let more : (m : Message) → Contains said m → Contains (said ++ out) m = λ m among. Contains-append_left said out m among in
    record {
      low = omega (arith, term, saved);
      node = record {
        now = now;
        again =
            subst (λ (x : HardState). 0 < x.vote → IsAskedFor (said ++ out) id x.vote x.term) (sym same)
            (λ some. still_asked_for said (said ++ out) id n.vote n.term more (h.now.given some));
        saved = omega (arith, term, up);
      };
      requests = λ m among asks.
          elim (Contains-append_cases n.sent n.waiting m among) as (λ _. (m.from ≡ id) × (m.term ≤ new.saved.term)) [
            | inl sent ↦ (let x = All-contains (IsFairRequest id n.term) n.sent m h.now.requests sent asks in (x.0, (let low = x.1 in omega (arith, low, term))))
            | inr waiting ↦ absurd ((All-contains (IsFairAnswer said id) n.waiting m h.now.answers waiting).1 asks)
          ];
      votes = λ m among yes.
          elim (Contains-append_cases n.sent n.waiting m among) as (λ _. ((m.to ≡ id) × (m.term ≤ new.saved.term)) ⊎ Asked (said ++ out) m.to m.term) [
            | inl sent ↦ absurd (All-contains NoYes n.sent m promises.none_sent sent yes)
            | inr waiting ↦ elim ((All-contains (IsFairAnswer said id) n.waiting m h.now.answers waiting).0 yes) as (λ _. ((m.to ≡ id) × (m.term ≤ new.saved.term)) ⊎ Asked (said ++ out) m.to m.term) [
              | inl own ↦ inl (own, (let low = (All-contains (Kept n) n.waiting m promises.kept waiting yes).reached in omega (arith, low, term)))
              | inr asked ↦ inr (still_asked said (said ++ out) m.to m.term more asked)
            ]
          ];
    }

unless_saved : (o : Option CompactFault) (n : PlainNode) (i : ℕ) → (compacted_unless o n i).saved ≡ n.saved
unless_saved (Some fault) n i = refl
unless_saved None n i = refl

pub called_asked : (s : Network) (place : ℕ) (c : Call) (told : List Event) (n : PlainNode) → slice_get s.nodes place ≡ Some n → IsSound n → HasPromises n → IsAskedCall s.said c → AreAsked s → AreAsked (called_network s place c told n)
called_asked s place c told n at sound promises asked_call a =
    let t : NodeStep = node_step n told in
    let id = place + 1 in
    let h = a.nodes place n at in
    by_call (λ (d : Call). IsAskedCall s.said d → AreAsked (called_network s place d told n))
    (λ d leaves asked.
    hands_asked s place d told n at a
    (keeps_hands s.said (put_out d n) id n (after d t).node (quiet d leaves n) (ap (λ (x : PlainNode). x.saved) (same_again (call_leaves d t leaves sound))) ((calls d t).goes sound).term
    (call_asks_first s.said id d t asked sound (still_asks s.said (s.said ++ put_out d n) id n (λ m among. Contains-append_left s.said (put_out d n) m among) h.now)) h))
    (λ asked.
    hands_asked s place Advance told n at a
    (advance_hands s.said id n (after Advance t).node (ap (λ (x : PlainNode). x.saved) (advance_saves t sound).again) ((calls Advance t).goes sound).term promises
    (call_asks_first s.said id Advance t asked sound (still_asks s.said (s.said ++ put_out Advance n) id n (λ m among. Contains-append_left s.said (put_out Advance n) m among) h.now)) h))
    (λ i asked.
    hands_asked s place (Compact i) told n at a
    (keeps_hands s.said [] id n (after (Compact i) t).node refl (unless_saved (compact_fault n.log i (min n.applied n.log.durable)) n i) ((calls (Compact i) t).goes sound).term
    (call_asks_first s.said id (Compact i) t asked sound (still_asks s.said (s.said ++ []) id n (λ m among. Contains-append_left s.said [] m among) h.now)) h))
    c asked_call

pub restarted_asked : (s : Network) (place : ℕ) (n : PlainNode) → slice_get s.nodes place ≡ Some n → AreAsked s → AreAsked (restarted_network s place n)
restarted_asked s place n at a =
    let y = restarted n in
    let h = a.nodes place n at in
    record {
      nodes = λ k x is.
          each_set (λ (j : ℕ) (z : PlainNode). IsAskedNode s.said (j + 1) z) s.nodes place n y at
          (record {
            now = record { itself = h.now.itself; given = h.again; requests = All-nil (IsFairRequest (place + 1) n.saved.term); answers = All-nil (IsFairAnswer s.said (place + 1)) };
            again = h.again;
            saved = omega arith;
          }) (λ j z _ there. a.nodes j z there) k x is;
      asked = λ m among asks k x is.
          each_set (λ (j : ℕ) (z : PlainNode). m.from ≡ j + 1 → m.term ≤ z.saved.term) s.nodes place n y at (a.asked m among asks place n at) (λ j z _ there. a.asked m among asks j z there) k x is;
      chosen = λ m among yes k x is.
          each_set (λ (j : ℕ) (z : PlainNode). m.to ≡ j + 1 → m.term ≤ z.saved.term) s.nodes place n y at (a.chosen m among yes place n at) (λ j z _ there. a.chosen m among yes j z there) k x is;
    }

pub begun_asked : (members : ConfState) (s : Network) → IsBegun members s → AreAsked s
begun_asked members s b = record {
  nodes = λ k n at.
      (let is : IsStarted members (k + 1) n = b.started k n at in
      subst (IsAskedNode s.said (k + 1)) (sym is.is) (record {
        now = record { itself = refl; given = λ none. absurd (omega (arith, none)); requests = All-nil (IsFairRequest (k + 1) 0); answers = All-nil (IsFairAnswer s.said (k + 1)) };
        again = λ none. absurd (omega (arith, none));
        saved = omega arith;
      }));
  asked = λ m among. absurd (in_nothing s.said m b.silent among);
  chosen = λ m among. absurd (in_nothing s.said m b.silent among);
}

-- who is elected in a term has saved it
pub elected_saved : (g : Setting) (s : Network) (place term : ℕ) (n : PlainNode) → AreAsked s → slice_get s.nodes place ≡ Some n → IsElected g s.said (place + 1) term → term ≤ n.saved.term
elected_saved g s place term n a at e =
    let c = g.config in
    let voters : ℕ → Bool = λ id. has e.by.votes.granted id in
    let some : 0 < length c.incoming = some_voters c.incoming c.outgoing (place + 1) g.single e.may in
    let quorum = won_decides c e.by.votes some e.by.won in
    let one : ShareVoter c voters voters = quorums_meet c voters voters quorum quorum in
    let cast : IsCast s.said one.id term (place + 1) = e.by.cast one.id one.first in
    let low = a.chosen cast.answer cast.among cast.gives place n at cast.for_it in
    let same = cast.of_term in
    omega (arith, low, same)
