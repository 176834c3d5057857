-- A vote that is promised stays promised
use Rattle.std.proofs.Common.{ℕ, ◌≡◌, ◌<◌, ◌≤◌, arith, ◌∙◌, sym, subst, ap, refl, true, List, not, ◌==◌}
use Rattle.std.proofs.lemmas.List.Elements.{All-weaker, All-push, All-nil, All-append, All-filter, All-contains}
use Rattle.std.specs.Prelude.{All, Contains}
use Rattle.rb_message.specs.declared.kind.MessageKind.{MessageKind}
use Rattle.rb_message.specs.declared.message.Message.{Message}
use Rattle.rb_node.specs.Node.{PlainNode, NodeStep}
use Rattle.rb_node.specs.Readying.{saved, outgoing, others}
use Rattle.rb_calls.specs.Calling.{Call, run}
use Rattle.rb_calls.specs.Sound.{IsSound}
use Rattle.rb_calls.specs.Words.{IsYes, IsPromised, HasPromises, Sends, SendsBy, Answers, AnswersBy}
use Rattle.rb_calls.proofs.Goes.{Keeps, anyone, core, Goes, same, and_then}
use Rattle.rb_laws.proofs.SaidLaws.{Says, run_says}
use Rattle.rb_calls.proofs.Saying.{words, Words, with_sent, with_waiting}
use Rattle.rb_calls.proofs.Turns.{all_durable}

-- to whom a vote of a term goes
abbrev Only : ℕ → ℕ → Message → Type 0
Only term to m = IsYes m → m.term ≡ term → m.to ≡ to

abbrev pub Kept : PlainNode → Message → Type 0
Kept n m = IsYes m → IsPromised n m.term m.to

abbrev pub NoYes : Message → Type 0
NoYes m = IsYes m → ⊥

pub record Promises (a b : PlainNode) : Type 0 where
  pub goes_on : Keeps anyone (core a) (core b)
  pub stays : (term to : ℕ) → IsSound a → 0 < to → IsPromised a term to → IsPromised b term to
  pub keeps : IsSound a → HasPromises a → HasPromises b

-- ---- nothing said

stays_by : (a b : PlainNode) (term to : ℕ) → Goes anyone (core a) (core b) → b.waiting ≡ a.waiting → 0 < to → IsPromised a term to → IsPromised b term to
stays_by a b term to g e some p =
    let up : a.term ≤ b.term = g.term in
    let low : term ≤ a.term = p.reached in
    record {
      reached = omega (arith, up, low);
      given = λ at.
          (let was : a.term ≡ term = omega (arith, at, up, low) in
          let for_it : a.vote ≡ to = p.given was in
          g.vote (at ∙ sym was) (subst (λ (v : ℕ). 0 < v) (sym for_it) some) ∙ for_it);
      alone = subst (All (Only term to)) (sym e) p.alone;
    }

silent_promises : (a b : PlainNode) → Keeps anyone (core a) (core b) → words b ≡ words a → Promises a b
silent_promises a b v e =
    let sent : b.sent ≡ a.sent = ap (λ (x : Words). x.sent) e in
    let waiting : b.waiting ≡ a.waiting = ap (λ (x : Words). x.waiting) e in
    record {
      goes_on = v;
      stays = λ term to s some p. stays_by a b term to (v.goes s) waiting some p;
      keeps = λ s h. record {
        kept = subst (All (Kept b)) (sym waiting) (All-weaker (Kept a) (Kept b) (λ m k gives. stays_by a b m.term m.to (v.goes s) waiting gives.1 (k gives)) a.waiting h.kept);
        none_sent = subst (All NoYes) (sym sent) h.none_sent;
      };
    }

-- ---- a message sent, which gives no vote

sent_stays : (n : PlainNode) (m : Message) (term to : ℕ) → IsPromised n term to → IsPromised (with_sent n m) term to
sent_stays n m term to p = record { reached = p.reached; given = p.given; alone = p.alone }

no_yes : (n : PlainNode) (m : Message) → Sends n m → IsYes m → ⊥
no_yes n m says gives = subst (λ (k : MessageKind). SendsBy k n m) gives.0 says.1

send_promises : (n : PlainNode) (m : Message) → (IsSound n → Sends n m) → Promises n (with_sent n m)
send_promises n m says = record {
  goes_on = same refl;
  stays = λ term to s some p. sent_stays n m term to p;
  keeps = λ s h. record {
    kept = All-weaker (Kept n) (Kept (with_sent n m)) (λ x k gives. sent_stays n m x.term x.to (k gives)) n.waiting h.kept;
    none_sent = All-push NoYes n.sent m h.none_sent (no_yes n m (says s));
  };
}

-- ---- an answer that waits: a vote is for whom the node voted

yes_is : (n : PlainNode) (m : Message) → Answers n m → IsYes m → (m.term ≡ n.term) × (n.vote ≡ m.to)
yes_is n m says gives =
    let is : (m.term ≡ n.term) × (true ≡ true → n.vote ≡ m.to) = subst (λ (k : MessageKind). AnswersBy k n m) gives.0 says.1 in
    (is.0, is.1 refl)

waiting_only : (n : PlainNode) (m : Message) (term to : ℕ) → Answers n m → IsPromised n term to → Only term to m
waiting_only n m term to says p gives at = let is = yes_is n m says gives in sym is.1 ∙ p.given (sym is.0 ∙ at)

waiting_stays : (n : PlainNode) (m : Message) (term to : ℕ) → Answers n m → IsPromised n term to → IsPromised (with_waiting n m) term to
waiting_stays n m term to says p = record {
  reached = p.reached;
  given = p.given;
  alone = All-push (Only term to) n.waiting m p.alone (waiting_only n m term to says p);
}

older_only : (n : PlainNode) (m x : Message) → Answers n m → IsYes m → Kept n x → Only m.term m.to x
older_only n m x says gives k older at = let is = yes_is n m says gives in sym ((k older).given (sym is.0 ∙ sym at)) ∙ is.1

new_promise : (n : PlainNode) (m : Message) → Answers n m → HasPromises n → Kept (with_waiting n m) m
new_promise n m says h gives =
    let is = yes_is n m says gives in
    let of_term : m.term ≡ n.term = is.0 in
    record {
      reached = omega (arith, of_term);
      given = λ _. is.1;
      alone = All-push (Only m.term m.to) n.waiting m (All-weaker (Kept n) (Only m.term m.to) (λ x k. older_only n m x says gives k) n.waiting h.kept) (λ _ _. refl);
    }

wait_promises : (n : PlainNode) (m : Message) → (IsSound n → Answers n m) → Promises n (with_waiting n m)
wait_promises n m says = record {
  goes_on = same refl;
  stays = λ term to s some p. waiting_stays n m term to (says s) p;
  keeps = λ s h. record {
    kept = All-push (Kept (with_waiting n m)) n.waiting m (All-weaker (Kept n) (Kept (with_waiting n m)) (λ x k gives. waiting_stays n m x.term x.to (says s) (k gives)) n.waiting h.kept) (new_promise n m (says s) h);
    none_sent = h.none_sent;
  };
}

-- ---- all is saved, and what waited is taken

save_promises : (n : PlainNode) → Promises n (saved n)
save_promises n = record {
  goes_on = all_durable (core n);
  stays = λ term to s some p. record { reached = p.reached; given = p.given; alone = All-nil (Only term to) };
  keeps = λ s h. record { kept = All-nil (Kept (saved n)); none_sent = All-nil NoYes };
}

-- ---- every call

chain_promises : (a b c : PlainNode) → Promises a b → Promises b c → Promises a c
chain_promises a b c p q = record {
  goes_on = and_then p.goes_on q.goes_on;
  stays = λ term to s some i. q.stays term to (p.goes_on.goes s).ordered some (p.stays term to s some i);
  keeps = λ s h. q.keeps (p.goes_on.goes s).ordered (p.keeps s h);
}

under_promises : (a b : PlainNode) → (IsSound a → Promises a b) → Promises a b
under_promises a b f = record {
  goes_on = record { goes = λ s. (f s).goes_on.goes s };
  stays = λ term to s. (f s).stays term to s;
  keeps = λ s. (f s).keeps s;
}

promises : Says Promises
promises = record { chain = chain_promises; under = under_promises; silent = silent_promises; send = send_promises; wait = wait_promises; save = save_promises }

pub run_promises : (cs : List Call) (t : NodeStep) → Promises t.node (run cs t).node
run_promises cs t = run_says promises cs t

-- ---- what is handed over

handed_only : (n : PlainNode) (term to : ℕ) → HasPromises n → IsPromised n term to → All (Only term to) (outgoing n)
handed_only n term to h p =
    All-append (Only term to) n.sent (others n.id n.waiting)
    (All-weaker NoYes (Only term to) (λ x no gives. absurd (no gives)) n.sent h.none_sent)
    (All-filter (λ (m : Message). not (m.to == n.id)) (Only term to) n.waiting p.alone)

handed_kept : (n : PlainNode) → HasPromises n → All (Kept n) (outgoing n)
handed_kept n h =
    All-append (Kept n) n.sent (others n.id n.waiting)
    (All-weaker NoYes (Kept n) (λ x no gives. absurd (no gives)) n.sent h.none_sent)
    (All-filter (λ (m : Message). not (m.to == n.id)) (Kept n) n.waiting h.kept)

pub handed_promise : (n : PlainNode) (m : Message) → HasPromises n → Contains (outgoing n) m → IsYes m → IsPromised n m.term m.to
handed_promise n m h in_it gives = All-contains (Kept n) (outgoing n) m (handed_kept n h) in_it gives

-- two votes of one term that are handed over, the second at once or later, are for one node
pub one_vote : (cs : List Call) (t : NodeStep) (first second : Message) → IsSound t.node → HasPromises t.node → Contains (outgoing t.node) first → IsYes first → Contains (outgoing (run cs t).node) second → IsYes second → second.term ≡ first.term → second.to ≡ first.to
one_vote cs t first second s h at gives later again same =
    let p = run_promises cs t in
    let n = (run cs t).node in
    let given : IsPromised n first.term first.to = p.stays first.term first.to s gives.1 (handed_promise t.node first h at gives) in
    All-contains (Only first.term first.to) (outgoing n) second (handed_only n first.term first.to (p.keeps s h) given) later again same
