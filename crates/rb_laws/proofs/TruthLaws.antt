-- What a call says is true at a moment of it
use Rattle.std.proofs.Common.{◌⊎◌, List, inr, inl, ◌≡◌, subst, sym, ap, refl}
use Rattle.std.proofs.lemmas.List.Elements.{All-contains, All-weaker, All-contains_itself, All-push, All-nil}
use Rattle.std.specs.Prelude.{Contains, All}
use Rattle.rb_message.specs.declared.message.Message.{Message}
use Rattle.rb_node.specs.Node.{PlainNode, NodeStep}
use Rattle.rb_node.specs.Readying.{saved}
use Rattle.rb_calls.specs.Calling.{Call, run}
use Rattle.rb_calls.specs.Sound.{IsSound}
use Rattle.rb_calls.specs.Words.{Sends, Answers, IsLater, IsTrueBetween, AreTrueBetween}
use Rattle.rb_calls.proofs.Goes.{Goes, anyone, core, Keeps, goes_then, and_then, same, self}
use Rattle.rb_laws.proofs.SaidLaws.{Says, run_says}
use Rattle.rb_calls.proofs.Saying.{words, Words, with_sent, with_waiting}
use Rattle.rb_calls.proofs.Turns.{all_durable}

record Between (a b : PlainNode) (m : Message) : Type 0 where
  moment : PlainNode
  since : Goes anyone (core a) (core moment)
  until : Goes anyone (core moment) (core b)
  true_then : Sends moment m ⊎ Answers moment m

-- a message is an old one, or true between
abbrev Old : PlainNode → PlainNode → List Message → Message → Type 0
Old a b before m = Contains before m ⊎ Between a b m

record Truths (a b : PlainNode) : Type 0 where
  goes_on : Keeps anyone (core a) (core b)
  sent : IsSound a → All (Old a b a.sent) b.sent
  waiting : IsSound a → All (Old a b a.waiting) b.waiting

-- ---- one after another

started_before : (a b c : PlainNode) (m : Message) → Goes anyone (core a) (core b) → Between b c m → Between a c m
started_before a b c m g x = record { moment = x.moment; since = goes_then (core a) (core b) (core x.moment) g x.since; until = x.until; true_then = x.true_then }

ended_after : (a b c : PlainNode) (m : Message) → Between a b m → Goes anyone (core b) (core c) → Between a c m
ended_after a b c m x g = record { moment = x.moment; since = x.since; until = goes_then (core x.moment) (core b) (core c) x.until g; true_then = x.true_then }

old_then : (a b c : PlainNode) (first second : List Message) (m : Message) → Goes anyone (core a) (core b) → Goes anyone (core b) (core c) → All (Old a b first) second → Old b c second m → Old a c first m
old_then a b c first second m g h before is =
    elim is as (λ _. Old a c first m) [
      | inr later ↦ inr (started_before a b c m g later)
      | inl there ↦ elim (All-contains (Old a b first) second m before there) as (λ _. Old a c first m) [
        | inl old ↦ inl old
        | inr earlier ↦ inr (ended_after a b c m earlier h)
      ]
    ]

chain_truths : (a b c : PlainNode) → Truths a b → Truths b c → Truths a c
chain_truths a b c p q = record {
  goes_on = and_then p.goes_on q.goes_on;
  sent = λ s. (let g = p.goes_on.goes s in let h = q.goes_on.goes g.ordered in
      All-weaker (Old b c b.sent) (Old a c a.sent) (λ m is. old_then a b c a.sent b.sent m g h (p.sent s) is) c.sent (q.sent g.ordered));
  waiting = λ s. (let g = p.goes_on.goes s in let h = q.goes_on.goes g.ordered in
      All-weaker (Old b c b.waiting) (Old a c a.waiting) (λ m is. old_then a b c a.waiting b.waiting m g h (p.waiting s) is) c.waiting (q.waiting g.ordered));
}

under_truths : (a b : PlainNode) → (IsSound a → Truths a b) → Truths a b
under_truths a b f = record {
  goes_on = record { goes = λ s. (f s).goes_on.goes s };
  sent = λ s. (f s).sent s;
  waiting = λ s. (f s).waiting s;
}

-- ---- nothing said, a message, an answer, and all saved

all_old : (a b : PlainNode) (ms : List Message) → All (Old a b ms) ms
all_old a b ms = All-weaker (Contains ms) (Old a b ms) (λ m is. inl is) ms (All-contains_itself ms)

silent_truths : (a b : PlainNode) → Keeps anyone (core a) (core b) → words b ≡ words a → Truths a b
silent_truths a b v e = record {
  goes_on = v;
  sent = λ s. subst (All (Old a b a.sent)) (sym (ap (λ (x : Words). x.sent) e)) (all_old a b a.sent);
  waiting = λ s. subst (All (Old a b a.waiting)) (sym (ap (λ (x : Words). x.waiting) e)) (all_old a b a.waiting);
}

send_truths : (n : PlainNode) (m : Message) → (IsSound n → Sends n m) → Truths n (with_sent n m)
send_truths n m says = record {
  goes_on = same refl;
  sent = λ s. (let g : Goes anyone (core n) (core n) = (self (core n)).goes s in
      All-push (Old n (with_sent n m) n.sent) n.sent m (all_old n (with_sent n m) n.sent) (inr (record { moment = n; since = g; until = g; true_then = inl (says s) })));
  waiting = λ s. all_old n (with_sent n m) n.waiting;
}

wait_truths : (n : PlainNode) (m : Message) → (IsSound n → Answers n m) → Truths n (with_waiting n m)
wait_truths n m says = record {
  goes_on = same refl;
  sent = λ s. all_old n (with_waiting n m) n.sent;
  waiting = λ s. (let g : Goes anyone (core n) (core n) = (self (core n)).goes s in
      All-push (Old n (with_waiting n m) n.waiting) n.waiting m (all_old n (with_waiting n m) n.waiting) (inr (record { moment = n; since = g; until = g; true_then = inr (says s) })));
}

save_truths : (n : PlainNode) → Truths n (saved n)
save_truths n = record {
  goes_on = all_durable (core n);
  sent = λ s. All-nil (Old n (saved n) n.sent);
  waiting = λ s. All-nil (Old n (saved n) n.waiting);
}

truths : Says Truths
truths = record { chain = chain_truths; under = under_truths; silent = silent_truths; send = send_truths; wait = wait_truths; save = save_truths }

-- ---- every call

later : (a b : PlainNode) → Goes anyone (core a) (core b) → IsLater a b
later a b g = record { id = g.id; term = g.term; commit = g.commit; leads_on = g.own }

true_between : (a b : PlainNode) (m : Message) → Between a b m → IsTrueBetween a b m
true_between a b m x = record { moment = x.moment; since = later a x.moment x.since; until = later x.moment b x.until; true_then = x.true_then }

old_is : (a b : PlainNode) (before : List Message) (m : Message) → Old a b before m → Contains before m ⊎ IsTrueBetween a b m
old_is a b before m is =
    elim is as (λ _. Contains before m ⊎ IsTrueBetween a b m) [
      | inl old ↦ inl old
      | inr between ↦ inr (true_between a b m between)
    ]

pub sent_true : (cs : List Call) (t : NodeStep) → IsSound t.node → AreTrueBetween t.node (run cs t).node t.node.sent (run cs t).node.sent
sent_true cs t s =
    let a = t.node in
    let b = (run cs t).node in
    All-weaker (Old a b a.sent) (λ (m : Message). Contains a.sent m ⊎ IsTrueBetween a b m) (λ m is. old_is a b a.sent m is) b.sent ((run_says truths cs t).sent s)

pub waiting_true : (cs : List Call) (t : NodeStep) → IsSound t.node → AreTrueBetween t.node (run cs t).node t.node.waiting (run cs t).node.waiting
waiting_true cs t s =
    let a = t.node in
    let b = (run cs t).node in
    All-weaker (Old a b a.waiting) (λ (m : Message). Contains a.waiting m ⊎ IsTrueBetween a b m) (λ m is. old_is a b a.waiting m is) b.waiting ((run_says truths cs t).waiting s)
