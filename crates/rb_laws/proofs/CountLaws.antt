-- What a leader counts: of its own log what is durable, and of another member's what that member's answers say
use Rattle.std.proofs.Common.{[], ℕ, ◌≤◌, ◌≡◌, arith, ◌∙◌, sym, inl, inr, subst, ap, refl, List, ◌⊎◌, ◌∷◌, if◌then◌else◌, ◌==◌}
use Rattle.std.proofs.lemmas.List.Elements.{All-weaker, All-push, All-nil, All-head, All-tail}
use Rattle.std.specs.Prelude.{All}
use Rattle.rb_raftlog.specs.Log.{last}
use Rattle.rb_tracker.specs.Commits.{match_of}
use Rattle.rb_tracker.specs.Progresses.{PlainProgress}
use Rattle.rb_message.specs.declared.kind.MessageKind.{MessageKind}
use Rattle.rb_message.specs.declared.kind.MessageKind.TheVariants as kind
use Rattle.rb_message.specs.declared.message.Message.{Message}
use Rattle.rb_message.specs.declared.role.Role.{Role}
use Rattle.rb_message.specs.declared.role.Role.TheVariants as role
use Rattle.rb_node.specs.Node.{PlainNode, NodeStep}
use Rattle.rb_node.specs.Readying.{saved, own_answers_stepped, advanced}
use Rattle.rb_node.specs.Step.{stepped}
use Rattle.rb_calls.specs.Calling.{Call, run, after, Step, Advance}
use Rattle.rb_calls.specs.Elections.{own_turn}
use Rattle.rb_calls.specs.Matches.{IsOwnAnswer, HasOwnAnswers, IsOfOthers, CountsDurable, Tells, Told}
use Rattle.rb_calls.specs.Sound.{IsGrown, IsSound, HasSoundViews, HasViewsOfMembers}
use Rattle.rb_calls.specs.Words.{Sends, Answers, AnswersBy}
use Rattle.rb_calls.proofs.CallLaws.{calls}
use Rattle.rb_calls.proofs.CallWays.{own_way, OwnTells, ready_way, Accepted, ways}
use Rattle.rb_calls.proofs.Goes.{Goes, anyone, core, Keeps, same, and_then}
use Rattle.rb_laws.proofs.MatchLaws.{IsBounded, called_bounded, accepted_less}
use Rattle.rb_calls.proofs.MatchViewLaws.{of}
use Rattle.rb_laws.proofs.MemberMoveLaws.{called_members}
use Rattle.rb_calls.proofs.MoveLaws.{steps_keep, calls_keep}
use Rattle.rb_calls.proofs.Moves.{over}
use Rattle.rb_laws.proofs.SaidLaws.{Says, run_says, called_says}
use Rattle.rb_calls.proofs.Saying.{words, Words, with_sent, with_waiting}
use Rattle.rb_calls.proofs.Turns.{all_durable}
use Rattle.rb_laws.proofs.ViewLaws.{called_views}

-- ---- answers that wait

-- an answer stays the node's own while the node goes on
kept_answer : (a b : PlainNode) (x y : ℕ) (m : Message) → Goes anyone (core a) (core b) → (IsGrown a.log b.log → x ≤ y) → IsOwnAnswer a x m → IsOwnAnswer b y m
kept_answer a b x y m g more is =
    let up : a.term ≤ b.term = g.term in
    let same_term : (index : ℕ) → m.kind ≡ kind.AppendResponse index → m.term ≡ b.term → b.term ≡ a.term = λ index says at. (let low = is.reached index says in omega (arith, up, at, low)) in
    record {
      own = is.own ∙ sym g.id;
      reached = λ index says. (let low = is.reached index says in omega (arith, up, low));
      leads = λ index says at end. (let e = same_term index says at in
          elim (g.leader end e) as (λ _. index ≤ y) [
            | inl led ↦ (let grown = g.own led end e in let low = is.leads index says (at ∙ e) led in let far = more grown in omega (arith, low, far))
            | inr stood ↦ (let none = is.stands index says (at ∙ e) stood in omega (arith, none))
          ]);
      stands = λ index says at end. (let e = same_term index says at in is.stands index says (at ∙ e) (g.candidate end e));
    }

pub record Owns (a b : PlainNode) : Type 0 where
  pub goes_on : Keeps anyone (core a) (core b)
  pub keeps : IsSound a → HasOwnAnswers a → HasOwnAnswers b

silent_owns : (a b : PlainNode) → Keeps anyone (core a) (core b) → words b ≡ words a → Owns a b
silent_owns a b v e = record {
  goes_on = v;
  keeps = λ s h. subst (All (IsOwnAnswer b (last b.log))) (sym (ap (λ (x : Words). x.waiting) e))
      (All-weaker (IsOwnAnswer a (last a.log)) (IsOwnAnswer b (last b.log)) (λ m is. kept_answer a b (last a.log) (last b.log) m (v.goes s) (λ grown. grown.longer) is) a.waiting h);
}

same_answers : (a b : PlainNode) → IsSound a → core b ≡ core a → All (IsOwnAnswer a (last a.log)) a.waiting → All (IsOwnAnswer b (last b.log)) a.waiting
same_answers a b s e h =
    let g : Goes anyone (core a) (core b) = (same {w = anyone} e).goes s in
    All-weaker (IsOwnAnswer a (last a.log)) (IsOwnAnswer b (last b.log)) (λ m is. kept_answer a b (last a.log) (last b.log) m g (λ grown. grown.longer) is) a.waiting h

send_owns : (n : PlainNode) (m : Message) → (IsSound n → Sends n m) → Owns n (with_sent n m)
send_owns n m says = record { goes_on = same refl; keeps = λ s h. same_answers n (with_sent n m) s refl h }

answers_append : (n : PlainNode) (m : Message) (index : ℕ) → m.kind ≡ kind.AppendResponse index → Answers n m → (m.term ≡ n.term) × (index ≤ last n.log) × (n.role ≡ role.Candidate → index ≡ 0)
answers_append n m index is says = subst (λ (k : MessageKind). AnswersBy k n m) is says.1

own_answer : (n : PlainNode) (m : Message) → Answers n m → IsOwnAnswer (with_waiting n m) (last n.log) m
own_answer n m says = record {
  own = says.0;
  reached = λ index is. (let e : m.term ≡ n.term = (answers_append n m index is says).0 in omega (arith, e));
  leads = λ index is _ _. (answers_append n m index is says).1;
  stands = λ index is _ stands. (answers_append n m index is says).2 stands;
}

wait_owns : (n : PlainNode) (m : Message) → (IsSound n → Answers n m) → Owns n (with_waiting n m)
wait_owns n m says = record {
  goes_on = same refl;
  keeps = λ s h. All-push (IsOwnAnswer (with_waiting n m) (last n.log)) n.waiting m (same_answers n (with_waiting n m) s refl h) (own_answer n m (says s));
}

save_owns : (n : PlainNode) → Owns n (saved n)
save_owns n = record { goes_on = all_durable (core n); keeps = λ s h. All-nil (IsOwnAnswer (saved n) (last n.log)) }

chain_owns : (a b c : PlainNode) → Owns a b → Owns b c → Owns a c
chain_owns a b c p q = record { goes_on = and_then p.goes_on q.goes_on; keeps = λ s h. q.keeps (p.goes_on.goes s).ordered (p.keeps s h) }

under_owns : (a b : PlainNode) → (IsSound a → Owns a b) → Owns a b
under_owns a b f = record { goes_on = record { goes = λ s. (f s).goes_on.goes s }; keeps = λ s. (f s).keeps s }

pub owns : Says Owns
owns = record { chain = chain_owns; under = under_owns; silent = silent_owns; send = send_owns; wait = wait_owns; save = save_owns }

pub run_owns : (cs : List Call) (t : NodeStep) → IsSound t.node → HasOwnAnswers t.node → HasOwnAnswers (run cs t).node
run_owns cs t = (run_says owns cs t).keeps

-- ---- what holds before and after each call

pub record Counts (n : PlainNode) : Type 0 where
  pub sound : IsSound n
  pub views : HasSoundViews n
  pub members : HasViewsOfMembers n
  pub answers : HasOwnAnswers n

counts_after : (c : Call) (t : NodeStep) → Counts t.node → Counts (after c t).node
counts_after c t is = record {
  sound = ((calls c t).goes is.sound).ordered;
  views = (called_views c t).views is.sound is.views;
  members = called_members c t is.members;
  answers = (called_says owns c t).keeps is.sound is.answers;
}

-- ---- what a leader counts of its own log

by_leader : (r : Role) → (r ≡ role.Leader) ⊎ (r ≡ role.Leader → ⊥)
by_leader role.Follower = inr (λ e. cc)
by_leader role.Precandidate = inr (λ e. cc)
by_leader role.Candidate = inr (λ e. cc)
by_leader role.Leader = inl refl

none_of : (n : PlainNode) (id : ℕ) → HasSoundViews n → (n.role ≡ role.Leader → ⊥) → of n id ≡ 0
none_of n id v follows = ap (λ (views : List (ℕ × PlainProgress)). match_of views id) (v.only_leading follows)

-- ---- a node's own answers, which say what is durable

abbrev IsDurableAnswer : PlainNode → Message → Type 0
IsDurableAnswer n m = IsOwnAnswer n n.log.durable m

durable_after : (a b : PlainNode) (ms : List Message) → Goes anyone (core a) (core b) → All (IsDurableAnswer a) ms → All (IsDurableAnswer b) ms
durable_after a b ms g are =
    All-weaker (IsDurableAnswer a) (IsDurableAnswer b) (λ m is. kept_answer a b a.log.durable b.log.durable m g (λ grown. grown.written) is) ms are

own_goes : (id : ℕ) (t : NodeStep) (ms : List Message) → IsSound t.node → Goes anyone (core t.node) (core (own_answers_stepped id t ms).node)
own_goes id t ms s = (over (steps_keep {w = anyone}) (own_way id t ms (λ _ _ _ _. tt) (λ _ _ _. tt) (λ _ _. tt) (λ _ _ _ _. tt))).goes s

-- what one of them says is durable as long as the node leads on
own_durable : (id : ℕ) (t : NodeStep) (ms : List Message) (term from i : ℕ) → IsSound t.node → All (IsDurableAnswer t.node) ms → OwnTells id t ms term from i
    → (own_answers_stepped id t ms).node.role ≡ role.Leader → (own_answers_stepped id t ms).node.term ≡ term → i ≤ (own_answers_stepped id t ms).node.log.durable
own_durable id t [] term from i s are told leads at = absurd told
own_durable id t (m ∷ ms) term from i s are told leads at =
    let end = (own_answers_stepped id t (m ∷ ms)).node in
    elim told as (λ _. i ≤ end.log.durable) [
      | inl here ↦
          let a = here.3 in
          let low = (All-head (IsDurableAnswer t.node) m ms are).leads a.index a.says a.of_term a.leads in
          let grown = (own_goes id t (m ∷ ms) s).own a.leads leads (at ∙ here.1) in
          let at_most = a.at_most in
          let more = grown.written in
          omega (arith, low, at_most, more)
      | inr later ↦
          let next : NodeStep = if m.to == id then stepped t m else t in
          let g : Goes anyone (core t.node) (core next.node) = own_goes id t (m ∷ []) s in
          own_durable id next ms term from i g.ordered (durable_after t.node next.node ms g (All-tail (IsDurableAnswer t.node) m ms are)) later leads at
    ]

advanced_durable : (t : NodeStep) (term from i : ℕ) → Counts t.node → OwnTells t.node.id (own_turn t) t.node.waiting term from i
    → (advanced t).node.role ≡ role.Leader → (advanced t).node.term ≡ term → i ≤ (advanced t).node.log.durable
unfolding advanced
advanced_durable t term from i is told leads at =
    let n = t.node in
    let first : Goes anyone (core n) (core (saved n)) = (all_durable {w = anyone} (core n)).goes is.sound in
    let then_ : Goes anyone (core (saved n)) (core (own_turn t).node) = (over (calls_keep {w = anyone} is.sound) (ready_way t (λ s. s))).goes first.ordered in
    let are : All (IsDurableAnswer (saved n)) n.waiting =
    All-weaker (IsOwnAnswer n (last n.log)) (IsDurableAnswer (saved n))
    (λ m a. kept_answer n (saved n) (last n.log) (last n.log) m first (λ _. omega arith) a) n.waiting is.answers in
    own_durable n.id (own_turn t) n.waiting term from i then_.ordered (durable_after (saved n) (own_turn t).node n.waiting then_ are) told leads at

-- what is told by anybody under its name, where nobody does so from without
told_durable : (c : Call) (t : NodeStep) (term i : ℕ) → Counts t.node → IsOfOthers t.node.id c → Accepted c t term t.node.id i → (after c t).node.role ≡ role.Leader
    → (after c t).node.term ≡ term → i ≤ (after c t).node.log.durable
told_durable (Step m) t term i is others told leads at = absurd (others told.2.index told.2.says (sym told.1))
told_durable Advance t term i is others told leads at = advanced_durable t term t.node.id i is told leads at
told_durable _ t term i is others told leads at = absurd told

call_counts : (c : Call) (t : NodeStep) → Counts t.node → IsOfOthers t.node.id c → CountsDurable t.node → CountsDurable (after c t).node
call_counts c t is others counts =
    let n = t.node in
    let x = (after c t).node in
    let g = (calls c t).goes is.sound in
    let start : IsBounded (ways c t) n.id 0 n.term (of n n.id) n = elim (by_leader n.role) as (λ _. IsBounded (ways c t) n.id 0 n.term (of n n.id) n) [
      | inl leads ↦ inr (leads, inl (refl, omega arith))
      | inr follows ↦ (let none = none_of n n.id is.views follows in inl (omega (arith, none)))
    ] in
    subst (λ (id : ℕ). of x id ≤ x.log.durable) (sym g.id)
    (elim (called_bounded c t n.id 0 n.term (of n n.id) is.sound is.members start) as (λ _. of x n.id ≤ x.log.durable) [
      | inl none ↦ omega (arith, none)
      | inr leads ↦ elim leads.1 as (λ _. of x n.id ≤ x.log.durable) [
        | inl first ↦ (let far = first.1 in elim (g.leader leads.0 first.0) as (λ _. of x n.id ≤ x.log.durable) [
          | inl led ↦ (let more = (g.own led leads.0 first.0).written in omega (arith, far, counts, more))
          | inr stood ↦ (let none = none_of n n.id is.views (λ led. (let no : role.Candidate ≡ role.Leader = sym stood ∙ led in cc)) in omega (arith, far, none))
        ])
        | inr more ↦ elim more as (λ _. of x n.id ≤ x.log.durable) [
          | inl own ↦ own.1
          | inr said ↦ (let far = said.1 in let low = told_durable c t x.term said.0 is others said.2 leads.0 refl in omega (arith, far, low))
        ]
      ]
    ])

pub run_counts : (cs : List Call) (t : NodeStep) → Counts t.node → All (IsOfOthers t.node.id) cs → CountsDurable t.node → CountsDurable (run cs t).node
run_counts [] t is others counts = counts
run_counts (c ∷ cs) t is others counts =
    let e : (after c t).node.id ≡ t.node.id = ((calls c t).goes is.sound).id in
    run_counts cs (after c t) (counts_after c t is)
    (subst (λ (id : ℕ). All (IsOfOthers id) cs) (sym e) (All-tail (IsOfOthers t.node.id) c cs others))
    (call_counts c t is (All-head (IsOfOthers t.node.id) c cs others) counts)

-- ---- what it counts of another

own_from : (id own : ℕ) (t : NodeStep) (ms : List Message) (term from i : ℕ) → All (λ (m : Message). m.from ≡ own) ms → OwnTells id t ms term from i → from ≡ own
own_from id own t [] term from i are told = absurd told
own_from id own t (m ∷ ms) term from i are told =
    elim told as (λ _. from ≡ own) [
      | inl here ↦ here.2 ∙ All-head (λ (x : Message). x.from ≡ own) m ms are
      | inr later ↦ own_from id own (if m.to == id then stepped t m else t) ms term from i (All-tail (λ (x : Message). x.from ≡ own) m ms are) later
    ]

-- what is told of another is told by its answer
told_tells : (c : Call) (t : NodeStep) (id term i j : ℕ) → Counts t.node → (id ≡ t.node.id → ⊥) → i ≤ j → Accepted c t term id j → Tells c t id i
told_tells (Step m) t id term i j is other less told = (told.1, accepted_less t.node m j i less told.2)
told_tells Advance t id term i j is other less told =
    absurd (other (own_from t.node.id t.node.id (own_turn t) t.node.waiting term id j
    (All-weaker (IsOwnAnswer t.node (last t.node.log)) (λ (m : Message). m.from ≡ t.node.id) (λ m a. a.own) t.node.waiting is.answers) told))
told_tells _ t id term i j is other less told = absurd told

call_rises : (c : Call) (t : NodeStep) (id : ℕ) → Counts t.node → (id ≡ t.node.id → ⊥) → (of (after c t).node id ≤ of t.node id) ⊎ Tells c t id (of (after c t).node id)
call_rises c t id is other =
    let x = (after c t).node in
    let R : Type 0 = (of x id ≤ of t.node id) ⊎ Tells c t id (of x id) in
    elim (called_bounded c t id (of t.node id) 0 0 is.sound is.members (inl (omega arith))) as (λ _. R) [
      | inl less ↦ inl less
      | inr leads ↦ elim leads.1 as (λ _. R) [
        | inl first ↦ (let none = first.1 in inl (omega (arith, none)))
        | inr more ↦ elim more as (λ _. R) [
          | inl own ↦ absurd (other (own.0 ∙ ((calls c t).goes is.sound).id))
          | inr said ↦ inr (told_tells c t id x.term (of x id) said.0 is other said.1 said.2)
        ]
      ]
    ]

-- what is said of an index is said of one below
tells_less : (c : Call) (t : NodeStep) (id low high : ℕ) → low ≤ high → Tells c t id high → Tells c t id low
tells_less (Step m) t id low high less tells = (tells.0, accepted_less t.node m high low less tells.1)
tells_less _ t id low high less tells = absurd tells

pub run_rises : (cs : List Call) (t : NodeStep) (id : ℕ) → Counts t.node → (id ≡ t.node.id → ⊥) → (of (run cs t).node id ≤ of t.node id) ⊎ Told cs t id (of (run cs t).node id)
run_rises [] t id is other = inl (omega arith)
run_rises (c ∷ cs) t id is other =
    let u = after c t in
    let end : ℕ = of (run cs u).node id in
    let e : u.node.id ≡ t.node.id = ((calls c t).goes is.sound).id in
    elim (run_rises cs u id (counts_after c t is) (λ same. other (same ∙ e))) as (λ _. (end ≤ of t.node id) ⊎ Told (c ∷ cs) t id end) [
      | inr told ↦ inr (inr told)
      | inl less ↦ elim (call_rises c t id is other) as (λ _. (end ≤ of t.node id) ⊎ Told (c ∷ cs) t id end) [
        | inl low ↦ inl (omega (arith, less, low))
        | inr tells ↦ inr (inl (tells_less c t id end (of u.node id) less tells))
      ]
    ]
