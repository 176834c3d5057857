-- What becomes of a proposal: a leader appends it, a follower passes it on (Ongaro's thesis, sections 3.5 and 4.1)
use Rattle.std.proofs.Common.{◌≡◌, ℕ, ◌+◌, ◌<◌, Bool, true, false, not, ◌&&◌, ◌||◌, ◌==◌, nat_lt, List, [], ◌∷◌, ◌++◌, length, Option, Some, None, refl, ap, sym, subst, ◌∙◌, arith, eqb-true, if◌then◌else◌}
use Rattle.std.proofs.lemmas.Bool.{false≢true, leb-true, eq-eqb, ltb-true, ltb-false}
use Rattle.rb_raftlog.specs.declared.entry.Body.{Body}
use Rattle.rb_raftlog.specs.declared.entry.Body.TheVariants.{Payload, Change}
use Rattle.rb_raftlog.specs.declared.limits.TheConstants.{MAX_INDEX}
use Rattle.rb_raftlog.specs.Log.{last, own}
use Rattle.rb_vocab.specs.declared.change.Transition.{Transition}
use Rattle.rb_vocab.specs.declared.change.Word.{Word}
use Rattle.rb_tracker.proofs.SetLaws.{if_both}
use Rattle.rb_tracker.specs.Configs.{is_joint}
use Rattle.rb_tracker.specs.Trackers.{has_view}
use Rattle.rb_message.specs.Messages.{has_term}
use Rattle.rb_message.specs.declared.event.WhyReplaced.{WhyReplaced}
use Rattle.rb_message.specs.declared.kind.MessageKind.{MessageKind}
use Rattle.rb_message.specs.declared.kind.MessageKind.TheVariants as kind
use Rattle.rb_message.specs.declared.message.Message.{Message}
use Rattle.rb_message.specs.declared.role.Role.{Role}
use Rattle.rb_message.specs.declared.role.Role.TheVariants as role
use Rattle.rb_node.specs.Leading.{is_log_full, all_sent_append}
use Rattle.rb_node.specs.Node.{PlainNode, NodeStep, message}
use Rattle.rb_node.specs.Proposing.{why_replaced, change_or_empty_appended, proposal_appended, drops_proposals, proposal_handled}
use Rattle.rb_node.specs.Step.{as_follower, as_leader, by_role_of, at_term, at_term_by, stepped}
use Rattle.rb_laws.specs.Proposals.{TakesProposals, MayChange}
use Rattle.rb_laws.proofs.SendLaws.{append_broadcast_only}

-- ---- a proposal has no term: each role takes it as it is

pub proposal_steps : (P : NodeStep → Type 0) (t : NodeStep) (m : Message) (body : Body) → m.kind ≡ kind.Proposal body → P (by_role_of t.node.role t m) → P (stepped t m)
unfolding stepped
proposal_steps P t m body is p =
    if_both P (not (has_term m.kind) || m.term == t.node.term) (at_term t m) _
    (λ _. subst (λ (k : MessageKind). P (at_term_by k t m)) (sym is) p)
    (λ other. absurd (false≢true (sym (subst (λ (k : MessageKind). (not (has_term k) || m.term == t.node.term) ≡ false) is other))))

-- ---- at a leader

-- what a node's log and its last pending change come to
record IsPut (old : PlainNode) (body : Body) (pending : ℕ) (t : NodeStep) : Type 0 where
  log : t.node.log ≡ own old.log (record { term = old.term; body = body })
  change : t.node.pending_change ≡ pending

all_told : (old : PlainNode) (body : Body) (pending : ℕ) (t : NodeStep) → IsPut old body pending t → IsPut old body pending (all_sent_append t)
all_told old body pending t h =
    let only = append_broadcast_only t.node in
    record { log = ap (λ (n : PlainNode). n.log) only ∙ h.log; change = ap (λ (n : PlainNode). n.pending_change) only ∙ h.change }

drops_none : (a b : Bool) → a ≡ true → b ≡ true → (not a || not b) ≡ false
drops_none a b p q = rw (p, q) refl

pub taken : (P : NodeStep → Type 0) (t : NodeStep) (body : Body) → TakesProposals t.node → P (all_sent_append (proposal_appended body t)) → P (proposal_handled t body)
unfolding proposal_handled
taken P t body may p =
    let n = t.node in
    if_both P (drops_proposals n) _ _
    (λ drops. absurd (false≢true (sym (drops_none (has_view n.tracker.views n.id) (n.transferee == 0) may.member (eq-eqb n.transferee 0 may.stays)) ∙ drops)))
    (λ _. p)

-- a log that isn't full takes an entry
pub with_room : (P : NodeStep → Type 0) (t full more : NodeStep) → last t.node.log < MAX_INDEX → P more → P (if is_log_full t.node then full else more)
with_room P t full more room p =
    if_both P (is_log_full t.node) full more
    (λ is. (let over = leb-true MAX_INDEX (last t.node.log) is in absurd (omega (arith, over, room)))) (λ _. p)

payload_put : (t : NodeStep) (bytes : List ℕ) → TakesProposals t.node → IsPut t.node (Payload bytes) t.node.pending_change (proposal_handled t (Payload bytes))
payload_put t bytes may =
    let P : NodeStep → Type 0 = IsPut t.node (Payload bytes) t.node.pending_change in
    taken P t (Payload bytes) may
    (all_told t.node (Payload bytes) t.node.pending_change (proposal_appended (Payload bytes) t) (with_room P t _ _ may.room (record { log = refl; change = refl })))

-- ---- a change

-- nothing keeps a change out exactly where it may go in
is_same : (joint none : Bool) → (joint && not none) ≡ false → (none && not joint) ≡ false → none ≡ joint
is_same true true e f = refl
is_same true false e f = absurd (false≢true (sym e))
is_same false true e f = absurd (false≢true (sym f))
is_same false false e f = refl

none_may : (n : PlainNode) (words : List Word) → why_replaced n (length words) ≡ None → MayChange n words
none_may n words =
    let P : Option WhyReplaced → Type 0 = λ o. o ≡ None → MayChange n words in
    let joint = is_joint n.tracker.config in
    let none : Bool = length words == 0 in
    if_both P (nat_lt n.applied n.pending_change) _ _ (λ _ e. cc)
    (λ applied. if_both P (joint && not none) _ _ (λ _ e. cc)
    (λ single. if_both P (none && not joint) _ _ (λ _ e. cc)
    (λ some e. record { applied = ltb-false n.applied n.pending_change applied; leaves = is_same joint none single some })))

two_ways : (joint none : Bool) → none ≡ joint → ((joint && not none) ≡ false) × ((none && not joint) ≡ false)
two_ways true none e = rw e (refl, refl)
two_ways false none e = rw e (refl, refl)

may_none : (n : PlainNode) (words : List Word) → MayChange n words → why_replaced n (length words) ≡ None
may_none n words may =
    let P : Option WhyReplaced → Type 0 = λ o. o ≡ None in
    let joint = is_joint n.tracker.config in
    let none : Bool = length words == 0 in
    let both = two_ways joint none may.leaves in
    if_both P (nat_lt n.applied n.pending_change) _ _ (λ low. (let past = ltb-true n.applied n.pending_change low in let all = may.applied in absurd (omega (arith, past, all))))
    (λ _. if_both P (joint && not none) _ _ (λ yes. absurd (false≢true (sym both.0 ∙ yes)))
    (λ _. if_both P (none && not joint) _ _ (λ yes. absurd (false≢true (sym both.1 ∙ yes))) (λ _. refl)))

change_in : (P : NodeStep → Type 0) (t : NodeStep) (transition : Transition) (words : List Word) → TakesProposals t.node
    → P (all_sent_append (change_or_empty_appended (why_replaced t.node (length words)) t (Change transition words))) → P (proposal_handled t (Change transition words))
change_in P t transition words may p =
    taken P t (Change transition words) may (with_room (λ (u : NodeStep). P (all_sent_append u)) t _ _ may.room p)

change_put : (t : NodeStep) (transition : Transition) (words : List Word) → TakesProposals t.node → MayChange t.node words
    → IsPut t.node (Change transition words) (last t.node.log + 1) (proposal_handled t (Change transition words))
change_put t transition words may changes =
    let body : Body = Change transition words in
    let P : NodeStep → Type 0 = IsPut t.node body (last t.node.log + 1) in
    change_in P t transition words may
    (subst (λ (o : Option WhyReplaced). P (all_sent_append (change_or_empty_appended o t body))) (sym (may_none t.node words changes))
    (all_told t.node body (last t.node.log + 1) (change_or_empty_appended None t body) (with_room P t _ _ may.room (record { log = refl; change = refl }))))

empty_by : (o : Option WhyReplaced) (t : NodeStep) (body : Body) → last t.node.log < MAX_INDEX → (o ≡ None → ⊥)
    → IsPut t.node (Payload []) t.node.pending_change (change_or_empty_appended o t body)
empty_by None t body room some = absurd (some refl)
empty_by (Some reason) t body room some = with_room (IsPut t.node (Payload []) t.node.pending_change) t _ _ room (record { log = refl; change = refl })

empty_put : (t : NodeStep) (transition : Transition) (words : List Word) → TakesProposals t.node → (MayChange t.node words → ⊥)
    → IsPut t.node (Payload []) t.node.pending_change (proposal_handled t (Change transition words))
empty_put t transition words may never =
    let body : Body = Change transition words in
    let o = why_replaced t.node (length words) in
    change_in (IsPut t.node (Payload []) t.node.pending_change) t transition words may
    (all_told t.node (Payload []) t.node.pending_change (change_or_empty_appended o t body) (empty_by o t body may.room (λ none. never (none_may t.node words none))))

-- ---- a message to the leader

pub at_leader : (P : NodeStep → Type 0) (t : NodeStep) (m : Message) (body : Body) → m.kind ≡ kind.Proposal body → t.node.role ≡ role.Leader → P (proposal_handled t body) → P (stepped t m)
at_leader P t m body is leads p =
    proposal_steps P t m body is
    (subst (λ (r : Role). P (by_role_of r t m)) (sym leads) (subst (λ (k : MessageKind). P (as_leader k t m)) (sym is) p))

pub payload_is_next : (t : NodeStep) (m : Message) (bytes : List ℕ) → TakesProposals t.node → m.kind ≡ kind.Proposal (Payload bytes)
    → (stepped t m).node.log ≡ own t.node.log (record { term = t.node.term; body = Payload bytes })
payload_is_next t m bytes may is =
    at_leader (λ (u : NodeStep). u.node.log ≡ own t.node.log (record { term = t.node.term; body = Payload bytes })) t m (Payload bytes) is may.leads (payload_put t bytes may).log

pub change_is_next : (t : NodeStep) (m : Message) (transition : Transition) (words : List Word) → TakesProposals t.node → MayChange t.node words → m.kind ≡ kind.Proposal (Change transition words)
    → ((stepped t m).node.log ≡ own t.node.log (record { term = t.node.term; body = Change transition words })) × ((stepped t m).node.pending_change ≡ last t.node.log + 1)
change_is_next t m transition words may changes is =
    let put = change_put t transition words may changes in
    at_leader (λ (u : NodeStep). (u.node.log ≡ own t.node.log (record { term = t.node.term; body = Change transition words })) × (u.node.pending_change ≡ last t.node.log + 1)) t m (Change transition words) is may.leads (put.log, put.change)

pub empty_is_next : (t : NodeStep) (m : Message) (transition : Transition) (words : List Word) → TakesProposals t.node → (MayChange t.node words → ⊥) → m.kind ≡ kind.Proposal (Change transition words)
    → (stepped t m).node.log ≡ own t.node.log (record { term = t.node.term; body = Payload [] })
empty_is_next t m transition words may never is =
    at_leader (λ (u : NodeStep). u.node.log ≡ own t.node.log (record { term = t.node.term; body = Payload [] })) t m (Change transition words) is may.leads (empty_put t transition words may never).log

-- ---- at the others

pub proposal_goes_on : (t : NodeStep) (m : Message) (body : Body) → m.kind ≡ kind.Proposal body → t.node.role ≡ role.Follower → 0 < t.node.lead
    → (stepped t m).node ≡ record t.node { sent = t.node.sent ++ message t.node.id t.node.lead 0 (kind.Proposal body) ∷ [] }
proposal_goes_on t m body is follows some =
    let P : NodeStep → Type 0 = λ u. u.node ≡ record t.node { sent = t.node.sent ++ message t.node.id t.node.lead 0 (kind.Proposal body) ∷ [] } in
    proposal_steps P t m body is
    (subst (λ (r : Role). P (by_role_of r t m)) (sym follows) (subst (λ (k : MessageKind). P (as_follower k t m)) (sym is)
    (if_both P (t.node.lead == 0) _ _ (λ none. (let zero = eqb-true t.node.lead 0 none in absurd (omega (arith, zero, some)))) (λ _. refl))))
