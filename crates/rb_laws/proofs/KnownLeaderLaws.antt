-- Which leader a node knows of (etcd raft documentation, "SoftState"): itself, or whoever sent a leader's message of its term. And to whom a
-- vote goes: to nobody else while a leader is known (this project's rule)
use Rattle.std.proofs.Common.{◌≡◌, ◌⊎◌, ℕ, ◌+◌, Bool, true, false, not, ◌&&◌, ◌||◌, ◌==◌, nat_lt, List, [], ◌∷◌, length, Option, Some, None, refl, sym, ap, subst, ◌∙◌, arith, eqb-true, inl, inr}
use Rattle.std.proofs.lemmas.Bool.{false≢true, and_parts}
use Rattle.rb_raftlog.specs.declared.entry.Body.{Body}
use Rattle.rb_raftlog.specs.declared.entry.Body.TheVariants.{Payload, Change}
use Rattle.rb_raftlog.specs.Log.{last, last_term, is_up_to_date, answer}
use Rattle.rb_tracker.proofs.SetLaws.{if_both}
use Rattle.rb_tracker.specs.Configs.{members, voters}
use Rattle.rb_tracker.specs.declared.votes.VoteResult.{VoteResult}
use Rattle.rb_tracker.specs.declared.votes.VoteResult.TheVariants as vote
use Rattle.rb_message.specs.declared.event.EventKind.TheVariants as event
use Rattle.rb_message.specs.Events.{event_at}
use Rattle.rb_message.specs.declared.event.WhyNoCampaign.{WhyNoCampaign}
use Rattle.rb_message.specs.declared.event.WhyReplaced.{WhyReplaced}
use Rattle.rb_message.specs.declared.kind.MessageKind.{MessageKind}
use Rattle.rb_message.specs.declared.kind.MessageKind.TheVariants as kind
use Rattle.rb_message.specs.declared.message.Message.{Message}
use Rattle.rb_message.specs.declared.role.Role.{Role}
use Rattle.rb_message.specs.declared.role.Role.TheVariants as role
use Rattle.rb_node.specs.Campaigns.{asked, asked_one, why_no_campaign, candidate, precandidate, became_candidate, became_precandidate, campaigned_unless, campaigned, became_candidate_unless, campaigned_after_pre_vote}
use Rattle.rb_node.specs.Leading.{appended, is_log_full, leading, became_leader, in_lead}
use Rattle.rb_node.specs.Node.{PlainNode, NodeStep, with_event, with_node, answered_with}
use Rattle.rb_node.specs.Proposing.{why_replaced, change_or_empty_appended, proposal_appended, drops_proposals, proposal_handled}
use Rattle.rb_node.specs.Step.{as_follower, as_precandidate, as_candidate, as_leader, by_role_of, at_term_by, at_term, stepped}
use Rattle.rb_node.specs.Terms.{became_follower, stepped_later, stepped_later_by, stepped_earlier_by, answers_earlier}
use Rattle.rb_node.specs.Votes.{voted_for, grants, can_vote_for, decided, pre_decided, vote_counted, count_of}
use Rattle.rb_calls.specs.Learning.{IsLeaders}
use Rattle.rb_laws.specs.Rules.{KnowsLeader}
use Rattle.rb_calls.proofs.LeaderLaws.{with_views_only}
use Rattle.rb_laws.proofs.SendLaws.{append_broadcast_only}
use Rattle.rb_laws.proofs.StandingLaws.{Standing, append_broadcast_standing, accepted_standing, refused_standing, beat_standing, transferred_standing}
use Rattle.rb_laws.proofs.StepCases.{by_term}
use Rattle.rb_calls.proofs.StepWays.{leaders_have_term}
use Rattle.rb_laws.proofs.TimerLaws.{Hears, role_hears, raised_hears}

-- ---- what a leader appends

abbrev SameLead : PlainNode → PlainNode → Type 0
SameLead a b = b.lead ≡ a.lead

appended_lead : (t : NodeStep) (body : Body) → SameLead t.node (appended t body).node
appended_lead t body = if_both (λ (u : NodeStep). SameLead t.node u.node) (is_log_full t.node) _ _ (λ _. refl) (λ _. refl)

put_lead : (o : Option WhyReplaced) (t : NodeStep) (body : Body) → SameLead t.node (change_or_empty_appended o t body).node
put_lead None t body = if_both (λ (u : NodeStep). SameLead t.node u.node) (is_log_full t.node) _ _ (λ _. refl) (λ _. refl)
put_lead (Some reason) t body = appended_lead (with_event t (event_at t.node.id (event.ReplacedChange (last t.node.log + 1) reason))) (Payload [])

put_in_lead : (body : Body) (t : NodeStep) → SameLead t.node (proposal_appended body t).node
put_in_lead (Payload bytes) t = appended_lead t (Payload bytes)
put_in_lead (Change transition words) t =
    if_both (λ (u : NodeStep). SameLead t.node u.node) (is_log_full t.node) _ _ (λ _. refl) (λ _. put_lead (why_replaced t.node (length words)) t (Change transition words))

proposed_lead : (t : NodeStep) (body : Body) → SameLead t.node (proposal_handled t body).node
unfolding proposal_handled
proposed_lead t body =
    if_both (λ (u : NodeStep). SameLead t.node u.node) (drops_proposals t.node) _ _ (λ _. refl) (λ _. ap (λ (x : Standing). x.lead) (append_broadcast_standing (proposal_appended body t).node) ∙ put_in_lead body t)

-- ---- calls that begin with no leader

abbrev NoLead : NodeStep → Type 0
NoLead t = t.node.lead ≡ 0

asked_one_lead : (n : PlainNode) (to term : ℕ) (question answer : MessageKind) → SameLead n (asked_one n to term question answer)
asked_one_lead n to term question answer = if_both (SameLead n) (to == n.id) _ _ (λ _. refl) (λ _. refl)

asked_lead : (n : PlainNode) (ids : List ℕ) (term : ℕ) (question answer : MessageKind) → SameLead n (asked n ids term question answer)
asked_lead n [] term question answer = refl
asked_lead n (id ∷ ids) term question answer = asked_lead (asked_one n id term question answer) ids term question answer ∙ asked_one_lead n id term question answer

stood_lead : (t : NodeStep) (transfer : Bool) → NoLead (became_candidate t transfer)
stood_lead t transfer =
    let n = candidate t.node in
    asked_lead n (voters n.tracker.config) n.term (kind.Vote (last_term n.log) (last n.log) transfer) (kind.VoteResponse true)

pre_vote_lead : (t : NodeStep) → NoLead (became_precandidate t)
pre_vote_lead t =
    let n = precandidate t.node in
    asked_lead n (voters n.tracker.config) (n.term + 1) (kind.PreVote (last_term n.log) (last n.log)) (kind.PreVoteResponse true)

-- what a node knows of a leader after a message
abbrev Knows : PlainNode → Message → NodeStep → Type 0
Knows old m t = KnowsLeader old m t.node

unless_knows : (o : Option WhyNoCampaign) (t : NodeStep) (m : Message) (transfer : Bool) → Knows t.node m (campaigned_unless o t transfer)
unless_knows (Some reason) t m transfer = inl refl
unless_knows None t m transfer =
    if_both (Knows t.node m) (t.node.options.pre_vote && not transfer) (became_precandidate t) (became_candidate t transfer) (λ _. inr (inl (pre_vote_lead t))) (λ _. inr (inl (stood_lead t transfer)))

campaigned_knows : (t : NodeStep) (m : Message) (transfer : Bool) → Knows t.node m (campaigned t transfer)
unfolding campaigned
campaigned_knows t m transfer = unless_knows (why_no_campaign t.node) t m transfer

stood_unless_knows : (o : Option WhyNoCampaign) (t : NodeStep) (m : Message) → Knows t.node m (became_candidate_unless o t)
stood_unless_knows (Some reason) t m = inl refl
stood_unless_knows None t m = inr (inl (stood_lead t false))

after_pre_vote_knows : (t : NodeStep) (m : Message) → Knows t.node m (campaigned_after_pre_vote t)
unfolding campaigned_after_pre_vote
after_pre_vote_knows t m = stood_unless_knows (why_no_campaign t.node) t m

-- ---- a new leader

-- who leads, and who is known to
record Heads : Type 0 where
  id : ℕ
  role : Role
  lead : ℕ

abbrev heads : PlainNode → Heads
heads n = record { id = n.id; role = n.role; lead = n.lead }

leading_heads : (n : PlainNode) → heads (leading n) ≡ heads (in_lead n)
leading_heads n = ap heads (with_views_only (in_lead n) (members n.tracker.config) (not n.options.check_quorum))

led_heads : (t : NodeStep) → heads (became_leader t).node ≡ heads (in_lead t.node)
unfolding became_leader
led_heads t =
    let u : NodeStep = with_event (with_node t (leading t.node)) (event_at t.node.id (event.Became role.Leader t.node.term)) in
    ap heads (append_broadcast_only (appended u (Payload [])).node)
    ∙ if_both (λ (x : NodeStep). heads x.node ≡ heads u.node) (is_log_full u.node) _ _ (λ _. refl) (λ _. refl)
    ∙ leading_heads t.node

led_knows : (t : NodeStep) (m : Message) → Knows t.node m (became_leader t)
led_knows t m =
    let e = led_heads t in
    inr (inr (inl (ap (λ (h : Heads). h.role) e, ap (λ (h : Heads). h.lead) e ∙ sym (ap (λ (h : Heads). h.id) e))))

decided_knows : (v : VoteResult) (t : NodeStep) (m : Message) → Knows t.node m (decided v t)
decided_knows vote.Won t m = led_knows t m
decided_knows vote.Pending t m = inl refl
decided_knows vote.Lost t m = inr (inl refl)

pre_decided_knows : (v : VoteResult) (t : NodeStep) (m : Message) → Knows t.node m (pre_decided v t)
pre_decided_knows vote.Won t m = after_pre_vote_knows t m
pre_decided_knows vote.Pending t m = inl refl
pre_decided_knows vote.Lost t m = inr (inl refl)

-- ---- every message

-- a message is a leader's, or isn't
leaders_or_not : (k : MessageKind) → IsLeaders k ⊎ (IsLeaders k → ⊥)
leaders_or_not (kind.Append append) = inl tt
leaders_or_not (kind.Heartbeat commit) = inl tt
leaders_or_not (kind.Snapshot snapshot) = inl tt
leaders_or_not _ = inr (λ no. no)

from_leader : (old : PlainNode) (t : NodeStep) (m : Message) → IsLeaders m.kind → Hears m t → Knows old m t
from_leader old t m leaders h = inr (inr (inr (leaders, h.lead, h.term)))

leader_ignores : (k : MessageKind) (t : NodeStep) (m : Message) → IsLeaders k → (as_leader k t m).node ≡ t.node
leader_ignores (kind.Append append) t m is = refl
leader_ignores (kind.Heartbeat commit) t m is = refl
leader_ignores (kind.Snapshot snapshot) t m is = refl
leader_ignores _ t m is = absurd is

role_knows : (r : Role) (t : NodeStep) (m : Message) → IsLeaders m.kind → m.term ≡ t.node.term → Knows t.node m (by_role_of r t m)
role_knows role.Follower t m leaders same = from_leader t.node (by_role_of role.Follower t m) m leaders (role_hears role.Follower t m leaders same (λ never. cc))
role_knows role.Precandidate t m leaders same = from_leader t.node (by_role_of role.Precandidate t m) m leaders (role_hears role.Precandidate t m leaders same (λ never. cc))
role_knows role.Candidate t m leaders same = from_leader t.node (by_role_of role.Candidate t m) m leaders (role_hears role.Candidate t m leaders same (λ never. cc))
role_knows role.Leader t m leaders same = inl (ap (λ (n : PlainNode). n.lead) (leader_ignores m.kind t m leaders))

follower_knows : (k : MessageKind) (t : NodeStep) (m : Message) → (IsLeaders k → ⊥) → Knows t.node m (as_follower k t m)
follower_knows (kind.Append append) t m other = absurd (other tt)
follower_knows (kind.Heartbeat commit) t m other = absurd (other tt)
follower_knows (kind.Snapshot snapshot) t m other = absurd (other tt)
follower_knows (kind.Proposal body) t m other = if_both (Knows t.node m) (t.node.lead == 0) _ _ (λ _. inl refl) (λ _. inl refl)
follower_knows (kind.TransferLeader target) t m other = if_both (Knows t.node m) (t.node.lead == 0) _ _ (λ _. inl refl) (λ _. inl refl)
follower_knows kind.TimeoutNow t m other = campaigned_knows t m true
follower_knows _ t m other = inl refl

precandidate_knows : (k : MessageKind) (t : NodeStep) (m : Message) → (IsLeaders k → ⊥) → Knows t.node m (as_precandidate k t m)
precandidate_knows (kind.PreVoteResponse granted) t m other = pre_decided_knows (count_of t.node m.from granted) (vote_counted t m granted) m
precandidate_knows (kind.Append append) t m other = absurd (other tt)
precandidate_knows (kind.Heartbeat commit) t m other = absurd (other tt)
precandidate_knows (kind.Snapshot snapshot) t m other = absurd (other tt)
precandidate_knows _ t m other = inl refl

candidate_knows : (k : MessageKind) (t : NodeStep) (m : Message) → (IsLeaders k → ⊥) → Knows t.node m (as_candidate k t m)
candidate_knows (kind.VoteResponse granted) t m other = decided_knows (count_of t.node m.from granted) (vote_counted t m granted) m
candidate_knows (kind.Append append) t m other = absurd (other tt)
candidate_knows (kind.Heartbeat commit) t m other = absurd (other tt)
candidate_knows (kind.Snapshot snapshot) t m other = absurd (other tt)
candidate_knows _ t m other = inl refl

leader_knows : (k : MessageKind) (t : NodeStep) (m : Message) → Knows t.node m (as_leader k t m)
leader_knows (kind.Proposal body) t m = inl (proposed_lead t body)
leader_knows (kind.AppendResponse matched) t m = inl (ap (λ (x : Standing). x.lead) (accepted_standing t m matched))
leader_knows (kind.AppendRefusal refused hint) t m = inl (ap (λ (x : Standing). x.lead) (refused_standing t m refused hint))
leader_knows kind.HeartbeatResponse t m = inl (ap (λ (x : Standing). x.lead) (beat_standing t m))
leader_knows (kind.TransferLeader target) t m = inl (ap (λ (x : Standing). x.lead) (transferred_standing t m target))
leader_knows _ t m = inl refl

other_role_knows : (r : Role) (t : NodeStep) (m : Message) → (IsLeaders m.kind → ⊥) → Knows t.node m (by_role_of r t m)
other_role_knows role.Follower t m other = follower_knows m.kind t m other
other_role_knows role.Precandidate t m other = precandidate_knows m.kind t m other
other_role_knows role.Candidate t m other = candidate_knows m.kind t m other
other_role_knows role.Leader t m other = leader_knows m.kind t m

any_role_knows : (r : Role) (t : NodeStep) (m : Message) → (IsLeaders m.kind → m.term ≡ t.node.term) → Knows t.node m (by_role_of r t m)
any_role_knows r t m same =
    elim (leaders_or_not m.kind) as (λ _. Knows t.node m (by_role_of r t m)) [ inl leaders ↦ role_knows r t m leaders (same leaders) | inr other ↦ other_role_knows r t m other ]

term_knows : (k : MessageKind) (t : NodeStep) (m : Message) → (IsLeaders m.kind → m.term ≡ t.node.term) → Knows t.node m (at_term_by k t m)
term_knows (kind.Vote last_term last_index transfer) t m same =
    if_both (Knows t.node m) (grants t.node m last_term last_index false) _ _ (λ _. inl refl) (λ _. inl refl)
term_knows (kind.PreVote last_term last_index) t m same =
    if_both (Knows t.node m) (grants t.node m last_term last_index true) _ _ (λ _. inl refl) (λ _. inl refl)
term_knows _ t m same = any_role_knows t.node.role t m same

-- ---- a later term

-- who knows of no leader at first, and then knows what it comes to know
after_none : (old : PlainNode) (m : Message) (none : PlainNode) (u : NodeStep) → none.lead ≡ 0 → Knows none m u → Knows old m u
after_none old m none u is k = elim k as (λ _. Knows old m u) [ inl same ↦ inr (inl (same ∙ is)) | inr rest ↦ inr rest ]

-- a message of no leader makes a follower of nobody
raised_by_other : (k : MessageKind) (t : NodeStep) (m : Message) → (IsLeaders k → ⊥) → (stepped_later_by k t m ≡ t) ⊎ (stepped_later_by k t m ≡ became_follower t m.term 0)
raised_by_other (kind.PreVote last_term last_index) t m other = inl refl
raised_by_other (kind.PreVoteResponse granted) t m other =
    if_both (λ (u : NodeStep). (u ≡ t) ⊎ (u ≡ became_follower t m.term 0)) granted _ _ (λ _. inl refl) (λ _. inr refl)
raised_by_other (kind.Append append) t m other = absurd (other tt)
raised_by_other (kind.Heartbeat commit) t m other = absurd (other tt)
raised_by_other (kind.Snapshot snapshot) t m other = absurd (other tt)
raised_by_other _ t m other = inr refl

raised_knows : (t : NodeStep) (m : Message) → Knows t.node m (at_term (stepped_later t m) m)
raised_knows t m =
    elim (leaders_or_not m.kind) as (λ _. Knows t.node m (at_term (stepped_later t m) m)) [
      | inl leaders ↦ from_leader t.node (at_term (stepped_later t m) m) m leaders (raised_hears m.kind t m leaders leaders)
      | inr other ↦
          let P : NodeStep → Type 0 = λ u. Knows t.node m (at_term u m) in
          let none : (u : NodeStep) → IsLeaders m.kind → m.term ≡ u.node.term = λ u leaders. absurd (other leaders) in
          elim (raised_by_other m.kind t m other) as (λ _. P (stepped_later t m)) [
            | inl same ↦ subst P (sym same) (term_knows m.kind t m (none t))
            | inr down ↦
                let u : NodeStep = became_follower t m.term 0 in
                subst P (sym down) (after_none t.node m u.node (at_term u m) refl (term_knows m.kind u m (none u)))
          ]
    ]

-- ---- an earlier term

lowered_lead : (k : MessageKind) (t : NodeStep) (m : Message) → SameLead t.node (stepped_earlier_by k t m).node
lowered_lead (kind.PreVote last_term last_index) t m = refl
lowered_lead (kind.Append append) t m = if_both (λ (u : NodeStep). SameLead t.node u.node) (answers_earlier t.node) _ _ (λ _. refl) (λ _. refl)
lowered_lead (kind.Heartbeat commit) t m = if_both (λ (u : NodeStep). SameLead t.node u.node) (answers_earlier t.node) _ _ (λ _. refl) (λ _. refl)
lowered_lead _ t m = refl

pub leader_known : (t : NodeStep) (m : Message) → KnowsLeader t.node m (stepped t m).node
leader_known t m =
    by_term (Knows t.node m) t m
    (λ same. term_knows m.kind t m (λ leaders. same (leaders_have_term m.kind leaders)))
    (λ _. inl (lowered_lead m.kind t m))
    (λ _ _. inl refl)
    (λ _ _. raised_knows t m)

-- ---- a vote under a leader

-- a vote goes to another only from who has voted for nobody and knows of no leader
abbrev VotesFreely : PlainNode → NodeStep → Type 0
VotesFreely old t = (t.node.vote ≡ old.vote) ⊎ ((old.vote ≡ 0) × (old.lead ≡ 0))

free_parts : (a b c d : Bool) → (a || (b && c) || (false && d)) ≡ true → (a ≡ true) ⊎ ((b ≡ true) × (c ≡ true))
free_parts true b c d e = inl refl
free_parts false true true d e = inr (refl, refl)
free_parts false true false d e = absurd (false≢true e)
free_parts false false c d e = absurd (false≢true e)

pub free_votes : (t : NodeStep) (m : Message) (last_term last_index : ℕ) (transfer : Bool) → m.kind ≡ kind.Vote last_term last_index transfer → m.term ≡ t.node.term → VotesFreely t.node (stepped t m)
free_votes t m last_term last_index transfer is same =
    let n = t.node in
    by_term (VotesFreely n) t m
    (λ _. subst (λ (k : MessageKind). VotesFreely n (at_term_by k t m)) (sym is)
    (if_both (VotesFreely n) (grants n m last_term last_index false) _ _
    (λ gives. elim (free_parts (n.vote == m.from) (n.vote == 0) (n.lead == 0) (nat_lt n.term m.term) (and_parts (can_vote_for n m false) (is_up_to_date n.log last_index last_term) gives).0) as (λ _. VotesFreely n (with_node t (answered_with (voted_for n m.from) m.from m.term (kind.VoteResponse true)))) [
      | inl own ↦ inl (sym (eqb-true n.vote m.from own))
      | inr free ↦ inr (eqb-true n.vote 0 free.0, eqb-true n.lead 0 free.1)
    ])
    (λ _. inl refl)))
    (λ low. absurd (omega (arith, low, same)))
    (λ past _. absurd (omega (arith, past, same)))
    (λ past _. absurd (omega (arith, past, same)))
