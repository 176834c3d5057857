-- A timeout that passes: the node campaigns, and asks each other voter (Ongaro's thesis, sections 3.4 and 9.6)
use Rattle.std.proofs.Common.{◌≡◌, ℕ, zero, suc, ◌+◌, ◌<◌, ◌≤◌, Bool, true, false, not, ◌&&◌, ◌==◌, nat_le, List, [], ◌∷◌, Option, None, refl, ap, sym, subst, ◌∙◌, arith, eqb-true, if◌then◌else◌, inl, inr}
use Rattle.std.specs.Prelude.{Contains}
use Rattle.std.proofs.lemmas.Bool.{false≢true, le-leb, leb-true, and_parts}
use Rattle.std.proofs.lemmas.List.Elements.{Contains-append_left, Contains-push}
use Rattle.rb_raftlog.specs.Log.{last, last_term, has_change}
use Rattle.rb_raftlog.specs.declared.limits.TheConstants.{MAX_TERM}
use Rattle.rb_tracker.proofs.SetLaws.{if_both}
use Rattle.rb_tracker.specs.Configs.{voters, is_voter}
use Rattle.rb_tracker.specs.Sets.{has}
use Rattle.rb_message.specs.declared.event.WhyNoCampaign.{WhyNoCampaign}
use Rattle.rb_message.specs.declared.kind.MessageKind.{MessageKind}
use Rattle.rb_message.specs.declared.kind.MessageKind.TheVariants as kind
use Rattle.rb_message.specs.declared.message.Message.{Message}
use Rattle.rb_message.specs.declared.role.Role.{Role}
use Rattle.rb_message.specs.declared.role.Role.TheVariants as role
use Rattle.rb_node.specs.Campaigns.{why_no_campaign, asked_one, asked, candidate, precandidate, became_candidate, became_precandidate, campaigned_unless, campaigned}
use Rattle.rb_node.specs.Node.{PlainNode, NodeStep, message, with_node, with_elapsed, is_leader}
use Rattle.rb_node.specs.Ticking.{next_count, is_due, non_leader_ticked, ticked_by, ticked}
use Rattle.rb_node.specs.declared.limits.TheConstants.{MAX_TICKS}
use Rattle.rb_calls.specs.Calling.{run}
use Rattle.rb_laws.specs.Choices.{MayCampaign}
use Rattle.rb_laws.specs.Timing.{AsksForVotes, AsksForPreVotes, HasCampaigned, CanTimeOut, ticks}
use Rattle.rb_calls.proofs.Goes.{Core}
use Rattle.rb_laws.proofs.PreVoteLaws.{asked_same}
use Rattle.rb_calls.proofs.StepWays.{asked_one_same}

-- ---- each other voter is asked

one_keeps : (n : PlainNode) (to term : ℕ) (question answer : MessageKind) (m : Message) → Contains n.sent m → Contains (asked_one n to term question answer).sent m
one_keeps n to term question answer m among =
    if_both (λ (x : PlainNode). Contains x.sent m) (to == n.id) _ _ (λ _. among) (λ _. Contains-append_left n.sent (message n.id to term question ∷ []) m among)

all_keep : (n : PlainNode) (ids : List ℕ) (term : ℕ) (question answer : MessageKind) (m : Message) → Contains n.sent m → Contains (asked n ids term question answer).sent m
all_keep n [] term question answer m among = among
all_keep n (x ∷ xs) term question answer m among =
    all_keep (asked_one n x term question answer) xs term question answer m (one_keeps n x term question answer m among)

one_asked : (n : PlainNode) (to term : ℕ) (question answer : MessageKind) → (to ≡ n.id → ⊥) → Contains (asked_one n to term question answer).sent (message n.id to term question)
one_asked n to term question answer other =
    if_both (λ (x : PlainNode). Contains x.sent (message n.id to term question)) (to == n.id) _ _
    (λ own. absurd (other (eqb-true to n.id own))) (λ _. Contains-push n.sent (message n.id to term question))

pub all_asked : (n : PlainNode) (ids : List ℕ) (term : ℕ) (question answer : MessageKind) (id : ℕ) → has ids id ≡ true → (id ≡ n.id → ⊥)
    → Contains (asked n ids term question answer).sent (message n.id id term question)
all_asked n [] term question answer id is other = absurd (false≢true is)
all_asked n (x ∷ xs) term question answer id is other =
    let y : PlainNode = asked_one n x term question answer in
    let same : y.id ≡ n.id = ap (λ (c : Core). c.id) (asked_one_same n x term question answer) in
    if_both (λ (b : Bool). b ≡ true → Contains (asked y xs term question answer).sent (message n.id id term question)) (x == id) true (has xs id)
    (λ here _. all_keep y xs term question answer (message n.id id term question)
    (subst (λ (i : ℕ). Contains y.sent (message n.id i term question)) (eqb-true x id here)
    (one_asked n x term question answer (λ own. other (sym (eqb-true x id here) ∙ own)))))
    (λ _ rest. subst (λ (from : ℕ). Contains (asked y xs term question answer).sent (message from id term question)) same
    (all_asked y xs term question answer id rest (λ own. other (own ∙ same))))
    is

-- ---- a campaign

stood : (t : NodeStep) → AsksForVotes t.node (became_candidate t false).node
stood t =
    let n : PlainNode = candidate t.node in
    let question : MessageKind = kind.Vote (last_term n.log) (last n.log) false in
    let same = asked_same n (voters n.tracker.config) n.term question (kind.VoteResponse true) in
    record {
      role = ap (λ (c : Core). c.role) same;
      term = ap (λ (c : Core). c.term) same;
      vote = ap (λ (c : Core). c.vote) same;
      asks = λ id is other. all_asked n (voters n.tracker.config) n.term question (kind.VoteResponse true) id is other;
    }

asked_first : (t : NodeStep) → AsksForPreVotes t.node (became_precandidate t).node
asked_first t =
    let n : PlainNode = precandidate t.node in
    let question : MessageKind = kind.PreVote (last_term n.log) (last n.log) in
    let same = asked_same n (voters n.tracker.config) (n.term + 1) question (kind.PreVoteResponse true) in
    record {
      role = ap (λ (c : Core). c.role) same;
      term = ap (λ (c : Core). c.term) same;
      vote = ap (λ (c : Core). c.vote) same;
      asks = λ id is other. all_asked n (voters n.tracker.config) (n.term + 1) question (kind.PreVoteResponse true) id is other;
    }

by_pre_vote : (b : Bool) (t : NodeStep) → t.node.options.pre_vote ≡ b → HasCampaigned t.node (if b && not false then became_precandidate t else became_candidate t false).node
by_pre_vote true t is = inr (is, asked_first t)
by_pre_vote false t is = inl (is, stood t)

not_leading : (r : Role) → (r ≡ role.Leader → ⊥) → is_leader r ≡ false
not_leading role.Follower never = refl
not_leading role.Precandidate never = refl
not_leading role.Candidate never = refl
not_leading role.Leader never = absurd (never refl)

-- nothing keeps it from campaigning
pub nothing_keeps : (n : PlainNode) → MayCampaign n → n.term < MAX_TERM → why_no_campaign n ≡ None
nothing_keeps n may low =
    let P : Option WhyNoCampaign → Type 0 = λ o. o ≡ None in
    if_both P (is_leader n.role) _ _ (λ leads. absurd (false≢true (sym (not_leading n.role may.follows) ∙ leads)))
    (λ _. if_both P (not (is_voter n.tracker.config n.id)) _ _ (λ no. absurd (false≢true (sym (ap not may.votes) ∙ no)))
    (λ _. if_both P n.restored _ _ (λ unsaved. absurd (false≢true (sym may.saved ∙ unsaved)))
    (λ _. if_both P (has_change n.log n.applied n.commit) _ _ (λ changes. absurd (false≢true (sym may.no_change ∙ changes)))
    (λ _. if_both P (nat_le MAX_TERM n.term) _ _ (λ high. (let far = leb-true MAX_TERM n.term high in absurd (omega (arith, far, low)))) (λ _. refl)))))

pub campaigned_is : (t : NodeStep) → MayCampaign t.node → t.node.term < MAX_TERM → HasCampaigned t.node (campaigned t false).node
unfolding campaigned
campaigned_is t may low =
    subst (λ (o : Option WhyNoCampaign). HasCampaigned t.node (campaigned_unless o t false).node) (sym (nothing_keeps t.node may low)) (by_pre_vote t.node.options.pre_vote t refl)

-- what a node's clock was decides nothing of it
unclocked : (n x : PlainNode) (count : ℕ) → HasCampaigned (with_elapsed n count) x → HasCampaigned n x
unclocked n x count (inl (is, c)) = inl (is, record { role = c.role; term = c.term; vote = c.vote; asks = c.asks })
unclocked n x count (inr (is, c)) = inr (is, record { role = c.role; term = c.term; vote = c.vote; asks = c.asks })

-- ---- a tick

-- each role but a leader's takes a tick in one way
pub others_ticked : (P : NodeStep → Type 0) (r : Role) (t : NodeStep) → (r ≡ role.Leader → ⊥) → P (non_leader_ticked t) → P (ticked_by r t)
others_ticked P role.Follower t never p = p
others_ticked P role.Precandidate t never p = p
others_ticked P role.Candidate t never p = p
others_ticked P role.Leader t never p = absurd (never refl)

counted : (t : NodeStep) → t.node.clock.timeout ≤ MAX_TICKS → t.node.clock.elapsed + 1 < t.node.clock.timeout → non_leader_ticked t ≡ with_node t (with_elapsed t.node (t.node.clock.elapsed + 1))
unfolding non_leader_ticked
counted t short early =
    let x = t.node.clock.elapsed in
    let n : PlainNode = with_elapsed t.node (next_count x) in
    let more : next_count x ≡ x + 1 = omega (arith, short, early) in
    if_both (λ (u : NodeStep). u ≡ with_node t (with_elapsed t.node (x + 1))) (is_due n) _ _
    (λ due. (let passed = leb-true t.node.clock.timeout (next_count x) (and_parts (is_voter n.tracker.config n.id) (nat_le t.node.clock.timeout (next_count x)) due).1 in absurd (omega (arith, passed, more, early))))
    (λ _. ap (λ (k : ℕ). with_node t (with_elapsed t.node k)) more)

pub tick_counts : (t : NodeStep) → (t.node.role ≡ role.Leader → ⊥) → t.node.clock.timeout ≤ MAX_TICKS → t.node.clock.elapsed + 1 < t.node.clock.timeout
    → ticked t ≡ with_node t (with_elapsed t.node (t.node.clock.elapsed + 1))
tick_counts t never short early = others_ticked (λ (u : NodeStep). u ≡ with_node t (with_elapsed t.node (t.node.clock.elapsed + 1))) t.node.role t never (counted t short early)

pub two_true : (a b : Bool) → a ≡ true → b ≡ true → (a && b) ≡ true
two_true a b p q = rw (p, q) refl

timed_out : (t : NodeStep) → CanTimeOut t.node → t.node.clock.timeout ≤ t.node.clock.elapsed + 1 → HasCampaigned t.node (non_leader_ticked t).node
unfolding non_leader_ticked
timed_out t can late =
    let x = t.node.clock.elapsed in
    let n : PlainNode = with_elapsed t.node (next_count x) in
    let v : NodeStep = with_node t (with_elapsed n 0) in
    let short = can.timeout in
    let due : is_due n ≡ true = two_true (is_voter n.tracker.config n.id) (nat_le t.node.clock.timeout (next_count x)) can.may.votes (le-leb t.node.clock.timeout (next_count x) (omega (arith, short, late))) in
    let may : MayCampaign v.node = record { follows = can.may.follows; votes = can.may.votes; saved = can.may.saved; no_change = can.may.no_change } in
    if_both (λ (u : NodeStep). HasCampaigned t.node u.node) (is_due n) (campaigned v false) (with_node t n)
    (λ _. unclocked t.node (campaigned v false).node (next_count x) (unclocked n (campaigned v false).node 0 (campaigned_is v may can.term)))
    (λ no. absurd (false≢true (sym no ∙ due)))

pub timeout_passes : (t : NodeStep) → CanTimeOut t.node → t.node.clock.timeout ≤ t.node.clock.elapsed + 1 → HasCampaigned t.node (ticked t).node
timeout_passes t can late = others_ticked (λ (u : NodeStep). HasCampaigned t.node u.node) t.node.role t can.may.follows (timed_out t can late)

-- ---- one tick after another

ticks_pass : (left : ℕ) (t : NodeStep) → CanTimeOut t.node → t.node.clock.elapsed + suc left ≡ t.node.clock.timeout → HasCampaigned t.node (run (ticks (suc left)) t).node
ticks_pass zero t can at = timeout_passes t can (omega (arith, at))
ticks_pass (suc left) t can at =
    let u : NodeStep = with_node t (with_elapsed t.node (t.node.clock.elapsed + 1)) in
    let next : ticked t ≡ u = tick_counts t can.may.follows can.timeout (omega (arith, at)) in
    let may : MayCampaign u.node = record { follows = can.may.follows; votes = can.may.votes; saved = can.may.saved; no_change = can.may.no_change } in
    subst (λ (x : NodeStep). HasCampaigned t.node (run (ticks (suc left)) x).node) (sym next)
    (unclocked t.node (run (ticks (suc left)) u).node (t.node.clock.elapsed + 1)
    (ticks_pass left u (record { may = may; term = can.term; timeout = can.timeout }) (omega (arith, at))))

pub silence_passes : (n : ℕ) (t : NodeStep) → CanTimeOut t.node → t.node.clock.elapsed < t.node.clock.timeout → t.node.clock.elapsed + n ≡ t.node.clock.timeout
    → HasCampaigned t.node (run (ticks n) t).node
silence_passes zero t can early at = absurd (omega (arith, early, at))
silence_passes (suc left) t can early at = ticks_pass left t can at
