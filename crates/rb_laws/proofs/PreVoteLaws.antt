-- The question before the vote
use Rattle.std.proofs.Common.{[], ◌≡◌, refl, List, ℕ, ◌∷◌, ◌∙◌, true, ◌+◌, ap, Bool, ◌&&◌, not, false, Option, Some, None, ◌||◌, ◌==◌, if◌then◌else◌, nat_lt}
use Rattle.rb_raftlog.specs.Log.{last_term, last}
use Rattle.rb_tracker.proofs.SetLaws.{if_both}
use Rattle.rb_tracker.specs.Configs.{voters}
use Rattle.rb_message.specs.Messages.{has_term}
use Rattle.rb_message.specs.declared.event.WhyNoCampaign.{WhyNoCampaign}
use Rattle.rb_message.specs.declared.kind.MessageKind.{MessageKind}
use Rattle.rb_message.specs.declared.kind.MessageKind.TheVariants as kind
use Rattle.rb_message.specs.declared.message.Message.{Message}
use Rattle.rb_message.specs.declared.role.Role.TheVariants as role
use Rattle.rb_node.specs.Campaigns.{asked, asked_one, became_precandidate, precandidate, campaigned_unless, became_candidate, campaigned, why_no_campaign}
use Rattle.rb_message.specs.declared.event.WhyIgnored.TheVariants.{HearsLeader}
use Rattle.rb_node.specs.Node.{NodeStep, PlainNode, ignored}
use Rattle.rb_node.specs.Step.{at_term_by, stepped, at_term}
use Rattle.rb_node.specs.Terms.{term_revealed, answers_earlier, stepped_earlier_by, stepped_later_by, stepped_earlier, ignores_campaign, stepped_later}
use Rattle.rb_node.specs.Votes.{pre_vote_request_handled, grants}
use Rattle.rb_calls.specs.Sound.{HasSameVote}
use Rattle.rb_calls.proofs.Goes.{core, Core}
use Rattle.rb_calls.proofs.StepWays.{asked_one_same}

-- ---- what leaves a node but its messages as it is

shown_same : (t : NodeStep) (m : Message) → core (term_revealed t m).node ≡ core t.node
shown_same t m = if_both (λ (u : NodeStep). core u.node ≡ core t.node) (answers_earlier t.node) _ _ (λ _. refl) (λ _. refl)

pub lowered_same : (k : MessageKind) (t : NodeStep) (m : Message) → core (stepped_earlier_by k t m).node ≡ core t.node
lowered_same (kind.PreVote last_term last_index) t m = refl
lowered_same (kind.Append append) t m = shown_same t m
lowered_same (kind.Heartbeat commit) t m = shown_same t m
lowered_same _ t m = refl

pub asked_same : (n : PlainNode) (ids : List ℕ) (term : ℕ) (question answer : MessageKind) → core (asked n ids term question answer) ≡ core n
asked_same n [] term question answer = refl
asked_same n (id ∷ ids) term question answer = asked_same (asked_one n id term question answer) ids term question answer ∙ asked_one_same n id term question answer

pre_vote_same : (t : NodeStep) (m : Message) (last_term last_index : ℕ) → core (pre_vote_request_handled t m last_term last_index).node ≡ core t.node
pre_vote_same t m last_term last_index =
    if_both (λ (u : NodeStep). core u.node ≡ core t.node) (grants t.node m last_term last_index true) _ _ (λ _. refl) (λ _. refl)

-- a question before the vote changes no term, no vote and no log
pub became_precandidate_core : (t : NodeStep) → core (became_precandidate t).node ≡ record (core t.node) { role = role.Precandidate }
became_precandidate_core t =
    let n = precandidate t.node in
    asked_same n (voters n.tracker.config) (n.term + 1) (kind.PreVote (last_term n.log) (last n.log)) (kind.PreVoteResponse true)

-- ---- the question, and its answer

same_vote_of : (a b : PlainNode) → core b ≡ core a → HasSameVote a b
same_vote_of a b e = record { term = ap (λ (c : Core). c.term) e; vote = ap (λ (c : Core). c.vote) e; log = ap (λ (c : Core). c.log) e }

starting_pre_vote_same : (t : NodeStep) → HasSameVote t.node (became_precandidate t).node
starting_pre_vote_same t =
    let e = became_precandidate_core t in
    record { term = ap (λ (c : Core). c.term) e; vote = ap (λ (c : Core). c.vote) e; log = ap (λ (c : Core). c.log) e }

itself : (n : PlainNode) → HasSameVote n n
itself n = record { term = refl; vote = refl; log = refl }

asks_first : (b : Bool) → b ≡ true → (b && not false) ≡ false → ⊥
asks_first true e f = cc
asks_first false e f = cc

pre_campaign_unless : (o : Option WhyNoCampaign) (t : NodeStep) → t.node.options.pre_vote ≡ true → HasSameVote t.node (campaigned_unless o t false).node
pre_campaign_unless (Some reason) t on = itself t.node
pre_campaign_unless None t on =
    if_both (λ (u : NodeStep). HasSameVote t.node u.node) (t.node.options.pre_vote && not false) (became_precandidate t) (became_candidate t false)
    (λ _. starting_pre_vote_same t) (λ off. absurd (asks_first t.node.options.pre_vote on off))

pub pre_campaign : (t : NodeStep) → t.node.options.pre_vote ≡ true → HasSameVote t.node (campaigned t false).node
unfolding campaigned
pre_campaign t on = pre_campaign_unless (why_no_campaign t.node) t on

answers_same : (t : NodeStep) (m : Message) (k : MessageKind) (last_term last_index : ℕ) → k ≡ kind.PreVote last_term last_index → core (at_term_by k t m).node ≡ core t.node
answers_same t m k last_term last_index e = ap (λ (x : MessageKind). core (at_term_by x t m).node) e ∙ pre_vote_same t m last_term last_index

raised_same : (t : NodeStep) (m : Message) (k : MessageKind) (last_term last_index : ℕ) → k ≡ kind.PreVote last_term last_index → core (stepped_later_by k t m).node ≡ core t.node
raised_same t m k last_term last_index e = ap (λ (x : MessageKind). core (stepped_later_by x t m).node) e

pub pre_answer : (t : NodeStep) (m : Message) (last_term last_index : ℕ) → m.kind ≡ kind.PreVote last_term last_index → HasSameVote t.node (stepped t m).node
unfolding stepped
pre_answer t m last_term last_index e =
    let P : NodeStep → Type 0 = λ u. core u.node ≡ core t.node in
    let all : core (stepped t m).node ≡ core t.node =
    if_both P (not (has_term m.kind) || m.term == t.node.term) (at_term t m)
    (if nat_lt m.term t.node.term then stepped_earlier t m else (if ignores_campaign m.kind t.node then ignored t m (HearsLeader t.node.lead) else at_term (stepped_later t m) m))
    (λ _. answers_same t m m.kind last_term last_index e)
    (λ _. if_both P (nat_lt m.term t.node.term) (stepped_earlier t m) (if ignores_campaign m.kind t.node then ignored t m (HearsLeader t.node.lead) else at_term (stepped_later t m) m)
    (λ _. lowered_same m.kind t m)
    (λ _. if_both P (ignores_campaign m.kind t.node) (ignored t m (HearsLeader t.node.lead)) (at_term (stepped_later t m) m)
    (λ _. refl)
    (λ _. answers_same (stepped_later t m) m m.kind last_term last_index e ∙ raised_same t m m.kind last_term last_index e))) in
    same_vote_of t.node (stepped t m).node all
