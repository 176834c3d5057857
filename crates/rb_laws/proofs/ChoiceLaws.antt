-- Who campaigns, what a leader takes, and what the options ask of a node
use Rattle.std.proofs.Common.{[], Bool, not, ◌≡◌, false, true, refl, sym, None, Option, ◌∙◌, ap, ◌⊎◌, Some, inl, inr, ℕ, ◌≤◌, nat_lt, ◌+◌, List, length, ◌||◌, ◌==◌, ◌<◌, arith, subst, ◌&&◌, nat_le, if◌then◌else◌, Result, Ok}
use Rattle.std.proofs.lemmas.Bool.{false≢true, eqb-false, le-leb, lt-ltb, ltb-true}
use Rattle.std.proofs.lemmas.Bool.Decides.{nat_tests}
use Rattle.rb_raftlog.specs.Log.{has_change, own, last}
use Rattle.rb_raftlog.specs.declared.entry.Body.{Body}
use Rattle.rb_raftlog.specs.declared.entry.Body.TheVariants.{Payload, Change}
use Rattle.rb_vocab.specs.declared.change.Transition.{Transition}
use Rattle.rb_vocab.specs.declared.change.Word.{Word}
use Rattle.rb_tracker.proofs.SetLaws.{if_both}
use Rattle.rb_tracker.specs.Active.{quorum_active}
use Rattle.rb_tracker.specs.Changes.{changed}
use Rattle.rb_tracker.specs.Configs.{is_voter}
use Rattle.rb_tracker.specs.Trackers.{has_view, configured}
use Rattle.rb_tracker.specs.declared.changes.ChangeFault.{ChangeFault}
use Rattle.rb_tracker.specs.declared.config.Config.{Config}
use Rattle.rb_message.specs.Messages.{has_term}
use Rattle.rb_message.specs.declared.event.EventKind.TheVariants as event
use Rattle.rb_message.specs.Events.{event_at}
use Rattle.rb_message.specs.declared.event.WhyNoCampaign.{WhyNoCampaign}
use Rattle.rb_message.specs.declared.event.WhyReplaced.{WhyReplaced}
use Rattle.rb_message.specs.declared.kind.MessageKind.{MessageKind}
use Rattle.rb_message.specs.declared.kind.MessageKind.TheVariants as kind
use Rattle.rb_message.specs.declared.message.Message.{Message}
use Rattle.rb_message.specs.declared.role.Role.{Role}
use Rattle.rb_message.specs.declared.role.Role.TheVariants as role
use Rattle.rb_node.specs.Campaigns.{why_no_campaign, campaigned_unless, campaigned, became_candidate_unless, campaigned_after_pre_vote}
use Rattle.rb_node.specs.Changing.{continued_after_switch, steps_down, switched, change_applied}
use Rattle.rb_node.specs.Leading.{appended, is_log_full, all_sent_append}
use Rattle.rb_message.specs.declared.event.WhyIgnored.TheVariants.{HearsLeader}
use Rattle.rb_node.specs.Node.{PlainNode, is_leader, NodeStep, with_event, message, with_node, with_elapsed, ignored}
use Rattle.rb_node.specs.Proposing.{why_replaced, change_or_empty_appended, proposal_appended, proposal_handled, drops_proposals}
use Rattle.rb_node.specs.Step.{by_role_of, as_leader, stepped, at_term}
use Rattle.rb_node.specs.Terms.{hears_leader, ignores_campaign, stepped_earlier, stepped_later}
use Rattle.rb_node.specs.Ticking.{active_quorum_checked, has_lost_quorum, next_count, leader_ticked, counters_advanced, ticked_by, ticked}
use Rattle.rb_node.specs.Transferring.{transfer_leader_handled, cannot_take_lead}
use Rattle.rb_node.specs.declared.limits.TheConstants.{ELECTION_TICKS}
use Rattle.rb_laws.specs.Choices.{MayCampaign, PutsChange, MayTakeLead, StepsDown}
use Rattle.rb_calls.proofs.LeaderWays.{applied_all_changes}
use Rattle.rb_calls.proofs.Moves.{over_way}
use Rattle.rb_calls.proofs.StepWays.{of_term}
use Rattle.rb_calls.proofs.TellWays.{Rest, keeps_rest, append_broadcast_way}

-- ---- who campaigns

not_not : (b : Bool) → not b ≡ false → b ≡ true
not_not true e = refl
not_not false e = absurd (false≢true (sym e))

pub may_campaign : (n : PlainNode) → why_no_campaign n ≡ None → MayCampaign n
may_campaign n =
    let P : Option WhyNoCampaign → Type 0 = λ o. o ≡ None → MayCampaign n in
    if_both P (is_leader n.role) _ _ (λ _ e. cc)
    (λ follower. if_both P (not (is_voter n.tracker.config n.id)) _ _ (λ _ e. cc)
    (λ voter. if_both P n.restored _ _ (λ _ e. cc)
    (λ saved. if_both P (has_change n.log n.applied n.commit) _ _ (λ _ e. cc)
    (λ none e. record {
      follows = λ leads. false≢true (sym follower ∙ ap is_leader leads);
      votes = not_not (is_voter n.tracker.config n.id) voter;
      saved = saved;
      no_change = none;
    }))))

campaigns_unless_may : (o : Option WhyNoCampaign) (t : NodeStep) (transfer : Bool) → why_no_campaign t.node ≡ o → ((campaigned_unless o t transfer).node ≡ t.node) ⊎ MayCampaign t.node
campaigns_unless_may (Some reason) t transfer is = inl refl
campaigns_unless_may None t transfer is = inr (may_campaign t.node is)

pub campaigns_may : (t : NodeStep) (transfer : Bool) → ((campaigned t transfer).node ≡ t.node) ⊎ MayCampaign t.node
unfolding campaigned
campaigns_may t transfer = campaigns_unless_may (why_no_campaign t.node) t transfer refl

stands_unless_may : (o : Option WhyNoCampaign) (t : NodeStep) → why_no_campaign t.node ≡ o → ((became_candidate_unless o t).node ≡ t.node) ⊎ MayCampaign t.node
stands_unless_may (Some reason) t is = inl refl
stands_unless_may None t is = inr (may_campaign t.node is)

pub stands_may : (t : NodeStep) → ((campaigned_after_pre_vote t).node ≡ t.node) ⊎ MayCampaign t.node
unfolding campaigned_after_pre_vote
stands_may t = stands_unless_may (why_no_campaign t.node) t refl

-- ---- one change at a time

appended_puts : (t : NodeStep) (body : Body) → ((appended t body).node.log ≡ t.node.log) ⊎ ((appended t body).node.log ≡ own t.node.log (record { term = t.node.term; body = body }))
appended_puts t body =
    if_both (λ (u : NodeStep). (u.node.log ≡ t.node.log) ⊎ (u.node.log ≡ own t.node.log (record { term = t.node.term; body = body }))) (is_log_full t.node) _ _
    (λ _. inl refl) (λ _. inr refl)

replaced_puts : (t : NodeStep) (u : NodeStep) (body : Body) → u.node ≡ t.node → PutsChange t.node (appended u (Payload [])).node body
replaced_puts t u body e =
    elim (appended_puts u (Payload [])) as (λ _. PutsChange t.node (appended u (Payload [])).node body) [
      | inl same ↦ inl (same ∙ ap (λ (n : PlainNode). n.log) e)
      | inr more ↦ inr (inl (more ∙ ap (λ (n : PlainNode). own n.log (record { term = n.term; body = Payload [] })) e))
    ]

change_put_puts : (o : Option WhyReplaced) (t : NodeStep) (words : ℕ) (body : Body) → why_replaced t.node words ≡ o → PutsChange t.node (change_or_empty_appended o t body).node body
change_put_puts None t words body is =
    if_both (λ (u : NodeStep). PutsChange t.node u.node body) (is_log_full t.node) _ _
    (λ _. inl refl) (λ _. inr (inr (applied_all_changes t.node words is, refl)))
change_put_puts (Some reason) t words body is = replaced_puts t (with_event t (event_at t.node.id (event.ReplacedChange (last t.node.log + 1) reason))) body refl

put_in_puts : (t : NodeStep) (transition : Transition) (words : List Word) → PutsChange t.node (proposal_appended (Change transition words) t).node (Change transition words)
put_in_puts t transition words =
    if_both (λ (u : NodeStep). PutsChange t.node u.node (Change transition words)) (is_log_full t.node) _ _
    (λ _. inl refl) (λ _. change_put_puts (why_replaced t.node (length words)) t (length words) (Change transition words) refl)

puts_by_log : (old a b : PlainNode) (body : Body) → b.log ≡ a.log → PutsChange old a body → PutsChange old b body
puts_by_log old a b body e is =
    elim is as (λ _. PutsChange old b body) [
      | inl same ↦ inl (e ∙ same)
      | inr more ↦ elim more as (λ _. PutsChange old b body) [
        | inl empty ↦ inr (inl (e ∙ empty))
        | inr change ↦ inr (inr (change.0, e ∙ change.1))
      ]
    ]

pub proposed_puts : (t : NodeStep) (transition : Transition) (words : List Word) → PutsChange t.node (proposal_handled t (Change transition words)).node (Change transition words)
unfolding proposal_handled
proposed_puts t transition words =
    let body = Change transition words in
    if_both (λ (u : NodeStep). PutsChange t.node u.node body) (drops_proposals t.node) _ _
    (λ _. inl refl)
    (λ _. (let u = proposal_appended body t in
    puts_by_log t.node u.node (all_sent_append u).node body (ap (λ (r : Rest). r.log) (over_way keeps_rest (append_broadcast_way u.node))) (put_in_puts t transition words)))

-- ---- to whom the lead goes

three_false : (a b c : Bool) → (not a || b || c) ≡ false → (a ≡ true) × (b ≡ false)
three_false true false c h = (refl, refl)
three_false true true c h = absurd (false≢true (sym h))
three_false false b c h = absurd (false≢true (sym h))

pub leads_to_voters : (t : NodeStep) (m : Message) (target : ℕ) → ((transfer_leader_handled t m target).node ≡ t.node) ⊎ MayTakeLead t.node target
unfolding transfer_leader_handled
leads_to_voters t m target =
    if_both (λ (u : NodeStep). (u.node ≡ t.node) ⊎ MayTakeLead t.node target) (cannot_take_lead t.node target) _ _
    (λ _. inl refl)
    (λ can. (let parts = three_false (is_voter t.node.tracker.config target) (target == t.node.id) (target == t.node.transferee) can in
    inr (record { votes = parts.0; another = eqb-false target t.node.id parts.1 })))

-- ---- one that hands the lead over takes nothing

takes_none_is : (a b : Bool) → b ≡ false → (a || not b) ≡ true
takes_none_is true false e = refl
takes_none_is false false e = refl
takes_none_is true true e = refl
takes_none_is false true e = absurd (false≢true (sym e))

some_is : (n : ℕ) → 0 < n → (n == 0) ≡ false
some_is n some = grind (arith, nat_tests)

handing_takes_none : (t : NodeStep) (body : Body) → 0 < t.node.transferee → (proposal_handled t body).node ≡ t.node
unfolding proposal_handled
handing_takes_none t body some =
    if_both (λ (u : NodeStep). u.node ≡ t.node) (drops_proposals t.node) _ _ (λ _. refl)
    (λ no. absurd (false≢true (sym no ∙ takes_none_is (not (has_view t.node.tracker.views t.node.id)) (t.node.transferee == 0) (some_is t.node.transferee some))))

role_takes_none : (r : Role) (t : NodeStep) (m : Message) (body : Body) → r ≡ role.Leader → m.kind ≡ kind.Proposal body → 0 < t.node.transferee → (by_role_of r t m).node ≡ t.node
role_takes_none role.Leader t m body is asks some = subst (λ (k : MessageKind). (as_leader k t m).node ≡ t.node) (sym asks) (handing_takes_none t body some)
role_takes_none role.Follower t m body is asks some = cc
role_takes_none role.Precandidate t m body is asks some = cc
role_takes_none role.Candidate t m body is asks some = cc

pub transfers_stop_proposals : (t : NodeStep) (body : Body) → t.node.role ≡ role.Leader → 0 < t.node.transferee → (stepped t (message t.node.id t.node.id 0 (kind.Proposal body))).node ≡ t.node
unfolding stepped
transfers_stop_proposals t body leads some = role_takes_none t.node.role t (message t.node.id t.node.id 0 (kind.Proposal body)) body leads refl some

-- ---- checks of the quorum

both_true : (a b : Bool) → a ≡ true → b ≡ false → (a && not b) ≡ true
both_true true false e f = refl
both_true true true e f = absurd (false≢true (sym f))
both_true false b e f = absurd (false≢true e)

looks_down : (t : NodeStep) → t.node.options.check_quorum ≡ true → quorum_active t.node.tracker ≡ false → StepsDown t.node (active_quorum_checked t).node
unfolding active_quorum_checked
looks_down t checks lost =
    if_both (λ (u : NodeStep). StepsDown t.node u.node) (has_lost_quorum t.node) _ _ (λ _. (refl, refl, refl))
    (λ no. absurd (false≢true (sym no ∙ both_true t.node.options.check_quorum (quorum_active t.node.tracker) checks lost)))

leader_looks_down : (t : NodeStep) → t.node.options.check_quorum ≡ true → quorum_active t.node.tracker ≡ false → ELECTION_TICKS ≤ next_count t.node.clock.elapsed → StepsDown t.node (leader_ticked t).node
unfolding leader_ticked
leader_looks_down t checks lost due =
    let u : NodeStep = with_node t (counters_advanced t.node) in
    if_both (λ (x : NodeStep). StepsDown t.node x.node) (nat_le ELECTION_TICKS u.node.clock.elapsed) _ _
    (λ _. looks_down (with_node u (with_elapsed u.node 0)) checks lost)
    (λ no. absurd (false≢true (sym no ∙ le-leb ELECTION_TICKS u.node.clock.elapsed due)))

role_looks_down : (r : Role) (t : NodeStep) → r ≡ role.Leader → t.node.options.check_quorum ≡ true → quorum_active t.node.tracker ≡ false → ELECTION_TICKS ≤ next_count t.node.clock.elapsed → StepsDown t.node (ticked_by r t).node
role_looks_down role.Leader t is checks lost due = leader_looks_down t checks lost due
role_looks_down role.Follower t is checks lost due = cc
role_looks_down role.Precandidate t is checks lost due = cc
role_looks_down role.Candidate t is checks lost due = cc

pub lost_quorum_steps_down : (t : NodeStep) → t.node.role ≡ role.Leader → t.node.options.check_quorum ≡ true → quorum_active t.node.tracker ≡ false → ELECTION_TICKS ≤ next_count t.node.clock.elapsed → StepsDown t.node (ticked t).node
lost_quorum_steps_down t leads checks lost due = role_looks_down t.node.role t leads checks lost due

all_three : (a b c : Bool) → a ≡ true → b ≡ false → c ≡ true → (a && not b && c) ≡ true
all_three true false true e f g = refl
all_three true false false e f g = absurd (false≢true g)
all_three true true c e f g = absurd (false≢true (sym f))
all_three false b c e f g = absurd (false≢true e)

hears : (n : PlainNode) → n.options.check_quorum ≡ true → 0 < n.lead → n.clock.elapsed < ELECTION_TICKS → hears_leader n ≡ true
hears n checks knows lately = all_three n.options.check_quorum (n.lead == 0) (nat_lt n.clock.elapsed ELECTION_TICKS) checks (some_is n.lead knows) (lt-ltb n.clock.elapsed ELECTION_TICKS lately)

-- a disturbing message of a later term is passed over
disturbed_stays : (t : NodeStep) (m : Message) → has_term m.kind ≡ true → t.node.term < m.term → ignores_campaign m.kind t.node ≡ true → (stepped t m).node ≡ t.node
unfolding stepped
disturbed_stays t m has above disturbs =
    let P : NodeStep → Type 0 = λ u. u.node ≡ t.node in
    if_both P (not (has_term m.kind) || m.term == t.node.term) (at_term t m)
    (if nat_lt m.term t.node.term then stepped_earlier t m else (if ignores_campaign m.kind t.node then ignored t m (HearsLeader t.node.lead) else at_term (stepped_later t m) m))
    (λ now. (let same : m.term ≡ t.node.term = of_term t m has now in absurd (omega (arith, same, above))))
    (λ _. if_both P (nat_lt m.term t.node.term) (stepped_earlier t m) (if ignores_campaign m.kind t.node then ignored t m (HearsLeader t.node.lead) else at_term (stepped_later t m) m)
    (λ low. (let under : m.term < t.node.term = ltb-true m.term t.node.term low in absurd (omega (arith, under, above))))
    (λ _. if_both P (ignores_campaign m.kind t.node) (ignored t m (HearsLeader t.node.lead)) (at_term (stepped_later t m) m) (λ _. refl) (λ no. absurd (false≢true (sym no ∙ disturbs)))))

and_also : (a : Bool) → a ≡ true → (a && not false) ≡ true
and_also true e = refl
and_also false e = absurd (false≢true e)

pub votes_disturb_nobody : (t : NodeStep) (m : Message) (last_term last_index : ℕ) → m.kind ≡ kind.Vote last_term last_index false → t.node.options.check_quorum ≡ true → 0 < t.node.lead → t.node.clock.elapsed < ELECTION_TICKS → t.node.term < m.term → (stepped t m).node ≡ t.node
votes_disturb_nobody t m last_term last_index asks checks knows lately above =
    disturbed_stays t m (ap has_term asks) above
    (ap (λ (k : MessageKind). ignores_campaign k t.node) asks ∙ and_also (hears_leader t.node) (hears t.node checks knows lately))

pub pre_votes_disturb_nobody : (t : NodeStep) (m : Message) (last_term last_index : ℕ) → m.kind ≡ kind.PreVote last_term last_index → t.node.options.check_quorum ≡ true → 0 < t.node.lead → t.node.clock.elapsed < ELECTION_TICKS → t.node.term < m.term → (stepped t m).node ≡ t.node
pre_votes_disturb_nobody t m last_term last_index asks checks knows lately above =
    disturbed_stays t m (ap has_term asks) above
    (ap (λ (k : MessageKind). ignores_campaign k t.node) asks ∙ hears t.node checks knows lately)

-- ---- a leader that votes no more

led_on_down : (t : NodeStep) → t.node.role ≡ role.Leader → t.node.options.step_down_on_removal ≡ true → is_voter t.node.tracker.config t.node.id ≡ false → StepsDown t.node (continued_after_switch t).node
led_on_down t leads asked stranger =
    let P : NodeStep → Type 0 = λ u. StepsDown t.node u.node in
    if_both P (is_leader t.node.role) _ _
    (λ _. if_both P (steps_down t.node) _ _ (λ _. (refl, refl, refl))
    (λ no. absurd (false≢true (sym no ∙ both_true t.node.options.step_down_on_removal (is_voter t.node.tracker.config t.node.id) asked stranger))))
    (λ no. absurd (false≢true (sym no ∙ ap is_leader leads)))

switched_down : (r : Result Config ChangeFault) (c : Config) (t : NodeStep) → r ≡ Ok c → t.node.role ≡ role.Leader → t.node.options.step_down_on_removal ≡ true → is_voter c t.node.id ≡ false → StepsDown t.node (switched r t).node
switched_down r c t is leads asked stranger =
    let u : NodeStep = with_event (with_node t (record t.node { tracker = configured t.node.tracker c })) (event_at t.node.id (event.Switched c)) in
    subst (λ (x : Result Config ChangeFault). StepsDown t.node (switched x t).node) (sym is) (led_on_down u leads asked stranger)

pub removed_leaders_step_down : (t : NodeStep) (transition : Transition) (words : List Word) (c : Config) → changed t.node.tracker.config transition words ≡ Ok c → t.node.role ≡ role.Leader → t.node.options.step_down_on_removal ≡ true → is_voter c t.node.id ≡ false → StepsDown t.node (change_applied t transition words).node
unfolding change_applied
removed_leaders_step_down t transition words c is leads asked stranger = switched_down (changed t.node.tracker.config transition words) c t is leads asked stranger
