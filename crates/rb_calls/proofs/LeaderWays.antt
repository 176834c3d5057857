-- What a leader does, as ways of moves: its own entries, its members' answers, proposals, and handing the lead over
use Rattle.std.proofs.Common.{[], refl, ◌≡◌, ◌+◌, arith, sym, ◌∙◌, Option, ℕ, true, None, Some, ◌==◌, ◌&&◌, eqb-true, ◌≤◌, nat_lt, inl, inr, ap, Bool, false, subst, min, length}
use Rattle.std.proofs.lemmas.Bool.{and_parts, or_cases, ltb-true, ltb-false}
use Rattle.rb_raftlog.specs.Bodies.{is_change}
use Rattle.rb_raftlog.specs.Log.{own, last}
use Rattle.rb_raftlog.specs.declared.entry.Body.{Body}
use Rattle.rb_raftlog.specs.declared.entry.Body.TheVariants.{Payload, Change}
use Rattle.rb_raftlog.specs.declared.entry.Entry.{Entry}
use Rattle.rb_tracker.proofs.SetLaws.{if_both}
use Rattle.rb_tracker.specs.Active.{with_active_by, with_active_at}
use Rattle.rb_tracker.specs.Ballots.{vote_result}
use Rattle.rb_tracker.specs.Commits.{match_of}
use Rattle.rb_tracker.specs.Progresses.{PlainProgress, with_active, is_news, is_probing, acked, paused, freed_through, refused, is_current_reject, resumed}
use Rattle.rb_tracker.specs.Trackers.{view_at, place}
use Rattle.rb_tracker.specs.declared.votes.VoteResult.TheVariants as vote
use Rattle.rb_message.specs.declared.event.EventKind.TheVariants as event
use Rattle.rb_message.specs.Events.{event_at}
use Rattle.rb_message.specs.declared.event.WhyReplaced.{WhyReplaced}
use Rattle.rb_message.specs.declared.kind.MessageKind.TheVariants as kind
use Rattle.rb_message.specs.declared.message.Message.{Message}
use Rattle.rb_message.specs.declared.role.Role.TheVariants as role
use Rattle.rb_node.specs.Acknowledging.{marked_active, transfer_finished_to, match_advanced, reason_after, commit_or_sent, old_response_handled, append_response_handled_by, append_response_handled_with, append_response_handled_at, append_response_handled, append_refusal_handled_with, append_refusal_handled_at, append_refusal_handled, heartbeat_response_handled_with, lags, heartbeat_response_handled_at, heartbeat_response_handled}
use Rattle.rb_node.specs.Leading.{with_own, appended, is_log_full, appended_change, all_sent_append, became_leader, leading}
use Rattle.rb_node.specs.Node.{PlainNode, NodeStep, message, with_node, with_event, with_elapsed}
use Rattle.rb_node.specs.Proposing.{change_or_empty_appended, proposal_appended, why_replaced, proposal_handled, drops_proposals}
use Rattle.rb_node.specs.Sends.{with_view_at}
use Rattle.rb_node.specs.Transferring.{previous_transfer_ended, timeout_now_sent, transfer_started, transfer_leader_handled, cannot_take_lead, transfer_ended}
use Rattle.rb_node.specs.declared.sends.SendReason.TheVariants as mode
use Rattle.rb_calls.proofs.Goes.{Ways}
use Rattle.rb_calls.proofs.LeaderLaws.{leading_leads}
use Rattle.rb_calls.proofs.MatchViewLaws.{of, place_here, heard_place}
use Rattle.rb_calls.proofs.Moves.{Way, TellMove, StepMove, Puts, Marks, wider, StepTells, Path, wider_path, Goes_on, One, Idle, Then, Appends, Waits, Shows, Onward, Leads, Viewed, Sent, over_way, Acks}
use Rattle.rb_calls.proofs.ProgressLaws.{sound_marked, acked_matched, freed_matched, sound_freed, refused_matched, sound_refused, sound_resumed}
use Rattle.rb_calls.proofs.TellWays.{append_broadcast_way, commit_or_sent_way, Rest, keeps_rest, keeps_match, sends_way}
use Rattle.rb_calls.proofs.Turns.{own_size}

-- ---- what it tells is among a step's moves

pub telling : {w : Ways} {a b : PlainNode} → Way TellMove a b → Way (StepMove w) a b
telling x = wider (λ a b m. StepTells m) x

pub telling_path : {w : Ways} {t u : NodeStep} → Path TellMove t u → Path (StepMove w) t u
telling_path x = wider_path (λ a b m. StepTells m) x

pub nothing_done : (t : NodeStep) → Path TellMove t t
nothing_done t = Goes_on t (One (Idle t.node t.node refl))

-- ---- entries of its own, and the lead

-- an answer to an append says one index
pub acks_same : (i j : ℕ) → kind.AppendResponse i ≡ kind.AppendResponse j → i ≡ j
acks_same i j same = cc

own_way : {w : Ways} (n : PlainNode) (body : Body) (pending : ℕ) → n.role ≡ role.Leader → Puts w n body → Marks n body pending
    → Way (StepMove w) n (record (with_own n body) { pending_change = pending })
own_way n body pending leads puts marks =
    let e : Entry = record { term = n.term; body = body } in
    let x : PlainNode = record n { log = own n.log e; pending_change = pending } in
    Then {b = x} (One (Appends n body pending leads puts marks)) (One (Waits x (message n.id n.id n.term (kind.AppendResponse (last n.log + 1)))
    (λ _. (refl, (refl, omega (arith, own_size n.log e), λ stands. (let never : role.Leader ≡ role.Candidate = sym leads ∙ stands in cc))))
    (λ i says. (let same = acks_same (last n.log + 1) i says in inr (inl (leads, omega (arith, own_size n.log e, same)))))))

pub appended_way : {w : Ways} (t : NodeStep) (body : Body) → t.node.role ≡ role.Leader → Puts w t.node body → is_change body ≡ false → Path (StepMove w) t (appended t body)
appended_way {w} t body leads puts plain =
    if_both (Path (StepMove w) t) (is_log_full t.node) _ _ (λ _. Shows t _) (λ _. Goes_on t (own_way t.node body t.node.pending_change leads puts (inl (plain, refl))))

pub appended_change_way : {w : Ways} (t : NodeStep) (body : Body) → t.node.role ≡ role.Leader → Puts w t.node body → t.node.pending_change ≤ t.node.applied
    → Path (StepMove w) t (appended_change t body)
appended_change_way {w} t body leads puts applied =
    if_both (Path (StepMove w) t) (is_log_full t.node) _ _ (λ _. Shows t _)
    (λ _. Goes_on t (own_way t.node body (last t.node.log + 1) leads puts (inr (applied, refl))))

pub all_told_way : {w : Ways} (t : NodeStep) → Path (StepMove w) t (all_sent_append t)
all_told_way t = Goes_on t (telling (append_broadcast_way t.node))

pub led_way : {w : Ways} (t : NodeStep) → t.node.role ≡ role.Candidate → w.elected t.node.term → vote_result t.node.tracker.config t.node.votes ≡ vote.Won
    → Path (StepMove w) t (became_leader t)
unfolding became_leader
led_way t stands elected won =
    let v : NodeStep = with_node t (leading t.node) in
    let u : NodeStep = with_event v (event_at t.node.id (event.Became role.Leader t.node.term)) in
    Onward (Goes_on t (One (Leads t.node stands elected won))) (Onward (Shows v _)
    (Onward (appended_way u (Payload []) (leading_leads t.node) (inl refl) refl) (all_told_way (appended u (Payload [])))))

-- ---- an append that was accepted

heard_with : (o : Option PlainProgress) (n : PlainNode) (at : ℕ) → view_at n.tracker.views at ≡ o → Way TellMove n (record n { tracker = with_active_by o n.tracker at true })
heard_with None n at is = One (Idle n n refl)
heard_with (Some view) n at is = One (Viewed n at view (with_active view true) is refl (λ _ g. sound_marked view true g))

heard_way : (n : PlainNode) (at : ℕ) → Way TellMove n (marked_active n at)
unfolding with_active_at
heard_way n at = heard_with (view_at n.tracker.views at) n at refl

handed_way : (n : PlainNode) (to i : ℕ) → n.role ≡ role.Leader → of n to ≡ i → Way TellMove n (transfer_finished_to n to i)
handed_way n to i leads holds =
    if_both (Way TellMove n) (to == n.transferee && i == last n.log) _ _
    (λ both. (let parts = and_parts (to == n.transferee) (i == last n.log) both in
    One (Sent n (message n.id to n.term kind.TimeoutNow) tt (λ _. (refl, (refl, leads, eqb-true to n.transferee parts.0, holds ∙ eqb-true i (last n.log) parts.1))))))
    (λ _. One (Idle n n refl))

-- news is no less than what is known
news_up : (view : PlainProgress) (i : ℕ) → is_news view i ≡ true → view.matched ≤ i
news_up view i is_so =
    elim (or_cases (nat_lt view.matched i) (view.matched == i && is_probing view.state) is_so) as (λ _. view.matched ≤ i) [
      | inl more ↦ (let low = ltb-true view.matched i more in omega (arith, low))
      | inr found_it ↦ (let same = eqb-true view.matched i (and_parts (view.matched == i) (is_probing view.state) found_it).0 in omega (arith, same))
    ]

news_way : {w : Ways} (o : Option PlainProgress) (n : PlainNode) (at from i : ℕ) → view_at n.tracker.views at ≡ o → place n.tracker.views from ≡ Some at
    → n.role ≡ role.Leader
    → ((view : PlainProgress) → view_at n.tracker.views at ≡ Some view → view.matched ≤ i) → w.matched n.term from i → Way (StepMove w) n (match_advanced o n at from i)
news_way None n at from i is here leads up said = telling (One (Idle n n refl))
news_way (Some view) n at from i is here leads up said =
    let x : PlainNode = with_view_at n at (acked view i) in
    let how = reason_after (paused view) in
    let y : PlainNode = commit_or_sent x from how in
    let sends_on : Way TellMove x y = commit_or_sent_way x from how in
    let leads_on : y.role ≡ role.Leader = ap (λ (r : Rest). r.role) (over_way keeps_rest sends_on) ∙ leads in
    let holds_it : of y from ≡ i = over_way (keeps_match from) sends_on ∙ place_here n.tracker.views at from (acked view i) here ∙ acked_matched view.state view i in
    Then {b = x} (One (Acks n at from i view leads here is (up view is) said)) (telling (Then sends_on (handed_way y from i leads_on holds_it)))

old_way : (o : Option PlainProgress) (n : PlainNode) (at i : ℕ) → view_at n.tracker.views at ≡ o → Way TellMove n (old_response_handled o n at i)
old_way None n at i is = One (Idle n n refl)
old_way (Some view) n at i is = One (Viewed n at view (freed_through view i) is (freed_matched view.state view i) (λ _ g. sound_freed view i g))

accepted_by_way : {w : Ways} (b : Bool) (n : PlainNode) (at from i : ℕ) → place n.tracker.views from ≡ Some at → n.role ≡ role.Leader
    → (b ≡ true → (view : PlainProgress) → view_at n.tracker.views at ≡ Some view → view.matched ≤ i) → w.matched n.term from i
    → Way (StepMove w) n (append_response_handled_by b n at from i)
accepted_by_way true n at from i here leads up said = news_way (view_at n.tracker.views at) n at from i refl here leads (up refl) said
accepted_by_way false n at from i here leads up said = telling (old_way (view_at n.tracker.views at) n at i refl)

accepted_with_way : {w : Ways} (o : Option PlainProgress) (n : PlainNode) (at from i : ℕ) → view_at n.tracker.views at ≡ o → place n.tracker.views from ≡ Some at
    → n.role ≡ role.Leader
    → w.matched n.term from i → Way (StepMove w) n (append_response_handled_with o n at from i)
accepted_with_way None n at from i is here leads said = telling (One (Idle n n refl))
accepted_with_way (Some view) n at from i is here leads said =
    accepted_by_way (is_news view i) n at from i here leads
    (λ is_so other e. (let same : view ≡ other = cc in subst (λ (v : PlainProgress). v.matched ≤ i) same (news_up view i is_so))) said

accepted_at_way : {w : Ways} (o : Option ℕ) (t : NodeStep) (m : Message) (i : ℕ) → place t.node.tracker.views m.from ≡ o → t.node.role ≡ role.Leader
    → w.matched t.node.term m.from (min i (last t.node.log)) → Path (StepMove w) t (append_response_handled_at o t m i)
accepted_at_way None t m i is leads said = Shows t _
accepted_at_way (Some at) t m i is leads said =
    let n : PlainNode = marked_active t.node at in
    Goes_on t (Then (telling (heard_way t.node at))
    (accepted_with_way (view_at n.tracker.views at) n at m.from (min i (last t.node.log)) refl (heard_place t.node at m.from is) leads said))

pub accepted_way : {w : Ways} (t : NodeStep) (m : Message) (i : ℕ) → t.node.role ≡ role.Leader → w.matched t.node.term m.from (min i (last t.node.log))
    → Path (StepMove w) t (append_response_handled t m i)
unfolding append_response_handled
accepted_way t m i leads said = accepted_at_way (place t.node.tracker.views m.from) t m i refl leads said

-- ---- an append that was refused, and a heartbeat that was answered

refused_with_way : (o : Option PlainProgress) (t : NodeStep) (at : ℕ) (m : Message) (i hint : ℕ) → view_at t.node.tracker.views at ≡ o
    → Path TellMove t (append_refusal_handled_with o t at m i hint)
refused_with_way None t at m i hint is = nothing_done t
refused_with_way (Some view) t at m i hint is =
    let x : PlainNode = with_view_at t.node at (refused view i hint) in
    if_both (Path TellMove t) (is_current_reject view i) _ _
    (λ _. Goes_on t
    (Then {b = x} (One (Viewed t.node at view (refused view i hint) is (refused_matched view.state view i hint) (λ _ g. sound_refused view i hint g)))
    (sends_way x m.from mode.Tell)))
    (λ _. Shows t _)

refused_at_way : (o : Option ℕ) (t : NodeStep) (m : Message) (i hint : ℕ) → Path TellMove t (append_refusal_handled_at o t m i hint)
refused_at_way None t m i hint = Shows t _
refused_at_way (Some at) t m i hint =
    let u : NodeStep = with_node t (marked_active t.node at) in
    Onward (Goes_on t (heard_way t.node at)) (refused_with_way (view_at u.node.tracker.views at) u at m i hint refl)

pub refused_way : (t : NodeStep) (m : Message) (i hint : ℕ) → Path TellMove t (append_refusal_handled t m i hint)
unfolding append_refusal_handled
refused_way t m i hint = refused_at_way (place t.node.tracker.views m.from) t m i hint

beat_with_way : (o : Option PlainProgress) (n : PlainNode) (at from : ℕ) → view_at n.tracker.views at ≡ o → Way TellMove n (heartbeat_response_handled_with o n at from)
beat_with_way None n at from is = One (Idle n n refl)
beat_with_way (Some view) n at from is =
    let x : PlainNode = with_view_at n at (resumed view) in
    let first : Way TellMove n x = One (Viewed n at view (resumed view) is refl (λ _ g. sound_resumed view g)) in
    if_both (Way TellMove n) (lags n view) _ _ (λ _. Then first (sends_way x from mode.Ping)) (λ _. first)

beat_at_way : (o : Option ℕ) (t : NodeStep) (m : Message) → Path TellMove t (heartbeat_response_handled_at o t m)
beat_at_way None t m = Shows t _
beat_at_way (Some at) t m =
    let n : PlainNode = marked_active t.node at in
    Goes_on t (Then (heard_way t.node at) (beat_with_way (view_at n.tracker.views at) n at m.from refl))

pub heartbeat_response_handled_way : (t : NodeStep) (m : Message) → Path TellMove t (heartbeat_response_handled t m)
unfolding heartbeat_response_handled
heartbeat_response_handled_way t m = beat_at_way (place t.node.tracker.views m.from) t m

-- ---- proposals, and handing the lead over

pub applied_all_changes : (n : PlainNode) (words : ℕ) → why_replaced n words ≡ None → n.pending_change ≤ n.applied
applied_all_changes n words =
    let P : Option WhyReplaced → Type 0 = λ o. o ≡ None → n.pending_change ≤ n.applied in
    if_both P (nat_lt n.applied n.pending_change) _ _ (λ _ e. cc) (λ no e. ltb-false n.applied n.pending_change no)

change_put_way : {w : Ways} (o : Option WhyReplaced) (t : NodeStep) (words : ℕ) (body : Body) → t.node.role ≡ role.Leader → Puts w t.node body → why_replaced t.node words ≡ o
    → Path (StepMove w) t (change_or_empty_appended o t body)
change_put_way None t words body leads puts is = appended_change_way t body leads puts (applied_all_changes t.node words is)
change_put_way (Some reason) t words body leads puts is =
    Onward (Shows t _) (appended_way (with_event t (event_at t.node.id (event.ReplacedChange (last t.node.log + 1) reason))) (Payload []) leads (inl refl) refl)

put_in_way : {w : Ways} (body : Body) (t : NodeStep) → t.node.role ≡ role.Leader → Puts w t.node body → Path (StepMove w) t (proposal_appended body t)
put_in_way (Payload bytes) t leads puts = appended_way t (Payload bytes) leads puts refl
put_in_way {w} (Change transition words) t leads puts =
    if_both (Path (StepMove w) t) (is_log_full t.node) _ _ (λ _. Shows t _)
    (λ _. change_put_way (why_replaced t.node (length words)) t (length words) (Change transition words) leads puts refl)

pub proposed_way : {w : Ways} (t : NodeStep) (body : Body) → t.node.role ≡ role.Leader → Puts w t.node body → Path (StepMove w) t (proposal_handled t body)
unfolding proposal_handled
proposed_way {w} t body leads puts =
    if_both (Path (StepMove w) t) (drops_proposals t.node) _ _ (λ _. Shows t _) (λ _. Onward (put_in_way body t leads puts) (all_told_way (proposal_appended body t)))

older_way : (t : NodeStep) → Path TellMove t (previous_transfer_ended t)
older_way t = if_both (Path TellMove t) (t.node.transferee == 0) _ _ (λ _. nothing_done t) (λ _. Shows t _)

older_node : (t : NodeStep) → (previous_transfer_ended t).node ≡ t.node
older_node t = if_both (λ (u : NodeStep). u.node ≡ t.node) (t.node.transferee == 0) _ _ (λ _. refl) (λ _. refl)

urged_way : (n : PlainNode) (target : ℕ) → n.role ≡ role.Leader → target ≡ n.transferee → Way TellMove n (timeout_now_sent n target)
urged_way n target leads is =
    if_both (Way TellMove n) (match_of n.tracker.views target == last n.log) _ _
    (λ holds. One (Sent n (message n.id target n.term kind.TimeoutNow) tt (λ _. (refl, (refl, leads, is, eqb-true (match_of n.tracker.views target) (last n.log) holds)))))
    (λ _. sends_way n target mode.Tell)

started_way : (t : NodeStep) (target : ℕ) → t.node.role ≡ role.Leader → Path TellMove t (transfer_started t target)
started_way t target leads =
    let n : PlainNode = record (with_elapsed t.node 0) { transferee = target } in
    let u : NodeStep = with_event t (event_at t.node.id (event.TransferStarts target)) in
    Onward (Shows t _) (Goes_on u (Then (One (Idle t.node n refl)) (urged_way n target leads refl)))

pub transferred_way : (t : NodeStep) (m : Message) (target : ℕ) → t.node.role ≡ role.Leader → Path TellMove t (transfer_leader_handled t m target)
unfolding transfer_leader_handled
transferred_way t m target leads =
    if_both (Path TellMove t) (cannot_take_lead t.node target) _ _ (λ _. Shows t _)
    (λ _. Onward (older_way t) (started_way (previous_transfer_ended t) target (ap (λ (n : PlainNode). n.role) (older_node t) ∙ leads)))

pub transfer_ended_way : (t : NodeStep) → Path TellMove t (transfer_ended t)
unfolding transfer_ended
transfer_ended_way t =
    let u : NodeStep = with_event t (event_at t.node.id (event.TransferEnds t.node.transferee)) in
    if_both (Path TellMove t) (t.node.transferee == 0) _ _
    (λ _. nothing_done t) (λ _. Onward (Shows t _) (Goes_on u (One (Idle t.node (record t.node { transferee = 0 }) refl))))
