-- What a leader's calls leave as it is: who it is, what it knows of the lead, its log, and up to where a change may be in it
use Rattle.std.proofs.Common.{◌≡◌, ℕ, Bool, true, false, ◌&&◌, ◌==◌, min, Option, Some, None, refl, ap, ◌∙◌}
use Rattle.rb_raftlog.specs.Log.{LogValue, last}
use Rattle.rb_tracker.proofs.SetLaws.{if_both}
use Rattle.rb_tracker.specs.Commits.{commit_of, match_of}
use Rattle.rb_tracker.specs.Progresses.{PlainProgress, paused, is_news, acked, is_current_reject, refused, resumed}
use Rattle.rb_tracker.specs.Trackers.{place, view_at}
use Rattle.rb_message.specs.declared.message.Message.{Message}
use Rattle.rb_message.specs.declared.role.Role.{Role}
use Rattle.rb_node.specs.Acknowledging.{transfer_finished_to, commit_or_sent, reason_after, match_advanced, old_response_handled, append_response_handled_by, append_response_handled_with, append_response_handled_at, append_response_handled, marked_active, append_refusal_handled_with, append_refusal_handled_at, append_refusal_handled, lags, heartbeat_response_handled_with, heartbeat_response_handled_at, heartbeat_response_handled}
use Rattle.rb_node.specs.Leading.{can_commit}
use Rattle.rb_node.specs.Node.{PlainNode, NodeStep, with_node, with_elapsed}
use Rattle.rb_node.specs.Sends.{sends, append_broadcast, with_view_at}
use Rattle.rb_node.specs.Transferring.{transfer_leader_handled, cannot_take_lead, previous_transfer_ended, transfer_started, timeout_now_sent}
use Rattle.rb_node.specs.declared.sends.SendReason.{SendReason}
use Rattle.rb_node.specs.declared.sends.SendReason.TheVariants as mode
use Rattle.rb_laws.proofs.SendLaws.{sends_only, append_broadcast_only}

pub record Standing : Type 0 where
  pub id : ℕ
  pub role : Role
  pub lead : ℕ
  pub log : LogValue
  pub pending : ℕ

abbrev pub standing : PlainNode → Standing
standing n = record { id = n.id; role = n.role; lead = n.lead; log = n.log; pending = n.pending_change }

abbrev pub StandsStill : PlainNode → PlainNode → Type 0
StandsStill a b = standing b ≡ standing a

sends_standing : (n : PlainNode) (to : ℕ) (how : SendReason) → StandsStill n (sends n to how)
sends_standing n to how = ap standing (sends_only n to how)

pub append_broadcast_standing : (n : PlainNode) → StandsStill n (append_broadcast n)
append_broadcast_standing n = ap standing (append_broadcast_only n)

commit_or_sent_standing : (n : PlainNode) (to : ℕ) (how : SendReason) → StandsStill n (commit_or_sent n to how)
unfolding commit_or_sent
commit_or_sent_standing n to how =
    if_both (StandsStill n) (can_commit n (commit_of n.tracker)) _ _ (λ _. append_broadcast_standing (record n { commit = commit_of n.tracker })) (λ _. sends_standing n to how)

handed_standing : (n : PlainNode) (to i : ℕ) → StandsStill n (transfer_finished_to n to i)
handed_standing n to i = if_both (StandsStill n) (to == n.transferee && i == last n.log) _ _ (λ _. refl) (λ _. refl)

news_standing : (o : Option PlainProgress) (n : PlainNode) (at from i : ℕ) → StandsStill n (match_advanced o n at from i)
news_standing None n at from i = refl
news_standing (Some view) n at from i =
    (let x : PlainNode = with_view_at n at (acked view i) in
    let how = reason_after (paused view) in
    handed_standing (commit_or_sent x from how) from i ∙ commit_or_sent_standing x from how)

old_standing : (o : Option PlainProgress) (n : PlainNode) (at i : ℕ) → StandsStill n (old_response_handled o n at i)
old_standing None n at i = refl
old_standing (Some view) n at i = refl

accepted_by_standing : (b : Bool) (n : PlainNode) (at from i : ℕ) → StandsStill n (append_response_handled_by b n at from i)
accepted_by_standing true n at from i = news_standing (view_at n.tracker.views at) n at from i
accepted_by_standing false n at from i = old_standing (view_at n.tracker.views at) n at i

accepted_with_standing : (o : Option PlainProgress) (n : PlainNode) (at from i : ℕ) → StandsStill n (append_response_handled_with o n at from i)
accepted_with_standing None n at from i = refl
accepted_with_standing (Some view) n at from i = accepted_by_standing (is_news view i) n at from i

accepted_at_standing : (o : Option ℕ) (t : NodeStep) (m : Message) (i : ℕ) → StandsStill t.node (append_response_handled_at o t m i).node
accepted_at_standing None t m i = refl
accepted_at_standing (Some at) t m i =
    (let n : PlainNode = marked_active t.node at in
    accepted_with_standing (view_at n.tracker.views at) n at m.from (min i (last t.node.log)))

pub accepted_standing : (t : NodeStep) (m : Message) (i : ℕ) → StandsStill t.node (append_response_handled t m i).node
unfolding append_response_handled
accepted_standing t m i = accepted_at_standing (place t.node.tracker.views m.from) t m i

refused_with_standing : (o : Option PlainProgress) (t : NodeStep) (at : ℕ) (m : Message) (i hint : ℕ) → StandsStill t.node (append_refusal_handled_with o t at m i hint).node
refused_with_standing None t at m i hint = refl
refused_with_standing (Some view) t at m i hint =
    if_both (λ (u : NodeStep). StandsStill t.node u.node) (is_current_reject view i) _ _ (λ _. sends_standing (with_view_at t.node at (refused view i hint)) m.from mode.Tell) (λ _. refl)

refused_at_standing : (o : Option ℕ) (t : NodeStep) (m : Message) (i hint : ℕ) → StandsStill t.node (append_refusal_handled_at o t m i hint).node
refused_at_standing None t m i hint = refl
refused_at_standing (Some at) t m i hint =
    (let u : NodeStep = with_node t (marked_active t.node at) in refused_with_standing (view_at u.node.tracker.views at) u at m i hint)

pub refused_standing : (t : NodeStep) (m : Message) (i hint : ℕ) → StandsStill t.node (append_refusal_handled t m i hint).node
unfolding append_refusal_handled
refused_standing t m i hint = refused_at_standing (place t.node.tracker.views m.from) t m i hint

beat_with_standing : (o : Option PlainProgress) (n : PlainNode) (at from : ℕ) → StandsStill n (heartbeat_response_handled_with o n at from)
beat_with_standing None n at from = refl
beat_with_standing (Some view) n at from =
    if_both (StandsStill n) (lags n view) _ _ (λ _. sends_standing (with_view_at n at (resumed view)) from mode.Ping) (λ _. refl)

beat_at_standing : (o : Option ℕ) (t : NodeStep) (m : Message) → StandsStill t.node (heartbeat_response_handled_at o t m).node
beat_at_standing None t m = refl
beat_at_standing (Some at) t m = (let n : PlainNode = marked_active t.node at in beat_with_standing (view_at n.tracker.views at) n at m.from)

pub beat_standing : (t : NodeStep) (m : Message) → StandsStill t.node (heartbeat_response_handled t m).node
unfolding heartbeat_response_handled
beat_standing t m = beat_at_standing (place t.node.tracker.views m.from) t m

urged_standing : (n : PlainNode) (target : ℕ) → StandsStill n (timeout_now_sent n target)
urged_standing n target = if_both (StandsStill n) (match_of n.tracker.views target == last n.log) _ _ (λ _. refl) (λ _. sends_standing n target mode.Tell)

older_standing : (t : NodeStep) → StandsStill t.node (previous_transfer_ended t).node
older_standing t = if_both (λ (u : NodeStep). StandsStill t.node u.node) (t.node.transferee == 0) _ _ (λ _. refl) (λ _. refl)

started_standing : (t : NodeStep) (target : ℕ) → StandsStill t.node (transfer_started t target).node
started_standing t target = urged_standing (record (with_elapsed t.node 0) { transferee = target }) target

pub transferred_standing : (t : NodeStep) (m : Message) (target : ℕ) → StandsStill t.node (transfer_leader_handled t m target).node
unfolding transfer_leader_handled
transferred_standing t m target =
    if_both (λ (u : NodeStep). StandsStill t.node u.node) (cannot_take_lead t.node target) _ _ (λ _. refl)
    (λ _. started_standing (previous_transfer_ended t) target ∙ older_standing t)
