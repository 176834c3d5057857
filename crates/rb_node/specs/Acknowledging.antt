-- How a leader handles its followers' responses (Ongaro's thesis, sections 3.5 and 3.6; etcd raft documentation, "Progress")
use Rattle.std.specs.Prelude.{ℕ, ◌-◌, Bool, true, false, ◌&&◌, ◌||◌, Option, Some, None, min, if◌then◌else◌, nat_lt, ◌==◌}
use Rattle.rb_raftlog.specs.Log.{last}
use Rattle.rb_tracker.specs.Active.{with_active_at}
use Rattle.rb_tracker.specs.Commits.{commit_of}
use Rattle.rb_tracker.specs.Progresses.{PlainProgress, paused, is_news, acked, freed_through, resumed, is_current_reject, refused, is_probing}
use Rattle.rb_tracker.specs.Trackers.{place, view_at}
use Rattle.rb_message.specs.declared.event.WhyIgnored.{WhyIgnored}
use Rattle.rb_message.specs.declared.event.WhyIgnored.TheVariants as why
use Rattle.rb_message.specs.declared.kind.MessageKind.TheVariants as kind
use Rattle.rb_tracker.specs.declared.progress.ProgressState.{ProgressState}
use Rattle.rb_tracker.specs.declared.progress.ProgressState.TheVariants as state
use Rattle.rb_message.specs.declared.message.Message.{Message}
use Rattle.rb_node.specs.declared.sends.SendReason.{SendReason}
use Rattle.rb_node.specs.declared.sends.SendReason.TheVariants as mode
use Rattle.rb_node.specs.Node.{PlainNode, NodeStep, with_node, ignored, posted}
use Rattle.rb_node.specs.Sends.{with_view_at, sends, append_broadcast}
use Rattle.rb_node.specs.Leading.{can_commit}

-- the follower with the view at a place is marked as active
abbrev pub marked_active : PlainNode → ℕ → PlainNode
marked_active n at = record n { tracker = with_active_at n.tracker at true }

-- ---- an append that was accepted

-- the transfer's target gets TimeoutNow once it holds the whole log
abbrev pub transfer_finished_to : PlainNode → ℕ → ℕ → PlainNode
transfer_finished_to n to i = if to == n.transferee && i == last n.log then posted n to kind.TimeoutNow else n

-- if the commit moves it is broadcast, else the follower gets the entries that it lacks
unfoldable pub commit_or_sent : PlainNode → ℕ → SendReason → PlainNode
commit_or_sent n to how =
    let i = commit_of n.tracker in
    if can_commit n i then append_broadcast (record n { commit = i }) else sends n to how

-- a follower that was paused gets an append in any case, others only if there are new entries
abbrev pub reason_after : Bool → SendReason
reason_after true = mode.Tell
reason_after false = mode.News

abbrev pub match_advanced : Option PlainProgress → PlainNode → ℕ → ℕ → ℕ → PlainNode
match_advanced None n at from i = n
match_advanced (Some view) n at from i =
    transfer_finished_to (commit_or_sent (with_view_at n at (acked view i)) from (reason_after (paused view))) from i

-- a stale response only frees the window
abbrev pub old_response_handled : Option PlainProgress → PlainNode → ℕ → ℕ → PlainNode
old_response_handled None n at i = n
old_response_handled (Some view) n at i = with_view_at n at (freed_through view i)

abbrev pub append_response_handled_by : Bool → PlainNode → ℕ → ℕ → ℕ → PlainNode
append_response_handled_by true n at from i = match_advanced (view_at n.tracker.views at) n at from i
append_response_handled_by false n at from i = old_response_handled (view_at n.tracker.views at) n at i

abbrev pub append_response_handled_with : Option PlainProgress → PlainNode → ℕ → ℕ → ℕ → PlainNode
append_response_handled_with None n at from i = n
append_response_handled_with (Some view) n at from i = append_response_handled_by (is_news view i) n at from i

abbrev pub append_response_handled_from : PlainNode → ℕ → ℕ → ℕ → PlainNode
append_response_handled_from n at from i = append_response_handled_with (view_at n.tracker.views at) n at from i

abbrev pub append_response_handled_at : Option ℕ → NodeStep → Message → ℕ → NodeStep
append_response_handled_at None t m i = ignored t m (why.NoView m.from)
append_response_handled_at (Some at) t m i = with_node t (append_response_handled_from (marked_active t.node at) at m.from (min i (last t.node.log)))

-- no follower holds more than the leader: an index past its last one counts as the last one
unfoldable pub append_response_handled : NodeStep → Message → ℕ → NodeStep
append_response_handled t m i = append_response_handled_at (place t.node.tracker.views m.from) t m i

-- ---- an append that was refused

-- why a refusal of the entries after an index is stale
abbrev pub why_old : ProgressState → PlainProgress → ℕ → ℕ → WhyIgnored
why_old state.Probe view from index = why.ProbesElsewhere from index (view.next - 1)
why_old state.Replicate view from index = why.HoldsMore from index view.matched
why_old state.Snapshot view from index = why.AwaitsSnapshot from

-- a current refusal: the view steps back, and the follower gets the entries from there
abbrev pub append_refusal_handled_with : Option PlainProgress → NodeStep → ℕ → Message → ℕ → ℕ → NodeStep
append_refusal_handled_with None t at m i hint = t
append_refusal_handled_with (Some view) t at m i hint =
    if is_current_reject view i
    then with_node t (sends (with_view_at t.node at (refused view i hint)) m.from mode.Tell)
    else ignored t m (why_old view.state view m.from i)

abbrev pub append_refusal_handled_from : NodeStep → ℕ → Message → ℕ → ℕ → NodeStep
append_refusal_handled_from t at m i hint = append_refusal_handled_with (view_at t.node.tracker.views at) t at m i hint

abbrev pub append_refusal_handled_at : Option ℕ → NodeStep → Message → ℕ → ℕ → NodeStep
append_refusal_handled_at None t m i hint = ignored t m (why.NoView m.from)
append_refusal_handled_at (Some at) t m i hint = append_refusal_handled_from (with_node t (marked_active t.node at)) at m i hint

unfoldable pub append_refusal_handled : NodeStep → Message → ℕ → ℕ → NodeStep
append_refusal_handled t m i hint = append_refusal_handled_at (place t.node.tracker.views m.from) t m i hint

-- ---- a heartbeat that was answered

-- a follower that lags, or that is probed, gets an append to answer
abbrev pub lags : PlainNode → PlainProgress → Bool
lags n view = nat_lt view.matched (last n.log) || is_probing view.state

abbrev pub heartbeat_response_handled_with : Option PlainProgress → PlainNode → ℕ → ℕ → PlainNode
heartbeat_response_handled_with None n at from = n
heartbeat_response_handled_with (Some view) n at from =
    if lags n view then sends (with_view_at n at (resumed view)) from mode.Ping else with_view_at n at (resumed view)

abbrev pub heartbeat_response_handled_from : PlainNode → ℕ → ℕ → PlainNode
heartbeat_response_handled_from n at from = heartbeat_response_handled_with (view_at n.tracker.views at) n at from

abbrev pub heartbeat_response_handled_at : Option ℕ → NodeStep → Message → NodeStep
heartbeat_response_handled_at None t m = ignored t m (why.NoView m.from)
heartbeat_response_handled_at (Some at) t m = with_node t (heartbeat_response_handled_from (marked_active t.node at) at m.from)

unfoldable pub heartbeat_response_handled : NodeStep → Message → NodeStep
heartbeat_response_handled t m = heartbeat_response_handled_at (place t.node.tracker.views m.from) t m
