-- How a leader handles proposals (Ongaro's thesis, sections 3.5, 4.1 and 4.3; etcd raft documentation, "MsgProp")
use Rattle.std.specs.Prelude.{ℕ, ◌+◌, Bool, ◌&&◌, ◌||◌, not, [], length, Option, Some, None, if◌then◌else◌, nat_lt, ◌==◌}
use Rattle.rb_raftlog.specs.declared.entry.Body.{Body}
use Rattle.rb_raftlog.specs.declared.entry.Body.TheVariants.{Payload, Change}
use Rattle.rb_raftlog.specs.Log.{last}
use Rattle.rb_tracker.specs.Configs.{is_joint}
use Rattle.rb_tracker.specs.Trackers.{has_view}
use Rattle.rb_message.specs.declared.event.EventKind.TheVariants as event
use Rattle.rb_message.specs.Events.{event_at}
use Rattle.rb_message.specs.declared.event.WhyReplaced.{WhyReplaced}
use Rattle.rb_message.specs.declared.event.WhyReplaced.TheVariants as why
use Rattle.rb_node.specs.Node.{PlainNode, NodeStep, with_event}
use Rattle.rb_node.specs.Leading.{is_log_full, appended, appended_change, all_sent_append}

-- the first reason to replace a change by an empty entry; a change without words asks to leave a joint configuration
abbrev pub why_replaced : PlainNode → ℕ → Option WhyReplaced
why_replaced n words =
    if nat_lt n.applied n.pending_change then Some why.Unapplied
    else (if is_joint n.tracker.config && not (words == 0) then Some why.Joint
    else (if words == 0 && not (is_joint n.tracker.config) then Some why.NotJoint
    else None))

abbrev pub change_or_empty_appended : Option WhyReplaced → NodeStep → Body → NodeStep
change_or_empty_appended None t body = appended_change t body
change_or_empty_appended (Some reason) t body = appended (with_event t (event_at t.node.id (event.ReplacedChange (last t.node.log + 1) reason))) (Payload [])

-- a payload is appended; a change is appended if no other is in progress
abbrev pub proposal_appended : Body → NodeStep → NodeStep
proposal_appended (Payload bytes) t = appended t (Payload bytes)
proposal_appended (Change transition words) t =
    if is_log_full t.node then with_event t (event_at t.node.id event.AppendsNothing)
    else change_or_empty_appended (why_replaced t.node (length words)) t (Change transition words)

-- a leader drops proposals if it is not a member, or while it transfers leadership
abbrev pub drops_proposals : PlainNode → Bool
drops_proposals n = not (has_view n.tracker.views n.id) || not (n.transferee == 0)

unfoldable pub proposal_handled : NodeStep → Body → NodeStep
proposal_handled t body = if drops_proposals t.node then with_event t (event_at t.node.id event.DroppedProposal) else all_sent_append (proposal_appended body t)
