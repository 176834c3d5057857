-- Leadership transfers (Ongaro's thesis, section 3.10)
use Rattle.std.specs.Prelude.{ℕ, Bool, ◌||◌, not, if◌then◌else◌, ◌==◌}
use Rattle.rb_raftlog.specs.Log.{last}
use Rattle.rb_tracker.specs.Commits.{match_of}
use Rattle.rb_tracker.specs.Configs.{is_voter}
use Rattle.rb_message.specs.declared.event.EventKind.TheVariants as event
use Rattle.rb_message.specs.Events.{event_at}
use Rattle.rb_message.specs.declared.event.WhyIgnored.{WhyIgnored}
use Rattle.rb_message.specs.declared.event.WhyIgnored.TheVariants as why
use Rattle.rb_message.specs.declared.kind.MessageKind.TheVariants as kind
use Rattle.rb_message.specs.declared.message.Message.{Message}
use Rattle.rb_node.specs.declared.sends.SendReason.TheVariants as mode
use Rattle.rb_node.specs.Node.{PlainNode, NodeStep, with_event, with_node, ignored, posted, with_elapsed}
use Rattle.rb_node.specs.Sends.{sends}

-- leadership can go to another voter that isn't the target already
abbrev pub cannot_take_lead : PlainNode → ℕ → Bool
cannot_take_lead n target = not (is_voter n.tracker.config target) || target == n.id || target == n.transferee

-- the first reason to refuse a transfer
abbrev pub why_no_transfer : PlainNode → ℕ → WhyIgnored
why_no_transfer n target =
    if not (is_voter n.tracker.config target) then why.NotAVoter target
    else (if target == n.id then why.LeadsAlready target else why.IsUnderWay target)

abbrev pub previous_transfer_ended : NodeStep → NodeStep
previous_transfer_ended t = if t.node.transferee == 0 then t else with_event t (event_at t.node.id (event.TransferEnds t.node.transferee))

-- a target that holds the whole log gets TimeoutNow, one that lags gets entries
abbrev pub timeout_now_sent : PlainNode → ℕ → PlainNode
timeout_now_sent n target = if match_of n.tracker.views target == last n.log then posted n target kind.TimeoutNow else sends n target mode.Tell

abbrev pub transfer_started : NodeStep → ℕ → NodeStep
transfer_started t target =
    with_node (with_event t (event_at t.node.id (event.TransferStarts target))) (timeout_now_sent (record (with_elapsed t.node 0) { transferee = target }) target)

unfoldable pub transfer_leader_handled : NodeStep → Message → ℕ → NodeStep
transfer_leader_handled t m target = if cannot_take_lead t.node target then ignored t m (why_no_transfer t.node target) else transfer_started (previous_transfer_ended t) target

-- the transfer is cancelled, if there is one
unfoldable pub transfer_ended : NodeStep → NodeStep
transfer_ended t =
    if t.node.transferee == 0 then t
    else with_node (with_event t (event_at t.node.id (event.TransferEnds t.node.transferee))) (record t.node { transferee = 0 })
