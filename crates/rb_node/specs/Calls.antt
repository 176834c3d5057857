-- The calls of a node, except ticks, readies, compacting and restarts
use Rattle.std.specs.Prelude.{ℕ, Option, Some, None, List, [], ◌∷◌, ◌++◌, if◌then◌else◌}
use Rattle.rb_raftlog.specs.declared.snapshot.Snapshot.{Snapshot}
use Rattle.rb_tracker.specs.Progresses.{PlainProgress, probed}
use Rattle.rb_tracker.specs.Trackers.{place, view_at}
use Rattle.rb_message.specs.declared.event.Event.{Event}
use Rattle.rb_message.specs.declared.event.EventKind.TheVariants as event
use Rattle.rb_message.specs.Events.{event_at}
use Rattle.rb_message.specs.declared.kind.MessageKind.{MessageKind}
use Rattle.rb_message.specs.declared.role.Role.{Role}
use Rattle.rb_message.specs.declared.role.Role.TheVariants as role
use Rattle.rb_node.specs.declared.options.Options.{Options}
use Rattle.rb_node.specs.Node.{PlainNode, NodeStep, node_step, message, is_leader, started}
use Rattle.rb_node.specs.Sends.{with_view_at, is_replicating}
use Rattle.rb_node.specs.Step.{stepped}

-- a node starts, and reports where and with which configuration
abbrev pub node_started : ℕ → Snapshot → Options → List Event → NodeStep
node_started id start options events =
    let node = started id start options in
    node_step node (events ++ event_at id (event.Started start.term start.index node.tracker.config) ∷ [])

-- a message of the node to itself, without a term: a proposal, or a request to transfer leadership
abbrev pub called : NodeStep → MessageKind → NodeStep
called t what = stepped t (message t.node.id t.node.id 0 what)

abbrev pub forgotten_by : Role → PlainNode → PlainNode
forgotten_by role.Follower n = record n { lead = 0 }
forgotten_by role.Precandidate n = n
forgotten_by role.Candidate n = n
forgotten_by role.Leader n = n

-- a follower forgets its leader
abbrev pub leader_forgotten : PlainNode → PlainNode
leader_forgotten n = forgotten_by n.role n

-- a leader probes a follower that can't be reached, as appends to it may be lost
abbrev pub unreachable : PlainProgress → PlainProgress
unreachable view = if is_replicating view.state then probed view else view

abbrev pub reported_with : Option PlainProgress → PlainNode → ℕ → PlainNode
reported_with None n at = n
reported_with (Some view) n at = with_view_at n at (unreachable view)

abbrev pub reported_at : Option ℕ → PlainNode → PlainNode
reported_at None n = n
reported_at (Some at) n = reported_with (view_at n.tracker.views at) n at

abbrev pub reported : PlainNode → ℕ → PlainNode
reported n id = if is_leader n.role then reported_at (place n.tracker.views id) n else n
