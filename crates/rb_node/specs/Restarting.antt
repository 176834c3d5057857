-- A node that restarts (Ongaro's thesis, section 3.8; etcd raft documentation, "Ready" and `Config.Applied`)
use Rattle.std.specs.Prelude.{ℕ}
use Rattle.rb_raftlog.specs.Log as logs
use Rattle.rb_message.specs.declared.event.EventKind.{EventKind}
use Rattle.rb_message.specs.declared.event.EventKind.TheVariants as event
use Rattle.rb_message.specs.declared.unsaved.Unsaved.{Unsaved}
use Rattle.rb_message.specs.Events.{event_at}
use Rattle.rb_node.specs.Node.{PlainNode, NodeStep, with_event, with_node, started}

-- What the last save left: the hard state, the snapshot, and the entries after it. Only the snapshot is applied, so committed entries are applied
-- again. All else is as of a node that starts; the options stay.
abbrev pub restarted : PlainNode → PlainNode
restarted n = record (started n.id n.start n.options) {
  term = n.saved.term;
  vote = n.saved.vote;
  log = logs.restarted n.log n.start;
  commit = n.saved.commit;
  saved = n.saved;
}

-- what it loses, if it isn't saved
abbrev pub lost : PlainNode → Unsaved
lost n = record { term = n.term; vote = n.vote; durable = n.log.durable; last = logs.last n.log }

-- what a node reports that restarted and lost this
abbrev pub restart_of : PlainNode → Unsaved → EventKind
restart_of n what = event.Restarted n.saved n.log.base (logs.last n.log) what

abbrev pub node_restarted : NodeStep → NodeStep
node_restarted t = with_event (with_node t (restarted t.node)) (event_at t.node.id (restart_of (restarted t.node) (lost t.node)))
