-- The ready of a node, and the advance after it (etcd raft documentation, "Ready" and "Advance")
use Rattle.std.specs.Prelude.{ℕ, Bool, false, ◌&&◌, ◌||◌, not, List, [], ◌∷◌, ◌++◌, Option, Some, None, if◌then◌else◌, filter, length, nat_lt, ◌==◌}
use Rattle.rb_raftlog.specs.declared.entry.Entry.{Entry}
use Rattle.rb_raftlog.specs.Log.{last, between, not_durable, made_durable}
use Rattle.rb_raftlog.specs.declared.snapshot.Snapshot.{Snapshot}
use Rattle.rb_message.specs.declared.hard_state.HardState.{HardState}
use Rattle.rb_message.specs.declared.message.Message.{Message}
use Rattle.rb_node.specs.Node.{PlainNode, NodeStep, with_node}
use Rattle.rb_node.specs.Changing.{applied_all, joint_left}
use Rattle.rb_node.specs.Sends.{snapshot_of}
use Rattle.rb_node.specs.Step.{stepped}

abbrev pub hard_state : PlainNode → HardState
hard_state n = record { term = n.term; vote = n.vote; commit = n.commit }

abbrev pub is_saved : PlainNode → Bool
is_saved n = n.term == n.saved.term && n.vote == n.saved.vote && n.commit == n.saved.commit

-- something is to be saved, applied or sent
abbrev pub has_ready : PlainNode → Bool
has_ready n =
    not (is_saved n) || nat_lt n.log.durable (last n.log) || n.restored || nat_lt n.applied n.commit
    || not (length n.sent == 0) || not (length n.waiting == 0)

-- the waiting answers that are for other nodes; the rest are the node's own
abbrev pub others : ℕ → List Message → List Message
others id ms = filter (λ (m : Message). not (m.to == id)) ms

-- the outgoing messages: the sent ones, then the answers that waited
abbrev pub outgoing : PlainNode → List Message
outgoing n = n.sent ++ others n.id n.waiting

-- the committed entries that aren't applied
abbrev pub applying : PlainNode → List Entry
applying n = between n.log n.applied n.commit

pub record Ready : Type 0 where
  -- the hard state, if it isn't saved
  pub hard : Option HardState
  -- the term and the index of a snapshot that was restored
  pub snapshot : Option (ℕ × ℕ)
  -- the entries that aren't durable
  pub save : List Entry
  pub apply : List Entry
  pub send : List Message

abbrev pub ready : PlainNode → Ready
ready n = record {
  hard = if is_saved n then None else Some (hard_state n);
  snapshot = if n.restored then Some (n.log.base_term, n.log.base) else None;
  save = not_durable n.log;
  apply = applying n;
  send = outgoing n;
}

-- the snapshot that is saved: a restored one takes the place of the one before
abbrev pub saved_start : PlainNode → Snapshot
saved_start n = if n.restored then snapshot_of n else n.start

-- everything is durable, and both lists of messages are empty
abbrev pub saved : PlainNode → PlainNode
saved n = record n { saved = hard_state n; log = made_durable n.log; start = saved_start n; restored = false; sent = []; waiting = [] }

-- the node's own answers, in order
abbrev pub own_answers_stepped : ℕ → NodeStep → List Message → NodeStep
own_answers_stepped id t [] = t
own_answers_stepped id t (m ∷ ms) = own_answers_stepped id (if m.to == id then stepped t m else t) ms

-- The ready is saved; the entries that were committed take effect, and no later ones; a leader may leave a joint configuration; the waiting
-- answers go out; and the node steps its own answers, since what they depend on is durable.
unfoldable pub advanced : NodeStep → NodeStep
advanced t =
    own_answers_stepped t.node.id (joint_left (applied_all (with_node t (saved t.node)) t.node.applied (applying t.node))) t.node.waiting
