-- Whatever its owner does with a node (etcd raft documentation, "Usage"): each call, and one call after another
use Rattle.std.specs.Prelude.{ℕ, min, false, List, [], ◌∷◌, Option, Some, None}
use Rattle.rb_raftlog.specs.Log.{term_at, compact_fault, compacted}
use Rattle.rb_raftlog.specs.declared.raft_log.CompactFault.{CompactFault}
use Rattle.rb_raftlog.specs.declared.entry.Body.{Body}
use Rattle.rb_message.specs.declared.kind.MessageKind.TheVariants.{Proposal, TransferLeader}
use Rattle.rb_message.specs.declared.message.Message.{Message}
use Rattle.rb_node.specs.Node.{PlainNode, NodeStep, with_node, with_timeout}
use Rattle.rb_node.specs.Campaigns.{campaigned}
use Rattle.rb_node.specs.Step.{stepped}
use Rattle.rb_node.specs.Calls.{called, leader_forgotten, reported}
use Rattle.rb_node.specs.Compacting.{start_at}
use Rattle.rb_node.specs.Readying.{advanced}
use Rattle.rb_node.specs.Ticking.{ticked}

-- a call, with what it brings
pub data Call : Type 0 where
  Step : Message → Call
  Campaign : Call
  Propose : Body → Call
  Transfer : ℕ → Call
  Tick : Call
  Advance : Call
  ForgetLeader : Call
  ReportUnreachable : ℕ → Call
  SetTimeout : ℕ → Call
  Compact : ℕ → Call

-- the log begins at an index, and a restart does
abbrev pub compacted_at : PlainNode → ℕ → PlainNode
compacted_at n index = record n { log = compacted n.log index (term_at n.log index); start = start_at n index }

-- compacting where it isn't refused; for want of memory it may do nothing
abbrev pub compacted_unless : Option CompactFault → PlainNode → ℕ → PlainNode
compacted_unless (Some fault) n index = n
compacted_unless None n index = compacted_at n index

abbrev pub compacted_to : PlainNode → ℕ → PlainNode
compacted_to n index = compacted_unless (compact_fault n.log index (min n.applied n.log.durable)) n index

-- the node after a call
abbrev pub after : Call → NodeStep → NodeStep
after (Step m) t = stepped t m
after Campaign t = campaigned t false
after (Propose body) t = called t (Proposal body)
after (Transfer to) t = called t (TransferLeader to)
after Tick t = ticked t
after Advance t = advanced t
after ForgetLeader t = with_node t (leader_forgotten t.node)
after (ReportUnreachable id) t = with_node t (reported t.node id)
after (SetTimeout ticks) t = with_node t (with_timeout t.node ticks)
after (Compact index) t = with_node t (compacted_to t.node index)

-- and after one call upon another
abbrev pub run : List Call → NodeStep → NodeStep
run [] t = t
run (c ∷ cs) t = run cs (after c t)
