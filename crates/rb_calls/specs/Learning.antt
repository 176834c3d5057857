-- What a node learns from its leader: a commit (Ongaro's thesis, section 3.5 and figure 3.1), and a snapshot (section 5.3)
use Rattle.std.specs.Prelude.{ℕ, ◌≡◌, ◌+◌, ◌<◌, ◌≤◌, true, max, min, length, Ok, Some, [], ◌∷◌, ◌++◌, slice_get}
use Rattle.rb_raftlog.specs.declared.entry.Entry.{Entry}
use Rattle.rb_raftlog.specs.declared.snapshot.Snapshot.{Snapshot}
use Rattle.rb_raftlog.specs.Log.{last, term_at}
use Rattle.rb_tracker.specs.Configs.{config_of}
use Rattle.rb_message.specs.Appends.{PlainAppend}
use Rattle.rb_message.specs.declared.kind.MessageKind.{MessageKind}
use Rattle.rb_message.specs.declared.kind.MessageKind.TheVariants as kind
use Rattle.rb_message.specs.declared.role.Role.TheVariants.{Leader}
use Rattle.rb_node.specs.Node.{PlainNode, message}

-- only a leader sends these
abbrev pub IsLeaders : MessageKind → Type 0
IsLeaders (kind.Append append) = Unit {0}
IsLeaders (kind.Heartbeat commit) = Unit {0}
IsLeaders (kind.Snapshot snapshot) = Unit {0}
IsLeaders _ = ⊥

-- A message raises a node's commit: an append that follows an entry of the node's log, to at most its last entry and its commit; a heartbeat,
-- to at most its commit and the log's last index; a snapshot, to its index, where the log then has its term.
abbrev pub LearnsBy : MessageKind → PlainNode → PlainNode → Type 0
LearnsBy (kind.Append append) old new =
    (new.commit ≤ min append.commit (append.prev + length append.entries)) × (term_at old.log append.prev ≡ Ok append.prev_term)
LearnsBy (kind.Heartbeat commit) old new = new.commit ≤ min commit (last old.log)
LearnsBy (kind.Snapshot snapshot) old new = (new.commit ≡ snapshot.index) × (term_at new.log snapshot.index ≡ Ok snapshot.term)
LearnsBy _ old new = ⊥

-- a node's state is a snapshot's, which is still to be saved
pub record IsRestored (n : PlainNode) (snapshot : Snapshot) : Type 0 where
  pub base : n.log.base ≡ snapshot.index
  pub base_term : n.log.base_term ≡ snapshot.term
  pub empty : n.log.entries ≡ []
  pub commit : n.commit ≡ snapshot.index
  pub applied : n.applied ≡ snapshot.index
  pub content : n.content ≡ snapshot.content
  pub config : n.tracker.config ≡ config_of snapshot.config
  pub unsaved : n.restored ≡ true

-- a node keeps the log that a snapshot would replace
pub record KeepsState (old new : PlainNode) : Type 0 where
  pub log : new.log ≡ old.log
  pub applied : new.applied ≡ old.applied
  pub content : new.content ≡ old.content
  pub config : new.tracker.config ≡ old.tracker.config

-- who takes a message of a leader of its term or a later one: any node but a leader of that term
pub record MayFollow (n : PlainNode) (term : ℕ) : Type 0 where
  pub reached : n.term ≤ term
  pub steps_down : n.role ≡ Leader → n.term < term

-- A node has taken an append: its log has the entries, its commit is at least the append's as far as they go, and an answer waits that it has them.
pub record HasTaken (old new : PlainNode) (append : PlainAppend) (from : ℕ) : Type 0 where
  pub term : (k : ℕ) (e : Entry) → slice_get append.entries k ≡ Some e → term_at new.log (append.prev + 1 + k) ≡ Ok e.term
  pub commit : new.commit ≡ max old.commit (min append.commit (append.prev + length append.entries))
  pub says : new.waiting ≡ old.waiting ++ message old.id from new.term (kind.AppendResponse (append.prev + length append.entries)) ∷ []
