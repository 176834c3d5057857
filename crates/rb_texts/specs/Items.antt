-- Items as plain data. (The fields of a node are after the etcd raft documentation, "Usage"; a configuration's lists
-- are those of joint consensus, Ongaro's thesis, section 4.3; the choice of the items and the errors are this project's.)
use Rattle.std.specs.Prelude.{ℕ, Bool, List}
use Rattle.rb_vocab.specs.declared.directive_error.DirectiveError.{DirectiveError}
use Rattle.rb_message.specs.declared.event.Event.{Event}
use Rattle.rb_message.specs.declared.hard_state.HardState.{HardState}
use Rattle.rb_message.specs.declared.message.Message.{Message}
use Rattle.rb_message.specs.declared.role.Role.{Role}
use Rattle.rb_raftlog.specs.declared.entry.Entry.{Entry}
use Rattle.rb_tracker.specs.declared.config.Config.{Config}
use Rattle.rb_tracker.specs.Progresses.{PlainProgress}
use Rattle.rb_texts.specs.declared.item.Item.{Item}
use Rattle.rb_texts.specs.declared.item.Item.TheVariants as items
use Rattle.rb_texts.specs.declared.item.LogLine.{LogLine}
use Rattle.rb_texts.specs.declared.item.NodeLine.{NodeLine}
use Rattle.rb_texts.specs.declared.item.Verb.{Verb}

-- a node in one line; of its content the length, and the last bytes
pub record PlainNodeLine : Type 0 where
  pub id : ℕ
  pub role : Role
  pub term : ℕ
  pub vote : ℕ
  pub lead : ℕ
  pub commit : ℕ
  pub applied : ℕ
  pub content_len : ℕ
  pub content_end : List ℕ

pub data PlainItem : Type 0 where
  nothing_else : PlainItem
  ready : (id : ℕ) → PlainItem
  hard_state : HardState → PlainItem
  snapshot : (term index : ℕ) → PlainItem
  save : (index : ℕ) → Entry → PlainItem
  apply : (index : ℕ) → Entry → PlainItem
  send : Message → PlainItem
  nothing_ready : (id : ℕ) → PlainItem
  moved : Verb → Message → PlainItem
  no_messages : PlainItem
  stopped : (rounds : ℕ) → PlainItem
  raft_state : PlainNodeLine → PlainItem
  raft_log : LogLine → PlainItem
  entry : (index : ℕ) → Entry → (unsaved : Bool) → PlainItem
  config : Config → PlainItem
  progress : (id : ℕ) → PlainProgress → PlainItem
  event : Event → PlainItem
  error : DirectiveError → PlainItem

abbrev pub plain_node : NodeLine → PlainNodeLine
plain_node n = record {
  id = n.id;
  role = n.role;
  term = n.term;
  vote = n.vote;
  lead = n.lead;
  commit = n.commit;
  applied = n.applied;
  content_len = n.content_len;
  content_end = n.content_end.now;
}

abbrev pub plain_item : Item → PlainItem
plain_item items.NothingElse = nothing_else
plain_item (items.Ready id) = ready id
plain_item (items.HardState hard) = hard_state hard
plain_item (items.Snapshot term index) = snapshot term index
plain_item (items.Save index e) = save index e.now
plain_item (items.Apply index e) = apply index e.now
plain_item (items.Send message) = send message.now
plain_item (items.NothingReady id) = nothing_ready id
plain_item (items.Moved verb message) = moved verb message.now
plain_item items.NoMessages = no_messages
plain_item (items.Stopped rounds) = stopped rounds
plain_item (items.RaftState node) = raft_state (plain_node node)
plain_item (items.RaftLog log) = raft_log log
plain_item (items.Entry index e unsaved) = entry index e.now unsaved
plain_item (items.Config c) = config c.now
plain_item (items.Progress id view) = progress id view.now
plain_item (items.Event e) = event e.now
plain_item (items.Error e) = error e
