-- Compacting a node's log (Ongaro's thesis, section 5.1): the base moves, and with it the snapshot that a restart begins at
use Rattle.std.specs.Prelude.{ℕ, ◌≡◌, ◌++◌, min, List, [], ◌∷◌, Result, Ok, Err}
use Rattle.rb_raftlog.specs.declared.entry.Body.{Body}
use Rattle.rb_raftlog.specs.declared.entry.Body.TheVariants.{Payload, Change}
use Rattle.rb_raftlog.specs.declared.entry.Entry.{Entry}
use Rattle.rb_raftlog.specs.declared.raft_log.CompactFault.{CompactFault}
use Rattle.rb_raftlog.specs.declared.snapshot.Snapshot.{Snapshot}
use Rattle.rb_raftlog.specs.Log.{IsCompacted, between}
use Rattle.rb_tracker.specs.Changes.{changed}
use Rattle.rb_tracker.specs.Configs.{config_of, state_of}
use Rattle.rb_tracker.specs.declared.changes.ChangeFault.{ChangeFault}
use Rattle.rb_tracker.specs.declared.config.Config.{Config}
use Rattle.rb_node.specs.Node.{PlainNode}
use Rattle.rb_node.specs.Sends.{term_or_0}

-- ---- what entries come to

abbrev pub content_with : List ℕ → Body → List ℕ
content_with content (Payload bytes) = content ++ bytes
content_with content (Change transition words) = content

-- the content after entries
abbrev pub content_after : List ℕ → List Entry → List ℕ
content_after content [] = content
content_after content (e ∷ es) = content_after (content_with content e.body) es

-- a change that can't be made is left out
abbrev pub changed_or_same : Config → Result Config ChangeFault → Config
changed_or_same c (Ok next) = next
changed_or_same c (Err fault) = c

abbrev pub config_with : Config → Body → Config
config_with c (Payload bytes) = c
config_with c (Change transition words) = changed_or_same c (changed c transition words)

-- the configuration after entries
abbrev pub config_after : Config → List Entry → Config
config_after c [] = c
config_after c (e ∷ es) = config_after (config_with c e.body) es

-- ---- the snapshot at an index

-- the entries after the saved snapshot, up to an index
abbrev pub entries_to : PlainNode → ℕ → List Entry
entries_to n i = between n.log n.start.index i

abbrev pub start_at : PlainNode → ℕ → Snapshot
start_at n i = record {
  index = i;
  term = term_or_0 n.log i;
  content = content_after n.start.content (entries_to n i);
  config = state_of (config_after (config_of n.start.config) (entries_to n i));
}

-- it moves with the base
abbrev pub start_after : PlainNode → ℕ → Result (Unit {0}) CompactFault → Snapshot
start_after n i (Ok _) = start_at n i
start_after n i (Err fault) = n.start

-- the log is compacted to an index that is applied and durable
abbrev pub IsCompactedTo : PlainNode → ℕ → Result (Unit {0}) CompactFault → PlainNode → Type 0
IsCompactedTo old index result new =
    IsCompacted old.log index (min old.applied old.log.durable) result new.log × (new ≡ record old { log = new.log; start = start_after old index result })
