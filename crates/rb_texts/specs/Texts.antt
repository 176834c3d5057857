-- The line of each item, and at which levels it is shown. (This project's texts.)
use Rattle.std.specs.Prelude.{ℕ, Bool, true, not, ◌&&◌, nat_le, if◌then◌else◌, codes, decimal, List, [], ◌∷◌, ◌++◌}
use Rattle.rb_vocab.specs.declared.level.Level.{Level}
use Rattle.rb_vocab.specs.declared.level.Level.TheVariants as levels
use Rattle.rb_vocab.specs.Levels.{rank}
use Rattle.rb_message.specs.declared.event.Event.{Event}
use Rattle.rb_texts.specs.Configs.{config_text}
use Rattle.rb_texts.specs.Entries.{place_text, entry_text}
use Rattle.rb_texts.specs.Errors.{error_text}
use Rattle.rb_texts.specs.EventForms.{event_form, is_hidden}
use Rattle.rb_texts.specs.Events.{event_text}
use Rattle.rb_texts.specs.Items.{PlainItem, nothing_else, ready, hard_state, snapshot, save, apply, send, nothing_ready, moved, no_messages, stopped, raft_state, raft_log, entry, config, progress, event, error}
use Rattle.rb_texts.specs.Messages.{message_text, verb_text}
use Rattle.rb_texts.specs.States.{hard_state_text, log_text, node_text, progress_text}

-- the mark of an entry that isn't durable yet
abbrev pub unsaved_text : Bool → List ℕ
unsaved_text unsaved = if unsaved then codes " unsaved" else []

unfoldable pub item_text : PlainItem → List ℕ
item_text nothing_else = codes "ok"
item_text (ready id) = decimal id ++ codes " ready"
item_text (hard_state hard) = hard_state_text hard
item_text (snapshot term index) = codes "  snapshot " ++ place_text term index
item_text (save index e) = codes "  save " ++ entry_text index e
item_text (apply index e) = codes "  apply " ++ entry_text index e
item_text (send message) = codes "  send " ++ message_text message
item_text (nothing_ready id) = decimal id ++ codes " has nothing ready"
item_text (moved verb message) = verb_text verb ++ message_text message
item_text no_messages = codes "no messages"
item_text (stopped rounds) = codes "stopped after " ++ decimal rounds ++ codes " rounds"
item_text (raft_state node) = node_text node
item_text (raft_log log) = log_text log
item_text (entry index e unsaved) = entry_text index e ++ unsaved_text unsaved
item_text (config c) = config_text c
item_text (progress id view) = progress_text id view
item_text (event e) = event_text e
item_text (error e) = error_text e

-- An event that has a line is shown if its level is at least the one set.
abbrev pub is_event_shown : Level → Event → Bool
is_event_shown level e = not (is_hidden (event_form e).shown) && nat_le (rank level) (rank (event_form e).level)

-- Errors and `ok` are always shown, an event if its level is at least the one set, and everything else unless the level is none.
abbrev pub is_shown : Level → PlainItem → Bool
is_shown level nothing_else = true
is_shown level (event e) = is_event_shown level e
is_shown level (error e) = true
is_shown level _ = nat_le (rank level) (rank levels.Fatal)

-- the line of an item at a level, or no line
abbrev pub line_of : Level → PlainItem → List (List ℕ)
line_of level item = if is_shown level item then item_text item ∷ [] else []
