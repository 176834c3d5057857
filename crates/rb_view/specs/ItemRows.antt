-- What a directive did, as rows: those of the items that it can show. What it shows of nodes that stand as they stood has none, since a page
-- has what changed. (docs/FORMATS.md)
use Rattle.std.specs.Prelude.{ℕ, codes, List, [], ◌∷◌, drop}
use Rattle.std.specs.List.{flat_map}
use Rattle.rb_vocab.specs.declared.directive_error.DirectiveError.{DirectiveError}
use Rattle.rb_message.specs.declared.hard_state.HardState.{HardState}
use Rattle.rb_raftlog.specs.declared.entry.Entry.{Entry}
use Rattle.rb_texts.specs.Entries.{body_text}
use Rattle.rb_texts.specs.Errors.{error_text}
use Rattle.rb_texts.specs.Items.{PlainItem}
use Rattle.rb_texts.specs.Items as items
use Rattle.rb_view.specs.EventRows.{event_rows}
use Rattle.rb_view.specs.MessageRows.{message_row, verb_name}
use Rattle.rb_view.specs.Rows.{number, text, Row, row, next_text}

abbrev pub hard_row : HardState → Row
hard_row h = row (codes "hard") (number h.term ∷ number h.vote ∷ number h.commit ∷ [])

-- an entry at an index
abbrev pub entry_row : List ℕ → ℕ → Entry → Row
entry_row name index e = row name (number index ∷ number e.term ∷ text (body_text e.body) ∷ [])

-- why a directive is refused: its line, after `error: `
abbrev pub error_row : DirectiveError → Row
error_row e = row (codes "error") (text (drop 7 (error_text e)) ∷ [])

unfoldable pub item_rows : PlainItem → List Row
item_rows items.nothing_else = []
item_rows (items.ready id) = row (codes "ready") (number id ∷ []) ∷ []
item_rows (items.hard_state hard) = hard_row hard ∷ []
item_rows (items.snapshot term index) = row (codes "snapshot") (number term ∷ number index ∷ []) ∷ []
item_rows (items.save index e) = entry_row (codes "save") index e ∷ []
item_rows (items.apply index e) = entry_row (codes "apply") index e ∷ []
item_rows (items.send message) = message_row (codes "send") message ∷ []
item_rows (items.nothing_ready id) = row (codes "nothing-ready") (number id ∷ []) ∷ []
item_rows (items.moved verb message) = message_row (verb_name verb) message ∷ []
item_rows items.no_messages = row (codes "no-messages") [] ∷ []
item_rows (items.stopped rounds) = row (codes "stopped") (number rounds ∷ []) ∷ []
item_rows (items.raft_state node) = []
item_rows (items.raft_log log) = []
item_rows (items.entry index e unsaved) = []
item_rows (items.config c) = []
item_rows (items.progress id view) = []
item_rows (items.event e) = event_rows e
item_rows (items.error e) = error_row e ∷ []

-- the text of an item's rows, which follow another
unfoldable pub item_text : PlainItem → List ℕ
item_text item = flat_map next_text (item_rows item)
