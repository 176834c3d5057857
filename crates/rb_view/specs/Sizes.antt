-- How much there is to say, counted by what is said. (This project's.)
use Rattle.std.specs.Prelude.{ℕ, Bool, true, false, ◌+◌, ◌*◌, if◌then◌else◌, length, decimal}
use Rattle.std.specs.List.{sum_by}
use Rattle.rb_texts.specs.EventForms.{event_form, is_hidden}
use Rattle.rb_texts.specs.Items.{PlainItem}
use Rattle.rb_texts.specs.Items as items
use Rattle.rb_view.specs.Rows.{PlainCell, number, text, Row}

-- a number counts its digits, and a text six for each byte
abbrev pub cell_size : PlainCell → ℕ
cell_size (number n) = 1 + length (decimal n)
cell_size (text bytes) = 3 + 6 * length bytes

abbrev pub row_size : Row → ℕ
row_size r = 6 + 6 * length r.name + sum_by cell_size r.cells

-- an item that shows how a node stands, or that nothing happened
abbrev pub is_view : PlainItem → Bool
is_view items.nothing_else = true
is_view (items.raft_state node) = true
is_view (items.raft_log log) = true
is_view (items.entry index e unsaved) = true
is_view (items.config c) = true
is_view (items.progress id view) = true
is_view _ = false

-- nor has an event that is hidden a row of its own
abbrev pub has_no_row : PlainItem → Bool
has_no_row (items.event e) = is_hidden (event_form e).shown
has_no_row item = is_view item

-- how many rows an item has, without its reason
abbrev pub count_of : PlainItem → ℕ
count_of item = if has_no_row item then 0 else 1
