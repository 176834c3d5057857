-- What is written while a directive runs: what happens, and what of a node is not as it was written last. (docs/FORMATS.md.)
use Rattle.std.specs.Prelude.{ℕ, ◌-◌, Bool, true, ◌&&◌, List, [], ◌∷◌, ◌++◌, Option, Some, None, codes, drop, slice_get, slice_set}
use Rattle.std.specs.List.{flat_map, list_all}
use Rattle.rb_raftlog.specs.Content.{content_end}
use Rattle.rb_script.specs.Lines.{Line}
use Rattle.rb_node.specs.Node.{PlainNode}
use Rattle.rb_texts.specs.declared.reason.Reason.{Reason}
use Rattle.rb_texts.specs.Items.{PlainItem}
use Rattle.rb_texts.specs.Reasons.{reason_of, reason_text}
use Rattle.rb_view.specs.ItemRows.{item_rows, item_text}
use Rattle.rb_view.specs.Json.{is_byte}
use Rattle.rb_view.specs.Kept.{texts_of}
use Rattle.rb_view.specs.PageRoom.{held_with}
use Rattle.rb_view.specs.Rows.{Row, row, text}
use Rattle.rb_machine.specs.Observations.{Observation, Shown, Settled}
use Rattle.rb_view.specs.States.{node_rows, node_since}

-- what of a node is not as it was among these
abbrev pub rows_since : List PlainNode → ℕ → PlainNode → List Row
rows_since nodes id n = node_rows (slice_get nodes (id - 1)) n

-- the same, by a comparison that begins after what the node was known to have committed, if that stays
abbrev pub compared_rows : Bool → List PlainNode → ℕ → PlainNode → List Row
compared_rows keeps nodes id n = node_since keeps (slice_get nodes (id - 1)) n

-- a node is written: the next rows say what is not as it is now
abbrev pub rewritten : List PlainNode → ℕ → PlainNode → List PlainNode
rewritten nodes id n = slice_set nodes (id - 1) n

-- the node as it settled last, or else as it was before
abbrev pub last_of : {B : Type 0} → PlainNode → (B → PlainNode) → Option B → PlainNode
last_of before node None = before
last_of before node (Some settled) = node settled

-- ---- an item

-- why nothing came of a message, why a vote was refused, or which entries give way: its line, without the blanks before it
abbrev pub reason_row : Reason → Row
reason_row reason = row (codes "reason") (text (drop 2 (reason_text reason)) ∷ [])

abbrev pub reason_rows : Option Reason → List Row
reason_rows None = []
reason_rows (Some reason) = reason_row reason ∷ []

-- what happened, and why
abbrev pub shown_rows : PlainItem → List Row
shown_rows item = item_rows item ++ reason_rows (reason_of item)

-- the same as texts: one of what happened, and one of why
abbrev pub shown_texts : PlainItem → List Line
shown_texts item = item_text item ∷ texts_of (reason_rows (reason_of item))

-- ---- by an observer

pub record Watching : Type 0 where
  -- what is written, as long as a page has room for it
  pub texts : Option (List Line)
  -- the nodes as they were written last
  pub nodes : List PlainNode
  -- what they knew to be committed stays
  pub keeps : Bool
  -- what is shown of each content is bytes
  pub of_bytes : Bool

abbrev pub with_item : Watching → PlainItem → Watching
with_item w item = record w { texts = held_with w.texts (shown_texts item) }

abbrev pub with_node : Watching → ℕ → PlainNode → Watching
with_node w id n = record w {
  texts = held_with w.texts (texts_of (compared_rows w.keeps w.nodes id n));
  nodes = rewritten w.nodes id n;
  of_bytes = w.of_bytes && list_all is_byte (content_end n.content);
}

-- ---- all of it

-- the nodes as they were written last, where they were these
abbrev pub written_last : List PlainNode → List Observation → List PlainNode
written_last nodes [] = nodes
written_last nodes (Shown items ∷ observed) = written_last nodes observed
written_last nodes (Settled id n ∷ observed) = written_last (rewritten nodes id n) observed

abbrev pub observed_rows : List PlainNode → List Observation → List Row
observed_rows nodes [] = []
observed_rows nodes (Shown items ∷ observed) = flat_map shown_rows items ++ observed_rows nodes observed
observed_rows nodes (Settled id n ∷ observed) = rows_since nodes id n ++ observed_rows (rewritten nodes id n) observed

-- the same as texts
abbrev pub observed_texts : List PlainNode → List Observation → List Line
observed_texts nodes [] = []
observed_texts nodes (Shown items ∷ observed) = flat_map shown_texts items ++ observed_texts nodes observed
observed_texts nodes (Settled id n ∷ observed) = texts_of (rows_since nodes id n) ++ observed_texts (rewritten nodes id n) observed

-- the same, by comparisons that begin after what nodes were known to have committed, if that stays
abbrev pub compared_texts : Bool → List PlainNode → List Observation → List Line
compared_texts keeps nodes [] = []
compared_texts keeps nodes (Shown items ∷ observed) = flat_map shown_texts items ++ compared_texts keeps nodes observed
compared_texts keeps nodes (Settled id n ∷ observed) = texts_of (compared_rows keeps nodes id n) ++ compared_texts keeps (rewritten nodes id n) observed

-- what is shown of each content is bytes
abbrev pub shows_bytes : List Observation → Bool
shows_bytes [] = true
shows_bytes (Shown items ∷ observed) = shows_bytes observed
shows_bytes (Settled id n ∷ observed) = list_all is_byte (content_end n.content) && shows_bytes observed
