-- Rows, and the JSON text that they are: a list of lists, each of which begins with a name. (RFC 8259; the rows are this project's,
-- docs/FORMATS.md.)
use Rattle.std.specs.Prelude.{ℕ, List, ◌++◌, codes, decimal}
use Rattle.std.specs.List.{flat_map}
use Rattle.rb_texts.specs.Configs.{config_text}
use Rattle.rb_texts.specs.Entries.{body_text}
use Rattle.rb_texts.specs.Errors.{word_text}
use Rattle.rb_view.specs.declared.rows.cell.Cell.{Cell}
use Rattle.rb_view.specs.declared.rows.cell.Cell.TheVariants as cells
use Rattle.rb_view.specs.declared.rows.row.RowPlace.{RowPlace}
use Rattle.rb_view.specs.declared.rows.row.RowPlace.TheVariants.{First, Next}
use Rattle.rb_text.specs.Json.{in_page}

pub data PlainCell : Type 0 where
  number : ℕ → PlainCell
  text : (bytes : List ℕ) → PlainCell

abbrev pub plain_cell : Cell → PlainCell
plain_cell (cells.Number n) = number n
plain_cell (cells.Text bytes) = text bytes.now
plain_cell (cells.Body body) = text (body_text body.now)
plain_cell (cells.Config config) = text (config_text config.now)
plain_cell (cells.Quoting front word) = text (front.now ++ word_text word.now)
plain_cell (cells.Counting front n) = text (front.now ++ decimal n)

pub record Row : Type 0 where
  pub name : List ℕ
  pub cells : List PlainCell

abbrev pub row : List ℕ → List PlainCell → Row
row name cells = record { name = name; cells = cells }

-- a cell, with the comma before it
abbrev pub cell_text : PlainCell → List ℕ
cell_text (number n) = codes "," ++ decimal n
cell_text (text bytes) = codes ",\"" ++ (flat_map in_page bytes ++ codes "\"")

-- a row up to its name
abbrev pub front_text : List ℕ → List ℕ
front_text name = codes "[\"" ++ (flat_map in_page name ++ codes "\"")

abbrev pub row_text : Row → List ℕ
row_text r = front_text r.name ++ (flat_map cell_text r.cells ++ codes "]")

-- what is before a row
abbrev pub before : RowPlace → List ℕ
before First = codes "["
before Next = codes ",\n"

-- a row that follows another
unfoldable pub next_text : Row → List ℕ
next_text r = before Next ++ row_text r

-- a list of rows, of which there is one at least
abbrev pub rows_text : Row → List Row → List ℕ
rows_text first rest = before First ++ (row_text first ++ (flat_map next_text rest ++ codes "]\n"))
