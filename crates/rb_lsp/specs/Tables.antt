-- Where the lines of a script begin in its text. (docs/SCRIPTS.md: they end at LF alone; an editor's end at CR and CR LF too.)
use Rattle.std.specs.Prelude.{◌≡◌, ◌≢◌, ℕ, zero, suc, ◌==◌, ◌<◌, nat_lt, if◌then◌else◌, List, [], ◌∷◌, length, get_or, slice_index}
use Rattle.rb_lsp.specs.declared.document.position.Encoding.{Encoding}
use Rattle.rb_lsp.specs.declared.document.position.Position.{Position}
use Rattle.rb_lsp.specs.declared.document.line_table.LineTable.{LineTable}
use Rattle.rb_lsp.specs.Places.{position_of}

-- the bytes before line n of a script; all bytes if there are fewer lines
unfoldable pub feed_start : ℕ → List ℕ → ℕ
feed_start zero bytes = 0
feed_start (suc n) [] = 0
feed_start (suc n) (b ∷ bytes) = suc (if b == 10 then feed_start n bytes else feed_start (suc n) bytes)

-- where it begins, as a position
abbrev pub start_of : Encoding → ℕ → List ℕ → Position
start_of encoding n text = position_of encoding (feed_start n text) text

-- no byte is CR
abbrev pub HasNoReturn : List ℕ → Type 0
HasNoReturn text = (k : ℕ) → k < length text → slice_index text k ≢ 13

-- how many bytes are LF
unfoldable pub feed_count : List ℕ → ℕ
feed_count [] = 0
feed_count (b ∷ bytes) = if b == 10 then suc (feed_count bytes) else feed_count bytes

-- where line n begins by the table
abbrev pub given : LineTable → ℕ → Position
given table n = if nat_lt n table.plain then record { line = n; character = 0 } else get_or table.starts.items n table.end

-- the table gives each line's beginning
abbrev pub IsTable : Encoding → List ℕ → LineTable → Type 0
IsTable encoding text table = (n : ℕ) → given table n ≡ start_of encoding n text
