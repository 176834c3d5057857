-- A head that was read. (This project's.)
use Rattle.std.specs.Prelude.{◌≡◌, ℕ, ◌≤◌, List, length, map, drop, Option}
use Rattle.httparse.specs.Grammar.{Field, LineEnd, ReadsSection, print_section}
use Rattle.httparse.specs.Spans.{name_and_value}
use Rattle.rb_lsp.specs.declared.rpc.limits.TheConstants.{MAX_FIELDS}
use Rattle.rb_lsp.specs.Messages.{told_length}

-- the bytes begin with a header that ends there and gives this length
pub record IsHead (bytes : List ℕ) (start : ℕ) (told : Option ℕ) : Type 0 where
  pub fields : List Field
  pub last : LineEnd
  pub section : ReadsSection bytes fields last (drop start bytes)
  pub start_is : start ≡ length (print_section fields last)
  pub within : start ≤ length bytes
  pub told_is : told ≡ told_length (map name_and_value fields)
  pub few : length fields ≤ MAX_FIELDS
