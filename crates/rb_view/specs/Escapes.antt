-- Bytes that are nothing to a page. (This project's.)
use Rattle.std.specs.Prelude.{ℕ, Bool, ◌&&◌, nat_le}
use Rattle.rb_text.specs.Json.{is_no_mark}

-- a byte that is nothing to a page: none of its marks, and not past ASCII
abbrev pub is_inert : ℕ → Bool
is_inert b = is_no_mark b && nat_le b 127
