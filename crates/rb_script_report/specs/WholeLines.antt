-- Lines with their ends: an LF, with all CRs directly before it. The end of the last line may be missing. (This project's.)
use Rattle.std.specs.Prelude.{ℕ, zero, suc, ◌==◌, Bool, false, if◌then◌else◌, List, [], ◌∷◌, ◌++◌, length, drop}
use Rattle.std.specs.List.{flat_map, list_any}
use Rattle.rb_script.specs.Bytes.{line_feed}
use Rattle.rb_script.specs.Lines.{Line, without_returns}

-- the first line with its end, and the bytes after it
unfoldable pub whole_line : List ℕ → List ℕ
whole_line [] = []
whole_line (b ∷ bytes) = if b == line_feed then b ∷ [] else b ∷ whole_line bytes

unfoldable pub after_line : List ℕ → List ℕ
after_line [] = []
after_line (b ∷ bytes) = if b == line_feed then bytes else after_line bytes

-- the first n lines with their ends, and the bytes after them
unfoldable pub whole_lines : ℕ → List ℕ → List ℕ
whole_lines zero bytes = []
whole_lines (suc n) bytes = whole_line bytes ++ whole_lines n (after_line bytes)

unfoldable pub after_lines : ℕ → List ℕ → List ℕ
after_lines zero bytes = bytes
after_lines (suc n) bytes = after_lines n (after_line bytes)

-- whether the last line has an end
unfoldable pub is_ended : List ℕ → Bool
is_ended [] = false
is_ended (b ∷ []) = b == line_feed
is_ended (b ∷ c ∷ bytes) = is_ended (c ∷ bytes)

-- the bytes before the last LF
unfoldable pub before_feed : List ℕ → List ℕ
before_feed [] = []
before_feed (b ∷ bytes) = if list_any (λ c. c == line_feed) bytes then b ∷ before_feed bytes else []

-- the end of the last line that has one; LF if none has
unfoldable pub last_end : List ℕ → List ℕ
last_end bytes = drop (length (without_returns (before_feed bytes))) (before_feed bytes) ++ line_feed ∷ []

-- the last line gets the end of the line above it, if it has none
abbrev pub ended : List ℕ → List ℕ
ended bytes = if is_ended bytes then bytes else bytes ++ last_end bytes

-- the last line loses its end, if it has one
unfoldable pub unended : List ℕ → List ℕ
unended bytes = if is_ended bytes then without_returns (before_feed bytes) else bytes

-- lines, each with this end
abbrev pub with_ends : List ℕ → List Line → List ℕ
with_ends end ls = flat_map (λ line. line ++ end) ls
