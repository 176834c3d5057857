-- The rest of a reader of lines, and its current line. (This project's.)
use Rattle.std.specs.Prelude.{ℕ, List, [], Option, Some, if◌then◌else◌}
use Rattle.std.specs.Io.KnownBytes.{prepend_known}
use Rattle.rb_script.specs.Lines.{Line, without_returns}
use Rattle.rb_text.specs.declared.line_reader.LineReader.{LineReader}

-- the unread bytes and then those of the source, if they are known; nothing after the end
abbrev pub left_of : LineReader → Option (List ℕ) → Option (List ℕ)
left_of lines known = if lines.has_ended then Some [] else prepend_known lines.unread known

-- the last line
abbrev pub line_of : LineReader → Line
line_of lines = without_returns lines.line

-- the number of calls left
abbrev pub calls_of : LineReader → ℕ
calls_of lines = lines.calls
