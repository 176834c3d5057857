-- Messages of diagnostics as they are shown: nothing of a script acts in them. (This project's. Which characters act is said in rb_report's Names.)
use Rattle.std.specs.Prelude.{ℕ, Bool, ◌==◌, ◌&&◌, ◌||◌, not, if◌then◌else◌, List, [], ◌∷◌}
use Rattle.std.specs.List.{flat_map, list_any}
use Rattle.rb_report.specs.Names.{has_acting_char, is_control, name_byte}

-- a control character but an end of a line
abbrev pub acts_alone : ℕ → Bool
acts_alone b = is_control b && not (b == 10)

-- something acts in a message, or it is no text
abbrev pub acts : List ℕ → Bool
acts message = list_any acts_alone message || has_acting_char message

-- an end of a line stays
abbrev pub message_byte : ℕ → List ℕ
message_byte b = if b == 10 then b ∷ [] else name_byte b

-- a message as it is, or, if something acts in it, in printable ASCII and ends of lines
unfoldable pub shown_message : List ℕ → List ℕ
shown_message message = if acts message then flat_map message_byte message else message
