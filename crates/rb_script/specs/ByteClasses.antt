-- The kinds of bytes that a head is cut by. (This project's.)
use Rattle.std.specs.Prelude.{◌≡◌, ℕ, Bool, false, ◌||◌, ◌==◌, not}
use Rattle.rb_script.specs.declared.head_cursor.ByteClass.{ByteClass}
use Rattle.rb_script.specs.declared.head_cursor.ByteClass.TheVariants.{Space, Gap, Word, Value, Piece, Inside}
use Rattle.rb_script.specs.Bytes.{space, opening, closing, comma}
use Rattle.rb_script.specs.Marks.{is_space}
use Rattle.rb_script.specs.Directive.{is_word, is_value, is_gap, is_inside}

-- the bytes of a value within parentheses
abbrev pub is_piece : ℕ → Bool
is_piece b = not (is_space b || b == comma || b == opening || b == closing)

abbrev pub is_of : ByteClass → ℕ → Bool
is_of Space b = is_space b
is_of Gap b = is_gap b
is_of Word b = is_word b
is_of Value b = is_value b
is_of Piece b = is_piece b
is_of Inside b = is_inside b

-- a class to which the space that joins two lines does not belong
abbrev pub IsWithinLine : ByteClass → Type 0
IsWithinLine class = is_of class space ≡ false
