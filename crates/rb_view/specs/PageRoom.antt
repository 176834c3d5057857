-- What a page has room for. (This project's choice; docs/DECISIONS.md.)
use Rattle.std.specs.Prelude.{ℕ, Bool, nat_le, if◌then◌else◌, List, ◌++◌, length, Option, Some, None}
use Rattle.rb_script.specs.Lines.{Line, text_of}
use Rattle.rb_view.specs.declared.steps.room.TheConstants.{MAX_PAGE}

-- the bytes of rows, each with an end
abbrev pub size_of : List Line → ℕ
size_of texts = length (text_of texts)

-- a page has room for rows
abbrev pub has_room : List Line → Bool
has_room texts = nat_le (size_of texts) MAX_PAGE

-- rows, as long as a page has room for them
abbrev pub held : List Line → Option (List Line)
held texts = if has_room texts then Some texts else None

-- and for more of them
abbrev pub held_with : Option (List Line) → List Line → Option (List Line)
held_with None more = None
held_with (Some texts) more = held (texts ++ more)
