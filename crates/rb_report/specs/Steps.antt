-- An output step by step: a delivery's events are indented below it, and an empty line separates it from what is ready after it. The two
-- sides of a diff are laid out each by itself. (This project's; the lines of an output are those of docs/SCRIPTS.md.)
use Rattle.std.specs.Prelude.{ℕ, ◌+◌, ◌==◌, Bool, false, ◌&&◌, ◌||◌, nat_le, if◌then◌else◌, List, [], ◌∷◌, ◌++◌, length, take, codes}
use Rattle.std.specs.Str.{bytes_eq}
use Rattle.rb_script.specs.Lines.{Line}
use Rattle.rb_report.specs.declared.check.colors.Colors.{Colors}
use Rattle.rb_report.specs.declared.check.colors.Colors.TheVariants.{On}
use Rattle.rb_report.specs.declared.check.position.DiffPosition.{DiffPosition}
use Rattle.rb_report.specs.declared.check.side.Side.{Side}
use Rattle.rb_report.specs.declared.check.side.Side.TheVariants.{Both, Expected, Output}
use Rattle.rb_report.specs.Shown.{before, after, end_mark}
use Rattle.rb_report.specs.Highlights.{parts_beside, highlighted_text}

-- a message is delivered
abbrev pub is_delivery : Line → Bool
is_delivery line = bytes_eq (take 8 line) (codes "deliver ")

-- a node reports an event: such a line begins with its level, in capital letters as no other line does
abbrev pub is_event : Line → Bool
is_event [] = false
is_event (b ∷ line) = nat_le 65 b && nat_le b 90

-- what a node has ready begins with its number, as only `ready` and answers to questions do
abbrev pub is_ready : Line → Bool
is_ready [] = false
is_ready (b ∷ line) = nat_le 48 b && nat_le b 57

-- whether the last line above the next line belongs to a delivery
abbrev pub is_delivered : Bool → Line → Bool
is_delivered delivered line = is_delivery line || (delivered && is_event line)

-- ---- a line, if the last line above it belongs to a delivery or not

-- an empty line above what is ready then
abbrev pub gap_above : Bool → Line → List ℕ
gap_above delivered line = if delivered && is_ready line then codes "\n" else []

-- the indentation of an event
abbrev pub indent_of : Bool → Line → List ℕ
indent_of delivered line = if delivered && is_event line then codes "  " else []

abbrev pub step_text : Colors → Side → Bool → Line → List ℕ
step_text colors side delivered line =
    gap_above delivered line ++ (before colors side ++ (indent_of delivered line ++ (line ++ (end_mark line ++ (after colors side ++ codes "\n")))))

-- a line compared with its counterpart
abbrev pub step_beside : Side → Bool → Line → Line → List ℕ
step_beside side delivered line other =
    let p = parts_beside line other in
    if length p.differs == length line then step_text On side delivered line else gap_above delivered line ++ highlighted_text side (indent_of delivered line) p (end_mark line)

-- ---- what is above the next line

-- nothing
abbrev pub start : Bool → DiffPosition
start grouped = record { grouped = grouped; at = 0; expected = false; output = false }

-- whether the last line above of a side belongs to a delivery
abbrev pub is_below_delivery : Side → DiffPosition → Bool
is_below_delivery Both p = p.output
is_below_delivery Expected p = p.expected
is_below_delivery Output p = p.output

-- how many of n lines of a side are in the output
abbrev pub counted : Side → ℕ → ℕ
counted Both n = n
counted Expected n = 0
counted Output n = n

-- after a line of a side
abbrev pub after_line : Side → DiffPosition → Line → DiffPosition
after_line Both p line = record { grouped = p.grouped; at = p.at + 1; expected = p.grouped && is_delivered p.expected line; output = p.grouped && is_delivered p.output line }
after_line Expected p line = record { grouped = p.grouped; at = p.at; expected = p.grouped && is_delivered p.expected line; output = p.output }
after_line Output p line = record { grouped = p.grouped; at = p.at + 1; expected = p.expected; output = p.grouped && is_delivered p.output line }

abbrev pub after_lines : Side → DiffPosition → List Line → DiffPosition
after_lines side p [] = p
after_lines side p (line ∷ ls) = after_lines side (after_line side p line) ls
