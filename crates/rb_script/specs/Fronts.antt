-- The parts of a block. (This project's.)
use Rattle.std.specs.Prelude.{◌≡◌, ℕ, ◌+◌, ◌^◌, ◌<◌, ◌≤◌, List, ◌++◌, length, map, Some}
use Rattle.rb_script.specs.declared.span.Span.{Span}
use Rattle.rb_script.specs.declared.argument.ArgumentSpans.{ArgumentSpans}
use Rattle.rb_script.specs.Lines.{Line, text_of}
use Rattle.rb_script.specs.Flat.{between}
use Rattle.rb_script.specs.Script.{PlainBlock, block_text}
use Rattle.rb_script.specs.Joined.{joined}
use Rattle.rb_script.specs.Heads.{head_at}
use Rattle.rb_script.specs.Reading.{capped}
use Rattle.rb_script.specs.Valid.{IsBlock}
use Rattle.rb_script.specs.Tokens.{SpannedArgument, SpannedDirective, token, argument_of}
use Rattle.rb_script.specs.Parsed.{spanned}
use Rattle.rb_script.specs.Spans.{IsSpanned}

-- the part above an expectation, and where the tokens of its head are
pub record PlainFront : Type 0 where
  pub lead : List Line
  pub head : List Line
  pub input : List Line
  pub name : Span
  pub args : List SpannedArgument

-- the lead, the head and the input begin at these places of the lines, and the input ends at the last
abbrev pub front_of : List Line → ℕ → ℕ → ℕ → ℕ → Span → List ArgumentSpans → PlainFront
front_of all lead head input end name args = record { lead = between lead head all; head = between head input all; input = between input end all; name = name; args = map spanned args }

-- one is after the other, and a `u32` counts the lines up to there
abbrev pub AreInOrder : List Line → ℕ → ℕ → ℕ → ℕ → Type 0
AreInOrder all lead head input end = (lead ≤ head) × (head ≤ input) × (input ≤ end) × (end ≤ length all) × (end < 2 ^ 32)

abbrev pub block_of_front : PlainFront → List Line → PlainBlock
block_of_front f expected = record { lead = f.lead; head = f.head; input = f.input; expected = expected }

abbrev pub directive_of_front : PlainFront → SpannedDirective
directive_of_front f = record { head = f.head; name = f.name; args = f.args; inputs = f.input }

-- the tokens are those of the head, each a part of one of its lines
pub record HasTokens (f : PlainFront) : Type 0 where
  pub texts_are : head_at (joined f.head) ≡ Some (token f.head f.name, map (argument_of f.head) f.args)
  pub parts : IsSpanned (directive_of_front f)

pub record IsKeptBlock (f : PlainFront) (expected : List Line) (text_len : ℕ) : Type 0 where
  pub block : IsBlock (block_of_front f expected)
  pub tokens : HasTokens f
  pub len : text_len ≡ capped (length (block_text (block_of_front f expected)))

abbrev pub lines_above : PlainFront → List Line
lines_above f = f.lead ++ (f.head ++ f.input)

-- the text without the expectation: a separator line, and an empty line after the expectation
abbrev pub front_len : PlainFront → ℕ
front_len f = length (text_of (lines_above f)) + 6
