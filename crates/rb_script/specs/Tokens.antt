-- The tokens of a head as spans of its lines. (This project's.)
use Rattle.std.specs.Prelude.{ℕ, Bool, ◌-◌, ◌<◌, ◌≤◌, List, [], length, take, drop, map, slice_index_or}
use Rattle.rb_script.specs.declared.span.Span.{Span}
use Rattle.rb_script.specs.Lines.{Line}
use Rattle.rb_script.specs.Directive.{PlainArgument, PlainDirective}

-- where an argument's key and values are
pub record SpannedArgument : Type 0 where
  pub key : Span
  pub has_equals : Bool
  pub values : List Span

-- the lines of a head, where its name and its arguments are in them, and the input
pub record SpannedDirective : Type 0 where
  pub head : List Line
  pub name : Span
  pub args : List SpannedArgument
  pub inputs : List Line

-- the line that a token is in
abbrev pub line_at : List Line → ℕ → Line
line_at head n = slice_index_or head n []

-- the bytes of a token: of its line those from its start up to its end
abbrev pub token : List Line → Span → List ℕ
token head s = take (s.end - s.start) (drop s.start (line_at head s.line))

-- the token is a part of one line of the head
pub record IsPart (head : List Line) (s : Span) : Type 0 where
  pub line : s.line < length head
  pub start : s.start ≤ s.end
  pub end : s.end ≤ length (line_at head s.line)

abbrev pub argument_of : List Line → SpannedArgument → PlainArgument
argument_of head a = record { key = token head a.key; has_equals = a.has_equals; values = map (token head) a.values }

-- the directive itself, without the positions of its tokens
abbrev pub plain : SpannedDirective → PlainDirective
plain d = record { name = token d.head d.name; args = map (argument_of d.head) d.args; inputs = d.inputs }
