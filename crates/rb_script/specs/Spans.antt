-- A directive by the spans of its tokens. (This project's.)
use Rattle.std.specs.Prelude.{ℕ, [], false, slice_index_or}
use Rattle.std.specs.List.{AllByRecursion}
use Rattle.rb_script.specs.declared.span.Span.{Span}
use Rattle.rb_script.specs.Tokens.{SpannedArgument, SpannedDirective, IsPart}
use Rattle.rb_script.specs.Parsed.{AreParts}

abbrev pub no_span : Span
no_span = record { line = 0; start = 0; end = 0 }

abbrev pub no_spans : SpannedArgument
no_spans = record { key = no_span; has_equals = false; values = [] }

-- argument i, if there is one
abbrev pub argument_at : SpannedDirective → ℕ → SpannedArgument
argument_at d i = slice_index_or d.args i no_spans

-- where value j of argument i is
abbrev pub value_span : SpannedDirective → ℕ → ℕ → Span
value_span d i j = slice_index_or (argument_at d i).values j no_span

-- each token is a part of one line of the head
pub record IsSpanned (d : SpannedDirective) : Type 0 where
  pub name : IsPart d.head d.name
  pub args : AllByRecursion (AreParts d.head) d.args
