-- Some items of a document, by the parameters of a method. (This project's.)
use Rattle.std.specs.Prelude.{ℕ, Option, Some, None, codes}
use Rattle.serde_json.specs.Data.{Data}
use Rattle.rb_lsp.specs.Params.{number_at}
use Rattle.rb_lsp.specs.declared.server.item_span.ItemSpan.{ItemSpan}

-- if both numbers are there
abbrev pub span_of_both : Option ℕ → Option ℕ → Option ItemSpan
span_of_both None count = None
span_of_both (Some from) None = None
span_of_both (Some from) (Some count) = Some (record { from = from; count = count })

abbrev pub span_of : Data → Option ItemSpan
span_of d = span_of_both (number_at (codes "from") d) (number_at (codes "count") d)
