-- What the text of a cell is put together of, as it is before it is between quotes. (This project's.)
use Rattle.std.specs.Prelude.{ℕ, List, decimal}
use Rattle.std.specs.List.{flat_map}
use Rattle.rb_texts.specs.Configs.{ids_text, part_text}
use Rattle.rb_texts.specs.Entries.{change_word}
use Rattle.rb_texts.specs.Quoted as quotes
use Rattle.rb_view.specs.declared.rows.span.TextSpan.{TextSpan}
use Rattle.rb_view.specs.declared.rows.span.TextSpan.TheVariants as spans

abbrev pub span_text : TextSpan → List ℕ
span_text (spans.Bytes bytes) = bytes.now
span_text (spans.Number n) = decimal n
span_text (spans.Inside bytes) = flat_map quotes.escaped bytes.now
span_text (spans.Ids ids) = ids_text ids.now
span_text (spans.Part name ids) = part_text name.now ids.now
span_text (spans.Words words) = flat_map change_word words.now

abbrev pub spans_text : List TextSpan → List ℕ
spans_text ss = flat_map span_text ss
