-- One line more of the input is looked at.
use Rattle.std.proofs.Common.{◌≡◌, ℕ, ◌+◌, List, Some, true, drop, ap}
use Rattle.std.specs.Prelude.{if◌then◌else◌, slice_get}
use Rattle.std.specs.Str.{bytes_eq}
use Rattle.rb_script.specs.Lines.{Line}
use Rattle.rb_text.proofs.SentLaws.{drop-get}
use Rattle.rb_report.specs.Distance.{Word}
use Rattle.rb_report.specs.Forms.{has_input}

pub input_step : (text : Word) (inputs : List Line) (i : ℕ) (line : Line) → slice_get inputs i ≡ Some line → has_input text (drop i inputs) ≡ (if bytes_eq line text then true else has_input text (drop (i + 1) inputs))
input_step text inputs i line at = ap (has_input text) (drop-get inputs i line at)
