-- What is left decides.
use Rattle.std.proofs.Common.{◌≡◌, drop}
use Rattle.std.specs.List.{list_all}
use Rattle.rb_report.specs.Forms.{is_id_byte}
use Rattle.rb_report.proofs.help.forms.has_id_bytes_alone.Given as goal

abbrev pub invariant-loop-b : goal.invariant-loop-b
invariant-loop-b l = list_all is_id_byte l.word ≡ list_all is_id_byte (drop l.b-index l.word)
