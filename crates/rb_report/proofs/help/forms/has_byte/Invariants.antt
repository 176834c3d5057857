-- What is left decides.
use Rattle.std.proofs.Common.{◌≡◌, drop}
use Rattle.rb_report.specs.Forms.{has_byte}
use Rattle.rb_report.proofs.help.forms.has_byte.Given as goal

abbrev pub invariant-loop-b : goal.invariant-loop-b
invariant-loop-b l = has_byte l.wanted l.word ≡ has_byte l.wanted (drop l.b-index l.word)
