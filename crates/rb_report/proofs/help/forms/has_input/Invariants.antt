-- What is left decides.
use Rattle.std.proofs.Common.{◌≡◌, drop}
use Rattle.rb_script.specs.Tokens.{plain}
use Rattle.rb_report.specs.Forms.{has_input}
use Rattle.rb_report.proofs.help.forms.has_input.Given as goal

abbrev pub invariant-loop-i : goal.invariant-loop-i
invariant-loop-i l = has_input l.text (plain l.directive).inputs ≡ has_input l.text (drop l.i (plain l.directive).inputs)
