-- What is left decides.
use Rattle.std.proofs.Common.{◌≡◌, drop}
use Rattle.rb_script.specs.Tokens.{plain}
use Rattle.rb_report.specs.Forms.{has_key}
use Rattle.rb_report.proofs.help.forms.has_key_from.Given as goal

abbrev pub invariant-loop-i : goal.invariant-loop-i
invariant-loop-i l = has_key l.key (drop l.from (plain l.directive).args) ≡ has_key l.key (drop l.i (plain l.directive).args)
