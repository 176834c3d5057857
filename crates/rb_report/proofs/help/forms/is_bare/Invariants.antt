-- What is left decides.
use Rattle.std.proofs.Common.{◌≡◌, drop}
use Rattle.rb_script.specs.Tokens.{plain}
use Rattle.rb_report.specs.Forms.{is_bare}
use Rattle.rb_report.proofs.help.forms.is_bare.Given as goal

abbrev pub invariant-loop-i : goal.invariant-loop-i
invariant-loop-i l = is_bare l.key (plain l.directive).args ≡ is_bare l.key (drop l.i (plain l.directive).args)
