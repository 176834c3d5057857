-- No argument so far has the key.
use Rattle.std.proofs.Common.{◌≡◌, drop}
use Rattle.rb_script.specs.Tokens.{plain}
use Rattle.rb_report.specs.Suggestions.{wrong_in}
use Rattle.rb_report.proofs.help.argument.wrong_in.Given as goal

abbrev pub invariant-loop-i : goal.invariant-loop-i
invariant-loop-i l = wrong_in l.key (plain l.directive).args ≡ wrong_in l.key (drop l.i (plain l.directive).args)
