-- No argument so far has the key.
use Rattle.std.proofs.Common.{◌≡◌, drop}
use Rattle.rb_script.specs.Tokens.{plain}
use Rattle.rb_report.specs.Suggestions.{of_arguments}
use Rattle.rb_report.proofs.help.argument.of_arguments.Given as goal

abbrev pub invariant-loop-i : goal.invariant-loop-i
invariant-loop-i l = of_arguments (plain l.directive).name l.key (plain l.directive).args ≡ of_arguments (plain l.directive).name l.key (drop l.i (plain l.directive).args)
