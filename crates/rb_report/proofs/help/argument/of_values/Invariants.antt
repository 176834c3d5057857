-- The values so far are choices.
use Rattle.std.proofs.Common.{◌≡◌, drop, map}
use Rattle.rb_script.specs.Directive.{plain_argument}
use Rattle.rb_script.specs.Tokens.{plain}
use Rattle.rb_report.specs.Suggestions.{of_values}
use Rattle.rb_report.proofs.help.argument.of_values.Given as goal

abbrev pub invariant-loop-i : goal.invariant-loop-i
invariant-loop-i l = of_values (map (λ c. c.now) l.choices) (plain_argument (plain l.directive) l.argument).values ≡ of_values (map (λ c. c.now) l.choices) (drop l.i (plain_argument (plain l.directive) l.argument).values)
