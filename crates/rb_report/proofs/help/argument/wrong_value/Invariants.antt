-- The values so far are choices.
use Rattle.std.proofs.Common.{◌≡◌, drop, map}
use Rattle.rb_script.specs.Directive.{plain_argument}
use Rattle.rb_script.specs.Tokens.{plain}
use Rattle.rb_report.specs.Suggestions.{wrong_value}
use Rattle.rb_report.proofs.help.argument.wrong_value.Given as goal

abbrev pub invariant-loop-i : goal.invariant-loop-i
invariant-loop-i l = wrong_value (map (λ c. c.now) l.choices) (plain_argument (plain l.directive) l.argument).values ≡ wrong_value (map (λ c. c.now) l.choices) (drop l.i (plain_argument (plain l.directive) l.argument).values)
