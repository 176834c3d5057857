-- None so far is the word.
use Rattle.std.proofs.Common.{◌≡◌, drop, map}
use Rattle.rb_report.specs.Suggestions.{is_among}
use Rattle.rb_report.proofs.help.argument.is_among.Given as goal

abbrev pub invariant-loop-candidate : goal.invariant-loop-candidate
invariant-loop-candidate l = is_among l.word (map (λ c. c.now) l.words) ≡ is_among l.word (map (λ c. c.now) (drop l.candidate-index l.words))
