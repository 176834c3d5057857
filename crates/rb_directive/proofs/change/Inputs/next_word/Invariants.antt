-- The same words are left.
use Rattle.std.proofs.Common.{◌≡◌}
use Rattle.rb_directive.specs.Changes.{words_left}
use Rattle.rb_directive.proofs.change.Inputs.next_word.Given as goal

abbrev pub invariant-loop-line : goal.invariant-loop-line
invariant-loop-line l = words_left l.self l.from l.rest ≡ words_left l.self l.line l.left
