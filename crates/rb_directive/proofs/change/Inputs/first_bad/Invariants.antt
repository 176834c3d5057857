-- The first bad word stands among those that are left.
use Rattle.std.proofs.Common.{◌≡◌, ◌≤◌, length}
use Rattle.rb_directive.specs.Changes.{words_left, input_words, first_bad}
use Rattle.rb_directive.proofs.change.Inputs.first_bad.Given as goal

abbrev pub invariant-loop-word : goal.invariant-loop-word
invariant-loop-word l = record {
  within : l.from ≤ length l.self;
  left : first_bad (input_words l.self) ≡ first_bad (words_left l.self l.from l.rest);
}

abbrev pub decreases-loop-word : goal.decreases-loop-word
decreases-loop-word l = length (words_left l.self l.from l.rest)
