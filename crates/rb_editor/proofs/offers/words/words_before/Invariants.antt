-- The words so far, and those that are left.
use Rattle.std.proofs.Common.{◌≡◌, ◌≤◌, ◌+◌, ◌-◌}
use Rattle.rb_script.specs.declared.limits.TheConstants.{MAX_ARGUMENTS}
use Rattle.rb_editor.specs.Words.{words_before}
use Rattle.rb_editor.proofs.offers.words.words_before.Given as goal

abbrev pub invariant-loop : goal.invariant-loop
invariant-loop l = record {
  same : l.words + words_before (MAX_ARGUMENTS - l.counter) l.left ≡ words_before MAX_ARGUMENTS l.bytes;
  few : l.words ≤ l.counter;
}
