-- The first word is that of what is left.
use Rattle.std.proofs.Common.{◌≡◌, ◌-◌}
use Rattle.rb_script.specs.declared.limits.TheConstants.{MAX_ARGUMENTS}
use Rattle.rb_editor.specs.Words.{first_word}
use Rattle.rb_editor.proofs.offers.words.first_word.Given as goal

abbrev pub invariant-loop : goal.invariant-loop
invariant-loop l = first_word (MAX_ARGUMENTS - l.counter) l.left ≡ first_word MAX_ARGUMENTS l.bytes
