use Rattle.std.proofs.Common.{refl}
use Rattle.rb_vocab.specs.Levels.{level_of}
use Rattle.rb_vocab.specs.MessageTypes.{type_of}
use Rattle.rb_directive.specs.Forms.{flag_of, transition_of}
use Rattle.rb_report.proofs.help.laws.choices_are_taken.Goals as goal

pub returns-clause-levels : goal.returns-clause-levels
unfolding level_of
returns-clause-levels c = refl

pub returns-clause-flags : goal.returns-clause-flags
unfolding flag_of
returns-clause-flags c = refl

pub returns-clause-transitions : goal.returns-clause-transitions
unfolding transition_of
returns-clause-transitions c = refl

pub returns-clause-types : goal.returns-clause-types
unfolding type_of
returns-clause-types c = refl
