use Rattle.rb_script.proofs.GrammarLaws.{valid_derived, only_derived, inputs_are}
use Rattle.rb_script.proofs.laws.directive_is_derived.Goals as goal

pub returns-clause-derived : goal.returns-clause-derived
returns-clause-derived c = valid_derived

pub returns-clause-only : goal.returns-clause-only
returns-clause-only c = only_derived

pub returns-clause-inputs : goal.returns-clause-inputs
returns-clause-inputs c = inputs_are
