use Rattle.rb_check.proofs.XmlLaws.{texts_apart, values_apart, texts_quiet}
use Rattle.rb_check.proofs.laws.suites_hold_texts.Goals as goal

pub returns-clause-text : goal.returns-clause-text
returns-clause-text c = texts_apart

pub returns-clause-value : goal.returns-clause-value
returns-clause-value c = values_apart

pub returns-clause-quiet : goal.returns-clause-quiet
returns-clause-quiet c = texts_quiet
