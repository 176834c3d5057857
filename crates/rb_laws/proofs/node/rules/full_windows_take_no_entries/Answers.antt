use Rattle.rb_laws.proofs.WindowLaws.{full_window_sends, sending_adds, answers_free, old_answers_free}
use Rattle.rb_laws.proofs.node.rules.full_windows_take_no_entries.Goals as goal

pub returns-clause-full : goal.returns-clause-full
returns-clause-full c = λ n to at how view. full_window_sends n to at how view

pub returns-clause-sent : goal.returns-clause-sent
returns-clause-sent c = λ p i. sending_adds p i

pub returns-clause-acked : goal.returns-clause-acked
returns-clause-acked c = λ p index i. answers_free p index i

pub returns-clause-freed : goal.returns-clause-freed
returns-clause-freed c = λ p index i. old_answers_free p index i
