use Rattle.std.proofs.Common.{None, append-nil, sym}
use Rattle.rb_check.specs.declared.report_state.ReportForm.{ReportForm}
use Rattle.rb_check.specs.Asking.{echo_of}
use Rattle.rb_check.proofs.ShownLaws.{along, goes_on}
use Rattle.rb_check.proofs.person.TerminalPersonPerson.ask.Goals as goal

pub returns-then-not-say-clause-shown : goal.returns-then-not-say-clause-shown
returns-then-not-say-clause-shown g c = (None, along (sym (append-nil c.args.question.now)) c.say.ensures.shown)

pub returns-then-self-clause-shown : goal.returns-then-self-clause-shown
returns-then-self-clause-shown g c = let heard = c.hear_key.ensures.shown in (heard.0, goes_on (λ (f : ReportForm). echo_of heard.0) c.say.ensures.shown heard.1)

pub returns-else-self-clause-shown : goal.returns-else-self-clause-shown
returns-else-self-clause-shown g c = (None, along (sym (append-nil c.args.question.now)) c.say.ensures.shown)
