use Rattle.rb_laws.proofs.RefusalLaws.{leads_ahead, leads_to_hint, leads_back, leads_far, leads_on}
use Rattle.rb_laws.proofs.node.rules.refusals_lead_back.Goals as goal

pub returns-clause-ahead : goal.returns-clause-ahead
returns-clause-ahead c = λ p index hint. leads_ahead p index hint

pub returns-clause-hint : goal.returns-clause-hint
returns-clause-hint c = λ p index hint. leads_to_hint p index hint

pub returns-clause-back : goal.returns-clause-back
returns-clause-back c = λ p index hint. leads_back p index hint

pub returns-clause-far : goal.returns-clause-far
returns-clause-far c = λ p index hint. leads_far p index hint

pub returns-clause-goes_on : goal.returns-clause-goes_on
returns-clause-goes_on c = λ p index hint. leads_on p index hint
