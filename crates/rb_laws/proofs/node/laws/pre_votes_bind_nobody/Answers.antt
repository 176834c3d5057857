use Rattle.rb_laws.proofs.PreVoteLaws.{pre_campaign, pre_answer}
use Rattle.rb_laws.proofs.node.laws.pre_votes_bind_nobody.Goals as goal

pub returns-clause-campaign : goal.returns-clause-campaign
returns-clause-campaign c = pre_campaign

pub returns-clause-answer : goal.returns-clause-answer
returns-clause-answer c = pre_answer
