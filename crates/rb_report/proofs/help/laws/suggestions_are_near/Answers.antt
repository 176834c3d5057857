use Rattle.rb_report.proofs.NearLaws.{nearest_among, nearest_near, nearest_keeps}
use Rattle.rb_report.proofs.help.laws.suggestions_are_near.Goals as goal

pub returns-clause-among : goal.returns-clause-among
returns-clause-among c = nearest_among

pub returns-clause-near : goal.returns-clause-near
returns-clause-near c = nearest_near

pub returns-clause-kept : goal.returns-clause-kept
returns-clause-kept c = nearest_keeps
