use Rattle.rb_replay.proofs.NearLaws.{before-rising}
use Rattle.rb_replay.proofs.MemberLaws.{members}
use Rattle.rb_replay.proofs.laws.points_are_members.Goals as goal

pub returns-clause-ascending : goal.returns-clause-ascending
returns-clause-ascending c = before-rising

pub returns-clause-members : goal.returns-clause-members
returns-clause-members c = members
