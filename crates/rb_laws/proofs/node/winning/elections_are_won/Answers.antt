use Rattle.rb_laws.proofs.WinLaws.{campaign_stands, vote_is_given, election_is_won}
use Rattle.rb_laws.proofs.node.winning.elections_are_won.Goals as goal

pub returns-clause-stands : goal.returns-clause-stands
returns-clause-stands c = campaign_stands

pub returns-clause-given : goal.returns-clause-given
returns-clause-given c = vote_is_given

pub returns-clause-won : goal.returns-clause-won
returns-clause-won c = λ t ids stands quorum. election_is_won t ids stands quorum
