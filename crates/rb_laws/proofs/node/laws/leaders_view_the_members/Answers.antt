use Rattle.rb_message.specs.declared.role.Role.TheVariants as role
use Rattle.rb_tracker.specs.Configs.{config_of}
use Rattle.rb_laws.proofs.MemberMoveLaws.{no_follower, nobody, called_members, run_members}
use Rattle.rb_laws.proofs.node.laws.leaders_view_the_members.Goals as goal

pub returns-clause-started : goal.returns-clause-started
returns-clause-started c = λ id start options. nobody role.Follower (config_of start.config) no_follower

pub returns-clause-called : goal.returns-clause-called
returns-clause-called c = λ call t. called_members call t

pub returns-clause-run : goal.returns-clause-run
returns-clause-run c = λ cs t. run_members cs t
