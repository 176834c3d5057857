use Rattle.std.proofs.Common.{refl}
use Rattle.rb_laws.proofs.CampaignLaws.{tick_counts, timeout_passes, silence_passes}
use Rattle.rb_laws.proofs.node.timing.silence_ends_in_a_campaign.Goals as goal

pub returns-clause-counts : goal.returns-clause-counts
returns-clause-counts c = λ t. tick_counts t

pub returns-clause-passes : goal.returns-clause-passes
returns-clause-passes c = λ t. timeout_passes t

pub returns-clause-silence : goal.returns-clause-silence
returns-clause-silence c = λ n t. silence_passes n t

pub returns-clause-set : goal.returns-clause-set
returns-clause-set c = λ t k. refl
