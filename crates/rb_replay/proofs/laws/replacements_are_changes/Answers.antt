use Rattle.rb_replay.proofs.ReplacementLaws.{splice-change, splice-once, replacement-cost-one}
use Rattle.rb_replay.proofs.laws.replacements_are_changes.Goals as goal

pub returns-clause-change : goal.returns-clause-change
returns-clause-change c = splice-change

pub returns-clause-once : goal.returns-clause-once
returns-clause-once c = splice-once

pub returns-clause-cost : goal.returns-clause-cost
returns-clause-cost c = replacement-cost-one
