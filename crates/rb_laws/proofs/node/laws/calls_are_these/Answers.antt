use Rattle.std.proofs.Common.{refl}
use Rattle.rb_calls.proofs.CallLaws.{compacted_is, compacted_already, compacted_past, compacted_without_memory}
use Rattle.rb_laws.proofs.node.laws.calls_are_these.Goals as goal

pub returns-clause-compacted : goal.returns-clause-compacted
returns-clause-compacted c = compacted_is

pub returns-clause-already : goal.returns-clause-already
returns-clause-already c = compacted_already

pub returns-clause-past : goal.returns-clause-past
returns-clause-past c = compacted_past

pub returns-clause-memory : goal.returns-clause-memory
returns-clause-memory c = compacted_without_memory

pub returns-clause-step : goal.returns-clause-step
returns-clause-step c = λ t m. refl

pub returns-clause-campaign : goal.returns-clause-campaign
returns-clause-campaign c = λ t. refl

pub returns-clause-propose : goal.returns-clause-propose
returns-clause-propose c = λ t bytes. refl

pub returns-clause-change : goal.returns-clause-change
returns-clause-change c = λ t transition words. refl

pub returns-clause-transfer : goal.returns-clause-transfer
returns-clause-transfer c = λ t to. refl

pub returns-clause-tick : goal.returns-clause-tick
returns-clause-tick c = λ t. refl

pub returns-clause-advance : goal.returns-clause-advance
returns-clause-advance c = λ t. refl

pub returns-clause-forget : goal.returns-clause-forget
returns-clause-forget c = λ t. refl

pub returns-clause-report : goal.returns-clause-report
returns-clause-report c = λ t id. refl

pub returns-clause-timeout : goal.returns-clause-timeout
returns-clause-timeout c = λ t ticks. refl
