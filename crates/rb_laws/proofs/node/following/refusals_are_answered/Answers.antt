use Rattle.rb_laws.proofs.TakingLaws.{append_refused, refusal_hints, conflict_shown}
use Rattle.rb_laws.proofs.node.following.refusals_are_answered.Goals as goal

pub returns-clause-refused : goal.returns-clause-refused
returns-clause-refused c = λ t m append hint is may says. append_refused t m append hint is may says

pub returns-clause-hint : goal.returns-clause-hint
returns-clause-hint c = λ v prev term commit hint es base says. refusal_hints v prev term commit hint es base says

pub returns-clause-conflict : goal.returns-clause-conflict
returns-clause-conflict c = λ t m append index is may says. conflict_shown t m append index is may says
