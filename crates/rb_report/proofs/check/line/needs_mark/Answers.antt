use Rattle.std.proofs.Common.{◌∙◌}
use Rattle.rb_report.proofs.ShownLaws.{needs_mark-blank, needs_mark-other}
use Rattle.rb_report.proofs.check.line.needs_mark.Goals as goal

pub returns-then-is_space : goal.returns-then-is_space
returns-then-is_space c = needs_mark-blank c.args.line.now c.in-Some._front.now c.in-Some.last.now c.is_space.result c.in-Some.ensures.cases.0 c.is_space.ensures c.if-is_space.true

pub returns-else-is_space : goal.returns-else-is_space
returns-else-is_space c = c.is_mark.ensures ∙ needs_mark-other c.args.line.now c.in-Some._front.now c.in-Some.last.now c.is_space.result c.in-Some.ensures.cases.0 c.is_space.ensures c.if-is_space.false
