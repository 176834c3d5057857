use Rattle.std.proofs.Common.{◌∙◌, ap}
use Rattle.clap.specs.declared.builder.arg.Arg.{Arg}
use Rattle.rb_args.proofs.RuleLaws.{rule_of-help, rule_of-hide, rule_of-long}
use Rattle.rb_args.proofs.commands.option_argument.Goals as goal

pub returns-clause-rule : goal.returns-clause-rule
returns-clause-rule c = rule_of-hide c.help.result _ _ _ c.hide.ensures (rule_of-help c.long.result _ _ _ c.help.ensures (rule_of-long c.value_argument.result _ _ _ c.long.ensures c.value_argument.ensures.rule))

pub returns-clause-local : goal.returns-clause-local
returns-clause-local c = ap (λ (a : Arg). a.global) c.hide.ensures ∙ (ap (λ (a : Arg). a.global) c.help.ensures ∙ (ap (λ (a : Arg). a.global) c.long.ensures ∙ c.value_argument.ensures.local))
