use Rattle.std.proofs.Common.{◌∙◌, ap}
use Rattle.clap.specs.declared.builder.arg.Arg.{Arg}
use Rattle.rb_args.proofs.RuleLaws.{rule_of-action, rule_of-help, rule_of-long}
use Rattle.rb_args.proofs.commands.flag_argument.Goals as goal

pub returns-clause-rule : goal.returns-clause-rule
returns-clause-rule c =
    rule_of-help c.action.result _ _ _ c.help.ensures
    (rule_of-action c.long.result _ _ _ c.action.ensures (rule_of-long c.new.result _ _ _ c.long.ensures c.new.ensures.rule))

pub returns-clause-local : goal.returns-clause-local
returns-clause-local c = ap (λ (a : Arg). a.global) c.help.ensures ∙ (ap (λ (a : Arg). a.global) c.action.ensures ∙ (ap (λ (a : Arg). a.global) c.long.ensures ∙ c.new.ensures.optional.1))
