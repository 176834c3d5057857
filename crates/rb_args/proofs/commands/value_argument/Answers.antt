use Rattle.std.proofs.Common.{◌∙◌, ap}
use Rattle.clap.specs.declared.builder.arg.Arg.{Arg}
use Rattle.rb_args.proofs.RuleLaws.{rule_of-value_name}
use Rattle.rb_args.proofs.commands.value_argument.Goals as goal

pub returns-clause-rule : goal.returns-clause-rule
returns-clause-rule c = rule_of-value_name c.new.result _ _ _ c.value_name.ensures c.new.ensures.rule

pub returns-clause-local : goal.returns-clause-local
returns-clause-local c = ap (λ (a : Arg). a.global) c.value_name.ensures ∙ c.new.ensures.optional.1
