use Rattle.std.proofs.Common.{◌∙◌, length, ap}
use Rattle.rb_script.specs.Directive.{PlainDirective}
use Rattle.rb_script.proofs.GrammarLaws.{inputs_are}
use Rattle.rb_script_report.proofs.splice.inputs_of.Goals as goal

pub returns : goal.returns
returns c = c.inputs.ensures ∙ ap (λ (d : PlainDirective). length d.inputs) c.directive.ensures.whole ∙ ap length (inputs_are c.args.block.now)
