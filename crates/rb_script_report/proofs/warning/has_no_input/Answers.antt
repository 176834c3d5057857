use Rattle.std.proofs.Common.{◌∙◌, length, ap}
use Rattle.rb_script.specs.Directive.{PlainDirective}
use Rattle.rb_script_report.proofs.DoubtLaws.{input_count}
use Rattle.rb_script_report.proofs.warning.has_no_input.Goals as goal

pub returns : goal.returns
returns c = input_count c.args.block.now c.inputs.result (c.inputs.ensures ∙ ap (λ (d : PlainDirective). length d.inputs) c.directive.ensures.whole)
