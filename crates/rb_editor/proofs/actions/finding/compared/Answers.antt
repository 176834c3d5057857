use Rattle.std.proofs.Common.{◌∙◌}
use Rattle.rb_editor.proofs.ComparisonLaws.{cells_taken}
use Rattle.rb_editor.proofs.actions.finding.compared.Goals as goal

pub returns-clause-made : goal.returns-clause-made
returns-clause-made c = record {
  text = c.in_ok-text.ensures.message;
  cells = c.saturating_sub.ensures ∙ cells_taken c.args.table.now.left _ c.args.expected.now c.args.output.now c.in_ok-text.ensures.left;
}
