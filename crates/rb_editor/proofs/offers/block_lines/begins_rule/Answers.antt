use Rattle.std.proofs.Common.{◌∙◌, sym}
use Rattle.rb_editor.proofs.BlockLaws.{rule_at}
use Rattle.rb_editor.proofs.offers.block_lines.begins_rule.Goals as goal

pub returns-then-below-len : goal.returns-then-below-len
returns-then-below-len c = c.is_rule.ensures ∙ sym (rule_at c.args.text.now c.args.below c.line.result.now c.line.ensures)
