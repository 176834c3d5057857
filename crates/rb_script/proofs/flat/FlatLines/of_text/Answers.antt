use Rattle.std.proofs.Common.{sym, ◌∙◌}
use Rattle.rb_script.specs.Lines.{lines}
use Rattle.rb_script.proofs.FlatLaws.{from_lines}
use Rattle.rb_script.proofs.flat.FlatLines.of_text.Goals as goal

pub invariant_of-result : goal.invariant_of-result
invariant_of-result c =
    (from_lines c.from_vec.result.items c.in_ok-of.field-0 (lines c.args.bytes.now) (c.from_vec.ensures.items ∙ c.in_ok-ends.ensures) (c.in_ok-of.ensures ∙ sym c.requires)).0

pub returns : goal.returns
returns c =
    (from_lines c.from_vec.result.items c.in_ok-of.field-0 (lines c.args.bytes.now) (c.from_vec.ensures.items ∙ c.in_ok-ends.ensures) (c.in_ok-of.ensures ∙ sym c.requires)).1
