use Rattle.std.proofs.Common.{[], ◌∷◌, ◌++◌}
use Rattle.std.specs.Prelude.{codes}
use Rattle.rb_view.specs.Kept.{line_rows}
use Rattle.rb_view.specs.Rows.{number, row}
use Rattle.rb_view.specs.Steps.{mismatch_rows}
use Rattle.rb_view.proofs.KeepLaws.{two_parts}
use Rattle.rb_view.proofs.steps.script.keep_script.Goals as goal

pub returns-clause-texts : goal.returns-clause-texts
returns-clause-texts c =
    let rest = mismatch_rows c.args.table.now.left c.args.expected.now c.args.output.now in
    let printed = line_rows (codes "output") c.args.output.now in
    two_parts c.args.texts.now c.keep_row.new.texts c.keep_mismatch.new.texts (row (codes "step") (number c.args.line ∷ []) ∷ []) (printed ++ rest) c.in_ok-keep_row.ensures
    (two_parts c.keep_row.new.texts c.keep_lines.new.texts c.keep_mismatch.new.texts printed rest c.in_ok-keep_lines.ensures c.in_ok-keep_mismatch.ensures.texts)
