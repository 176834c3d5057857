use Rattle.std.proofs.Common.{◌≡◌, ◌∙◌, false, sym}
use Rattle.rb_replay.specs.Report.{same_lines}
use Rattle.rb_report.proofs.CellLaws.{always, then_is}
use Rattle.rb_view.proofs.StretchRowLaws.{leaves, mismatch_kept}
use Rattle.rb_view.proofs.steps.script.keep_mismatch.Goals as goal

pub returns-clause-texts : goal.returns-clause-texts
returns-clause-texts c =
    let es = c.args.expected.now in
    let os = c.args.output.now in
    let other : same_lines es os ≡ false = sym c.is_same.ensures ∙ c.if-is_same.false in
    then_is c.keep_texts.result c.keep_texts.new.texts _ _ c.keep_texts.ensures
    (mismatch_kept c.args.table.now.left es os c.args.texts.now c.keep_row.new.texts c.new-stretches.result.texts c.show_diff.new.observer.texts other c.in_ok-keep_row.ensures c.new-stretches.ensures c.in_ok-show_diff.ensures.shown)

pub returns-clause-left : goal.returns-clause-left
returns-clause-left c =
    let es = c.args.expected.now in
    let os = c.args.output.now in
    let other : same_lines es os ≡ false = sym c.is_same.ensures ∙ c.if-is_same.false in
    always c.keep_texts.result (c.in_ok-show_diff.ensures.left ∙ leaves c.args.table.now.left es os other)
