use Rattle.std.proofs.Common.{List, refl}
use Rattle.rb_script.specs.Lines.{Line}
use Rattle.rb_view.specs.Kept.{line_rows, texts_of}
use Rattle.rb_view.proofs.KeptLaws.{one_more}
use Rattle.rb_view.proofs.rows.kept.keep_lines.Goals as goal

pub loop-i-preserved : goal.loop-i-preserved
loop-i-preserved c =
    one_more (λ (ls : List Line). texts_of (line_rows c.args.name.now ls)) c.args.lines.now c.loop-i.i c.line.result.now _ c.loop-i.texts c.keep_row.new.texts _ refl c.line.ensures
    c.in_ok-keep_row.ensures c.loop-i.invariant
