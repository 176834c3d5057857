use Rattle.std.proofs.Common.{◌++◌, rules}
use Rattle.rb_script.specs.Writes.{Writes}
use Rattle.rb_report.specs.declared.check.colors.Colors.TheVariants.{On}
use Rattle.rb_report.specs.Highlights.{Parts, highlighted_text}
use Rattle.rb_report.specs.Steps.{step_text, step_beside}
use Rattle.rb_text.proofs.SentLaws.{writes_along}
use Rattle.rb_report.proofs.HighlightLaws.{beside-plain, beside-highlighted}
use Rattle.rb_report.proofs.check.highlight.put_beside.Goals as goal

pub returns-then-differs-line-clause-wrote : goal.returns-then-differs-line-clause-wrote
returns-then-differs-line-clause-wrote g c =
    let line = c.args.line.now in
    let other = c.args.other.now in
    let p : Parts = record { front = c.parts_beside.result.0.now; differs = c.parts_beside.result.1.now; back = c.parts_beside.result.2.now } in
    writes_along c.put_line.result (g.S.Sink.held c.args.sink.now) (g.S.Sink.held c.put_line.new.sink) (step_text On c.args.side c.args.delivered line) (step_beside c.args.side c.args.delivered line other)
    (beside-plain c.args.side c.args.delivered line other p c.parts_beside.ensures c.if-differs-line.true) c.put_line.ensures.wrote

pub returns-clause-wrote : goal.returns-clause-wrote
returns-clause-wrote g c =
    let line = c.args.line.now in
    let other = c.args.other.now in
    let gap = c.gap_above.result.now in
    let indent = c.indent_of.result.now in
    let mark = c.end_mark.result.now in
    let p : Parts = record { front = c.parts_beside.result.0.now; differs = c.parts_beside.result.1.now; back = c.parts_beside.result.2.now } in
    let wrote : Writes c.put_pieces.result (g.S.Sink.held c.args.sink.now) (g.S.Sink.held c.put_pieces.new.sink) (gap ++ highlighted_text c.args.side indent p mark) = search rules in
    writes_along _ _ _ _ _ (beside-highlighted c.args.side c.args.delivered line other p gap indent mark c.parts_beside.ensures c.if-differs-line.false c.gap_above.ensures c.indent_of.ensures c.end_mark.ensures) wrote
