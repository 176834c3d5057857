use Rattle.std.proofs.Common.{◌∙◌, ℕ, ◌+◌, List, drop, ap, sym, arith}
use Rattle.rb_editor.specs.declared.offers.part.Part.{Part}
use Rattle.rb_editor.specs.Above.{behind_lines, kept}
use Rattle.rb_editor.proofs.HeadToLaws.{all_lines_seen, one_line_more}
use Rattle.rb_editor.proofs.offers.above.behind_lines.Goals as goal

pub loop-i-preserved : goal.loop-i-preserved
loop-i-preserved c =
    let rest = drop (c.loop-i.i + 1) c.args.lines.now in
    let line = c.line-line.result.now in
    ap (λ (h : List ℕ). behind_lines c.next-part.result h rest) c.in_ok-keep.ensures
    ∙ ap (λ (p : Part). behind_lines p (kept p line c.loop-i.head.items) rest) c.next-part.ensures
    ∙ sym (one_line_more c.loop-i.part c.loop-i.head.items c.args.lines.now c.loop-i.i line c.line-line.ensures)
    ∙ c.loop-i.invariant

pub returns : goal.returns
returns c = sym (all_lines_seen c.loop-i.part c.loop-i.head.items c.args.lines.now c.loop-i.i (omega (arith, c.loop-i-test.false, c.len-i-end.ensures))) ∙ c.loop-i.invariant
