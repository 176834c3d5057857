use Rattle.std.proofs.Common.{◌∙◌, ◌+◌, ◌++◌, ℕ, List, drop, ap, sym, arith, append_assoc, append-nil}
use Rattle.rb_editor.specs.Hovers.{explained, explained_line}
use Rattle.rb_editor.proofs.HoverLaws.{explained_all, explained_more}
use Rattle.rb_editor.proofs.actions.hover.explained.Goals as goal

pub loop-i-preserved : goal.loop-i-preserved
loop-i-preserved c =
    let why = c.args.reasons.now in
    let rest = explained why (c.loop-i.i + 1) (drop (c.loop-i.i + 1) c.args.output.now) in
    ap (λ (l : List ℕ). l ++ rest) c.in_ok-add_explained.ensures
    ∙ append_assoc c.loop-i.out.items (explained_line why c.loop-i.i c.line.result.now) rest
    ∙ ap (λ (l : List ℕ). c.loop-i.out.items ++ l) (sym (explained_more why c.args.output.now c.loop-i.i c.line.result.now c.line.ensures))
    ∙ c.loop-i.invariant

pub returns : goal.returns
returns c =
    sym (append-nil c.loop-i.out.items)
    ∙ ap (λ (l : List ℕ). c.loop-i.out.items ++ l) (sym (explained_all c.args.reasons.now c.args.output.now c.loop-i.i (omega (arith, c.loop-i-test.false, c.len-i-end.ensures))))
    ∙ c.loop-i.invariant
