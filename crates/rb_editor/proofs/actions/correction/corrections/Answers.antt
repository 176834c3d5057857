use Rattle.std.proofs.Common.{◌≡◌, ◌∙◌, ℕ, List, length, ap, sym, subst, arith}
use Rattle.std.specs.Prelude.{slice_get, Some}
use Rattle.rb_editor.specs.Heads.{heads_of}
use Rattle.rb_editor.proofs.CorrectionLaws.{correction_found, correction_next, correction_none}
use Rattle.rb_editor.proofs.FindingLaws.{stands_by}
use Rattle.rb_editor.proofs.actions.correction.corrections.Goals as goal

pub correction-requires-clause-stands : goal.correction-requires-clause-stands
correction-requires-clause-stands g c =
    stands_by c.args.layout.now.script.text c.args.session.now.script.blocks c.args.layout.now.script.heads.items c.as_slice.result.now c.loop-i.i c.number_at-line.result c.block_at-block.result.now c.requires.layout.heads c.as_slice.ensures.value
    c.number_at-line.ensures c.block_at-block.ensures

pub returns-then-not-is_empty : goal.returns-then-not-is_empty
returns-then-not-is_empty g c =
    sym c.as_slice-made.ensures.value
    ∙ correction_found c.args.document.encoding c.args.document.uri.now c.args.document.text.now c.args.span (heads_of c.args.document.text.now c.args.session.now.script) c.args.session.now.script.blocks
    c.loop-i.i c.number_at-line.result c.block_at-block.result.now c.as_slice-made.result.now _
    (subst (λ (ns : List ℕ). slice_get ns c.loop-i.i ≡ Some c.number_at-line.result) (c.as_slice.ensures.value ∙ c.requires.layout.heads_are) c.number_at-line.ensures)
    c.block_at-block.ensures (c.as_slice-made.ensures.value ∙ c.in_ok-text.ensures) (sym c.is_empty.ensures ∙ c.if-not-is_empty.true) c.loop-i.invariant

pub loop-i-preserved : goal.loop-i-preserved
loop-i-preserved g c =
    correction_next c.args.document.encoding c.args.document.uri.now c.args.document.text.now c.args.span (heads_of c.args.document.text.now c.args.session.now.script) c.args.session.now.script.blocks
    c.loop-i.i c.number_at-line.result c.block_at-block.result.now c.as_slice-made.result.now _
    (subst (λ (ns : List ℕ). slice_get ns c.loop-i.i ≡ Some c.number_at-line.result) (c.as_slice.ensures.value ∙ c.requires.layout.heads_are) c.number_at-line.ensures)
    c.block_at-block.ensures (c.as_slice-made.ensures.value ∙ c.in_ok-text.ensures) (sym c.is_empty.ensures ∙ c.if-not-is_empty.false) c.loop-i.invariant

pub returns : goal.returns
returns g c =
    let len : length (heads_of c.args.document.text.now c.args.session.now.script) ≡ length c.args.session.now.script.blocks =
    ap (λ (ns : List ℕ). length ns) (sym c.requires.layout.heads_are) ∙ c.requires.layout.count in
    c.new.ensures.items ∙ sym (correction_none c.args.document.encoding c.args.document.uri.now c.args.document.text.now c.args.span (heads_of c.args.document.text.now c.args.session.now.script) c.args.session.now.script.blocks
    c.loop-i.i (omega (arith, c.loop-i-test.false, c.len-i-end.ensures.len, len))) ∙ c.loop-i.invariant
