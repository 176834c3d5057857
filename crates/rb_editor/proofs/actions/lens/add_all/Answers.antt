use Rattle.std.proofs.Common.{◌∙◌, ℕ, ◌+◌, List, ◌++◌, drop, ap, sym}
use Rattle.std.specs.Prelude.{codes}
use Rattle.rb_editor.specs.Lenses.{lens_text}
use Rattle.rb_editor.specs.Texts.{listed}
use Rattle.rb_editor.proofs.ListLaws.{no_more, one_more}
use Rattle.rb_editor.proofs.actions.lens.add_all.Goals as goal

pub loop-lens-preserved : goal.loop-lens-preserved
loop-lens-preserved c =
    let text = lens_text c.args.document.encoding c.args.document.uri.now c.args.document.text.now in
    let ls = c.args.list.now in
    let i = c.loop-lens.lens-index in
    let x = c.lens-item.result in
    let rest = listed text (codes ",") (drop (i + 1) ls) in
    ap (λ (l : List ℕ). l ++ rest) (c.in_ok-add_lens.ensures ∙ ap (λ (l : List ℕ). l ++ text x) c.in_ok-extend_from_slice.ensures.items)
    ∙ one_more text c.loop-lens.lead.now c.loop-lens.out.items ls i x c.loop-lens-test.true c.lens-item.is
    ∙ c.loop-lens.invariant

pub returns : goal.returns
returns c =
    let text = lens_text c.args.document.encoding c.args.document.uri.now c.args.document.text.now in
    let none = no_more text c.loop-lens.lead.now c.args.list.now c.loop-lens.lens-index c.loop-lens-test.false in
    c.in_ok-extend_from_slice-2.ensures.items ∙ ap (λ (l : List ℕ). c.loop-lens.out.items ++ l) (sym none) ∙ c.loop-lens.invariant
