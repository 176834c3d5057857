use Rattle.std.proofs.Common.{◌∙◌, List, ℕ, ◌+◌, ◌++◌, drop, get_or, ap, sym}
use Rattle.std.specs.Prelude.{codes}
use Rattle.rb_editor.specs.Symbols.{symbol_text}
use Rattle.rb_editor.specs.BlockLines.{counted_lines}
use Rattle.rb_editor.specs.Texts.{listed}
use Rattle.rb_editor.proofs.ListLaws.{no_more, one_more_read}
use Rattle.rb_editor.proofs.offers.symbols.add_all.Goals as goal

pub loop-block-preserved : goal.loop-block-preserved
loop-block-preserved c =
    let text = symbol_text c.args.encoding c.args.text.now in
    let blocks = c.args.blocks.now in
    let i = c.loop-block.block-index in
    ap (λ (l : List ℕ). l ++ listed text (codes ",") (drop (i + 1) blocks)) (c.in_ok-add_symbol.ensures ∙ ap (λ (l : List ℕ). l ++ text (get_or blocks i (counted_lines 0 0 0 0))) c.in_ok-extend_from_slice.ensures.items)
    ∙ one_more_read text c.loop-block.lead.now c.loop-block.out.items blocks i (counted_lines 0 0 0 0) c.loop-block-test.true
    ∙ c.loop-block.invariant

pub returns : goal.returns
returns c =
    let text = symbol_text c.args.encoding c.args.text.now in
    let none = no_more text c.loop-block.lead.now c.args.blocks.now c.loop-block.block-index c.loop-block-test.false in
    c.in_ok-extend_from_slice-2.ensures.items ∙ ap (λ (l : List ℕ). c.loop-block.out.items ++ l) (sym none) ∙ c.loop-block.invariant
