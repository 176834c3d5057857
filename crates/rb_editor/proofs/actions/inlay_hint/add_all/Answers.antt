use Rattle.std.proofs.Common.{◌∙◌, ℕ, ◌+◌, List, ◌++◌, drop, get_or, ap, sym}
use Rattle.std.specs.Prelude.{codes}
use Rattle.rb_editor.specs.declared.actions.inlay_hint.InlayHint.{InlayHint}
use Rattle.rb_editor.specs.Hints.{NOBODY, hint_text}
use Rattle.rb_editor.specs.Texts.{listed}
use Rattle.rb_editor.proofs.ListLaws.{no_more, one_more_read}
use Rattle.rb_editor.proofs.actions.inlay_hint.add_all.Goals as goal

abbrev none : InlayHint
none = record { line = 0; column = 0; leadership = NOBODY }

pub loop-hint-preserved : goal.loop-hint-preserved
loop-hint-preserved c =
    let text = hint_text c.args.encoding c.args.text.now in
    let hs = c.args.list.now in
    let i = c.loop-hint.hint-index in
    let rest = listed text (codes ",") (drop (i + 1) hs) in
    ap (λ (l : List ℕ). l ++ rest) (c.in_ok-add_hint.ensures ∙ ap (λ (l : List ℕ). l ++ text (get_or hs i none)) c.in_ok-extend_from_slice.ensures.items)
    ∙ one_more_read text c.loop-hint.lead.now c.loop-hint.out.items hs i none c.loop-hint-test.true
    ∙ c.loop-hint.invariant

pub returns : goal.returns
returns c =
    let text = hint_text c.args.encoding c.args.text.now in
    let left = no_more text c.loop-hint.lead.now c.args.list.now c.loop-hint.hint-index c.loop-hint-test.false in
    c.in_ok-extend_from_slice-2.ensures.items ∙ ap (λ (l : List ℕ). c.loop-hint.out.items ++ l) (sym left) ∙ c.loop-hint.invariant
