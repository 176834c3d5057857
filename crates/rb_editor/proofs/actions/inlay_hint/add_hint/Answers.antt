use Rattle.std.proofs.Common.{◌∙◌, ◌++◌, ap}
use Rattle.std.specs.Prelude.{codes}
use Rattle.rb_lsp.specs.declared.document.position.Position.{Position}
use Rattle.rb_editor.specs.Hints.{hint_text, label_text}
use Rattle.rb_editor.specs.Texts.{position_text}
use Rattle.rb_editor.proofs.HintLaws.{five_written}
use Rattle.rb_editor.proofs.actions.inlay_hint.add_hint.Goals as goal

pub returns : goal.returns
unfolding hint_text
returns c =
    five_written c.args.out.now.items (codes "{\"position\":") (position_text c.hint_place.result) (codes ",\"label\":\"") (label_text c.args.hint.leadership) (codes "\",\"paddingLeft\":true}") c.extend_from_slice.new.self.items
    c.add_position.new.out.items c.extend_from_slice-2.new.self.items c.add_label.new.out.items c.extend_from_slice-3.new.self.items c.in_ok-extend_from_slice.ensures.items c.in_ok-add_position.ensures c.in_ok-extend_from_slice-2.ensures.items
    c.in_ok-add_label.ensures c.in_ok-extend_from_slice-3.ensures.items
    ∙ ap (λ (p : Position). c.args.out.now.items ++ (codes "{\"position\":" ++ (position_text p ++ (codes ",\"label\":\"" ++ (label_text c.args.hint.leadership ++ codes "\",\"paddingLeft\":true}"))))) c.hint_place.ensures
