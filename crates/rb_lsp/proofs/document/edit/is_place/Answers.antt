use Rattle.std.proofs.Common.{sym, ◌∙◌}
use Rattle.std.proofs.lemmas.List.{take_rest}
use Rattle.rb_lsp.proofs.EditLaws.{place_beside}
use Rattle.rb_lsp.proofs.document.edit.is_place.Goals as goal

pub returns : goal.returns
returns c =
    (rw take_rest at c.stands_between.ensures)
    ∙ sym (place_beside c.args.at c.byte_before-before.result c.args.text.now c.requires c.byte_before-before.ensures.some c.byte_before-before.ensures.none)
