use Rattle.std.proofs.Common.{◌∙◌, List, ap}
use Rattle.std.specs.List.{flat_map}
use Rattle.rb_text.proofs.SentLaws.{writes_along}
use Rattle.rb_texts.specs.declared.fields.MessageField.{MessageField}
use Rattle.rb_texts.specs.Messages.{plain_field}
use Rattle.rb_texts.proofs.FieldLaws.{in_turn}
use Rattle.rb_view.specs.MessageRows.{field_cells, said}
use Rattle.rb_view.specs.Rows.{PlainCell, cell_text}
use Rattle.rb_view.proofs.rows.message.put_kind.Goals as goal

pub returns-clause-wrote : goal.returns-clause-wrote
unfolding said
returns-clause-wrote g c =
    let fields = c.kind_fields.result in
    let cells = in_turn field_cells plain_field fields ∙ ap (flat_map field_cells) c.kind_fields.ensures in
    writes_along _ _ _ _ _ (in_turn cell_text (λ (f : MessageField). flat_map field_cells (plain_field f)) fields ∙ ap (λ (l : List PlainCell). flat_map cell_text l) cells) c.put_fields.ensures.wrote
