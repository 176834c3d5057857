use Rattle.std.proofs.Common.{◌∙◌, ◌++◌, ap}
use Rattle.rb_texts.specs.declared.fields.MessageField.{MessageField}
use Rattle.rb_texts.specs.Messages.{fields_text, plain_field}
use Rattle.rb_texts.proofs.PieceLaws.{added_more}
use Rattle.rb_texts.proofs.fields.add_fields.Goals as goal

pub loop-field-preserved : goal.loop-field-preserved
loop-field-preserved c =
    let added = c.in_ok-add_one.ensures ∙ ap (λ (f : MessageField). c.loop-field.line ++ fields_text (plain_field f)) c.field-item.is in
    added_more (λ (f : MessageField). fields_text (plain_field f)) c.args.fields.now c.loop-field.field-index c.field-item.result c.args.line.now c.loop-field.line c.add_one.new.line
    c.loop-field-test.true c.loop-field.invariant added
