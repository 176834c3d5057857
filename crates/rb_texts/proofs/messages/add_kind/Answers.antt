use Rattle.std.proofs.Common.{◌++◌, ◌∙◌, ap}
use Rattle.std.proofs.lemmas.Result.{on_ok_weaker}
use Rattle.rb_texts.specs.Messages.{field_text, fields_text, kind_text, plain_field}
use Rattle.rb_texts.proofs.FieldLaws.{in_turn}
use Rattle.rb_texts.proofs.messages.add_kind.Goals as goal

pub returns : goal.returns
unfolding kind_text
returns c =
    let shown = in_turn field_text plain_field c.kind_fields.result ∙ ap fields_text c.kind_fields.ensures in
    on_ok_weaker c.add_fields.result (λ e. e ∙ ap (λ l. c.args.line.now ++ l) shown) c.add_fields.ensures
