-- The fields so far joined the line.
use Rattle.std.proofs.Common.{◌≡◌, ◌++◌, take}
use Rattle.std.specs.List.{flat_map}
use Rattle.rb_texts.specs.Messages.{fields_text, plain_field}
use Rattle.rb_texts.proofs.fields.add_fields.Given as goal

abbrev pub invariant-loop-field : goal.invariant-loop-field
invariant-loop-field l = l.line ≡ l.initial.line ++ flat_map (λ f. fields_text (plain_field f)) (take l.field-index l.fields)
