use Rattle.std.proofs.Common.{◌++◌, ◌∙◌, ap, decimal}
use Rattle.std.proofs.lemmas.Result.{on_ok_weaker}
use Rattle.std.specs.List.{flat_map}
use Rattle.rb_texts.specs.EventForms.{PlainForm, event_form}
use Rattle.rb_texts.specs.Events.{level_text, event_piece_text, event_text}
use Rattle.rb_texts.proofs.PieceLaws.{added_twice}
use Rattle.rb_texts.proofs.events.add_event.Goals as goal

pub returns : goal.returns
unfolding event_text
returns c =
    let form = event_form c.args.event.now in
    let said = flat_map event_piece_text form.pieces in
    let level = c.in_ok-add_bytes.ensures ∙ ap (λ l. c.args.line.now ++ l) (c.level_name.ensures ∙ ap (λ (f : PlainForm). level_text f.level) c.event_form-form.ensures) in
    on_ok_weaker c.add_event_pieces.result
    (λ e. added_twice c.args.line.now c.add_bytes.new.line c.add_event_pieces.new.line _ (decimal c.args.event.now.id ++ said) level
    (added_twice c.add_bytes.new.line c.add_number.new.line c.add_event_pieces.new.line _ said c.in_ok-add_number.ensures
    (e ∙ ap (λ (f : PlainForm). c.add_number.new.line ++ flat_map event_piece_text f.pieces) c.event_form-form.ensures)))
    c.add_event_pieces.ensures
