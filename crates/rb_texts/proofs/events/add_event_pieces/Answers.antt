use Rattle.std.proofs.Common.{◌++◌, ◌∙◌, ap, sym}
use Rattle.std.proofs.lemmas.List.Folds.{flat_map-map}
use Rattle.std.proofs.lemmas.Result.{on_ok_weaker}
use Rattle.std.specs.List.{flat_map}
use Rattle.rb_texts.specs.EventForms.{plain_piece}
use Rattle.rb_texts.specs.Events.{event_piece_text}
use Rattle.rb_texts.proofs.events.add_event_pieces.Goals as goal

pub returns : goal.returns
returns c =
    let same = sym (flat_map-map event_piece_text plain_piece c.as_slice.result.now) ∙ ap (flat_map event_piece_text) c.as_slice.ensures in
    on_ok_weaker c.add_each.result (λ e. e ∙ ap (λ l. c.args.line.now ++ l) same) c.add_each.ensures
