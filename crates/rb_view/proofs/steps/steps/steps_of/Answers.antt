use Rattle.std.proofs.Common.{◌∙◌, ℕ, ◌∷◌, [], ◌++◌, List, ap, sym}
use Rattle.std.specs.List.{flat_map}
use Rattle.rb_script.specs.Lines.{Line}
use Rattle.rb_view.specs.Kept.{texts_of}
use Rattle.rb_view.specs.PageRoom.{has_room}
use Rattle.rb_view.specs.Steps.{end_row, source_row, step_texts, steps, warning_rows}
use Rattle.rb_view.proofs.PageRoomLaws.{in_none}
use Rattle.rb_view.proofs.StepRoomLaws.{front_full}
use Rattle.rb_view.proofs.steps.steps.steps_of.Goals as goal

pub returns-in_default-clause-room : goal.returns-in_default-clause-room
returns-in_default-clause-room g c =
    let s = c.args.read.script in
    let heads = c.args.read.heads.items in
    let source = texts_of (source_row c.args.bytes.now ∷ []) in
    let rest = texts_of (warning_rows c.args.bytes.now heads s) ++ texts_of (end_row s ∷ []) in
    let began = c.in_ok-keep_source.ensures ∙ ap (λ (t : List Line). t ++ source) c.new-texts.ensures in
    front_full source (flat_map step_texts (steps heads s)) rest
    (ap (λ (t : List Line). has_room (t ++ flat_map step_texts (steps heads s))) (sym began)
    ∙ ap (λ (hs : List ℕ). has_room (c.keep_source.new.texts ++ flat_map step_texts (steps hs s))) (sym c.as_slice-heads.ensures.value) ∙ in_none _ _ _ c.in_default.is c.in_ok-ran.ensures.room)
