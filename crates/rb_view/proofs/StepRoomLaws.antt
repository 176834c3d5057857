-- Whether a page has room for the steps of a run.
use Rattle.std.proofs.Common.{◌≡◌, ◌∙◌, ℕ, ◌+◌, false, List, ◌∷◌, [], ◌++◌, drop, Some, refl, ap, sym, append_assoc}
use Rattle.std.specs.Prelude.{slice_get}
use Rattle.std.specs.List.{flat_map}
use Rattle.rb_script.specs.Lines.{Line}
use Rattle.rb_script.specs.Script.{PlainBlock}
use Rattle.rb_script.specs.Reading.{directive_of}
use Rattle.rb_machine.specs.Cluster.{Cluster}
use Rattle.rb_machine.specs.Outcome.{execution, outcome}
use Rattle.rb_view.specs.Kept.{texts_of}
use Rattle.rb_view.specs.PageRoom.{has_room}
use Rattle.rb_view.specs.Steps.{changes_left, done_texts, hints, left_next, script_rows, step, step_texts, steps_from}
use Rattle.rb_view.specs.Watching.{observed_texts}
use Rattle.rb_view.proofs.PageRoomLaws.{full_after, full_step}
use Rattle.rb_view.proofs.StepLaws.{steps_more}

-- what a directive does has no room
pub step_full : (texts : List Line) (left line : ℕ) (c : Cluster) (b : PlainBlock) → has_room (done_texts c (directive_of b)) ≡ false → has_room (texts ++ step_texts (step left line c b)) ≡ false
step_full texts left line c b full =
    let s = step left line c b in
    let d = directive_of b in
    full_step texts (texts_of (script_rows left line b.expected s.output)) (observed_texts c.nodes (execution c d).observed) (texts_of (changes_left c d)) (texts_of (hints s)) full

-- one step has no room
pub steps_full : (texts : List Line) (left : ℕ) (heads : List ℕ) (bs : List PlainBlock) (i line : ℕ) (b : PlainBlock) (c : Cluster) → slice_get heads i ≡ Some line → slice_get bs i ≡ Some b
    → has_room (texts ++ step_texts (step left line c b)) ≡ false → has_room (texts ++ flat_map step_texts (steps_from left (drop i heads) c (drop i bs))) ≡ false
steps_full texts left heads bs i line b c head block full =
    let here = step_texts (step left line c b) in
    let next = left_next left b.expected (outcome c (directive_of b)).output in
    let rest = flat_map step_texts (steps_from next (drop (i + 1) heads) (outcome c (directive_of b)).cluster (drop (i + 1) bs)) in
    ap (λ (ts : List Line). has_room (texts ++ ts)) (steps_more left next heads bs i line b c (outcome c (directive_of b)).cluster head block refl refl)
    ∙ ap has_room (sym (append_assoc texts here rest)) ∙ full_after (texts ++ here) rest full

-- the first part of what is written has no room
pub front_full : (source all rest : List Line) → has_room (source ++ all) ≡ false → has_room (source ++ (all ++ rest)) ≡ false
front_full source all rest full = ap has_room (sym (append_assoc source all rest)) ∙ full_after (source ++ all) rest full
