use Rattle.std.proofs.Common.{◌≡◌, ◌∙◌, ◌++◌, List, ap, refl, sym}
use Rattle.rb_script.specs.Lines.{Line}
use Rattle.rb_script.specs.Reading.{directive_of}
use Rattle.rb_view.specs.Kept.{texts_of}
use Rattle.rb_view.specs.PageRoom.{has_room}
use Rattle.rb_view.specs.Steps.{done_texts, script_rows, step, step_texts}
use Rattle.rb_view.proofs.PageRoomLaws.{none_full, some_is}
use Rattle.rb_view.proofs.StepLaws.{step_kept}
use Rattle.rb_view.proofs.StepRoomLaws.{step_full}
use Rattle.rb_view.proofs.steps.step.keep_step.Goals as goal

pub returns-in_default-clause-room : goal.returns-in_default-clause-room
returns-in_default-clause-room g c =
    let m = g.M.Machine.meaning c.args.machine.now in
    let b = c.args.place.block.now in
    step_full c.args.texts.now c.args.table.now.left c.args.place.line m b (none_full (done_texts m (directive_of b)) c.in_ok-ran.ran.rows c.in_ok-ran.ensures.rows c.in_default.is)

pub returns-then-not-fits-clause-room : goal.returns-then-not-fits-clause-room
returns-then-not-fits-clause-room g c =
    let m = g.M.Machine.meaning c.args.machine.now in
    let b = c.args.place.block.now in
    let left = c.args.table.now.left in
    let ran = c.in_ok-ran.ran in
    let front = c.args.texts.now ++ texts_of (script_rows left c.args.place.line b.expected ran.output) in
    let rows = c.in-Some.rows in
    ap has_room (sym (step_kept left c.args.place.line m b ran.output rows c.args.texts.now front (front ++ rows) c.keep_ran.new.texts
    c.in_ok-ran.ensures.output (some_is (done_texts m (directive_of b)) rows ran.rows c.in_ok-ran.ensures.rows c.in-Some.is) refl refl c.in_ok-fits.ensures.texts))
    ∙ sym c.in_ok-fits.ensures.room ∙ c.if-not-fits.true

pub returns-clause-texts : goal.returns-clause-texts
returns-clause-texts g c =
    let m = g.M.Machine.meaning c.args.machine.now in
    let b = c.args.place.block.now in
    let left = c.args.table.now.left in
    let ran = c.in_ok-ran.ran in
    let front = c.args.texts.now ++ texts_of (script_rows left c.args.place.line b.expected ran.output) in
    let rows = c.in-Some.rows in
    step_kept left c.args.place.line m b ran.output rows c.args.texts.now front (front ++ rows) c.keep_ran.new.texts
    c.in_ok-ran.ensures.output (some_is (done_texts m (directive_of b)) rows ran.rows c.in_ok-ran.ensures.rows c.in-Some.is) refl refl c.in_ok-fits.ensures.texts
