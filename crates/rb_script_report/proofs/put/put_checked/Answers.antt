use Rattle.std.proofs.Common.{ℕ, true, false, ap}
use Rattle.rb_script.specs.Writes.{Writes}
use Rattle.rb_replay.specs.Run.{outputs}
use Rattle.rb_replay.specs.Report.{mismatches}
use Rattle.rb_text.proofs.SentLaws.{writes_along}
use Rattle.rb_script_report.specs.Checked.{of_first}
use Rattle.rb_script_report.specs.Whys.{all_told, told_at, told_text}
use Rattle.rb_script_report.proofs.put.put_checked.Goals as goal
use Rattle.rb_script_report.proofs.put.put_checked.Goals.{in-Differing, in-All, in-First, in-Brief}

pub returns-clause-wrote : goal.returns-clause-wrote
returns-clause-wrote g c =
    let s = c.args.session.now.script in
    let v = c.args.view in
    let text = c.args.layout.now.text in
    let heads = c.args.layout.now.heads.items in
    let wrote : Writes c.match-view.written (g.S.Sink.held c.args.sink.now) (g.S.Sink.held c.match-view.sink) (told_text v.shown v.colors text v.path.now c.args.whys.now heads s) = elim c.match-view.branch [
      | in-Differing w ↦ rw (w.written-is, w.sink-is, w.in-Differing.is)
          (writes_along _ _ _ _ _ (ap (λ (left : ℕ). all_told left false v.colors text v.path.now c.args.whys.now 0 heads s.blocks (outputs s)) c.in-Ok.ensures) w.put_directives-written.ensures.wrote)
      | in-All w ↦ rw (w.written-is, w.sink-is, w.in-All.is)
          (writes_along _ _ _ _ _ (ap (λ (left : ℕ). all_told left true v.colors text v.path.now c.args.whys.now 0 heads s.blocks (outputs s)) c.in-Ok.ensures) w.put_directives-written-in-All.ensures.wrote)
      | in-First w ↦ rw (w.written-is, w.sink-is, w.in-First.is)
          (writes_along _ _ _ _ _ (ap (λ (left : ℕ). of_first (told_at left false v.colors v.path.now c.args.whys.now heads s) (mismatches s)) c.in-Ok.ensures) w.put_first-written.ensures.wrote)
      | in-Brief w ↦ rw (w.written-is, w.sink-is, w.in-Brief.is) w.put_in_brief-written.ensures.wrote
    ] in
    c.shown.ensures.shows _ _ _ wrote
