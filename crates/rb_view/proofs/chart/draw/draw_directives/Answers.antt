use Rattle.std.proofs.Common.{◌≡◌, ◌∙◌, ◌+◌, List, drop, ap, ap₂, sym, arith}
use Rattle.std.proofs.lemmas.List.{drop_all, take_all}
use Rattle.rb_machine.specs.Cluster.{Cluster}
use Rattle.rb_replay.specs.Run.{outputs}
use Rattle.rb_replay.proofs.RunLaws.{length-outputs, run_next}
use Rattle.rb_view.specs.declared.chart.part.ChartPhase.{ChartPhase}
use Rattle.rb_directive.specs.declared.requests.MailChoice.{MailChoice}
use Rattle.rb_view.specs.InFlight.{mail_choice}
use Rattle.rb_view.specs.Drawn.{entering, has_room, view_of, views_from}
use Rattle.rb_view.proofs.ViewLaws.{stays_full, views_end, views_more}
use Rattle.rb_view.proofs.chart.draw.draw_directives.Goals as goal

pub loop-i-init : goal.loop-i-init
loop-i-init g c = record {
  drawn = ap (λ (d : Cluster). views_from c.args.part (view_of c.args.both.now.second) d c.args.heads.now c.args.script.now.blocks) c.in_ok-cluster.ensures;
  here = c.in_ok-cluster.ensures;
  printed = c.new-printed.ensures;
  none = c.requires.none;
  counted = λ _. omega (arith);
}

pub loop-i-preserved : goal.loop-i-preserved
loop-i-preserved g c =
    let i = c.loop-i.i in
    let heads = c.args.heads.now in
    let bs = c.args.script.now.blocks in
    let b = c.block_at-block.result.now in
    let before = c.loop-i.cluster in
    let on = run_next c.args.script.now i b before c.run.new.cluster c.in_ok-output.output c.loop-i.printed c.push.new.self c.block_at-block.ensures
    c.loop-i.invariant.here c.in_ok-output.ensures.cluster c.in_ok-output.ensures.output c.loop-i.invariant.printed c.in_ok-push.ensures in
    record {
      drawn = views_more c.args.part heads bs i c.number_at-line.result b before c.run.new.cluster (view_of c.loop-i.both.second) (view_of c.enter.new.self) (view_of c.see.new.self)
          c.number_at-line.ensures c.block_at-block.ensures (c.in_ok-enter.ensures ∙ ap₂ (λ (phase : ChartPhase) (choice : MailChoice). entering phase choice (view_of c.loop-i.both.second)) c.phase_at.ensures (c.mail_choice-choice.ensures ∙ ap mail_choice c.directive.ensures.whole)) (c.in_ok-see.ensures ∙ c.in_ok-output.ensures.shown) c.in_ok-output.ensures.cluster
          ∙ c.loop-i.invariant.drawn;
      here = on.0;
      printed = on.1;
      none = c.in_ok-output.ensures.left;
      counted = λ small. omega (arith, small, c.loop-i.invariant.counted small, c.in_ok-output.ensures.counted (omega (arith, small, c.loop-i.invariant.counted small)));
    }

pub returns-then-not-has_room-clause-room : goal.returns-then-not-has_room-clause-room
returns-then-not-has_room-clause-room g c =
    let i = c.loop-i.i in
    let v = view_of c.loop-i.both.second in
    ap has_room (sym c.loop-i.invariant.drawn)
    ∙ stays_full c.args.part v c.loop-i.cluster (drop i c.args.heads.now) (drop i c.args.script.now.blocks) (sym c.has_room.ensures ∙ c.if-not-has_room.true)

-- there is no directive any more
pub returns-then-has_room-clause-room : goal.returns-then-has_room-clause-room
returns-then-has_room-clause-room g c =
    let i = c.loop-i.i in
    let v = view_of c.loop-i.both.second in
    let none = drop_all i c.args.script.now.blocks (omega (arith, c.loop-i-test.false, c.len-i-end.ensures)) in
    ap has_room (sym c.loop-i.invariant.drawn ∙ views_end c.args.part v c.loop-i.cluster (drop i c.args.heads.now) (drop i c.args.script.now.blocks) none) ∙ sym c.has_room-2.ensures ∙ c.if-has_room.true

pub returns-then-has_room-clause-drawn : goal.returns-then-has_room-clause-drawn
returns-then-has_room-clause-drawn g c =
    let i = c.loop-i.i in
    let none = drop_all i c.args.script.now.blocks (omega (arith, c.loop-i-test.false, c.len-i-end.ensures)) in
    sym (views_end c.args.part (view_of c.loop-i.both.second) c.loop-i.cluster (drop i c.args.heads.now) (drop i c.args.script.now.blocks) none) ∙ c.loop-i.invariant.drawn

pub returns-then-has_room-clause-outputs : goal.returns-then-has_room-clause-outputs
returns-then-has_room-clause-outputs g c =
    c.loop-i.invariant.printed ∙ take_all c.loop-i.i (outputs c.args.script.now) (omega (arith, c.loop-i-test.false, c.len-i-end.ensures, length-outputs c.args.script.now))

pub returns-else-has_room-clause-room : goal.returns-else-has_room-clause-room
returns-else-has_room-clause-room g c =
    let i = c.loop-i.i in
    let v = view_of c.loop-i.both.second in
    let none = drop_all i c.args.script.now.blocks (omega (arith, c.loop-i-test.false, c.len-i-end.ensures)) in
    ap has_room (sym c.loop-i.invariant.drawn ∙ views_end c.args.part v c.loop-i.cluster (drop i c.args.heads.now) (drop i c.args.script.now.blocks) none) ∙ sym c.has_room-2.ensures ∙ c.if-has_room.false
