-- The directives so far went out whole.
use Rattle.std.proofs.Common.{ℕ, drop}
use Rattle.rb_replay.specs.Run.{outputs}
use Rattle.rb_text.proofs.SentLaws.{Sent}
use Rattle.rb_script_report.specs.Whys.{all_told}
use Rattle.rb_script_report.proofs.put.put_directives.Given as goal

abbrev pub invariant-loop-i : goal.invariant-loop-i
invariant-loop-i g l =
    let told = λ (left : ℕ). all_told left l.all l.view.colors l.run.layout.now.text l.view.path.now l.run.whys.now in
    let s = l.run.session.now.script in
    record {
      sent : Sent (g.S.Sink.held l.initial.sink) (g.S.Sink.held l.sink) (told l.initial.table.left 0 l.run.layout.now.heads.items s.blocks (outputs s)) (told l.table.left l.i (drop l.i l.run.layout.now.heads.items) (drop l.i s.blocks) (drop l.i (outputs s)));
      takes : g.S.Sink.takes_all l.initial.sink → g.S.Sink.takes_all l.sink;
    }
