-- What is said of the directives so far went out whole.
use Rattle.std.proofs.Common.{drop}
use Rattle.rb_replay.specs.Run.{outputs}
use Rattle.rb_text.proofs.SentLaws.{Sent}
use Rattle.rb_program.specs.Notes.{errors_noted}
use Rattle.rb_program.proofs.noting.put_errors.Given as goal

abbrev pub invariant-loop-i : goal.invariant-loop-i
invariant-loop-i g l =
    let left = errors_noted l.layout.text l.path in
    let s = l.session.script in
    record {
      sent : Sent (g.S.Sink.held l.initial.sink) (g.S.Sink.held l.sink) (left l.layout.heads.items s.blocks (outputs s)) (left (drop l.i l.layout.heads.items) (drop l.i s.blocks) (drop l.i (outputs s)));
      takes : g.S.Sink.takes_all l.initial.sink → g.S.Sink.takes_all l.sink;
    }
