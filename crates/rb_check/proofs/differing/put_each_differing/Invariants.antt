-- The lines so far went out whole.
use Rattle.std.proofs.Common.{drop}
use Rattle.rb_text.proofs.SentLaws.{Sent}
use Rattle.rb_check.specs.Shown.{differing_text}
use Rattle.rb_check.proofs.differing.put_each_differing.Given as goal

abbrev pub invariant-loop-script : goal.invariant-loop-script
invariant-loop-script g l =
    let held = g.S.Sink.held in
    record {
      sent : Sent (held l.initial.sink) (held l.sink) (differing_text l.scripts) (differing_text (drop l.script-index l.scripts));
      takes : g.S.Sink.takes_all l.initial.sink → g.S.Sink.takes_all l.sink;
    }
