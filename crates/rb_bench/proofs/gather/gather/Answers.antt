use Rattle.std.proofs.Common.{refl, arith}
use Rattle.std.proofs.lemmas.Result.{err_from_is_err_and}
use Rattle.rb_text.proofs.AskedLaws.{goes_none, goes_then, goes_stops, goes_enough}
use Rattle.rb_text.proofs.TakenLaws.{takes_then}
use Rattle.rb_text.proofs.TakenLaws.{takes_none as whole_none}
use Rattle.rb_bench.proofs.StopLaws.{stops_short}
use Rattle.rb_bench.proofs.HearLaws.{takes_none, takes_more, gathers_long, gathers_cut, gathers_all}
use Rattle.rb_bench.proofs.gather.gather.Goals as goal

pub loop-taken-init : goal.loop-taken-init
loop-taken-init g c = record { within = omega arith; takes = takes_none _ c.new-given.result c.new-given.ensures; whole = whole_none _ _; goes = goes_none _ _ _ _ refl refl (omega arith); all = λ gives has. gives }

pub returns-in-TooLong-clause-heard : goal.returns-in-TooLong-clause-heard
returns-in-TooLong-clause-heard g c =
    let given = rw c.in-TooLong.is at c.in_ok-next.ensures.given in
    gathers_long _ _ _ c.loop-taken.taken c.loop-taken.given c.args.command c.loop-taken.invariant.takes (omega arith) given.0 given.1

pub returns-in-End-clause-heard : goal.returns-in-End-clause-heard
returns-in-End-clause-heard g c =
    let given = rw c.in-End.is at c.in_ok-next.ensures.given in
    gathers_cut _ _ _ c.loop-taken.taken c.loop-taken.given c.args.command c.loop-taken.invariant.takes (omega arith) given.0 given.1

pub returns-clause-heard : goal.returns-clause-heard
returns-clause-heard g c = gathers_all _ _ c.loop-taken.taken c.loop-taken.given c.args.command c.loop-taken.invariant.takes (omega arith)

pub loop-taken-preserved : goal.loop-taken-preserved
loop-taken-preserved g c =
    let given = rw c.in-Line.is at c.in_ok-next.ensures.given in record {
      within = omega arith;
      takes = takes_more _ _ _ c.loop-taken.taken c.loop-taken.given c.add.new.self c.line.result.now _ c.loop-taken.invariant.takes given.0 given.1 c.line.ensures c.add.ensures;
      whole = takes_then _ _ _ _ _ _ c.loop-taken.invariant.whole (rw c.in-Line.is at c.in_ok-next.ensures.takes);
      goes = goes_then _ _ _ _ _ _ _ _ _ c.loop-taken.invariant.goes c.in_ok-next.ensures.goes;
      all = λ gives has. (c.in_ok-next.ensures.all (c.loop-taken.invariant.all gives has) (goes_enough _ _ _ _ _ _ c.loop-taken.invariant.goes has)).1;
    }

pub returns-in_err-next-clause-stops : goal.returns-in_err-next-clause-stops
returns-in_err-next-clause-stops g c =
    let p = err_from_is_err_and c.from_residual.result c.from_residual.ensures.1 in
    rw p.1 (goes_stops _ _ _ _ _ _ _ c.loop-taken.invariant.goes c.in_err-next.ensures.stops)

pub returns-in-TooLong-clause-goes : goal.returns-in-TooLong-clause-goes
returns-in-TooLong-clause-goes g c = goes_then _ _ _ _ _ _ _ _ _ c.loop-taken.invariant.goes c.in_ok-next.ensures.goes

pub returns-in-End-clause-goes : goal.returns-in-End-clause-goes
returns-in-End-clause-goes g c = goes_then _ _ _ _ _ _ _ _ _ c.loop-taken.invariant.goes c.in_ok-next.ensures.goes

pub returns-in_err-next-clause-failed : goal.returns-in_err-next-clause-failed
returns-in_err-next-clause-failed g c =
    let p = err_from_is_err_and c.from_residual.result c.from_residual.ensures.1 in
    let i = c.loop-taken.invariant in
    rw p.1 (stops_short _ _ _ _ _ c.loop-taken.taken _ c.loop-taken.given i.takes i.whole c.in_err-next.ensures.failed (omega arith))
