use Rattle.std.proofs.Common.{refl, arith}
use Rattle.rb_text.specs.Left.{left_of}
use Rattle.rb_text.proofs.AskedLaws.{goes_none, goes_then, goes_stops, going_stops, goes_enough}
use Rattle.rb_text.proofs.TakenLaws.{takes_none, takes_then}
use Rattle.rb_bench.proofs.StopLaws.{answers_stopped}
use Rattle.rb_bench.proofs.TurnLaws.{gone_none, gone_more, gone_closed, gone_failed}
use Rattle.rb_bench.proofs.session.converse.Goals as goal

pub turns-init : goal.turns-init
turns-init g c = record { gone = gone_none _ c.args.session.now _; handed = λ h. h; goes = goes_none _ _ _ _ refl refl (omega arith); whole = takes_none _ _; taking = λ takes. takes; all = λ gives has takes. (gives, takes) }

pub returns-in-Ok-Some-clause-out : goal.returns-in-Ok-Some-clause-out
returns-in-Ok-Some-clause-out g c =
    let left = left_of c.turns.input (g.S.Source.left c.turns.source) in
    let rest = left_of c.serve_one.new.input (g.S.Source.left c.serve_one.new.source) in
    let old = g.W.Sink.held c.args.writer.now in
    let mid = g.W.Sink.held c.turns.writer in
    let new = g.W.Sink.held c.serve_one.new.writer in
    let all = left_of c.args.input.now (g.S.Source.left c.args.source.now) in
    gone_closed all left rest c.args.session.now c.turns.session c.serve_one.new.session c.in-Ok-Some.status old mid new c.turns.invariant.gone (rw c.in-Ok-Some.field-0-is at c.in-Ok-Some.ensures.out)

pub returns-in-Err-clause-out : goal.returns-in-Err-clause-out
returns-in-Err-clause-out g c =
    let left = left_of c.turns.input (g.S.Source.left c.turns.source) in
    let rest = left_of c.serve_one.new.input (g.S.Source.left c.serve_one.new.source) in
    let old = g.W.Sink.held c.args.writer.now in
    let mid = g.W.Sink.held c.turns.writer in
    let new = g.W.Sink.held c.serve_one.new.writer in
    let all = left_of c.args.input.now (g.S.Source.left c.args.source.now) in
    gone_failed all left rest c.args.session.now c.turns.session c.serve_one.new.session c.in-Err.fault old mid new c.turns.invariant.gone c.in-Err.ensures.out

pub turns-preserved : goal.turns-preserved
turns-preserved g c =
    let left = left_of c.turns.input (g.S.Source.left c.turns.source) in
    let rest = left_of c.serve_one.new.input (g.S.Source.left c.serve_one.new.source) in
    let old = g.W.Sink.held c.args.writer.now in
    let mid = g.W.Sink.held c.turns.writer in
    let new = g.W.Sink.held c.serve_one.new.writer in
    let all = left_of c.args.input.now (g.S.Source.left c.args.source.now) in
    let i = c.turns.invariant in record {
      gone = gone_more all left rest c.args.session.now c.turns.session c.serve_one.new.session old mid new i.gone (rw c.in-Ok-None.field-0-is at c.in-Ok-None.ensures.out);
      handed = λ h. c.in-Ok-None.ensures.handed (i.handed h);
      goes = goes_then _ _ _ _ _ _ _ _ _ i.goes c.in-Ok-None.ensures.goes;
      whole = takes_then _ _ _ _ _ _ i.whole (rw c.in-Ok-None.field-0-is at c.in-Ok-None.ensures.takes);
      taking = λ takes. c.in-Ok-None.ensures.taking (i.taking takes);
      all = λ gives has takes. let now = i.all gives has takes in let then = c.in-Ok-None.ensures.all now.0 (goes_enough _ _ _ _ _ _ i.goes has) now.1 in (then.1, then.2);
    }

pub returns-in-Ok-Some-clause-stops : goal.returns-in-Ok-Some-clause-stops
returns-in-Ok-Some-clause-stops g c = going_stops _ _ _ _ _ _ (goes_then _ _ _ _ _ _ _ _ _ c.turns.invariant.goes c.in-Ok-Some.ensures.goes)

pub returns-in-Err-clause-stops : goal.returns-in-Err-clause-stops
returns-in-Err-clause-stops g c = goes_stops _ _ _ _ _ _ _ c.turns.invariant.goes c.in-Err.ensures.stops

pub returns-in-Err-clause-whole : goal.returns-in-Err-clause-whole
returns-in-Err-clause-whole g c = λ takes.
    let i = c.turns.invariant in
    let (stops, same) = c.in-Err.ensures.taking (i.taking takes) in
    answers_stopped _ _ _ _ _ c.args.session.now c.turns.session _ _ _ i.gone i.whole stops same

pub returns-in-Ok-Some-clause-unfailed : goal.returns-in-Ok-Some-clause-unfailed
returns-in-Ok-Some-clause-unfailed g c = (goes_then _ _ _ _ _ _ _ _ _ c.turns.invariant.goes c.in-Ok-Some.ensures.goes).unfailed
