use Rattle.rb_text.proofs.AskedLaws.{goes_then, goes_stops}
use Rattle.std.proofs.lemmas.Result.{err_from_is_err_and}
use Rattle.rb_bench.proofs.StepLaws.{ok_then, err_then}
use Rattle.rb_bench.proofs.StopLaws.{heard_then, stops_first, stops_after}
use Rattle.rb_bench.proofs.HearLaws.{hears_after, hears_end, hears_long}
use Rattle.rb_bench.proofs.hear.hear.Goals as goal

pub returns-in-TooLong-clause-heard : goal.returns-in-TooLong-clause-heard
returns-in-TooLong-clause-heard g c =
    let given = rw c.in-TooLong.is at c.in_ok-next.ensures.given in
    hears_long _ _ given.0 given.1

pub returns-in-End-clause-heard : goal.returns-in-End-clause-heard
returns-in-End-clause-heard g c =
    let given = rw c.in-End.is at c.in_ok-next.ensures.given in
    hears_end _ _ given.0 given.1

pub returns-clause-heard : goal.returns-clause-heard
returns-clause-heard g c =
    let given = rw c.in-Line.is at c.in_ok-next.ensures.given in
    hears_after _ _ _ c.gather.result c.command_of.result c.line.result.now _ given.0 given.1 c.command_of.ensures.value c.line.ensures c.gather.ensures.heard

pub returns-clause-goes : goal.returns-clause-goes
returns-clause-goes g c = ok_then c.gather.result _ _ (λ more. goes_then _ _ _ _ _ _ _ _ _ c.in_ok-next.ensures.goes more) c.gather.ensures.goes

pub returns-clause-stops : goal.returns-clause-stops
returns-clause-stops g c = err_then c.gather.result _ _ (λ more. goes_stops _ _ _ _ _ _ _ c.in_ok-next.ensures.goes more) c.gather.ensures.stops

pub returns-clause-takes : goal.returns-clause-takes
returns-clause-takes g c =
    heard_then c.gather.result _ _ _ _ _ _ (rw c.in-Line.is at c.in_ok-next.ensures.takes) c.gather.ensures.takes

pub returns-clause-failed : goal.returns-clause-failed
returns-clause-failed g c =
    let given = rw c.in-Line.is at c.in_ok-next.ensures.given in
    err_then c.gather.result _ _ (λ more. stops_after _ _ _ _ _ c.command_of.result c.line.result.now _ given.0 given.1 (rw c.in-Line.is at c.in_ok-next.ensures.takes)
    c.command_of.ensures.value c.line.ensures more) c.gather.ensures.failed

pub returns-in_err-next-clause-failed : goal.returns-in_err-next-clause-failed
returns-in_err-next-clause-failed g c =
    let p = err_from_is_err_and c.from_residual.result c.from_residual.ensures.1 in
    rw p.1 (stops_first _ _ _ c.in_err-next.ensures.failed)
