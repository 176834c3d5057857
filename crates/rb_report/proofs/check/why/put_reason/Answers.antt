use Rattle.std.proofs.Common.{rules}
use Rattle.rb_script.specs.Writes.{Writes}
use Rattle.rb_text.proofs.SentLaws.{writes_along}
use Rattle.rb_report.specs.Whys.{below}
use Rattle.rb_report.proofs.check.why.put_reason.Goals as goal

pub returns-clause-wrote : goal.returns-clause-wrote
returns-clause-wrote g c =
    let wrote : Writes c.put_pieces.result (g.S.Sink.held c.args.sink.now) (g.S.Sink.held c.put_pieces.new.sink) (below c.reason_of-reason.result.now) = search rules in
    writes_along _ _ _ _ _ c.reason_of-reason.ensures wrote
