use Rattle.std.proofs.Common.{◌+◌, List, drop, get_or, ap, arith}
use Rattle.std.proofs.lemmas.List.{drop_more, drop_all}
use Rattle.rb_text.proofs.SentLaws.{sent_piece, sent_along, sent_all, piece_exit}
use Rattle.rb_report.specs.Notices.{warning_text}
use Rattle.rb_script_report.specs.declared.warning.Warning.{Warning}
use Rattle.rb_program.specs.Notes.{warnings_noted}
use Rattle.rb_program.proofs.noting.put_warnings.Goals as goal

pub returns-in_err-put_warning-clause-wrote : goal.returns-in_err-put_warning-clause-wrote
returns-in_err-put_warning-clause-wrote g c =
    let i = c.loop-warning.warning-index in
    let w = get_or c.args.doubts.now i _ in
    let next = ap (λ (ws : List Warning). warnings_noted c.args.path.now ws) (drop_more c.args.doubts.now i _ c.loop-warning-test.true) in
    piece_exit c.from_residual.result (g.S.Sink.held c.put_warning.new.sink) (warning_text c.args.path.now w.line w.doubt) (warnings_noted c.args.path.now (drop (i + 1) c.args.doubts.now))
    c.from_residual.ensures.0 (sent_along next c.loop-warning.invariant.sent) c.in_err-put_warning.ensures.wrote

pub loop-warning-preserved : goal.loop-warning-preserved
loop-warning-preserved g c =
    let i = c.loop-warning.warning-index in
    let w = get_or c.args.doubts.now i _ in
    let next = ap (λ (ws : List Warning). warnings_noted c.args.path.now ws) (drop_more c.args.doubts.now i _ c.loop-warning-test.true) in
    record {
      sent = sent_piece (g.S.Sink.held c.put_warning.new.sink) (warning_text c.args.path.now w.line w.doubt) (warnings_noted c.args.path.now (drop (i + 1) c.args.doubts.now))
          (sent_along next c.loop-warning.invariant.sent) c.in_ok-put_warning.ensures.wrote;
      takes = λ t. (c.in_ok-put_warning.ensures.all (c.loop-warning.invariant.takes t)).1;
    }

pub returns-clause-wrote : goal.returns-clause-wrote
returns-clause-wrote g c = sent_all (ap (λ (ws : List Warning). warnings_noted c.args.path.now ws) (drop_all c.loop-warning.warning-index c.args.doubts.now (omega arith))) c.loop-warning.invariant.sent
