use Rattle.std.proofs.Common.{◌≡◌, ◌∙◌, ◌+◌, ◌++◌, ◌∷◌, [], drop, arith, ap, List, ℕ, append_assoc}
use Rattle.std.proofs.lemmas.List.{drop_all}
use Rattle.rb_script.specs.Lines.{Line, text_of}
use Rattle.rb_replay.specs.Report.{marked}
use Rattle.rb_text.proofs.SentLaws.{sent_piece, piece_exit, sent_all, sent_along, drop-get}
use Rattle.rb_replay.proofs.report.put_marked.Goals as goal

-- the next line is a mark, the line and a feed
next : (mark line : Line) (left rest : List Line) → left ≡ line ∷ rest → text_of (marked mark left) ≡ (mark ++ (line ++ (10 ∷ []))) ++ text_of (marked mark rest)
next mark line left rest e =
    ap (λ (ls : List Line). text_of (marked mark ls)) e ∙ ap (λ (l : List ℕ). l ++ text_of (marked mark rest)) (append_assoc mark line (10 ∷ []))

pub returns-in_err-put_pieces-clause-wrote : goal.returns-in_err-put_pieces-clause-wrote
returns-in_err-put_pieces-clause-wrote g c =
    let mark = c.args.mark.now in
    let line = c.line.result.now in
    let more = next mark line (drop c.loop-i.i c.args.lines.now) (drop (c.loop-i.i + 1) c.args.lines.now) (drop-get c.args.lines.now c.loop-i.i line c.line.ensures) in
    piece_exit c.from_residual.result (g.S.Sink.held c.put_pieces.new.sink) (mark ++ (line ++ (10 ∷ []))) (text_of (marked mark (drop (c.loop-i.i + 1) c.args.lines.now)))
    c.from_residual.ensures.0 (sent_along more c.loop-i.invariant.sent) c.in_err-put_pieces.ensures.wrote

pub loop-i-preserved : goal.loop-i-preserved
loop-i-preserved g c =
    let mark = c.args.mark.now in
    let line = c.line.result.now in
    let more = next mark line (drop c.loop-i.i c.args.lines.now) (drop (c.loop-i.i + 1) c.args.lines.now) (drop-get c.args.lines.now c.loop-i.i line c.line.ensures) in
    record {
      sent = sent_piece (g.S.Sink.held c.put_pieces.new.sink) (mark ++ (line ++ (10 ∷ []))) (text_of (marked mark (drop (c.loop-i.i + 1) c.args.lines.now)))
          (sent_along more c.loop-i.invariant.sent) c.in_ok-put_pieces.ensures.wrote;
      takes = λ t. (c.in_ok-put_pieces.ensures.all (c.loop-i.invariant.takes t)).1;
    }

pub returns-clause-wrote : goal.returns-clause-wrote
returns-clause-wrote g c =
    sent_all (ap (λ (ls : List Line). text_of (marked c.args.mark.now ls)) (drop_all c.loop-i.i c.args.lines.now (omega (arith, c.len-i-end.ensures)))) c.loop-i.invariant.sent
