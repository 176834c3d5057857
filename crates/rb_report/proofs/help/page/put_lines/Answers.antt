use Rattle.std.proofs.Common.{ℕ, ◌+◌, List, drop, get_or, map, ap, arith, Bor}
use Rattle.std.proofs.lemmas.List.{drop_more, drop_all}
use Rattle.rb_text.proofs.SentLaws.{sent_piece, sent_along, sent_all, piece_exit}
use Rattle.rb_report.specs.Manual.{lines_text}
use Rattle.rb_report.proofs.help.page.put_lines.Goals as goal

pub returns-in_err-put-clause-wrote : goal.returns-in_err-put-clause-wrote
returns-in_err-put-clause-wrote g c =
    let i = c.loop-page.page-index in
    let next = ap (λ (ps : List (Bor (List ℕ) × Bor (List ℕ) × Bor (List ℕ))). lines_text (map (λ p. (p.0.now, p.1.now, p.2.now)) ps)) (drop_more c.args.pages.now i _ c.loop-page-test.true) in
    piece_exit c.from_residual.result (g.S.Sink.held c.put.new.self) (get_or c.args.pages.now i _).1.now (lines_text (map (λ p. (p.0.now, p.1.now, p.2.now)) (drop (i + 1) c.args.pages.now)))
    c.from_residual.ensures.0 (sent_along next c.loop-page.invariant.sent) c.in_err-put.ensures.wrote

pub loop-page-preserved : goal.loop-page-preserved
loop-page-preserved g c =
    let i = c.loop-page.page-index in
    let next = ap (λ (ps : List (Bor (List ℕ) × Bor (List ℕ) × Bor (List ℕ))). lines_text (map (λ p. (p.0.now, p.1.now, p.2.now)) ps)) (drop_more c.args.pages.now i _ c.loop-page-test.true) in
    record {
      sent = sent_piece (g.S.Sink.held c.put.new.self) (get_or c.args.pages.now i _).1.now (lines_text (map (λ p. (p.0.now, p.1.now, p.2.now)) (drop (i + 1) c.args.pages.now)))
          (sent_along next c.loop-page.invariant.sent) c.in_ok-put.ensures.wrote;
      takes = λ t. (c.in_ok-put.ensures.all (c.loop-page.invariant.takes t)).1;
    }

pub returns-clause-wrote : goal.returns-clause-wrote
returns-clause-wrote g c = sent_all (ap (λ (ps : List (Bor (List ℕ) × Bor (List ℕ) × Bor (List ℕ))). lines_text (map (λ p. (p.0.now, p.1.now, p.2.now)) ps)) (drop_all c.loop-page.page-index c.args.pages.now (omega arith))) c.loop-page.invariant.sent
