use Rattle.std.proofs.Common.{◌≡◌, ◌+◌, ◌<◌, ◌≤◌, ◌++◌, [], ◌∷◌, ap, ap₂, sym, ◌∙◌, List, ℕ, length, drop, get_or, arith, append_assoc, append-nil}
use Rattle.std.specs.List.{flat_map}
use Rattle.std.proofs.lemmas.List.{drop_more, drop_all}
use Rattle.std.proofs.lemmas.List.Concat.{flat_map-append}
use Rattle.std.proofs.lemmas.List.Elements.{All-from_recursion}
use Rattle.rb_script.specs.Lines.{Line, line_text, text_of}
use Rattle.rb_replay.specs.Run.{outputs}
use Rattle.rb_replay.specs.Report.{mismatches, mismatch_lines, total_line, report}
use Rattle.rb_replay.specs.Holding.{Holding}
use Rattle.rb_replay.proofs.NextLaws.{rising-first}
use Rattle.rb_replay.proofs.DifferingLaws.{differing-rising, mismatches-within}
use Rattle.rb_replay.proofs.FreshLaws.{held-mismatches}
use Rattle.rb_text.proofs.SentLaws.{sent_piece, piece_exit, piece_last, sent_along}
use Rattle.rb_replay.proofs.session.Session.write_report.Goals as goal

-- a mismatch more is to go
step : (f : ℕ → List Line) (ms rest : List ℕ) (p : ℕ) (total : List Line) → ms ≡ p ∷ rest → text_of (flat_map f ms ++ total) ≡ text_of (f p) ++ text_of (flat_map f rest ++ total)
step f ms rest p total e =
    ap (λ (l : List ℕ). text_of (flat_map f l ++ total)) e ∙ ap text_of (append_assoc (f p) (flat_map f rest) total) ∙ flat_map-append line_text (f p) (flat_map f rest ++ total)

pub put_mismatch_at-requires-clause-first : goal.put_mismatch_at-requires-clause-first
put_mismatch_at-requires-clause-first g c =
    let held : c.deref-place-items.result.now ≡ mismatches c.args.self.now.script = c.deref-place-items.ensures.value ∙ held-mismatches c.self.view_is c.self.invariant in
    let lt : c.loop-place.place-index < length (mismatches c.args.self.now.script) = rw held at c.loop-place-test.true in
    rw held (rising-first 1 c.loop-place.place-index 0 (mismatches c.args.self.now.script)
    (differing-rising 1 c.args.self.now.script.blocks (outputs c.args.self.now.script)) lt)

pub put_mismatch_at-requires-clause-within : goal.put_mismatch_at-requires-clause-within
put_mismatch_at-requires-clause-within g c =
    let held : c.deref-place-items.result.now ≡ mismatches c.args.self.now.script = c.deref-place-items.ensures.value ∙ held-mismatches c.self.view_is c.self.invariant in
    let lt : c.loop-place.place-index < length (mismatches c.args.self.now.script) = rw held at c.loop-place-test.true in
    rw held (All-from_recursion (λ (p : ℕ). p ≤ length c.args.self.now.script.blocks) (mismatches c.args.self.now.script)
    (mismatches-within (length c.args.self.now.script.blocks) c.args.self.now.script (omega arith)) c.loop-place.place-index 0 lt)

pub returns-in_err-put_mismatch_at-clause-wrote : goal.returns-in_err-put_mismatch_at-clause-wrote
unfolding report
returns-in_err-put_mismatch_at-clause-wrote g c =
    let s = c.args.self.now.script in
    let i = c.loop-place.place-index in
    let total = total_line (length s.blocks) (length (mismatches s)) ∷ [] in
    let held : c.deref-place-items.result.now ≡ mismatches c.args.self.now.script = c.deref-place-items.ensures.value ∙ held-mismatches c.self.view_is c.self.invariant in
    let lt : c.loop-place.place-index < length (mismatches c.args.self.now.script) = rw held at c.loop-place-test.true in
    let next : drop c.loop-place.place-index (mismatches c.args.self.now.script) ≡ get_or c.deref-place-items.result.now c.loop-place.place-index 0 ∷ drop (c.loop-place.place-index + 1) (mismatches c.args.self.now.script) =
    drop_more (mismatches c.args.self.now.script) c.loop-place.place-index 0 lt ∙ ap (λ (ms : List ℕ). get_or ms c.loop-place.place-index 0 ∷ drop (c.loop-place.place-index + 1) (mismatches c.args.self.now.script)) (sym held) in
    let more = step (mismatch_lines s) (drop i (mismatches s)) (drop (i + 1) (mismatches s)) (get_or c.deref-place-items.result.now i 0) total next in
    piece_exit c.from_residual.result (g.S.Sink.held c.put_mismatch_at.new.sink) (text_of (mismatch_lines s (get_or c.deref-place-items.result.now i 0))) (text_of (flat_map (mismatch_lines s) (drop (i + 1) (mismatches s)) ++ total))
    c.from_residual.ensures.0 (sent_along more c.loop-place.invariant.sent) c.in_err-put_mismatch_at.ensures.wrote

pub loop-place-preserved : goal.loop-place-preserved
loop-place-preserved g c =
    let s = c.args.self.now.script in
    let i = c.loop-place.place-index in
    let total = total_line (length s.blocks) (length (mismatches s)) ∷ [] in
    let held : c.deref-place-items.result.now ≡ mismatches c.args.self.now.script = c.deref-place-items.ensures.value ∙ held-mismatches c.self.view_is c.self.invariant in
    let lt : c.loop-place.place-index < length (mismatches c.args.self.now.script) = rw held at c.loop-place-test.true in
    let next : drop c.loop-place.place-index (mismatches c.args.self.now.script) ≡ get_or c.deref-place-items.result.now c.loop-place.place-index 0 ∷ drop (c.loop-place.place-index + 1) (mismatches c.args.self.now.script) =
    drop_more (mismatches c.args.self.now.script) c.loop-place.place-index 0 lt ∙ ap (λ (ms : List ℕ). get_or ms c.loop-place.place-index 0 ∷ drop (c.loop-place.place-index + 1) (mismatches c.args.self.now.script)) (sym held) in
    let more = step (mismatch_lines s) (drop i (mismatches s)) (drop (i + 1) (mismatches s)) (get_or c.deref-place-items.result.now i 0) total next in
    record {
      sent = sent_piece (g.S.Sink.held c.put_mismatch_at.new.sink) (text_of (mismatch_lines s (get_or c.deref-place-items.result.now i 0))) (text_of (flat_map (mismatch_lines s) (drop (i + 1) (mismatches s)) ++ total))
          (sent_along more c.loop-place.invariant.sent) c.in_ok-put_mismatch_at.ensures.wrote;
      takes = λ t. (c.in_ok-put_mismatch_at.ensures.all (c.loop-place.invariant.takes t)).1;
    }

pub returns-clause-wrote : goal.returns-clause-wrote
unfolding report
returns-clause-wrote g c =
    let s = c.args.self.now.script in
    let i = c.loop-place.place-index in
    let held : c.deref-place-items.result.now ≡ mismatches c.args.self.now.script = c.deref-place-items.ensures.value ∙ held-mismatches c.self.view_is c.self.invariant in
    let past : length (mismatches c.args.self.now.script) ≤ c.loop-place.place-index = rw held at c.loop-place-test.false in
    let none : drop c.loop-place.place-index (mismatches c.args.self.now.script) ≡ [] = drop_all c.loop-place.place-index (mismatches c.args.self.now.script) past in
    let few : c.len.result ≡ length c.args.self.now.script.blocks = c.len.ensures ∙ ap (λ (h : Holding). length h.script.blocks) c.self.view_is in
    let many : c.len-2.result ≡ length (mismatches c.args.self.now.script) = omega (arith, c.len-2.ensures, ap length held, ap length c.deref-place-items.ensures.value, c.self.inside.mismatches.ok.0) in
    let last : text_of (flat_map (mismatch_lines c.args.self.now.script) (drop c.loop-place.place-index (mismatches c.args.self.now.script)) ++ total_line (length c.args.self.now.script.blocks) (length (mismatches c.args.self.now.script)) ∷ []) ≡ line_text (total_line c.len.result c.len-2.result) =
    ap (λ (ms : List ℕ). text_of (flat_map (mismatch_lines c.args.self.now.script) ms ++ total_line (length c.args.self.now.script.blocks) (length (mismatches c.args.self.now.script)) ∷ [])) none
    ∙ ap₂ (λ (n m : ℕ). text_of (total_line n m ∷ [])) (sym few) (sym many) ∙ append-nil (line_text (total_line c.len.result c.len-2.result)) in
    piece_last c.put_total.result (g.S.Sink.held c.put_total.new.sink) (line_text (total_line c.len.result c.len-2.result)) (sent_along last c.loop-place.invariant.sent) c.put_total.ensures.wrote
