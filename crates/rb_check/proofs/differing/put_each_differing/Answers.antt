use Rattle.std.proofs.Common.{◌≡◌, ◌∙◌, ℕ, ◌+◌, ◌<◌, List, ◌∷◌, length, drop, get_or, ap, sym, arith}
use Rattle.std.proofs.lemmas.List.{drop_more, drop_all}
use Rattle.std.specs.Prelude.{string_bytes}
use Rattle.rb_report.specs.Briefs.{brief_text}
use Rattle.rb_text.proofs.SentLaws.{sent_piece, sent_along, sent_all, piece_exit}
use Rattle.rb_check.specs.declared.differing.Differing.{Differing}
use Rattle.rb_check.specs.Shown.{differing_text}
use Rattle.rb_check.proofs.differing.put_each_differing.Goals as goal

-- the script at a place, and those after it
drop_next : (xs : List Differing) (i : ℕ) (x : Differing) → i < length xs → x ≡ get_or xs i x → drop i xs ≡ x ∷ drop (i + 1) xs
drop_next xs i x within is = drop_more xs i x within ∙ ap (λ (y : Differing). y ∷ drop (i + 1) xs) (sym is)

pub returns-in_err-put_brief-clause-wrote : goal.returns-in_err-put_brief-clause-wrote
returns-in_err-put_brief-clause-wrote g c =
    let i = c.loop-script.script-index in
    let d = c.script-item.result in
    let next = ap differing_text (drop_next c.args.scripts.now i d c.loop-script-test.true c.script-item.is) in
    piece_exit c.from_residual.result (g.S.Sink.held c.put_brief.new.sink) (brief_text (string_bytes d.path) d.mismatches d.directives d.line) (differing_text (drop (i + 1) c.args.scripts.now))
    c.from_residual.ensures.0 (sent_along next c.loop-script.invariant.sent) (rw c.as_bytes-path.ensures.value at c.in_err-put_brief.ensures.wrote)

pub loop-script-preserved : goal.loop-script-preserved
loop-script-preserved g c =
    let i = c.loop-script.script-index in
    let d = c.script-item.result in
    let next = ap differing_text (drop_next c.args.scripts.now i d c.loop-script-test.true c.script-item.is) in
    record {
      sent = sent_piece (g.S.Sink.held c.put_brief.new.sink) (brief_text (string_bytes d.path) d.mismatches d.directives d.line) (differing_text (drop (i + 1) c.args.scripts.now))
          (sent_along next c.loop-script.invariant.sent) (rw c.as_bytes-path.ensures.value at c.in_ok-put_brief.ensures.wrote);
      takes = λ t. (c.in_ok-put_brief.ensures.all (c.loop-script.invariant.takes t)).1;
    }

pub returns-clause-wrote : goal.returns-clause-wrote
returns-clause-wrote g c = sent_all (ap differing_text (drop_all c.loop-script.script-index c.args.scripts.now (omega arith))) c.loop-script.invariant.sent
