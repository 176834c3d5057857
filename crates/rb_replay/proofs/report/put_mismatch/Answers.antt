use Rattle.std.proofs.Common.{◌++◌, ap, sym, List, ℕ}
use Rattle.std.specs.Prelude.{codes}
use Rattle.std.proofs.lemmas.List.Concat.{flat_map-append}
use Rattle.rb_script.specs.Lines.{line_text, text_of}
use Rattle.rb_replay.specs.Report.{marked, mismatch_line}
use Rattle.rb_text.proofs.SentLaws.{writes_along, and_then, no_more}
use Rattle.rb_replay.proofs.report.put_mismatch.Goals as goal

pub returns-in_err-put_place-clause-wrote : goal.returns-in_err-put_place-clause-wrote
returns-in_err-put_place-clause-wrote g c =
    let rest = text_of (marked (codes "- ") c.args.expected.now ++ marked (codes "+ ") c.args.output.now) in
    no_more _ _ (line_text (mismatch_line c.args.place)) rest _ c.from_residual.ensures.0 c.in_err-put_place.ensures.wrote

pub returns-in_err-put_marked-clause-wrote : goal.returns-in_err-put_marked-clause-wrote
returns-in_err-put_marked-clause-wrote g c =
    let parts = flat_map-append line_text (marked (codes "- ") c.args.expected.now) (marked (codes "+ ") c.args.output.now) in
    writes_along _ _ _ _ _ (ap (λ (l : List ℕ). line_text (mismatch_line c.args.place) ++ l) (sym parts))
    (and_then _ _ _ _ _ _ c.in_ok-put_place.ensures.wrote (no_more _ _ _ _ _ c.from_residual-in_err-put_marked.ensures.0 c.in_err-put_marked.ensures.wrote))

pub returns-clause-wrote : goal.returns-clause-wrote
returns-clause-wrote g c =
    let parts = flat_map-append line_text (marked (codes "- ") c.args.expected.now) (marked (codes "+ ") c.args.output.now) in
    writes_along _ _ _ _ _ (ap (λ (l : List ℕ). line_text (mismatch_line c.args.place) ++ l) (sym parts))
    (and_then _ _ _ _ _ _ c.in_ok-put_place.ensures.wrote (and_then _ _ _ _ _ _ c.in_ok-put_marked.ensures.wrote c.put_marked-2.ensures.wrote))
