use Rattle.std.proofs.Common.{◌≡◌, ◌∙◌, ◌≤◌, ℕ, List, length, Some, ap, sym, arith}
use Rattle.std.specs.Prelude.{slice_get}
use Rattle.rb_replay.specs.Run.{outputs}
use Rattle.rb_replay.specs.Report.{mismatches}
use Rattle.rb_replay.proofs.DifferingLaws.{differing-rising, mismatches-within}
use Rattle.rb_script_report.proofs.ShownLaws.{rising-head, at_most-head, head-first}
use Rattle.rb_script_report.proofs.put.first_index.Goals as goal

pub overflow_sub-result : goal.overflow_sub-result
overflow_sub-result g c =
    let s = c.args.session.now.script in
    let got : slice_get (mismatches s) 0 ≡ Some c.number_at-place.result = ap (λ (ks : List ℕ). slice_get ks 0) (sym c.mismatches-places.ensures) ∙ c.number_at-place.ensures in
    rising-head 1 (mismatches s) c.number_at-place.result (differing-rising 1 s.blocks (outputs s)) got

pub returns-clause-some : goal.returns-clause-some
returns-clause-some g c =
    let s = c.args.session.now.script in
    let got : slice_get (mismatches s) 0 ≡ Some c.number_at-place.result = ap (λ (ks : List ℕ). slice_get ks 0) (sym c.mismatches-places.ensures) ∙ c.number_at-place.ensures in
    head-first (mismatches s) c.number_at-place.result got (rising-head 1 (mismatches s) c.number_at-place.result (differing-rising 1 s.blocks (outputs s)) got)

pub returns-clause-within : goal.returns-clause-within
returns-clause-within g c =
    let s = c.args.session.now.script in
    let got : slice_get (mismatches s) 0 ≡ Some c.number_at-place.result = ap (λ (ks : List ℕ). slice_get ks 0) (sym c.mismatches-places.ensures) ∙ c.number_at-place.ensures in
    let first : 1 ≤ c.number_at-place.result = rising-head 1 (mismatches s) c.number_at-place.result (differing-rising 1 s.blocks (outputs s)) got in
    let last : c.number_at-place.result ≤ length s.blocks = at_most-head (length s.blocks) (mismatches s) c.number_at-place.result (mismatches-within (length s.blocks) s (omega arith)) got in
    omega (arith, first, last)
