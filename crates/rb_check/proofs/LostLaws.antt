-- Paths that failed, one after another.
use Rattle.std.proofs.Common.{◌≡◌, ◌∙◌, ℕ, ◌+◌, List, [], ◌∷◌, ◌++◌, Some, ap, sym, take, append-nil}
use Rattle.std.specs.Prelude.{map, slice_get}
use Rattle.std.specs.List.{flat_map}
use Rattle.std.proofs.lemmas.Grind.{flat_map-append}
use Rattle.std.proofs.lemmas.List.{map-append}
use Rattle.rb_files.specs.declared.finding.FailedPath.{FailedPath}
use Rattle.rb_report.specs.declared.check.totals.Totals.{Totals}
use Rattle.rb_script.proofs.ListLaws.{take_there}
use Rattle.rb_check.specs.Lost.{lost_path}
use Rattle.rb_check.specs.Results.{counts_of, counts_with}
use Rattle.rb_check.proofs.ReportLaws.{counts_then}

-- one failure more
pub counted_more : (t : Totals) (lost : List FailedPath) (i : ℕ) (x : FailedPath) → slice_get lost i ≡ Some x → counts_with (counts_of t (map lost_path (take i lost))) (lost_path x).found ≡ counts_of t (map lost_path (take (i + 1) lost))
counted_more t lost i x got =
    counts_then t (map lost_path (take i lost)) (lost_path x ∷ [])
    ∙ sym (ap (λ (l : List FailedPath). counts_of t (map lost_path l)) (take_there lost i x got) ∙ ap (counts_of t) (map-append lost_path (take i lost) (x ∷ [])))

-- one text more
pub text_more : {X : Type 0} (text : X → List ℕ) (xs : List X) (i : ℕ) (x : X) → slice_get xs i ≡ Some x → flat_map text (take i xs) ++ text x ≡ flat_map text (take (i + 1) xs)
text_more text xs i x got =
    sym (ap (flat_map text) (take_there xs i x got) ∙ flat_map-append text (take i xs) (x ∷ []) ∙ ap (λ (l : List ℕ). flat_map text (take i xs) ++ l) (append-nil (text x)))
