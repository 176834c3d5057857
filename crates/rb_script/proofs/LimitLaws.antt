-- Lines and texts within their limits.
use Rattle.std.proofs.Common.{◌≡◌, ℕ, ◌+◌, ◌≤◌, ◌<◌, cond, List, [], ◌∷◌, length, Option, Some, Ok, Err, ap, sym, ◌∙◌}
use Rattle.std.proofs.lemmas.Bool.{lt-ltb, le-ltb}
use Rattle.rb_script.specs.declared.fault.ScriptFault.TheVariants as faults
use Rattle.rb_script.specs.Lines.{Line}
use Rattle.rb_script.specs.declared.limits.TheConstants.{MAX_LINE}
use Rattle.rb_script.specs.Reading.{long_line, no_long_line}

module _ (n m : ℕ) (ls after : List Line) (line : Line) (e : ls ≡ line ∷ after) where
  pub long_more : (total : Option ℕ) → m ≡ n + 1 → length line ≤ MAX_LINE → long_line n ls ≡ total → long_line m after ≡ total
  unfolding long_line
  long_more total is le so_far =
      ap (λ (k : ℕ). long_line k after) is ∙ sym (ap (long_line n) e ∙ ap (λ t. cond t (Some n) (long_line (n + 1) after)) (le-ltb MAX_LINE (length line) le)) ∙ so_far

  pub long_found : (total : Option ℕ) → MAX_LINE < length line → long_line n ls ≡ total → Err (faults.LineTooLong n) ≡ no_long_line total
  unfolding long_line
  long_found total lt so_far =
      let found : Some n ≡ total = sym (ap (long_line n) e ∙ ap (λ t. cond t (Some n) (long_line (n + 1) after)) (lt-ltb MAX_LINE (length line) lt)) ∙ so_far in
      ap no_long_line found

pub long_none : (n : ℕ) (ls : List Line) (total : Option ℕ) → ls ≡ [] → long_line n ls ≡ total → Ok tt ≡ no_long_line total
unfolding long_line
long_none n ls total e so_far = ap no_long_line (sym (ap (long_line n) e) ∙ so_far)
