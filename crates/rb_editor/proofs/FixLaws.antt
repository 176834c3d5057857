-- The first of some lines that look like a slip.
use Rattle.std.proofs.Common.{◌≡◌, ◌∙◌, ℕ, ◌+◌, ◌<◌, ◌≤◌, Bool, true, false, List, length, drop, get_or, Some, None, ap}
use Rattle.std.specs.Prelude.{if◌then◌else◌}
use Rattle.std.proofs.lemmas.List.{drop_all, drop_more}
use Rattle.rb_script_report.specs.declared.warning.Warning.{Warning}
use Rattle.rb_editor.specs.declared.actions.extent.LineSpan.{LineSpan}
use Rattle.rb_editor.specs.Actions.{first_within, is_within}

pub within_here : (span : LineSpan) (ws : List Warning) (i : ℕ) (d : Warning) → i < length ws → is_within span (get_or ws i d) ≡ true → first_within span (drop i ws) ≡ Some (get_or ws i d)
within_here span ws i d within in_it =
    ap (first_within span) (drop_more ws i d within) ∙ ap (λ (b : Bool). if b then Some (get_or ws i d) else first_within span (drop (i + 1) ws)) in_it

pub within_next : (span : LineSpan) (ws : List Warning) (i : ℕ) (d : Warning) → i < length ws → is_within span (get_or ws i d) ≡ false
    → first_within span (drop i ws) ≡ first_within span (drop (i + 1) ws)
within_next span ws i d within out_of =
    ap (first_within span) (drop_more ws i d within) ∙ ap (λ (b : Bool). if b then Some (get_or ws i d) else first_within span (drop (i + 1) ws)) out_of

pub within_none : (span : LineSpan) (ws : List Warning) (i : ℕ) → length ws ≤ i → first_within span (drop i ws) ≡ None
within_none span ws i past = ap (first_within span) (drop_all i ws past)
