-- What is shown of a line.
use Rattle.std.proofs.Common.{◌≡◌, ℕ, ◌+◌, Bool, true, false, cond, ◌||◌, List, [], ◌∷◌, ◌++◌, drop, Some, refl, ap, sym, ◌∙◌, append-nil, arith}
use Rattle.std.specs.Prelude.{◌==◌, codes, slice_get}
use Rattle.std.proofs.lemmas.List.{append_cancel_right}
use Rattle.rb_script.specs.Bytes.{space}
use Rattle.rb_script.specs.Lines.{Line}
use Rattle.rb_script.specs.Marks.{is_space}
use Rattle.rb_report.specs.declared.check.colors.Colors.{Colors}
use Rattle.rb_report.specs.declared.check.position.DiffPosition.{DiffPosition}
use Rattle.rb_report.specs.declared.check.side.Side.{Side}
use Rattle.rb_report.specs.Shown.{last_or, begins_fold, needs_mark, marked, dollar_sign}
use Rattle.rb_report.specs.Steps.{after_line}
use Rattle.rb_report.specs.Whys.{told_line, told_lines}
use Rattle.rb_text.proofs.SentLaws.{drop-get}
use Rattle.rb_report.proofs.SubsequenceLaws.{two_answers}

-- ---- the mark at the end

last_or-push : (d : ℕ) (line : Line) (b : ℕ) → last_or d (line ++ b ∷ []) ≡ b
last_or-push d [] b = refl
last_or-push d (c ∷ line) b = last_or-push c line b

-- a line by its last byte
needs_mark-push : (line : Line) (b : ℕ) → needs_mark (line ++ b ∷ []) ≡ (is_space b || (b == dollar_sign || begins_fold (line ++ b ∷ [])))
needs_mark-push line b = ap (λ (c : ℕ). is_space c || (c == dollar_sign || begins_fold (line ++ b ∷ []))) (last_or-push space line b)

-- what the test of a last byte says
pub needs_mark-blank : (line front : Line) (b : ℕ) (t : Bool) → line ≡ front ++ b ∷ [] → t ≡ is_space b → t ≡ true → t ≡ needs_mark line
needs_mark-blank line front b t parts blank is =
    is ∙ sym (ap needs_mark parts ∙ needs_mark-push front b ∙ ap (λ (s : Bool). s || (b == dollar_sign || begins_fold (front ++ b ∷ []))) (sym blank ∙ is))

pub needs_mark-other : (line front : Line) (b : ℕ) (t : Bool) → line ≡ front ++ b ∷ [] → t ≡ is_space b → t ≡ false → (b == dollar_sign || begins_fold line) ≡ needs_mark line
needs_mark-other line front b t parts blank is =
    sym (ap needs_mark parts ∙ needs_mark-push front b ∙ ap (λ (s : Bool). s || (b == dollar_sign || begins_fold (front ++ b ∷ []))) (sym blank ∙ is)
    ∙ ap (λ (l : Line). b == dollar_sign || begins_fold l) (sym parts))

-- two lines, of which it is known whether they are marked
tells_by : (line other : Line) (s t : Bool) → needs_mark line ≡ s → needs_mark other ≡ t → line ++ cond s (codes "$") [] ≡ other ++ cond t (codes "$") [] → line ≡ other
tells_by line other true true h k e = append_cancel_right line other (codes "$") e
tells_by line other false false h k e = append_cancel_right line other [] e
tells_by line other true false h k e = two_answers (needs_mark other) (ap needs_mark (sym (e ∙ append-nil other)) ∙ needs_mark-push line dollar_sign) k
tells_by line other false true h k e = two_answers (needs_mark line) (ap needs_mark (sym (append-nil line) ∙ e) ∙ needs_mark-push other dollar_sign) h

pub marked_tells : (line other : Line) → marked line ≡ marked other → line ≡ other
unfolding marked
marked_tells line other e = tells_by line other (needs_mark line) (needs_mark other) refl refl e

-- the end of a marked line is seen
not_either : (a b : Bool) → (a || b) ≡ false → a ≡ false
not_either true b h = absurd cc
not_either false b h = refl

seen_by : (line : Line) (t : Bool) → needs_mark line ≡ t → is_space (last_or space (line ++ cond t (codes "$") [])) ≡ false
seen_by line true h = ap is_space (last_or-push space line dollar_sign)
seen_by line false h = ap (λ (l : Line). is_space (last_or space l)) (append-nil line) ∙ not_either (is_space (last_or space line)) (last_or space line == dollar_sign || begins_fold line) h

pub marked_seen : (line : Line) → is_space (last_or space (marked line)) ≡ false
unfolding marked
marked_seen line = seen_by line (needs_mark line) refl

-- ---- lines one after another, with the reasons below them

pub told-step : (colors : Colors) (side : Side) (why : List Line) (p : DiffPosition) (i : ℕ) (ls : List Line) (line : Line) → slice_get ls i ≡ Some line
    → told_lines colors side why p (drop i ls) ≡ told_line colors side why p line ++ told_lines colors side why (after_line side p line) (drop (i + 1) ls)
told-step colors side why p i ls line got = ap (λ (l : List Line). told_lines colors side why p l) (drop-get ls i line got)
