-- Solid lines are an expectation, which stands in the plain form.
use Rattle.std.proofs.Common.{◌≡◌, ◌≤◌, true, false, not, ◌||◌, List, [], ◌∷◌, refl, ap, arith}
use Rattle.std.specs.Prelude.{◌==◌}
use Rattle.std.specs.List.{list_all, AllByRecursion}
use Rattle.std.proofs.lemmas.Bool.{and_from, or_from, ne_eqb, false_from_ne_true}
use Rattle.rb_script.specs.Lines.{Line}
use Rattle.rb_script.specs.Marks.{is_blank, is_rule}
use Rattle.rb_script.specs.Script.{needs_double}
use Rattle.rb_script.specs.Reads.{is_readable}
use Rattle.rb_script.specs.Valid.{IsLine}
use Rattle.rb_script.specs.Edits.{ends_in_return, is_text_line, is_expectation}
use Rattle.rb_script.specs.LineParts.{IsSolid}
use Rattle.rb_script.proofs.ListLaws.{all_pass}
use Rattle.rb_script.proofs.SharedLaws.{returns_kept, line_text_is}
use Rattle.rb_script.proofs.ExpectationLaws.{rule_is}
use Rattle.rb_script.proofs.ReadingLaws.{plain_readable}

-- printable bytes hold no LF
no_feed : (line : Line) → AllByRecursion (λ b. (32 ≤ b) × (b ≤ 126)) line → list_all (λ b. not (b == 10)) line ≡ true
no_feed line h =
    all_pass (λ b. not (b == 10)) (λ b. (32 ≤ b) × (b ≤ 126)) (λ b is. let at_least : 32 ≤ b = is.0 in ap not (ne_eqb b 10 (λ e. omega arith))) line h

-- nor a carriage return at their end
no_return : (line : Line) → AllByRecursion (λ b. (32 ≤ b) × (b ≤ 126)) line → ends_in_return line ≡ false
no_return [] h = refl
no_return (b ∷ []) h = let at_least : 32 ≤ b = h.0.0 in ne_eqb b 13 (λ e. omega arith)
no_return (b ∷ c ∷ line) h = no_return (c ∷ line) h.1

-- a solid line reads as itself
solid_line : (line : Line) → IsSolid line → IsLine line
solid_line line h = record { no_end = no_feed line h.printable; no_return = returns_kept line (no_return line h.printable); short = h.short }

-- it isn't ----
solid_rule : (line : Line) → IsSolid line → is_rule line ≡ false
solid_rule line h = false_from_ne_true (is_rule line) (λ t. h.no_rule (rule_is line t))

solid_lines : (ls : List Line) → AllByRecursion IsSolid ls → list_all is_text_line ls ≡ true
solid_lines ls h = all_pass is_text_line IsSolid (λ line is. line_text_is line (solid_line line is)) ls h

-- the plain form can show them
pub solid_plain : (ls : List Line) → AllByRecursion IsSolid ls → needs_double ls ≡ false
solid_plain [] h = refl
solid_plain (line ∷ ls) h = or_from (is_blank line || is_rule line) (needs_double ls) (or_from (is_blank line) (is_rule line) h.0.some (solid_rule line h.0)) (solid_plain ls h.1)

-- so they can be read back, and expected
pub solid_expected : (ls : List Line) → AllByRecursion IsSolid ls → is_expectation ls ≡ true
solid_expected ls h = and_from (is_readable ls) (list_all is_text_line ls) (plain_readable ls (solid_plain ls h)) (solid_lines ls h)
