-- Printed lines can be expected.
use Rattle.std.proofs.Common.{◌≡◌, ◌≤◌, true, false, List, [], ◌∷◌, length, refl, sym, ◌∙◌}
use Rattle.std.specs.Prelude.{not, ◌&&◌, ◌||◌, nat_le}
use Rattle.std.specs.List.{list_all, AllByRecursion}
use Rattle.std.proofs.lemmas.Bool.{and_parts, or_from, not-true, leb-true}
use Rattle.rb_script.specs.declared.limits.TheConstants.{MAX_LINE}
use Rattle.rb_script.specs.Lines.{Line}
use Rattle.rb_script.specs.Marks.{is_blank, is_rule}
use Rattle.rb_script.specs.Script.{needs_double}
use Rattle.rb_script.specs.Edits.{is_expectation}
use Rattle.rb_script.specs.LineParts.{IsSolid}
use Rattle.rb_script.proofs.LinePartLaws.{rule_passes}
use Rattle.rb_script.proofs.SolidLaws.{solid_expected}
use Rattle.rb_texts.specs.Quoted.{is_printable}
use Rattle.rb_texts.specs.Shapes.{is_one_line, is_solid}

-- bytes from the space to the tilde
printable : (line : Line) → is_one_line line ≡ true → AllByRecursion (λ b. (32 ≤ b) × (b ≤ 126)) line
printable [] h = tt
printable (b ∷ line) h =
    let p = and_parts (is_printable b) (is_one_line line) h in
    let q = and_parts (nat_le 32 b) (nat_le b 126) p.0 in
    ((leb-true 32 b q.0, leb-true b 126 q.1), printable line p.1)

-- a line that passes the test is solid
solid : (line : Line) → is_solid line ≡ true → length line ≤ MAX_LINE → IsSolid line
solid line h short =
    let p = and_parts (not (is_blank line) && not (is_rule line)) (is_one_line line) h in
    let q = and_parts (not (is_blank line)) (not (is_rule line)) p.0 in
    let no : is_rule line ≡ false = not-true (is_rule line) q.1 in
    record {
      printable = printable line p.1;
      short = short;
      some = not-true (is_blank line) q.0;
      no_rule = λ e. let both : false ≡ true = sym no ∙ rule_passes line e in cc;
    }

-- each line is
all_solid : (ls : List Line) → list_all is_solid ls ≡ true → AllByRecursion (λ line. length line ≤ MAX_LINE) ls → AllByRecursion IsSolid ls
all_solid [] h k = tt
all_solid (line ∷ ls) h k = let p = and_parts (is_solid line) (list_all is_solid ls) h in (solid line p.0 k.0, all_solid ls p.1 k.1)

-- so they can be expected
pub printed_expected : (ls : List Line) → list_all is_solid ls ≡ true → AllByRecursion (λ line. length line ≤ MAX_LINE) ls → is_expectation ls ≡ true
printed_expected ls h k = solid_expected ls (all_solid ls h k)

-- and in the plain form, however long they are
pub printed_plain : (ls : List Line) → list_all is_solid ls ≡ true → needs_double ls ≡ false
printed_plain [] h = refl
printed_plain (line ∷ ls) h =
    let p = and_parts (is_solid line) (list_all is_solid ls) h in
    let q = and_parts (not (is_blank line) && not (is_rule line)) (is_one_line line) p.0 in
    let r = and_parts (not (is_blank line)) (not (is_rule line)) q.0 in
    or_from (is_blank line || is_rule line) (needs_double ls) (or_from (is_blank line) (is_rule line) (not-true (is_blank line) r.0) (not-true (is_rule line) r.1)) (printed_plain ls p.1)
