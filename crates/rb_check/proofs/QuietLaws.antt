-- A script without mismatches and errors, of which nothing is shown.
use Rattle.std.proofs.Common.{◌≡◌, ◌∙◌, ℕ, ◌+◌, Bool, true, false, List, [], ◌∷◌, ◌++◌, Option, Some, None, refl, ap}
use Rattle.std.specs.Prelude.{◌&&◌, ◌||◌, not}
use Rattle.std.specs.List.{flat_map, list_any}
use Rattle.rb_script.specs.Lines.{Line}
use Rattle.rb_script.specs.Script.{PlainBlock}
use Rattle.rb_replay.specs.Run.{outputs}
use Rattle.rb_replay.specs.Report.{same_lines, differing}
use Rattle.rb_report.specs.declared.check.colors.Colors.{Colors}
use Rattle.rb_report.specs.declared.check.table.TheConstants.{MAX_SCRIPT_CELLS}
use Rattle.rb_script_report.specs.declared.view.Detail.{Detail}
use Rattle.rb_script_report.specs.declared.view.Detail.TheVariants as details
use Rattle.rb_script_report.specs.Checked.{brief_at, of_first}
use Rattle.rb_script_report.specs.Errors.{is_error, says_error, is_unexpected}
use Rattle.rb_script_report.specs.Shows.{IsQuiet}
use Rattle.rb_script_report.specs.Whys.{all_told, told_at}
use Rattle.rb_check.specs.declared.check_request.CheckRequest.{CheckRequest}
use Rattle.rb_check.specs.declared.format.Format.{Format}
use Rattle.rb_check.specs.declared.format.Format.TheVariants.{Json, Github, Junit}
use Rattle.rb_check.specs.Formats.{directive_object, error_command, errors_of, mismatch_command, script_text}
use Rattle.rb_check.specs.ScriptTexts.{may_be_empty, people_report, report_text}
use Rattle.rb_check.specs.Shown.{in_form}
use Rattle.rb_check.specs.Subjects.{PlainChecked, PlainRan, ran_at, runs_from}

by_test : {A : Type 0} (t : Bool) → (t ≡ true → A) → (t ≡ false → A) → A
by_test true same other = same refl
by_test false same other = other refl

neither : (t u : Bool) → (t || u) ≡ false → (t ≡ false) × (u ≡ false)
neither true u h = absurd cc
neither false u h = (refl, h)

unnamed : (ls : List Line) (line : ℕ) (o : List Line) → is_error o ≡ false → is_unexpected ls line o ≡ false
unnamed ls line o none = ap (λ (t : Bool). t && not (says_error ls line)) none

told_none : (left : ℕ) (colors : Colors) (ls : List Line) (path : List ℕ) (whys : List (List Line)) (i : ℕ) (heads : List ℕ) (bs : List PlainBlock) (os : List (List Line)) (p : ℕ)
    → differing p bs os ≡ [] → list_any is_error os ≡ false → all_told left false colors ls path whys i heads bs os ≡ []
told_none left colors ls path whys i [] bs os p same none = refl
told_none left colors ls path whys i (line ∷ heads) [] os p same none = refl
told_none left colors ls path whys i (line ∷ heads) (b ∷ bs) [] p same none = refl
told_none left colors ls path whys i (line ∷ heads) (b ∷ bs) (o ∷ os) p same none =
    let no = neither (is_error o) (list_any is_error os) none in
    let expected : is_unexpected ls line o ≡ false = unnamed ls line o no.0 in
    by_test (same_lines b.expected o)
    (λ equal. let later : differing (p + 1) bs os ≡ [] = rw equal at same in rw (equal, expected) (told_none left colors ls path whys (i + 1) heads bs os (p + 1) later no.1))
    (λ other. let first : p ∷ differing (p + 1) bs os ≡ [] = rw other at same in absurd cc)

-- nothing of them, if nothing is shown of a directive that matches and is no new error
each_none : (one : PlainRan → List ℕ) (ls : List Line) → ((d : PlainRan) → same_lines d.block.expected d.output ≡ true → is_unexpected ls d.line d.output ≡ false → one d ≡ [])
    → (whys : List (List Line)) (i : ℕ) (heads : List ℕ) (bs : List PlainBlock) (os : List (List Line)) (p : ℕ) → differing p bs os ≡ [] → list_any is_error os ≡ false → flat_map one (runs_from whys i heads bs os) ≡ []
each_none one ls quiet whys i [] bs os p same none = refl
each_none one ls quiet whys i (line ∷ heads) [] os p same none = refl
each_none one ls quiet whys i (line ∷ heads) (b ∷ bs) [] p same none = refl
each_none one ls quiet whys i (line ∷ heads) (b ∷ bs) (o ∷ os) p same none =
    let no = neither (is_error o) (list_any is_error os) none in
    by_test (same_lines b.expected o)
    (λ equal.
    let later : differing (p + 1) bs os ≡ [] = rw equal at same in
    ap (λ (l : List ℕ). l ++ flat_map one (runs_from whys (i + 1) heads bs os)) (quiet (ran_at whys i line b o) equal (unnamed ls line o no.0)) ∙ each_none one ls quiet whys (i + 1) heads bs os (p + 1) later no.1)
    (λ other. let first : p ∷ differing (p + 1) bs os ≡ [] = rw other at same in absurd cc)

object_none : (ls : List Line) (path : List ℕ) (d : PlainRan) → same_lines d.block.expected d.output ≡ true → is_unexpected ls d.line d.output ≡ false → directive_object ls path d ≡ []
object_none ls path d same expected = rw (same, expected) refl

command_none : (strict : Bool) (ls : List Line) (path : List ℕ) (d : PlainRan) → same_lines d.block.expected d.output ≡ true → is_unexpected ls d.line d.output ≡ false → error_command strict ls path d ≡ []
command_none strict ls path d same expected = rw (same, expected) refl

people_none : (wanted : Detail) (c : PlainChecked) → IsQuiet wanted c.script → people_report wanted c ≡ []
people_none details.Differing c q = told_none MAX_SCRIPT_CELLS c.colors c.layout.text c.path c.whys 0 c.layout.heads.items c.script.blocks (outputs c.script) 1 q.same q.no_error
people_none details.All c q = absurd (q.not_all refl)
people_none details.First c q = ap (λ (ks : List ℕ). of_first (told_at MAX_SCRIPT_CELLS false c.colors c.path c.whys c.layout.heads.items c.script) ks) q.same
people_none details.Brief c q = ap (λ (ks : List ℕ). of_first (brief_at c.path c.layout.heads.items c.script) ks) q.same

none_in : (format : Option Format) (wanted : Detail) (strict : Bool) (c : PlainChecked) → may_be_empty format ≡ true → IsQuiet wanted c.script → in_form format (people_report wanted c) (λ f. script_text f strict c) ≡ []
none_in None wanted strict c empty q = people_none wanted c q
none_in (Some Json) wanted strict c empty q = each_none (directive_object c.layout.text c.path) c.layout.text (object_none c.layout.text c.path) c.whys 0 c.layout.heads.items c.script.blocks (outputs c.script) 1 q.same q.no_error
none_in (Some Github) wanted strict c empty q =
    ap (λ (ks : List ℕ). of_first (mismatch_command c) ks ++ errors_of strict c) q.same ∙ each_none (error_command strict c.layout.text c.path) c.layout.text (command_none strict c.layout.text c.path) c.whys 0 c.layout.heads.items c.script.blocks (outputs c.script) 1 q.same q.no_error
none_in (Some Junit) wanted strict c empty q = absurd cc

pub report_none : (asked : CheckRequest) (c : PlainChecked) → may_be_empty asked.format ≡ true → IsQuiet asked.shown c.script → report_text asked c ≡ []
report_none asked c empty q = none_in asked.format asked.shown asked.is_strict c empty q
