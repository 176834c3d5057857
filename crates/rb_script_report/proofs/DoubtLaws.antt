-- Warnings, one line and one directive after another.
use Rattle.std.proofs.Common.{◌≡◌, ◌∙◌, ℕ, zero, suc, ◌+◌, ◌-◌, ◌<◌, ◌≤◌, Bool, true, false, List, [], ◌∷◌, ◌++◌, drop, length, Some, None, refl, ap, sym, arith}
use Rattle.std.specs.Prelude.{◌&&◌, ◌||◌, ◌==◌, if◌then◌else◌, slice_get, slice_index_or}
use Rattle.std.specs.List.{list_all, list_any}
use Rattle.std.specs.Str.{bytes_eq}
use Rattle.std.proofs.lemmas.List.{drop_all}
use Rattle.std.proofs.lemmas.List.Folds.{list_all-append}
use Rattle.rb_script.specs.Lines.{Line}
use Rattle.rb_script.specs.Marks.{is_lead, is_separator}
use Rattle.rb_script.specs.Script.{PlainBlock}
use Rattle.rb_script.specs.Heads.{HeadThere, head_at, with_inputs}
use Rattle.rb_script.specs.Joined.{joined}
use Rattle.rb_script.specs.Reading.{directive_of}
use Rattle.rb_replay.specs.Report.{same_lines}
use Rattle.rb_report.specs.declared.check.warning_kind.WarningKind.TheVariants.{InExpectation, InInput, Unread}
use Rattle.rb_text.proofs.SentLaws.{drop-get}
use Rattle.rb_script_report.specs.declared.part.BlockPart.{BlockPart}
use Rattle.rb_script_report.specs.declared.part.BlockPart.TheVariants.{Head, Input, Expected}
use Rattle.rb_script_report.specs.declared.warning.Warning.{Warning}
use Rattle.rb_script_report.specs.Doubts.{looks_like_directive, takes_input, is_called_rightly, next_part, warning_kind_of, one_warning, warnings_from, block_warnings, last_line, all_warnings}

-- one directive more
pub warnings_step : (ls : List Line) (heads : List ℕ) (bs : List PlainBlock) (os : List (List Line)) (i line : ℕ) (b : PlainBlock) (o : List Line)
    → slice_get heads i ≡ Some line → slice_get bs i ≡ Some b → slice_get os i ≡ Some o
    → all_warnings ls (drop i heads) (drop i bs) (drop i os) ≡ block_warnings ls line (last_line ls (drop (i + 1) heads)) b o ++ all_warnings ls (drop (i + 1) heads) (drop (i + 1) bs) (drop (i + 1) os)
warnings_step ls heads bs os i line b o head block output =
    ap (λ (ns : List ℕ). all_warnings ls ns (drop i bs) (drop i os)) (drop-get heads i line head)
    ∙ ap (λ (cs : List PlainBlock). all_warnings ls (line ∷ drop (i + 1) heads) cs (drop i os)) (drop-get bs i b block)
    ∙ ap (λ (outs : List (List Line)). all_warnings ls (line ∷ drop (i + 1) heads) (b ∷ drop (i + 1) bs) outs) (drop-get os i o output)

pub warnings_done : (ls : List Line) (heads : List ℕ) (bs : List PlainBlock) (os : List (List Line)) (i : ℕ) → length heads ≤ i → all_warnings ls (drop i heads) (drop i bs) (drop i os) ≡ []
warnings_done ls heads bs os i past = ap (λ (ns : List ℕ). all_warnings ls ns (drop i bs) (drop i os)) (drop_all i heads past)

-- one line more
pub line_step : (takes : Bool) (output ls : List Line) (part : BlockPart) (at left : ℕ) (line : Line) → 0 < left → line ≡ slice_index_or ls at []
    → warnings_from takes output ls part at left ≡ one_warning (at + 1) (warning_kind_of takes output part line) ++ warnings_from takes output ls (next_part part line) (at + 1) (left - 1)
line_step takes output ls part at zero line some is = absurd (omega (arith, some))
line_step takes output ls part at (suc left) line some is =
    let less : left ≡ suc left - 1 = omega (arith) in
    ap (λ (l : Line). one_warning (at + 1) (warning_kind_of takes output part l) ++ warnings_from takes output ls (next_part part l) (at + 1) left) (sym is)
    ∙ ap (λ (n : ℕ). one_warning (at + 1) (warning_kind_of takes output part line) ++ warnings_from takes output ls (next_part part line) (at + 1) n) less

pub line_done : (takes : Bool) (output ls : List Line) (part : BlockPart) (at left : ℕ) → left ≡ 0 → warnings_from takes output ls part at left ≡ []
line_done takes output ls part at zero none = refl
line_done takes output ls part at (suc left) none = absurd (omega (arith, none))

-- ---- a directive's input is its block's

inputs_are : (inputs : List Line) (there : HeadThere) → (with_inputs inputs there).inputs ≡ inputs
inputs_are inputs None = refl
inputs_are inputs (Some head) = refl

pub input_count : (b : PlainBlock) (n : ℕ) → n ≡ length (directive_of b).inputs → (n == 0) ≡ (length b.input == 0)
unfolding directive_of
input_count b n same = ap (λ (k : ℕ). k == 0) (same ∙ ap length (inputs_are b.input (head_at (joined b.head))))

-- ---- a line that is called a directive looks like one

input_right : (skips looks takes : Bool) (ls : List Line) (n : ℕ) → looks_like_directive (slice_index_or ls (n - 1) []) ≡ looks
    → list_all (is_called_rightly ls) (one_warning n (if skips then None else (if looks then Some InInput else (if takes then None else Some Unread)))) ≡ true
input_right true looks takes ls n e = refl
input_right false true takes ls n e = ap (λ (t : Bool). t && true) e
input_right false false true ls n e = refl
input_right false false false ls n e = refl

expected_right : (looks came : Bool) (ls : List Line) (n : ℕ) → looks_like_directive (slice_index_or ls (n - 1) []) ≡ looks
    → list_all (is_called_rightly ls) (one_warning n (if looks then (if came then None else Some InExpectation) else None)) ≡ true
expected_right false came ls n e = refl
expected_right true true ls n e = refl
expected_right true false ls n e = ap (λ (t : Bool). t && true) e

doubt_right : (takes : Bool) (output : List Line) (part : BlockPart) (line : Line) (ls : List Line) (n : ℕ) → slice_index_or ls (n - 1) [] ≡ line
    → list_all (is_called_rightly ls) (one_warning n (warning_kind_of takes output part line)) ≡ true
doubt_right takes output Head line ls n is = refl
doubt_right takes output Input line ls n is = input_right (is_separator line || is_lead line) (looks_like_directive line) takes ls n (ap looks_like_directive is)
doubt_right takes output Expected line ls n is = expected_right (looks_like_directive line) (list_any (λ came. bytes_eq came line) output) ls n (ap looks_like_directive is)

both_right : (ls : List Line) (xs ys : List Warning) → list_all (is_called_rightly ls) xs ≡ true → list_all (is_called_rightly ls) ys ≡ true → list_all (is_called_rightly ls) (xs ++ ys) ≡ true
both_right ls xs ys a b = list_all-append (is_called_rightly ls) xs ys ∙ ap (λ (t : Bool). t && list_all (is_called_rightly ls) ys) a ∙ b

warnings_right : (takes : Bool) (output ls : List Line) (part : BlockPart) (at left : ℕ) → list_all (is_called_rightly ls) (warnings_from takes output ls part at left) ≡ true
warnings_right takes output ls part at zero = refl
warnings_right takes output ls part at (suc left) =
    let line : Line = slice_index_or ls at [] in
    let same : at + 1 - 1 ≡ at = omega (arith) in
    both_right ls (one_warning (at + 1) (warning_kind_of takes output part line)) (warnings_from takes output ls (next_part part line) (at + 1) left)
    (doubt_right takes output part line ls (at + 1) (ap (λ (i : ℕ). slice_index_or ls i []) same))
    (warnings_right takes output ls (next_part part line) (at + 1) left)

block_right : (quiet : Bool) (takes : Bool) (output ls : List Line) (at left : ℕ) → list_all (is_called_rightly ls) (if quiet then [] else warnings_from takes output ls Head at left) ≡ true
block_right true takes output ls at left = refl
block_right false takes output ls at left = warnings_right takes output ls Head at left

pub all_right : (ls : List Line) (heads : List ℕ) (bs : List PlainBlock) (os : List (List Line)) → list_all (is_called_rightly ls) (all_warnings ls heads bs os) ≡ true
all_right ls [] bs os = refl
all_right ls (line ∷ heads) [] os = refl
all_right ls (line ∷ heads) (b ∷ bs) [] = refl
all_right ls (line ∷ heads) (b ∷ bs) (output ∷ os) =
    both_right ls (block_warnings ls line (last_line ls heads) b output) (all_warnings ls heads bs os)
    (block_right (same_lines b.expected output && length b.input == 0) (takes_input b) output ls (line - 1) (last_line ls heads - (line - 1)))
    (all_right ls heads bs os)
