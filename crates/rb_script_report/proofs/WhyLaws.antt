-- Reasons of a script's outputs: where they stand, and what they add.
use Rattle.std.proofs.Common.{◌≡◌, ◌∙◌, ℕ, ◌+◌, ◌-◌, ◌≤◌, ◌<◌, get_or, Bool, true, false, cond, List, [], ◌∷◌, ◌++◌, length, drop, Option, Some, unwrap_or, refl, ap, sym, arith}
use Rattle.std.specs.Prelude.{slice_get, slice_index_or}
use Rattle.std.proofs.lemmas.List.{drop_all}
use Rattle.std.proofs.lemmas.Option.{slice_get-get_or, slice_get_past, get_or_from_slice_get}
use Rattle.rb_script.specs.Lines.{Line}
use Rattle.rb_script.specs.Script.{PlainBlock, PlainScript}
use Rattle.rb_script.specs.Edits.{block_at_place}
use Rattle.rb_replay.specs.Run.{outputs}
use Rattle.rb_replay.specs.Report.{same_lines, mismatches}
use Rattle.rb_report.specs.declared.check.colors.Colors.{Colors}
use Rattle.rb_report.specs.declared.check.table.TheConstants.{MAX_SCRIPT_CELLS}
use Rattle.rb_report.specs.Diffs.{left_after}
use Rattle.rb_text.proofs.SentLaws.{drop-get}
use Rattle.rb_report.proofs.AddedLaws.{Adds, as_it_is, both_add, either_adds, adds_where, mismatch-adds, run-adds}
use Rattle.rb_script_report.specs.declared.view.Detail.{Detail}
use Rattle.rb_script_report.specs.declared.view.Detail.TheVariants as shown
use Rattle.rb_script_report.specs.Checked.{head_of, hint_of, head_line, match_shown, mismatch_shown, left_next, left_behind, all_shown, mismatch_at, brief_at, of_first, checked_text}
use Rattle.rb_script_report.specs.Whys.{why_at, told_differing, told_match, told_directive, all_told, told_at, told_alone, left_on, told_text}
use Rattle.rb_script_report.proofs.EachLaws.{more, done}
use Rattle.rb_script_report.proofs.ShownLaws.{head_line-is}

-- ---- one directive on

pub told-step : (left : ℕ) (all : Bool) (colors : Colors) (ls : List Line) (path : List ℕ) (whys : List (List Line)) (heads : List ℕ) (bs : List PlainBlock) (os : List (List Line)) (i line : ℕ) (b : PlainBlock) (o w : List Line)
    → slice_get heads i ≡ Some line → slice_get bs i ≡ Some b → slice_get os i ≡ Some o → w ≡ why_at whys i
    → all_told left all colors ls path whys i (drop i heads) (drop i bs) (drop i os) ≡ told_directive left all colors ls path line b o w ++ all_told (left_next left b o) all colors ls path whys (i + 1) (drop (i + 1) heads) (drop (i + 1) bs) (drop (i + 1) os)
told-step left all colors ls path whys heads bs os i line b o w head block output why =
    let rest = all_told (left_next left b o) all colors ls path whys (i + 1) (drop (i + 1) heads) (drop (i + 1) bs) (drop (i + 1) os) in
    ap (λ (ns : List ℕ). all_told left all colors ls path whys i ns (drop i bs) (drop i os)) (drop-get heads i line head)
    ∙ ap (λ (cs : List PlainBlock). all_told left all colors ls path whys i (line ∷ drop (i + 1) heads) cs (drop i os)) (drop-get bs i b block)
    ∙ ap (λ (outs : List (List Line)). all_told left all colors ls path whys i (line ∷ drop (i + 1) heads) (b ∷ drop (i + 1) bs) outs) (drop-get os i o output)
    ∙ ap (λ (l : List Line). told_directive left all colors ls path line b o l ++ rest) (sym why)

pub told-done : (left : ℕ) (all : Bool) (colors : Colors) (ls : List Line) (path : List ℕ) (whys : List (List Line)) (heads : List ℕ) (bs : List PlainBlock) (os : List (List Line)) (i : ℕ) → length bs ≤ i
    → all_told left all colors ls path whys i (drop i heads) (drop i bs) (drop i os) ≡ []
told-done left all colors ls path whys heads bs os i past = none_left left all colors ls path whys i (drop i heads) (drop i bs) (drop i os) (drop_all i bs past)
  where
    none_left : (left : ℕ) (all : Bool) (colors : Colors) (ls : List Line) (path : List ℕ) (whys : List (List Line)) (i : ℕ) (heads : List ℕ) (bs : List PlainBlock) (os : List (List Line)) → bs ≡ [] → all_told left all colors ls path whys i heads bs os ≡ []
    none_left left all colors ls path whys i [] bs os none = refl
    none_left left all colors ls path whys i (line ∷ heads) [] os none = refl
    none_left left all colors ls path whys i (line ∷ heads) (b ∷ bs) os none = absurd cc

-- what is at an index is at the place of it
pub at-place : {A : Type 0} (one : ℕ → PlainBlock → List Line → List Line → A) (whys : List (List Line)) (heads : List ℕ) (s : PlainScript) (i line : ℕ) (b : PlainBlock) (o w : List Line)
    → slice_get heads i ≡ Some line → slice_get s.blocks i ≡ Some b → slice_get (outputs s) i ≡ Some o → w ≡ why_at whys i
    → one line b o w ≡ one (head_line heads (i + 1)) (block_at_place s.blocks (i + 1)) (slice_index_or (outputs s) (i + 1 - 1) []) (why_at whys (i + 1 - 1))
at-place one whys heads s i line b o w head block output why =
    let on : i ≡ i + 1 - 1 = omega arith in
    let none : PlainBlock = record { lead = []; head = []; input = []; expected = [] } in
    ap (λ (n : ℕ). one n b o w) (head_line-is heads i line head)
    ∙ ap (λ (c : PlainBlock). one (head_line heads (i + 1)) c o w) (sym (get_or_from_slice_get s.blocks i b none block))
    ∙ ap (λ (k : ℕ). one (head_line heads (i + 1)) (slice_index_or s.blocks k none) o w) on
    ∙ ap (λ (ls : List Line). one (head_line heads (i + 1)) (block_at_place s.blocks (i + 1)) ls w) (sym (get_or_from_slice_get (outputs s) i o [] output))
    ∙ ap (λ (k : ℕ). one (head_line heads (i + 1)) (block_at_place s.blocks (i + 1)) (slice_index_or (outputs s) k []) w) on
    ∙ ap (λ (ls : List Line). one (head_line heads (i + 1)) (block_at_place s.blocks (i + 1)) (slice_index_or (outputs s) (i + 1 - 1) []) ls) why
    ∙ ap (λ (k : ℕ). one (head_line heads (i + 1)) (block_at_place s.blocks (i + 1)) (slice_index_or (outputs s) (i + 1 - 1) []) (why_at whys k)) on

-- the mismatch at an index
pub told-is : (left : ℕ) (grouped : Bool) (colors : Colors) (path : List ℕ) (whys : List (List Line)) (heads : List ℕ) (s : PlainScript) (i line : ℕ) (b : PlainBlock) (o w : List Line)
    → slice_get heads i ≡ Some line → slice_get s.blocks i ≡ Some b → slice_get (outputs s) i ≡ Some o → w ≡ why_at whys i → told_differing left grouped colors path line b o w ≡ told_at left grouped colors path whys heads s (i + 1)
told-is left grouped colors path whys heads s = at-place (told_differing left grouped colors path) whys heads s

-- the directive at an index
pub alone-is : (left : ℕ) (all : Bool) (colors : Colors) (ls : List Line) (path : List ℕ) (whys : List (List Line)) (heads : List ℕ) (s : PlainScript) (i line : ℕ) (b : PlainBlock) (o w : List Line)
    → slice_get heads i ≡ Some line → slice_get s.blocks i ≡ Some b → slice_get (outputs s) i ≡ Some o → w ≡ why_at whys i → told_directive left all colors ls path line b o w ≡ told_alone left all colors ls path whys heads s (i + 1)
alone-is left all colors ls path whys heads s = at-place (told_directive left all colors ls path) whys heads s

-- what it leaves
pub left-is : (left : ℕ) (s : PlainScript) (i : ℕ) (b : PlainBlock) (o : List Line) → slice_get s.blocks i ≡ Some b → slice_get (outputs s) i ≡ Some o → left_after left b.expected o ≡ left_behind left s (i + 1)
left-is left s i b o block output =
    let on : i ≡ i + 1 - 1 = omega arith in
    let none : PlainBlock = record { lead = []; head = []; input = []; expected = [] } in
    ap (λ (c : PlainBlock). left_after left c.expected o) (sym (get_or_from_slice_get s.blocks i b none block))
    ∙ ap (λ (k : ℕ). left_after left (slice_index_or s.blocks k none).expected o) on
    ∙ ap (λ (ls : List Line). left_after left (block_at_place s.blocks (i + 1)).expected ls) (sym (get_or_from_slice_get (outputs s) i o [] output))
    ∙ ap (λ (k : ℕ). left_after left (block_at_place s.blocks (i + 1)).expected (slice_index_or (outputs s) k [])) on

-- what a directive leaves
pub on-is : (left : ℕ) (s : PlainScript) (i : ℕ) (b : PlainBlock) (o : List Line) → slice_get s.blocks i ≡ Some b → slice_get (outputs s) i ≡ Some o → left_next left b o ≡ left_on left s (i + 1)
on-is left s i b o block output =
    let on : i ≡ i + 1 - 1 = omega arith in
    let none : PlainBlock = record { lead = []; head = []; input = []; expected = [] } in
    ap (λ (c : PlainBlock). left_next left c o) (sym (get_or_from_slice_get s.blocks i b none block))
    ∙ ap (λ (k : ℕ). left_next left (slice_index_or s.blocks k none) o) on
    ∙ ap (λ (ls : List Line). left_next left (block_at_place s.blocks (i + 1)) ls) (sym (get_or_from_slice_get (outputs s) i o [] output))
    ∙ ap (λ (k : ℕ). left_next left (block_at_place s.blocks (i + 1)) (slice_index_or (outputs s) k [])) on

-- ---- what is shown of a directive

pub told-differing : (left : ℕ) (all : Bool) (colors : Colors) (ls : List Line) (path : List ℕ) (line : ℕ) (b : PlainBlock) (o w : List Line) → same_lines b.expected o ≡ false
    → told_differing left all colors path line b o w ≡ told_directive left all colors ls path line b o w
told-differing left all colors ls path line b o w other = sym (ap (λ (t : Bool). cond t (told_match all ls path line b o w) (told_differing left all colors path line b o w)) other)

pub told-matching : (left : ℕ) (all : Bool) (colors : Colors) (ls : List Line) (path : List ℕ) (line : ℕ) (b : PlainBlock) (o w : List Line) → same_lines b.expected o ≡ true
    → told_match all ls path line b o w ≡ told_directive left all colors ls path line b o w
told-matching left all colors ls path line b o w same = sym (ap (λ (t : Bool). cond t (told_match all ls path line b o w) (told_differing left all colors path line b o w)) same)

pub leaves-after : (left : ℕ) (b : PlainBlock) (o : List Line) → same_lines b.expected o ≡ false → left_after left b.expected o ≡ left_next left b o
leaves-after left b o other = sym (ap (λ (t : Bool). cond t left (left_after left b.expected o)) other)

pub leaves-all : (left : ℕ) (b : PlainBlock) (o : List Line) → same_lines b.expected o ≡ true → left ≡ left_next left b o
leaves-all left b o same = sym (ap (λ (t : Bool). cond t left (left_after left b.expected o)) same)

-- one directive on, by its place
pub place-step : (left : ℕ) (all : Bool) (colors : Colors) (ls : List Line) (path : List ℕ) (whys : List (List Line)) (heads : List ℕ) (s : PlainScript) (i : ℕ) → i < length heads → i < length s.blocks → i < length (outputs s)
    → all_told left all colors ls path whys i (drop i heads) (drop i s.blocks) (drop i (outputs s))
    ≡ told_alone left all colors ls path whys heads s (i + 1) ++ all_told (left_on left s (i + 1)) all colors ls path whys (i + 1) (drop (i + 1) heads) (drop (i + 1) s.blocks) (drop (i + 1) (outputs s))
place-step left all colors ls path whys heads s i in_heads in_blocks in_outputs =
    let none : PlainBlock = record { lead = []; head = []; input = []; expected = [] } in
    let line : ℕ = get_or heads i 0 in
    let b : PlainBlock = get_or s.blocks i none in
    let o : List Line = get_or (outputs s) i [] in
    let head : slice_get heads i ≡ Some line = slice_get-get_or heads i 0 in_heads in
    let block : slice_get s.blocks i ≡ Some b = slice_get-get_or s.blocks i none in_blocks in
    let output : slice_get (outputs s) i ≡ Some o = slice_get-get_or (outputs s) i [] in_outputs in
    told-step left all colors ls path whys heads s.blocks (outputs s) i line b o (why_at whys i) head block output refl
    ∙ ap (λ (t : List ℕ). t ++ all_told (left_next left b o) all colors ls path whys (i + 1) (drop (i + 1) heads) (drop (i + 1) s.blocks) (drop (i + 1) (outputs s))) (alone-is left all colors ls path whys heads s i line b o (why_at whys i) head block output refl)
    ∙ ap (λ (n : ℕ). told_alone left all colors ls path whys heads s (i + 1) ++ all_told n all colors ls path whys (i + 1) (drop (i + 1) heads) (drop (i + 1) s.blocks) (drop (i + 1) (outputs s))) (on-is left s i b o block output)

-- ---- what reasons add, and that none add nothing

nothing_at : (whys : List (List Line)) (i : ℕ) → whys ≡ [] → why_at whys i ≡ []
nothing_at whys i none = ap (λ (ws : List (List Line)). why_at ws i) none ∙ ap (λ (o : Option (List Line)). unwrap_or o []) (slice_get_past [] i (omega arith))

match-adds : (all : Bool) (ls : List Line) (path : List ℕ) (line : ℕ) (b : PlainBlock) (output why : List Line) → Adds (why ≡ []) (match_shown all ls path line b output) (told_match all ls path line b output why)
match-adds true ls path line b output why = run-adds path line (head_of b) output why (hint_of b output)
match-adds false ls path line b output why = as_it_is (match_shown false ls path line b output)

differing-adds : (left : ℕ) (grouped : Bool) (colors : Colors) (path : List ℕ) (line : ℕ) (b : PlainBlock) (output : List Line) (whys : List (List Line)) (i : ℕ)
    → Adds (whys ≡ []) (mismatch_shown left grouped colors path line b output) (told_differing left grouped colors path line b output (why_at whys i))
differing-adds left grouped colors path line b output whys i = adds_where (nothing_at whys i) (mismatch-adds left grouped colors path line (head_of b) b.expected output (why_at whys i) (hint_of b output))

all-add : (left : ℕ) (all : Bool) (colors : Colors) (ls : List Line) (path : List ℕ) (whys : List (List Line)) (i : ℕ) (heads : List ℕ) (bs : List PlainBlock) (os : List (List Line))
    → Adds (whys ≡ []) (all_shown left all colors ls path heads bs os) (all_told left all colors ls path whys i heads bs os)
all-add left all colors ls path whys i [] bs os = as_it_is []
all-add left all colors ls path whys i (line ∷ heads) [] os = as_it_is []
all-add left all colors ls path whys i (line ∷ heads) (b ∷ bs) [] = as_it_is []
all-add left all colors ls path whys i (line ∷ heads) (b ∷ bs) (o ∷ os) =
    both_add (either_adds (same_lines b.expected o) (adds_where (nothing_at whys i) (match-adds all ls path line b o (why_at whys i))) (differing-adds left all colors path line b o whys i))
    (all-add (left_next left b o) all colors ls path whys (i + 1) heads bs os)

first-adds : (colors : Colors) (path : List ℕ) (whys : List (List Line)) (heads : List ℕ) (s : PlainScript) (ks : List ℕ) → Adds (whys ≡ []) (of_first (mismatch_at MAX_SCRIPT_CELLS colors path heads s) ks) (of_first (told_at MAX_SCRIPT_CELLS false colors path whys heads s) ks)
first-adds colors path whys heads s [] = as_it_is []
first-adds colors path whys heads s (k ∷ ks) = differing-adds MAX_SCRIPT_CELLS false colors path (head_line heads k) (block_at_place s.blocks k) (slice_index_or (outputs s) (k - 1) []) whys (k - 1)

pub told-adds : (wanted : Detail) (colors : Colors) (ls : List Line) (path : List ℕ) (whys : List (List Line)) (heads : List ℕ) (s : PlainScript) → Adds (whys ≡ []) (checked_text wanted colors ls path heads s) (told_text wanted colors ls path whys heads s)
told-adds shown.Differing colors ls path whys heads s = all-add MAX_SCRIPT_CELLS false colors ls path whys 0 heads s.blocks (outputs s)
told-adds shown.All colors ls path whys heads s = all-add MAX_SCRIPT_CELLS true colors ls path whys 0 heads s.blocks (outputs s)
told-adds shown.First colors ls path whys heads s = first-adds colors path whys heads s (mismatches s)
told-adds shown.Brief colors ls path whys heads s = as_it_is (of_first (brief_at path heads s) (mismatches s))
