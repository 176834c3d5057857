-- The steps of some directives, and the cells that are left before them.
use Rattle.std.proofs.Common.{◌≡◌, ◌∙◌, ℕ, zero, suc, ◌+◌, ◌-◌, ◌<◌, ◌≤◌, Bool, true, false, List, [], ◌∷◌, ◌++◌, length, get_or, take, drop, map, codes, Option, Some, None, refl, ap, ap₂, sym, arith, append_assoc}
use Rattle.std.specs.Prelude.{if◌then◌else◌, option_map, reverse, slice_get, unwrap_or}
use Rattle.std.specs.List.{common_prefix_len, flat_map, take-map}
use Rattle.std.specs.Str.{bytes_eq}
use Rattle.std.proofs.lemmas.Bool.{cond-false}
use Rattle.std.proofs.lemmas.List.{drop-drop, get_or-drop, length-drop, length-take-le, take_all, take_more}
use Rattle.std.proofs.lemmas.Option.{get_or_from_slice_get, slice_get-get_or, slice_get-map, slice_get_within}
use Rattle.rb_script.specs.Lines.{Line}
use Rattle.rb_script.specs.Script.{PlainBlock, PlainScript}
use Rattle.rb_script.specs.Directive.{PlainDirective}
use Rattle.rb_script.specs.Reading.{directive_of}
use Rattle.rb_report.specs.declared.check.table.TheConstants.{MAX_SCRIPT_CELLS}
use Rattle.rb_report.specs.Diffs.{cells_within, left_after, middle_cells, without_last}
use Rattle.rb_report.proofs.PrefixLaws.{get_behind}
use Rattle.rb_machine.specs.Cluster.{Cluster, empty}
use Rattle.rb_machine.specs.Outcome.{outcome}
use Rattle.rb_replay.specs.Run.{answers, directives, led, outputs, state}
use Rattle.rb_script_report.specs.declared.warning.Warning.{Warning}
use Rattle.rb_view.specs.Kept.{joined, texts_of}
use Rattle.rb_view.specs.PageRoom.{has_room, held}
use Rattle.rb_view.specs.Pages.{first_row}
use Rattle.rb_view.specs.Pages as pages
use Rattle.rb_view.specs.Rows.{Row, next_text, row_text, rows_text}
use Rattle.rb_view.specs.SomeSteps.{cells_of, cells_row, left_at, left_from, left_in, some_steps, some_texts, texts_after}
use Rattle.rb_view.specs.Steps.{Step, end_row, left_next, step, step_texts, steps, steps_from, warning_row}
use Rattle.rb_view.specs.Values.{step_rows}
use Rattle.rb_view.proofs.KeptLaws.{left_some}
use Rattle.rb_view.proofs.PageRoomLaws.{full_after}
use Rattle.rb_view.proofs.StepLaws.{both_joined, rows_joined, steps_end}
use Rattle.rb_view.proofs.ValueLaws.{steps_are}

-- ---- steps of the first directives, and of the others

pub steps_take : (n left : ℕ) (heads : List ℕ) (c : Cluster) (bs : List PlainBlock) → take n (steps_from left heads c bs) ≡ steps_from left (take n heads) c (take n bs)
steps_take zero left heads c bs = refl
steps_take (suc n) left [] c bs = refl
steps_take (suc n) left (line ∷ heads) c [] = refl
steps_take (suc n) left (line ∷ heads) c (b ∷ bs) =
    ap (λ (ss : List Step). step left line c b ∷ ss) (steps_take n (left_next left b.expected (outcome c (directive_of b)).output) heads (outcome c (directive_of b)).cluster bs)

pub steps_drop : (n left : ℕ) (heads : List ℕ) (c : Cluster) (bs : List PlainBlock)
    → drop n (steps_from left heads c bs) ≡ steps_from (left_from left c (take n bs)) (drop n heads) (led c (take n (map directive_of bs))) (drop n bs)
steps_drop zero left heads c bs = refl
steps_drop (suc n) left [] c bs = refl
steps_drop (suc n) left (line ∷ heads) c [] = sym (steps_end left (drop n heads) c [] refl)
steps_drop (suc n) left (line ∷ heads) c (b ∷ bs) = steps_drop n (left_next left b.expected (outcome c (directive_of b)).output) heads (outcome c (directive_of b)).cluster bs

-- one of some steps, and those after it
pub some_more : (heads : List ℕ) (s : PlainScript) (i to line : ℕ) (b : PlainBlock) → i < to → slice_get heads i ≡ Some line → slice_get s.blocks i ≡ Some b
    → take (to - i) (drop i (steps heads s)) ≡ step (left_at s i) line (state s i) b ∷ take (to - (i + 1)) (drop (i + 1) (steps heads s))
some_more heads s i to line b less head block =
    let all = steps heads s in
    let x = step (left_at s i) line (state s i) b in
    let rest = steps_from (left_next (left_at s i) b.expected x.output) (drop (i + 1) heads) (outcome (state s i) (directive_of b)).cluster (drop (i + 1) s.blocks) in
    let here : drop i all ≡ x ∷ rest =
    steps_drop i MAX_SCRIPT_CELLS heads empty s.blocks
    ∙ ap₂ (λ (ns : List ℕ) (bs : List PlainBlock). steps_from (left_at s i) ns (state s i) bs) (left_some heads i line head) (left_some s.blocks i b block) in
    let after : drop (i + 1) all ≡ rest = sym (drop-drop 1 i all) ∙ ap (λ (ss : List Step). drop 1 ss) here in
    let one : to - i ≡ suc (to - (i + 1)) = omega (arith, less) in
    ap₂ (λ (n : ℕ) (ss : List Step). take n ss) one here ∙ ap (λ (ss : List Step). x ∷ take (to - (i + 1)) ss) (sym after)

-- ---- the cells that are left

-- a line from the back, of those after the first
pub get_back : (ls : List Line) (n i k : ℕ) (x : Line) → n + i < length ls → k ≡ length ls - 1 - i → slice_get ls k ≡ Some x → slice_get (reverse (drop n ls)) i ≡ Some x
get_back ls n i k x within is got =
    let long = length-drop n ls in
    let at : ℕ = length (drop n ls) - 1 - i in
    let on : n + at ≡ k = omega (arith, within, is, long) in
    let there : get_or (drop n ls) at x ≡ x = get_or-drop n ls at x ∙ ap (λ (j : ℕ). get_or ls j x) on ∙ get_or_from_slice_get ls k x x got in
    get_behind (drop n ls) i x (omega (arith, within, long)) (slice_get-get_or (drop n ls) at x (omega (arith, within, long)) ∙ ap (λ (y : Line). Some y) there)

between-length : (n m : ℕ) (ls : List Line) → length (without_last m (drop n ls)) ≡ length ls - n - m
between-length n m ls = length-take-le (length (drop n ls) - m) (drop n ls) (omega arith) ∙ ap (λ (k : ℕ). k - m) (length-drop n ls)

-- how many of them are the same from the back
abbrev same_back : ℕ → List Line → List Line → ℕ
same_back n es os = common_prefix_len bytes_eq (reverse (drop n es)) (reverse (drop n os))

-- by how many lines are compared
pub left-of : (left : ℕ) (es os : List Line) (n m rows columns after : ℕ) → n ≡ common_prefix_len bytes_eq es os → m ≡ common_prefix_len bytes_eq (reverse (drop n es)) (reverse (drop n os))
    → rows ≡ length es - n - m → columns ≡ length os - n - m → after ≡ left - cells_of left rows columns → after ≡ left_after left es os
unfolding cells_within
left-of left es os n m rows columns after front back rows_are columns_are is =
    is
    ∙ ap₂ (λ (r c : ℕ). left - cells_of left r c) (rows_are ∙ sym (between-length n m es)) (columns_are ∙ sym (between-length n m os))
    ∙ ap (λ (k : ℕ). left - middle_cells left (without_last k (drop n es)) (without_last k (drop n os))) back
    ∙ ap (λ (k : ℕ). left - middle_cells left (without_last (same_back k es os) (drop k es)) (without_last (same_back k es os) (drop k os))) front

-- after one block more
left_append : (left : ℕ) (c : Cluster) (bs : List PlainBlock) (b : PlainBlock)
    → left_from left c (bs ++ b ∷ []) ≡ left_next (left_from left c bs) b.expected (outcome (led c (map directive_of bs)) (directive_of b)).output
left_append left c [] b = refl
left_append left c (x ∷ bs) b = left_append (left_next left x.expected (outcome c (directive_of x)).output) (outcome c (directive_of x)).cluster bs b

pub left_more : (s : PlainScript) (i : ℕ) (b : PlainBlock) → slice_get s.blocks i ≡ Some b → left_at s (i + 1) ≡ left_next (left_at s i) b.expected (outcome (state s i) (directive_of b)).output
left_more s i b got =
    let more : take (i + 1) s.blocks ≡ take i s.blocks ++ b ∷ [] =
    take_more s.blocks i b (slice_get_within s.blocks i b got) ∙ ap (λ (x : PlainBlock). take i s.blocks ++ x ∷ []) (get_or_from_slice_get s.blocks i b b got) in
    ap (left_from MAX_SCRIPT_CELLS empty) more
    ∙ left_append MAX_SCRIPT_CELLS empty (take i s.blocks) b
    ∙ ap (λ (ds : List PlainDirective). left_next (left_at s i) b.expected (outcome (led empty ds) (directive_of b)).output) (sym (take-map directive_of i s.blocks))

-- an output is that of the directive, in the cluster before it
answer_at : (c : Cluster) (ds : List PlainDirective) (i : ℕ) (d : PlainDirective) → slice_get ds i ≡ Some d → slice_get (answers c ds) i ≡ Some (outcome (led c (take i ds)) d).output
answer_at c [] i d got = absurd cc
answer_at c (x ∷ ds) zero d got = ap (option_map (λ (y : PlainDirective). (outcome c y).output)) got
answer_at c (x ∷ ds) (suc i) d got = answer_at (outcome c x).cluster ds i d got

pub output_is : (s : PlainScript) (i : ℕ) (b : PlainBlock) (o : List Line) → slice_get s.blocks i ≡ Some b → slice_get (outputs s) i ≡ Some o → o ≡ (outcome (state s i) (directive_of b)).output
output_is s i b o block got =
    let there = answer_at empty (directives s) i (directive_of b) (slice_get-map directive_of s.blocks i ∙ ap (option_map directive_of) block) in
    ap (λ (x : Option (List Line)). unwrap_or x []) (sym got ∙ there)

-- by the output that a session has
pub left_on : (s : PlainScript) (i left next : ℕ) (b : PlainBlock) (o : List Line) → slice_get s.blocks i ≡ Some b → slice_get (outputs s) i ≡ Some o → left ≡ left_at s i → next ≡ left_next left b.expected o
    → next ≡ left_at s (i + 1)
left_on s i left next b o block output so_far is =
    is ∙ ap₂ (λ (n : ℕ) (ls : List Line). left_next n b.expected ls) so_far (output_is s i b o block output) ∙ sym (left_more s i b block)

-- ---- room

pub not_held : (texts : List Line) → has_room texts ≡ false → None ≡ held texts
not_held texts full = sym (cond-false (has_room texts) (Some texts) None full)

-- the steps of some directives have none, so these and what follows them have none
pub some_full : (first mid after : List Line) → first ≡ [] → has_room (first ++ mid) ≡ false → None ≡ held (mid ++ after)
some_full first mid after none full = not_held (mid ++ after) (full_after mid after (ap (λ (ls : List Line). has_room (ls ++ mid)) (sym none) ∙ full))

-- a step has none, so some steps that begin with it have none
pub step_fills : (texts here rest all : List Line) → texts ++ (here ++ rest) ≡ all → has_room (texts ++ here) ≡ false → has_room all ≡ false
step_fills texts here rest all is full = ap has_room (sym is) ∙ ap has_room (sym (append_assoc texts here rest)) ∙ full_after (texts ++ here) rest full

-- ---- as rows

some_are : (heads : List ℕ) (ws : List Warning) (from count : ℕ) (s : PlainScript)
    → joined (some_texts heads ws from count s) ≡ flat_map next_text (flat_map step_rows (some_steps heads s from count) ++ (cells_row (left_in s) ∷ [] ++ (map warning_row ws ++ end_row s ∷ [])))
some_are heads ws from count s =
    let ss = some_steps heads s from count in
    let cells = cells_row (left_in s) ∷ [] in
    let doubts = map warning_row ws in
    let last = end_row s ∷ [] in
    both_joined (flat_map step_texts ss) (texts_after ws s) (flat_map step_rows ss) (cells ++ (doubts ++ last)) (steps_are ss)
    (both_joined (texts_of cells) (texts_of doubts ++ texts_of last) cells (doubts ++ last) (rows_joined cells)
    (both_joined (texts_of doubts) (texts_of last) doubts last (rows_joined doubts) (rows_joined last)))

pub some_is_rows : (name heads : List ℕ) (ws : List Warning) (from count : ℕ) (s : PlainScript) → (rest : List Row) × (pages.rows_joined name (some_texts heads ws from count s) ≡ rows_text (first_row name) rest)
some_is_rows name heads ws from count s =
    let rest = flat_map step_rows (some_steps heads s from count) ++ (cells_row (left_in s) ∷ [] ++ (map warning_row ws ++ end_row s ∷ [])) in (
      rest,
      ap (λ (l : List ℕ). (codes "[" ++ row_text (first_row name)) ++ (l ++ codes "]\n")) (some_are heads ws from count s)
          ∙ append_assoc (codes "[") (row_text (first_row name)) (flat_map next_text rest ++ codes "]\n"),
    )
