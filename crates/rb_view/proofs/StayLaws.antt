-- What stays of a page's steps after an edit.
use Rattle.std.proofs.Common.{◌≡◌, ◌∙◌, ℕ, zero, suc, ◌+◌, ◌-◌, ◌<◌, ◌≤◌, max, Bool, true, false, List, [], ◌∷◌, ◌++◌, length, take, drop, map, codes, Option, Some, None, refl, ap, ap₂, sym, subst, arith, append_assoc}
use Rattle.std.specs.Prelude.{◌&&◌, if◌then◌else◌, nat_le}
use Rattle.std.specs.List.{flat_map}
use Rattle.std.proofs.lemmas.Bool.{le-leb, leb-true}
use Rattle.std.proofs.lemmas.List.{drop-drop, length-drop, take-append-drop, take_all}
use Rattle.std.proofs.lemmas.List.Concat.{flat_map-append}
use Rattle.rb_script.specs.Lines.{Line}
use Rattle.rb_script.specs.Script.{PlainBlock, PlainScript}
use Rattle.rb_script.specs.Reading.{directive_of}
use Rattle.rb_report.specs.declared.check.table.TheConstants.{MAX_CELLS, MAX_SCRIPT_CELLS}
use Rattle.rb_report.specs.Diffs.{Stretch, fits, last, left_after, middle, parts_between, parts_within, plain, stretches, without_last, work}
use Rattle.rb_machine.specs.Cluster.{Cluster, empty}
use Rattle.rb_machine.specs.Outcome.{outcome}
use Rattle.rb_replay.specs.Points.{AreKept, last_up_to}
use Rattle.rb_replay.specs.Report.{same_lines}
use Rattle.rb_replay.specs.Reuse.{Change, IsChange, IsCost, IsFirstMeeting, Meets, StayWhole, old_point, start, stop}
use Rattle.rb_replay.specs.Run.{led, state}
use Rattle.rb_replay.proofs.PointLaws.{last_up_to-near}
use Rattle.rb_replay.proofs.ReuseLaws.{parts-on, start-le, states-after}
use Rattle.rb_view.specs.Kept.{line_rows, texts_of}
use Rattle.rb_view.specs.Rows.{Row, number, row}
use Rattle.rb_view.specs.SomeSteps.{StaysAround, left_at, left_from, left_in, relined, some_steps}
use Rattle.rb_view.specs.Steps.{Step, end_row, hints, left_next, mismatch_rows, script_rows, source_row, step, step_texts, steps, steps_from, steps_texts, stretch_rows, warning_rows}
use Rattle.rb_view.specs.Watching.{observed_texts}
use Rattle.rb_view.proofs.SomeLaws.{steps_drop, steps_take}
use Rattle.rb_view.proofs.StepLaws.{steps_end}

-- ---- where cells are left, a comparison is the same

fits_by : (t : Bool) (w left : ℕ) → nat_le w MAX_CELLS ≡ t → MAX_CELLS ≤ left → (t && nat_le w left) ≡ t
fits_by true w left e room = le-leb w left (omega (arith, leb-true w MAX_CELLS e, room))
fits_by false w left e room = refl

fits_room : (left : ℕ) (es os : List Line) → MAX_CELLS ≤ left → fits left es os ≡ nat_le (work es os) MAX_CELLS
fits_room left es os room = fits_by (nat_le (work es os) MAX_CELLS) (work es os) left refl room

middle_room : (left other : ℕ) (es os : List Line) → MAX_CELLS ≤ left → MAX_CELLS ≤ other → middle left es os ≡ middle other es os
unfolding middle
middle_room left other es os room room' =
    ap (λ (t : Bool). if t then stretches (length es + length os) es os else (record { same = []; expected = es; output = os } ∷ [])) (fits_room left es os room ∙ sym (fits_room other es os room'))

parts_between_room : (left other n m : ℕ) (es os : List Line) → MAX_CELLS ≤ left → MAX_CELLS ≤ other → parts_between left n m es os ≡ parts_between other n m es os
parts_between_room left other n m es os room room' =
    ap (λ (ss : List Stretch). plain (take n es) ∷ (ss ++ plain (last m (drop n es)) ∷ [])) (middle_room left other (without_last m (drop n es)) (without_last m (drop n os)) room room')

parts_room : (left other : ℕ) (es os : List Line) → MAX_CELLS ≤ left → MAX_CELLS ≤ other → parts_within left es os ≡ parts_within other es os
unfolding parts_within
parts_room left other es os room room' = parts_between_room left other _ _ es os room room'

script_room : (left other line : ℕ) (expected output : List Line) → MAX_CELLS ≤ left → MAX_CELLS ≤ other → script_rows left line expected output ≡ script_rows other line expected output
script_room left other line expected output room room' =
    ap (λ (ss : List Stretch). row (codes "step") (number line ∷ []) ∷ (line_rows (codes "output") output ++ (if same_lines expected output then [] else row (codes "mismatch") [] ∷ flat_map stretch_rows ss)))
    (parts_room left other expected output room room')

-- ---- how many are left

least_by : (t : Bool) (left less : ℕ) → less ≤ left → (if t then left else less) ≤ left
least_by true left less le = omega arith
least_by false left less le = le

next_least : (left : ℕ) (expected output : List Line) → left_next left expected output ≤ left
next_least left expected output = least_by (same_lines expected output) left (left_after left expected output) (omega arith)

left_least : (left : ℕ) (c : Cluster) (bs : List PlainBlock) → left_from left c bs ≤ left
left_least left c [] = omega arith
left_least left c (b ∷ bs) =
    let next : ℕ = left_next left b.expected (outcome c (directive_of b)).output in
    omega (arith, next_least left b.expected (outcome c (directive_of b)).output, left_least next (outcome c (directive_of b)).cluster bs)

left_split : (n left : ℕ) (c : Cluster) (bs : List PlainBlock) → left_from left c bs ≡ left_from (left_from left c (take n bs)) (led c (take n (map directive_of bs))) (drop n bs)
left_split zero left c bs = refl
left_split (suc n) left c [] = refl
left_split (suc n) left c (b ∷ bs) = left_split n (left_next left b.expected (outcome c (directive_of b)).output) (outcome c (directive_of b)).cluster bs

left_rest : (s : PlainScript) (n : ℕ) → left_in s ≡ left_from (left_at s n) (state s n) (drop n s.blocks)
left_rest s n = ap (left_from MAX_SCRIPT_CELLS empty) (take_all (length s.blocks) s.blocks (omega arith)) ∙ left_split n MAX_SCRIPT_CELLS empty s.blocks

-- ---- the same directives in the same cluster, at other lines

relines : (left other : ℕ) (heads lines : List ℕ) (c : Cluster) (bs : List PlainBlock) → length heads ≡ length bs → length lines ≡ length bs
    → MAX_CELLS ≤ left_from left c bs → MAX_CELLS ≤ left_from other c bs
    → flat_map step_texts (steps_from other lines c bs) ≡ flat_map step_texts (relined lines (steps_from left heads c bs))
relines left other heads [] c bs many all room room' = refl
relines left other [] (n ∷ lines) c [] many all room room' = refl
relines left other (h ∷ heads) (n ∷ lines) c [] many all room room' = refl
relines left other [] (n ∷ lines) c (b ∷ bs) many all room room' = absurd (omega (arith, many))
relines left other (h ∷ heads) (n ∷ lines) c (b ∷ bs) many all room room' =
    let s = step left n c b in
    let next = (outcome c (directive_of b)).cluster in
    let here : script_rows other n b.expected s.output ≡ script_rows left n b.expected s.output =
    script_room other left n b.expected s.output (omega (arith, room', left_least other c (b ∷ bs))) (omega (arith, room, left_least left c (b ∷ bs))) in
    ap₂ (λ (rs : List Row) (ts : List Line). (texts_of rs ++ (observed_texts s.before s.observed ++ (texts_of s.changes ++ texts_of (hints s)))) ++ ts) here
    (relines (left_next left b.expected s.output) (left_next other b.expected s.output) heads lines next bs (omega (arith, many)) (omega (arith, all)) room room')

-- ---- or none, in any two clusters

relined_none : (lines : List ℕ) → relined lines [] ≡ []
relined_none [] = refl
relined_none (line ∷ lines) = refl

relines_if : (left other : ℕ) (heads lines : List ℕ) (c d : Cluster) (bs : List PlainBlock) → length heads ≡ length bs → length lines ≡ length bs → (0 < length bs → d ≡ c)
    → MAX_CELLS ≤ left_from left c bs → MAX_CELLS ≤ left_from other d bs
    → flat_map step_texts (steps_from other lines d bs) ≡ flat_map step_texts (relined lines (steps_from left heads c bs))
relines_if left other heads lines c d [] many all same room room' =
    ap (flat_map step_texts) (steps_end other lines d [] refl ∙ sym (ap (relined lines) (steps_end left heads c [] refl) ∙ relined_none lines))
relines_if left other heads lines c d (b ∷ bs) many all same room room' =
    let is : d ≡ c = same (omega arith) in
    ap (λ (x : Cluster). flat_map step_texts (steps_from other lines x (b ∷ bs))) is
    ∙ relines left other heads lines c (b ∷ bs) many all room (subst (λ (x : Cluster). MAX_CELLS ≤ left_from other x (b ∷ bs)) is room')

-- ---- two scripts

pub steps_stay : (old_heads new_heads : List ℕ) (old new : PlainScript) (front : ℕ) → take front new.blocks ≡ take front old.blocks → take front new_heads ≡ take front old_heads
    → take front (steps new_heads new) ≡ take front (steps old_heads old)
steps_stay old_heads new_heads old new front same_blocks same_lines =
    steps_take front MAX_SCRIPT_CELLS new_heads empty new.blocks
    ∙ ap₂ (λ (ns : List ℕ) (bs : List PlainBlock). steps_from MAX_SCRIPT_CELLS ns empty bs) same_lines same_blocks
    ∙ sym (steps_take front MAX_SCRIPT_CELLS old_heads empty old.blocks)

rest_stays : (old_heads new_heads : List ℕ) (old new : PlainScript) (front old_rest new_rest : ℕ) → StaysAround old_heads new_heads old new front old_rest new_rest
    → flat_map step_texts (drop new_rest (steps new_heads new)) ≡ flat_map step_texts (relined (drop new_rest new_heads) (drop old_rest (steps old_heads old)))
rest_stays old_heads new_heads old new front old_rest new_rest is =
    let hs = drop old_rest old_heads in
    let ns = drop new_rest new_heads in
    let c = state old old_rest in
    let d = state new new_rest in
    let bs = drop old_rest old.blocks in
    let left = left_at old old_rest in
    let other = left_at new new_rest in
    let to : drop new_rest (steps new_heads new) ≡ steps_from other ns d bs =
    steps_drop new_rest MAX_SCRIPT_CELLS new_heads empty new.blocks ∙ ap (λ (xs : List PlainBlock). steps_from other ns d xs) is.same_rest in
    let from : drop old_rest (steps old_heads old) ≡ steps_from left hs c bs = steps_drop old_rest MAX_SCRIPT_CELLS old_heads empty old.blocks in
    let many : length hs ≡ length bs = omega (arith, length-drop old_rest old_heads, length-drop old_rest old.blocks, is.old_count) in
    let same_length = ap (λ (xs : List PlainBlock). length xs) is.same_rest in
    let all : length ns ≡ length bs = omega (arith, length-drop new_rest new_heads, length-drop new_rest new.blocks, is.new_count, same_length) in
    let same : 0 < length bs → d ≡ c = λ some. is.same_cluster (omega (arith, some, length-drop new_rest new.blocks, same_length)) in
    let room : MAX_CELLS ≤ left_from left c bs = subst (λ (n : ℕ). MAX_CELLS ≤ n) (left_rest old old_rest) is.old_cells in
    let room' : MAX_CELLS ≤ left_from other d bs =
    subst (λ (n : ℕ). MAX_CELLS ≤ n) (left_rest new new_rest ∙ ap (λ (xs : List PlainBlock). left_from other d xs) is.same_rest) is.new_cells in
    ap (flat_map step_texts) to ∙ relines_if left other hs ns c d bs many all same room room' ∙ ap (λ (ss : List Step). flat_map step_texts (relined ns ss)) (sym from)

-- three parts of a list
three : (front rest : ℕ) (ss : List Step) → front ≤ rest → ss ≡ take front ss ++ (take (rest - front) (drop front ss) ++ drop rest ss)
three front rest ss le =
    let whole : front + (rest - front) ≡ rest = omega (arith, le) in
    sym (take-append-drop front ss)
    ∙ ap (λ (xs : List Step). take front ss ++ xs) (sym (take-append-drop (rest - front) (drop front ss)))
    ∙ ap (λ (xs : List Step). take front ss ++ (take (rest - front) (drop front ss) ++ xs)) (drop-drop (rest - front) front ss ∙ ap (λ (n : ℕ). drop n ss) whole)

pub page_is : (old_heads new_heads : List ℕ) (old new : PlainScript) (front old_rest new_rest : ℕ) → StaysAround old_heads new_heads old new front old_rest new_rest
    → flat_map step_texts (steps new_heads new)
    ≡ flat_map step_texts (take front (steps old_heads old)) ++ (flat_map step_texts (some_steps new_heads new front (new_rest - front)) ++ flat_map step_texts (relined (drop new_rest new_heads) (drop old_rest (steps old_heads old))))
page_is old_heads new_heads old new front old_rest new_rest is =
    let all = steps new_heads new in
    let first = take front all in
    let some = some_steps new_heads new front (new_rest - front) in
    let rest = drop new_rest all in
    ap (flat_map step_texts) (three front new_rest all is.order)
    ∙ flat_map-append step_texts first (some ++ rest)
    ∙ ap (λ (ls : List Line). flat_map step_texts first ++ ls) (flat_map-append step_texts some rest)
    ∙ ap₂ (λ (ss : List Step) (ls : List Line). flat_map step_texts ss ++ (flat_map step_texts some ++ ls))
    (steps_stay old_heads new_heads old new front is.same_front is.same_lines) (rest_stays old_heads new_heads old new front old_rest new_rest is)

pub texts_are : (bytes old_heads new_heads : List ℕ) (old new : PlainScript) (front old_rest new_rest : ℕ) → StaysAround old_heads new_heads old new front old_rest new_rest
    → steps_texts bytes new_heads new
    ≡ texts_of (source_row bytes ∷ [])
    ++ ((flat_map step_texts (take front (steps old_heads old)) ++ (flat_map step_texts (some_steps new_heads new front (new_rest - front)) ++ flat_map step_texts (relined (drop new_rest new_heads) (drop old_rest (steps old_heads old)))))
    ++ (texts_of (warning_rows bytes new_heads new) ++ texts_of (end_row new ∷ [])))
texts_are bytes old_heads new_heads old new front old_rest new_rest is =
    ap (λ (ls : List Line). texts_of (source_row bytes ∷ []) ++ (ls ++ (texts_of (warning_rows bytes new_heads new) ++ texts_of (end_row new ∷ [])))) (page_is old_heads new_heads old new front old_rest new_rest is)

-- ---- where an edit's run stops

met : (c : Change) (n i : ℕ) (m : Option ℕ) → IsChange c → IsFirstMeeting c m → n ≡ stop c m - start c → c.front + n ≤ i → i < length c.new.blocks → (s : ℕ) × Meets c s × (s ≤ i)
met c n i None is first e past within = absurd (omega (arith, e, past, within, start-le c, is.new_from, is.new_within))
met c n i (Some s) is first e past within = let m : Meets c s = first.0 in (s, m, omega (arith, e, past, start-le c, m.from_start))

pub clusters_meet : (c : Change) (n i : ℕ) → IsChange c → IsCost c n → c.front + n ≤ i → i < length c.new.blocks → state c.new i ≡ state c.old (old_point c i)
clusters_meet c n i is cost past within =
    let found = met c n i cost.meeting is cost.is_first cost.is_cost past within in
    states-after c found.0 i is found.1.in_rest found.2 found.1.same

-- so all that is asked of two scripts
pub stays_around : (c : Change) (n i : ℕ) (old_heads new_heads : List ℕ) → IsChange c → StayWhole c → IsCost c n → c.front + n ≤ i → c.new_rest ≤ i → take c.front new_heads ≡ take c.front old_heads
    → length old_heads ≡ length c.old.blocks → length new_heads ≡ length c.new.blocks → MAX_CELLS ≤ left_in c.old → MAX_CELLS ≤ left_in c.new
    → StaysAround old_heads new_heads c.old c.new c.front (old_point c i) i
stays_around c n i old_heads new_heads is whole cost past in_rest lines_stay old_count new_count old_cells new_cells = record {
  same_front = whole.same_front;
  same_lines = lines_stay;
  same_rest = parts-on c i c.new.blocks c.old.blocks whole.same_rest in_rest;
  same_cluster = clusters_meet c n i is cost past;
  order = omega (arith, past);
  old_count = old_count;
  new_count = new_count;
  old_cells = old_cells;
  new_cells = new_cells;
}

-- ---- how many directives are run before

pub near : (K n from : ℕ) (points : List ℕ) → AreKept K n points → from ≤ n → from < last_up_to from points + K
near K n from [] kept le = absurd kept
near K n from (p ∷ ps) kept le =
    let yes : nat_le p from ≡ true = le-leb p from (omega (arith, kept.0)) in
    let is : last_up_to from (p ∷ ps) ≡ max p (last_up_to from ps) = rw yes refl in
    omega (arith, is, last_up_to-near K n from p ps (omega (arith, kept.0)) le kept.1)
