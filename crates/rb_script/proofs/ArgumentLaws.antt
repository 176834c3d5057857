-- The values and the arguments of a head, and what is kept of them.
use Rattle.std.proofs.Common.{◌≡◌, ◌≢◌, ℕ, ◌-◌, ◌≤◌, ◌<◌, zero, suc, Bool, true, false, cond, ◌&&◌, not, List, [], ◌∷◌, ◌++◌, length, drop, map, refl, ap, sym, subst, ◌∙◌, append_assoc, arith}
use Rattle.smallvec.specs.SmallVec.{SmallVec}
use Rattle.std.specs.Prelude.{Option, Some, None, Ok, Err, Vec, option_map, slice_get, nat_le}
use Rattle.std.specs.Option.{is_some}
use Rattle.std.specs.declared.alloc.Global.{Global}
use Rattle.std.specs.List.{list_all, AllByRecursion}
use Rattle.std.proofs.lemmas.List.{append-nil, length_push, length-map, length-take, length-drop, map_push}
use Rattle.std.proofs.lemmas.Option.{same_Some}
use Rattle.std.proofs.lemmas.Bool.{and_parts, not-false, not_from_true, leb-true, leb-false, lt-leb, le-leb}
use Rattle.std.proofs.lemmas.Bool.Decides.{nat_tests}
use Rattle.rb_script.specs.declared.span.Span.{Span}
use Rattle.rb_script.specs.declared.limits.TheConstants.{MAX_VALUES}
use Rattle.rb_script.specs.declared.argument.ArgumentSpans.{ArgumentSpans}
use Rattle.rb_script.specs.declared.fault.ScriptFault.TheVariants as faults
use Rattle.rb_script.specs.declared.tokens.HeadFault.{HeadFault}
use Rattle.rb_script.specs.declared.tokens.HeadFault.TheVariants as head_faults
use Rattle.rb_script.specs.Directive.{PlainArgument, is_word, begins, is_gap, is_inside, in_piece, fields, is_some_piece, without_empty, pieces}
use Rattle.rb_script.specs.ByteClasses.{is_piece}
use Rattle.rb_script.specs.Lines.{Line}
use Rattle.rb_script.specs.Marks.{is_space, is_blank}
use Rattle.rb_script.specs.Runs.{while_of, after_while}
use Rattle.rb_script.specs.Tokens.{token, line_at, IsPart}
use Rattle.rb_script.specs.Parsed.{KeepsValues, with_one, ParsesValues, ParsesArgument, ParsesArguments, ParsesHead}
use Rattle.rb_script.specs.Heads.{head_at, begins_space, ValuesThere, ArgumentThere, list_at, values_at, with_key, after_key, argument_at, ArgumentsThere, before, then_arguments, arguments_at, HeadThere, named, word_head, few_or}
use Rattle.rb_script.proofs.ListLaws.{every-append}
use Rattle.rb_script.proofs.RunLaws.{begins_by, run_parts, run_all, after_stops, while_one, after_one, while_over, after_over, all_wider, after_len, after_shorter}
use Rattle.rb_script.proofs.TokenLaws.{some_run, begins_at, begins_nowhere, front_cons}
use Rattle.rb_script.proofs.StandsLaws.{argument_leaves}

-- ---- the kinds within parentheses

-- a gap may stand within parentheses
pub gap_inside : (b : ℕ) → is_gap b ≡ true → is_inside b ≡ true
gap_inside b h = grind (arith, nat_tests)

-- what a piece is made of may stand within parentheses
pub piece_inside : (b : ℕ) → is_piece b ≡ true → is_inside b ≡ true
piece_inside b h = grind (arith, nat_tests)

-- no gap belongs to a piece
pub piece_no_gap : (b : ℕ) → is_piece b ≡ true → is_gap b ≡ false
piece_no_gap b h = grind (arith, nat_tests)

-- what is inside is a part of a piece or a gap
inside_cases : (b : ℕ) → is_inside b ≡ true → is_piece b ≡ false → is_gap b ≡ true
inside_cases b h stops = grind (arith, nat_tests)

-- a byte that is no gap and no parenthesis
piece_from : (b : ℕ) → is_gap b ≡ false → b ≢ 40 → b ≢ 41 → is_piece b ≡ true
piece_from b h not40 not41 = grind (arith, nat_tests)

-- ---- pieces

-- a byte that is no gap
abbrev no_gap : ℕ → Bool
no_gap b = not (is_gap b)

-- a gap at the front adds no value
pieces_gap : (b : ℕ) (inside : List ℕ) → is_gap b ≡ true → pieces (b ∷ inside) ≡ pieces inside
unfolding fields without_empty
pieces_gap b inside h = ap (λ t. without_empty (cond t ([] ∷ fields inside) (in_piece b (fields inside)))) h

-- before a gap or the end the first field is empty
first_empty : (inside : List ℕ) → begins_by no_gap inside ≡ false → fields inside ≡ [] ∷ drop 1 (fields inside)
unfolding fields
first_empty [] h = refl
first_empty (b ∷ inside) h =
    let e : fields (b ∷ inside) ≡ [] ∷ fields inside = ap (λ t. cond t ([] ∷ fields inside) (in_piece b (fields inside))) (not-false (is_gap b) h) in
    e ∙ ap (λ fs. [] ∷ drop 1 fs) (sym e)

-- a piece before a gap or the end is the first field
first_field : (piece inside : List ℕ) → list_all is_piece piece ≡ true → begins_by no_gap inside ≡ false → fields (piece ++ inside) ≡ piece ∷ drop 1 (fields inside)
unfolding fields
first_field [] inside all stops = first_empty inside stops
first_field (b ∷ piece) inside all stops =
    let both = and_parts (is_piece b) (list_all is_piece piece) all in
    ap (λ t. cond t ([] ∷ fields (piece ++ inside)) (in_piece b (fields (piece ++ inside)))) (piece_no_gap b both.0) ∙ ap (in_piece b) (first_field piece inside both.1 stops)

-- a piece before a gap or the end is the first value
pieces_first : (piece inside : List ℕ) → list_all is_piece piece ≡ true → is_some_piece piece ≡ true → begins_by no_gap inside ≡ false → pieces (piece ++ inside) ≡ piece ∷ pieces inside
unfolding without_empty
pieces_first piece inside all some stops =
    let others = drop 1 (fields inside) in
    ap without_empty (first_field piece inside all stops) ∙ ap (λ t. cond t (piece ∷ without_empty others) (without_empty others)) some
    ∙ ap (λ fs. piece ∷ without_empty fs) (sym (first_empty inside stops))

-- ---- the values up to the closing parenthesis

-- the values by what stands within the parentheses and what follows
abbrev values_by : List ℕ → List ℕ → ValuesThere
values_by inside after = cond (begins 41 after) (Some (pieces inside, drop 1 after)) None

-- the values that were found stand before those that are still found
abbrev pub with_values : List (List ℕ) → ValuesThere → ValuesThere
with_values front None = None
with_values front (Some found) = Some (front ++ found.0, found.1)

-- a gap at the front adds no value
gap_value : (b : ℕ) (bytes : List ℕ) → is_gap b ≡ true → list_at bytes ≡ list_at (b ∷ bytes)
unfolding list_at
gap_value b bytes h =
    let inside = gap_inside b h in
    let rest = after_while is_inside bytes in
    sym (ap (λ l. values_by l (after_while is_inside (b ∷ bytes))) (while_one is_inside b bytes inside) ∙ ap (values_by (b ∷ while_of is_inside bytes)) (after_one is_inside b bytes inside)
    ∙ ap (λ vs. cond (begins 41 rest) (Some (vs, drop 1 rest)) None) (pieces_gap b (while_of is_inside bytes) h))

-- gaps add no value
gaps_skipped : (bytes : List ℕ) → list_at (after_while is_gap bytes) ≡ list_at bytes
unfolding after_while
gaps_skipped [] = refl
gaps_skipped (b ∷ bytes) =
    elim (is_gap b) as (λ t. is_gap b ≡ t → list_at (cond t (after_while is_gap bytes) (b ∷ bytes)) ≡ list_at (b ∷ bytes)) [
      | true ↦ λ h. gaps_skipped bytes ∙ gap_value b bytes h
      | false ↦ λ h. refl
    ] refl

-- what follows a piece inside begins by a gap, or nothing does
after_piece : (bytes : List ℕ) → begins_by is_piece bytes ≡ false → begins_by no_gap (while_of is_inside bytes) ≡ false
unfolding while_of
after_piece [] stops = refl
after_piece (b ∷ bytes) stops =
    elim (is_inside b) as (λ t. is_inside b ≡ t → begins_by no_gap (cond t (b ∷ while_of is_inside bytes) []) ≡ false) [
      | true ↦ λ h. not_from_true (is_gap b) (inside_cases b h stops)
      | false ↦ λ h. refl
    ] refl

-- one piece more within the parentheses is one value more
one_more : (piece inside after : List ℕ) → pieces (piece ++ inside) ≡ piece ∷ pieces inside → values_by (piece ++ inside) after ≡ with_values (piece ∷ []) (values_by inside after)
one_more piece inside after e =
    ap (λ vs. cond (begins 41 after) (Some (vs, drop 1 after)) None) e
    ∙ elim (begins 41 after) as (λ t. cond t (Some (piece ∷ pieces inside, drop 1 after)) None ≡ with_values (piece ∷ []) (cond t (Some (pieces inside, drop 1 after)) None)) [ true ↦ refl | false ↦ refl ]

-- a piece at the front is the first value
first_value : (bytes : List ℕ) → begins_by is_piece bytes ≡ true → list_at bytes ≡ with_values (while_of is_piece bytes ∷ []) (list_at (after_while is_piece bytes))
unfolding list_at
first_value bytes begins =
    let piece = while_of is_piece bytes in
    let rest = after_while is_piece bytes in
    let all : list_all is_inside piece ≡ true = all_wider is_piece is_inside piece_inside piece (run_all is_piece bytes) in
    let stops = after_piece rest (after_stops is_piece bytes) in
    let whole = sym (run_parts is_piece bytes) in
    ap list_at whole ∙ ap (λ l. values_by l (after_while is_inside (piece ++ rest))) (while_over is_inside piece rest all)
    ∙ ap (values_by (piece ++ while_of is_inside rest)) (after_over is_inside piece rest all)
    ∙ one_more piece (while_of is_inside rest) (after_while is_inside rest) (pieces_first piece (while_of is_inside rest) (run_all is_piece bytes) (some_run is_piece bytes ∙ begins) stops)

-- ---- the loop over the values

-- the first of those still found moves to those found
values_moved : (front : List (List ℕ)) (value : List ℕ) (there : ValuesThere) → with_values front (with_values (value ∷ []) there) ≡ with_values (front ++ value ∷ []) there
values_moved front value None = refl
values_moved front value (Some found) = ap (λ vs. Some (vs, found.1)) (sym (append_assoc front (value ∷ []) found.0))

-- at the closing parenthesis
values_closed : (bytes : List ℕ) → list_at (41 ∷ bytes) ≡ Some ([], bytes)
unfolding list_at while_of after_while fields without_empty
values_closed bytes = refl

-- no parenthesis may open within others
values_opened : (bytes : List ℕ) → list_at (40 ∷ bytes) ≡ None
unfolding list_at after_while
values_opened bytes = refl

-- without a closing parenthesis there are no values
values_ended : list_at [] ≡ None
unfolding list_at after_while
values_ended = refl

module _ (so_far : List (List ℕ)) (left skipped : List ℕ) (total : ValuesThere) (gap : skipped ≡ after_while is_gap left) (so : with_values so_far (list_at left) ≡ total) where
  -- the same after the gaps
  over_gaps : with_values so_far (list_at skipped) ≡ total
  over_gaps = ap (λ l. with_values so_far (list_at l)) gap ∙ ap (with_values so_far) (gaps_skipped left) ∙ so

  -- at the closing parenthesis all values were found
  pub values_found : (b : ℕ) (next : List ℕ) → Some b ≡ slice_get skipped 0 → b ≡ 41 → next ≡ drop 1 skipped → total ≡ Some (so_far, next)
  values_found b next front at41 is =
      let e : skipped ≡ 41 ∷ next = front_cons skipped b next front is ∙ ap (λ (x : ℕ). x ∷ next) at41 in
      sym over_gaps ∙ ap (λ l. with_values so_far (list_at l)) e ∙ ap (with_values so_far) (values_closed next) ∙ ap (λ vs. Some (vs, next)) (append-nil so_far)

  -- at an opening one there are none
  pub values_bad : (b : ℕ) → Some b ≡ slice_get skipped 0 → b ≡ 40 → total ≡ None
  values_bad b front at40 =
      let e : skipped ≡ 40 ∷ drop 1 skipped = front_cons skipped b (drop 1 skipped) front refl ∙ ap (λ (x : ℕ). x ∷ drop 1 skipped) at40 in
      sym over_gaps ∙ ap (λ l. with_values so_far (list_at l)) e ∙ ap (with_values so_far) (values_opened (drop 1 skipped))

  -- at the end there are none
  pub values_none : None ≡ slice_get skipped 0 → total ≡ None
  values_none front = sym over_gaps ∙ ap (λ l. with_values so_far (list_at l)) (begins_nowhere skipped front) ∙ ap (with_values so_far) values_ended

  -- at any other byte a piece begins
  pub values_piece : (b : ℕ) → Some b ≡ slice_get skipped 0 → b ≢ 40 → b ≢ 41 → begins_by is_piece skipped ≡ true
  values_piece b front not40 not41 =
      let no : is_gap b ≡ false = sym (begins_at is_gap skipped b front) ∙ ap (begins_by is_gap) gap ∙ after_stops is_gap left in
      begins_at is_piece skipped b front ∙ piece_from b no not40 not41

  -- the piece is one value more
  pub values_more : (b : ℕ) (value next : List ℕ) → Some b ≡ slice_get skipped 0 → b ≢ 40 → b ≢ 41 → value ≡ while_of is_piece skipped → next ≡ after_while is_piece skipped → with_values (so_far ++ value ∷ []) (list_at next) ≡ total
  values_more b value next front not40 not41 v n =
      let first = first_value skipped (values_piece b front not40 not41) in
      ap (λ w. with_values (so_far ++ w ∷ []) (list_at next)) v ∙ ap (λ l. with_values (so_far ++ while_of is_piece skipped ∷ []) (list_at l)) n
      ∙ sym (values_moved so_far (while_of is_piece skipped) (list_at (after_while is_piece skipped))) ∙ ap (with_values so_far) (sym first) ∙ over_gaps

  -- and less is left
  pub values_shorter : (b : ℕ) (next : List ℕ) → Some b ≡ slice_get skipped 0 → b ≢ 40 → b ≢ 41 → next ≡ after_while is_piece skipped → length next < length left
  values_shorter b next front not40 not41 n =
      omega (arith, ap length n, after_shorter is_piece skipped (values_piece b front not40 not41), ap length gap, after_len is_gap left)

-- a value more is kept, or they are too many
pub keeps_value : (head : List Line) (found next : Option (Vec Span Global)) (so_far : List (List ℕ)) (item : Span) (value : List ℕ) → KeepsValues head found so_far → token head item ≡ value → IsPart head item → option_map (λ v. v.items) next ≡ with_one MAX_VALUES (option_map (λ v. v.items) found) item → KeepsValues head next (so_far ++ value ∷ [])
keeps_value head None None so_far item value keeps is part one = grind (arith, nat_tests, length_push so_far value)
keeps_value head None (Some next) so_far item value keeps is part one = absurd cc
keeps_value head (Some kept) None so_far item value keeps is part one =
    elim (nat_le MAX_VALUES (length kept.items)) as (λ t. nat_le MAX_VALUES (length kept.items) ≡ t → None ≡ cond t None (Some (kept.items ++ item ∷ [])) → nat_le (length (so_far ++ value ∷ [])) MAX_VALUES ≡ false) [
      | true ↦ λ h e. lt-leb (length (so_far ++ value ∷ [])) MAX_VALUES (omega (arith, leb-true MAX_VALUES (length kept.items) h, ap length keeps.0, length-map kept.items (token head), length_push so_far value))
      | false ↦ λ h e. absurd cc
    ] refl one
keeps_value head (Some kept) (Some next) so_far item value keeps is part one =
    elim (nat_le MAX_VALUES (length kept.items)) as (λ t. nat_le MAX_VALUES (length kept.items) ≡ t → Some next.items ≡ cond t None (Some (kept.items ++ item ∷ [])) → KeepsValues head (Some next) (so_far ++ value ∷ [])) [
      | true ↦ λ h e. absurd cc
      | false ↦ λ h e.
          let items = same_Some next.items (kept.items ++ item ∷ []) e in (
            ap (map (token head)) items ∙ map_push (token head) kept.items item ∙ ap (λ vs. vs ++ token head item ∷ []) keeps.0 ∙ ap (λ v. so_far ++ v ∷ []) is,
            le-leb (length (so_far ++ value ∷ [])) MAX_VALUES (omega (arith, leb-false MAX_VALUES (length kept.items) h, ap length keeps.0, length-map kept.items (token head), length_push so_far value)),
            subst (AllByRecursion (IsPart head)) (sym items) (every-append (IsPart head) kept.items (item ∷ []) keeps.2 (part, tt)),
          )
    ] refl one

-- the same, with a token of a head that is the same
pub keeps_token : (head before : List Line) (found next : Option (Vec Span Global)) (so_far : List (List ℕ)) (item : Span) (value : List ℕ) → before ≡ head → KeepsValues head found so_far → token before item ≡ value → IsPart before item → option_map (λ v. v.items) next ≡ with_one MAX_VALUES (option_map (λ v. v.items) found) item → KeepsValues head next (so_far ++ value ∷ [])
keeps_token head before found next so_far item value same keeps is part one =
    keeps_value head found next so_far item value keeps (rw same at is) (rw same at part) one

-- ---- the argument with values

-- with too many values behind a key and its sign there is no argument to keep
pub values_too_many : (head : List Line) (key : Span) (left bytes next : List ℕ) (b : ℕ) → Some b ≡ slice_get bytes 0 → b ≡ 61 → next ≡ drop 1 bytes → ParsesValues head (Ok None) left (values_at next) → ParsesArgument head (Ok None) left (after_key (token head key) bytes)
unfolding after_key
values_too_many head key left bytes next b front at61 after gives =
    let e : bytes ≡ 61 ∷ next = front_cons bytes b next front after ∙ ap (λ (x : ℕ). x ∷ next) at61 in
    (record { key = token head key; has_equals = true; values = gives.0 }, ap (after_key (token head key)) e ∙ ap (with_key (token head key)) gives.1, gives.2)

-- ---- the bound on the number of arguments

-- nothing is left but blanks
pub blank_is : (bytes : List ℕ) → is_blank bytes ≡ not (is_some_piece (after_while is_space bytes))
unfolding after_while
blank_is [] = refl
blank_is (b ∷ bytes) = elim (is_space b) as (λ t. (t && is_blank bytes) ≡ not (is_some_piece (cond t (after_while is_space bytes) (b ∷ bytes)))) [ true ↦ blank_is bytes | false ↦ refl ]

-- two readers of the rest that agree on it make the same arguments
then_same : (there : ArgumentThere) (f g : List ℕ → ArgumentsThere) → ((found : PlainArgument × List ℕ) → there ≡ Some found → f found.1 ≡ g found.1) → then_arguments there f ≡ then_arguments there g
then_same None f g same = refl
then_same (Some found) f g same = ap (before found.0) (same found refl)

-- it matters only behind a blank which arguments follow
behind_space : (bytes : List ℕ) (f g : ArgumentsThere) → (begins_space bytes ≡ true → f ≡ g) → cond (is_blank bytes) (Some []) (cond (begins_space bytes) f None) ≡ cond (is_blank bytes) (Some []) (cond (begins_space bytes) g None)
behind_space bytes f g same =
    ap (cond (is_blank bytes) (Some [])) (elim (begins_space bytes) as (λ t. (t ≡ true → f ≡ g) → cond t f None ≡ cond t g None) [ true ↦ λ h. h refl | false ↦ λ h. refl ] same)

-- two names for the same test
pub begins_is : (bytes : List ℕ) → begins_space bytes ≡ begins_by is_space bytes
begins_is [] = refl
begins_is (b ∷ bytes) = refl

-- any bound that the length doesn't exceed gives the same
pub same_bound : (n m : ℕ) (bytes : List ℕ) → length bytes ≤ n → length bytes ≤ m → arguments_at n bytes ≡ arguments_at m bytes
unfolding arguments_at
same_bound zero zero bytes l k = refl
same_bound zero (suc m) [] l k = refl
same_bound zero (suc m) (b ∷ bytes) l k = absurd (omega arith)
same_bound (suc n) zero [] l k = refl
same_bound (suc n) zero (b ∷ bytes) l k = absurd (omega arith)
same_bound (suc n) (suc m) bytes l k =
    let after = after_while is_space bytes in
    behind_space bytes (then_arguments (argument_at after) (arguments_at n)) (then_arguments (argument_at after) (arguments_at m)) (λ space.
    then_same (argument_at after) (arguments_at n) (arguments_at m) (λ found is.
    let shorter : length found.1 < length bytes = omega (arith, argument_leaves after found.1 found.0 is, after_shorter is_space bytes (sym (begins_is bytes) ∙ space)) in
    same_bound n m found.1 (omega arith) (omega arith)))

-- ---- the loop over the arguments

-- the arguments that were found stand before those that are still found
abbrev pub with_arguments : List PlainArgument → ArgumentsThere → ArgumentsThere
with_arguments front None = None
with_arguments front (Some found) = Some (front ++ found)

-- the arguments of all that is left
abbrev pub arguments_of : List ℕ → ArgumentsThere
arguments_of bytes = arguments_at (length bytes) bytes

-- the first of those still found moves to those found
arguments_moved : (front : List PlainArgument) (a : PlainArgument) (there : ArgumentsThere) → with_arguments front (before a there) ≡ with_arguments (front ++ a ∷ []) there
arguments_moved front a None = refl
arguments_moved front a (Some found) = ap (λ args. Some args) (sym (append_assoc front (a ∷ []) found))

-- blanks are no arguments
pub arguments_blank : (bytes : List ℕ) → is_blank bytes ≡ true → arguments_of bytes ≡ Some []
unfolding arguments_at
arguments_blank [] h = refl
arguments_blank (b ∷ bytes) h =
    let after = after_while is_space (b ∷ bytes) in
    ap (λ t. cond t (Some []) (cond (is_space b) (then_arguments (argument_at after) (arguments_at (length bytes))) None)) h

-- what stands behind other bytes than a blank is no argument
arguments_unspaced : (bytes : List ℕ) → is_blank bytes ≡ false → begins_by is_space bytes ≡ false → arguments_of bytes ≡ None
unfolding arguments_at
arguments_unspaced [] h space = absurd cc
arguments_unspaced (b ∷ bytes) h space =
    let after = after_while is_space (b ∷ bytes) in
    ap (λ t. cond t (Some []) (cond (is_space b) (then_arguments (argument_at after) (arguments_at (length bytes))) None)) h
    ∙ ap (λ t. cond t (then_arguments (argument_at after) (arguments_at (length bytes))) None) space

-- behind a blank stands an argument
pub arguments_spaced : (bytes : List ℕ) → is_blank bytes ≡ false → begins_by is_space bytes ≡ true → arguments_of bytes ≡ then_arguments (argument_at (after_while is_space bytes)) arguments_of
unfolding arguments_at
arguments_spaced [] h space = absurd cc
arguments_spaced (b ∷ bytes) h space =
    let after = after_while is_space (b ∷ bytes) in
    ap (λ t. cond t (Some []) (cond (is_space b) (then_arguments (argument_at after) (arguments_at (length bytes))) None)) h
    ∙ ap (λ t. cond t (then_arguments (argument_at after) (arguments_at (length bytes))) None) space
    ∙ then_same (argument_at after) (arguments_at (length bytes)) arguments_of (λ found is.
    same_bound (length bytes) (length found.1) found.1 (omega (arith, argument_leaves after found.1 found.0 is, after_shorter is_space (b ∷ bytes) space)) (omega arith))

-- there is a first byte where there are bytes
some_front : (bytes : List ℕ) → is_some_piece bytes ≡ is_some (slice_get bytes 0)
some_front [] = refl
some_front (b ∷ bytes) = refl

module _ (so_far : List PlainArgument) (left skipped : List ℕ) (total : ArgumentsThere) (gap : skipped ≡ after_while is_space left) (so : with_arguments so_far (arguments_of left) ≡ total) where
  -- all that is left is blank where nothing follows the blanks
  blank_by : is_blank left ≡ not (is_some (slice_get skipped 0))
  blank_by = blank_is left ∙ ap (λ l. not (is_some_piece l)) (sym gap) ∙ ap not (some_front skipped)

  -- where nothing follows the blanks all arguments were found
  pub arguments_found : is_some (slice_get skipped 0) ≡ false → total ≡ Some so_far
  arguments_found front =
      let blank : is_blank left ≡ true = blank_by ∙ ap not front in
      sym so ∙ ap (with_arguments so_far) (arguments_blank left blank) ∙ ap (λ args. Some args) (append-nil so_far)

  -- where something follows no blank there are none
  pub arguments_bad : is_some (slice_get skipped 0) ≡ true → begins_by is_space left ≡ false → total ≡ None
  arguments_bad front space = sym so ∙ ap (with_arguments so_far) (arguments_unspaced left (blank_by ∙ ap not front) space)

  -- where no argument follows a blank there are none
  pub argument_bad : is_some (slice_get skipped 0) ≡ true → begins_by is_space left ≡ true → argument_at skipped ≡ None → total ≡ None
  argument_bad front space none =
      sym so ∙ ap (with_arguments so_far) (arguments_spaced left (blank_by ∙ ap not front) space) ∙ ap (λ l. with_arguments so_far (then_arguments (argument_at l) arguments_of)) (sym gap)
      ∙ ap (λ there. with_arguments so_far (then_arguments there arguments_of)) none

  -- an argument behind a blank is one more
  pub arguments_more : (a : PlainArgument) (next : List ℕ) → is_some (slice_get skipped 0) ≡ true → begins_by is_space left ≡ true → argument_at skipped ≡ Some (a, next) → with_arguments (so_far ++ a ∷ []) (arguments_of next) ≡ total
  arguments_more a next front space is =
      sym (arguments_moved so_far a (arguments_of next)) ∙ ap (λ there. with_arguments so_far (then_arguments there arguments_of)) (sym is)
      ∙ ap (λ l. with_arguments so_far (then_arguments (argument_at l) arguments_of)) gap ∙ ap (with_arguments so_far) (sym (arguments_spaced left (blank_by ∙ ap not front) space)) ∙ so

  -- and less is left
  pub arguments_shorter : (a : PlainArgument) (next : List ℕ) → begins_by is_space left ≡ true → argument_at skipped ≡ Some (a, next) → length next < length left
  arguments_shorter a next space is = omega (arith, argument_leaves skipped next a is, ap length gap, after_shorter is_space left space)

-- a fault of an argument is one of them all
pub argument_fails : (head : List Line) (left : List ℕ) (there : ArgumentThere) (total : ArgumentsThere) (e : HeadFault) → (there ≡ None → total ≡ None) → ParsesArgument head (Err e) left there → ParsesArguments head (Err e) total
argument_fails head left there total head_faults.Bad none gives = none gives
argument_fails head left there total head_faults.OutOfMemory none gives = tt

-- ---- the name and the arguments

-- a length above 0 is that of some bytes
some_bytes : (bytes : List ℕ) → 0 < length bytes → is_some_piece bytes ≡ true
some_bytes [] some = absurd (omega arith)
some_bytes (b ∷ bytes) some = refl

-- a token whose end isn't its start has bytes
pub some_token : (head : List Line) (s : Span) → IsPart head s → s.start ≢ s.end → is_some_piece (token head s) ≡ true
some_token head s part other =
    let line = line_at head s.line in
    some_bytes (token head s) (omega (arith, length-take (s.end - s.start) (drop s.start line), length-drop s.start line, part.start, part.end, other))

module _ (head : List Line) (number : ℕ) (bytes skipped rest : List ℕ) (name : Span) (gap : skipped ≡ after_while is_space bytes) (word : token head name ≡ while_of is_word skipped) (after : rest ≡ after_while is_word skipped) (part : IsPart head name) (some : name.start ≢ name.end) where
  -- a name, and the arguments of what follows it
  head_named : head_at bytes ≡ named (token head name) (arguments_of rest)
  unfolding head_at word_head
  head_named =
      let of_word = λ (key : List ℕ) (left : List ℕ). cond (is_some_piece key) (named key (arguments_of left)) None in
      ap word_head (sym gap) ∙ ap (of_word (while_of is_word skipped)) (sym after) ∙ ap (λ key. of_word key rest) (sym word)
      ∙ ap (λ t. cond t (named (token head name) (arguments_of rest)) None) (some_token head name part some)

  -- the kept tokens are those of the head
  pub head_found : (args : SmallVec ArgumentSpans) → ParsesArguments head (Ok (Some args)) (arguments_of rest) → ParsesHead head (Ok (record { name = name; args = args })) (few_or number (head_at bytes))
  head_found args gives =
      let found : HeadThere = Some (token head name, gives.0) in
      let is : head_at bytes ≡ found = head_named ∙ ap (named (token head name)) gives.1 in (
        ap (few_or number) is ∙ ap (λ t. cond t (Ok (token head name, gives.0)) (Err (faults.TooManyArguments number))) gives.2.1 ∙ ap (λ found. Ok (token head name, found)) (sym gives.2.0),
        (part, gives.2.2),
      )

  -- or the arguments are too many
  pub head_too_long : ParsesArguments head (Ok None) (arguments_of rest) → few_or number (head_at bytes) ≡ Err (faults.TooManyArguments number)
  head_too_long gives =
      ap (few_or number) (head_named ∙ ap (named (token head name)) gives.1) ∙ ap (λ t. cond t (Ok (token head name, gives.0)) (Err (faults.TooManyArguments number))) gives.2
