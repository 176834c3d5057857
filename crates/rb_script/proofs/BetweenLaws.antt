-- The lines from one position up to another.
use Rattle.std.proofs.Common.{◌≡◌, ◌∙◌, ℕ, ◌+◌, ◌-◌, ◌<◌, ◌≤◌, List, [], ◌∷◌, ◌++◌, length, take, drop, get_or, Some, ap, sym, arith}
use Rattle.std.specs.Prelude.{slice_get}
use Rattle.std.proofs.Math.Seq.{take-add}
use Rattle.std.proofs.lemmas.List.{length-take, length-drop, take_more, drop-drop, get_or-take, get_or-drop}
use Rattle.std.proofs.lemmas.Option.{slice_get-get_or, slice_get_within, get_or_from_slice_get}
use Rattle.rb_script.specs.Lines.{Line}
use Rattle.rb_script.specs.Flat.{between}

pub length-between : (from to : ℕ) (ls : List Line) → to ≤ length ls → length (between from to ls) ≡ to - from
length-between from to ls h = omega (arith, h, length-take (to - from) (drop from ls), length-drop from ls)

-- a position of these lines is one between the two, and the same line stands there
pub part_before : (from to i : ℕ) (all ls : List Line) → between from to all ≡ ls → to ≤ length all → i < length ls → i < to - from
part_before from to i all ls whole within lt = omega (arith, lt, ap length whole, length-between from to all within)

pub part_line : (from to i : ℕ) (all ls : List Line) (line : Line) → between from to all ≡ ls → to ≤ length all → i < length ls → slice_get all (from + i) ≡ Some line → slice_get ls i ≡ Some line
part_line from to i all ls line whole within lt got =
    slice_get-get_or ls i line lt
    ∙ ap (λ (l : List Line). Some (get_or l i line)) (sym whole)
    ∙ ap (λ (l : Line). Some l) (get_or-take (to - from) (drop from all) i line (part_before from to i all ls whole within lt) ∙ get_or-drop from all i line ∙ get_or_from_slice_get all (from + i) line line got)

-- one more
pub between_more : (from to : ℕ) (ls : List Line) (line : Line) → from ≤ to → slice_get ls to ≡ Some line → between from (to + 1) ls ≡ between from to ls ++ line ∷ []
between_more from to ls line order got =
    let within : to < length ls = slice_get_within ls to line got in
    let n = to - from in
    let some : n < length (drop from ls) = omega (arith, within, order, length-drop from ls) in
    let more : (to + 1) - from ≡ n + 1 = omega (arith, order) in
    let place : from + n ≡ to = omega (arith, order) in
    ap (λ (k : ℕ). take k (drop from ls)) more
    ∙ take_more (drop from ls) n line some
    ∙ ap (λ (l : Line). take n (drop from ls) ++ l ∷ []) (get_or-drop from ls n line ∙ ap (λ (k : ℕ). get_or ls k line) place ∙ get_or_from_slice_get ls to line line got)

-- a position between the two parts them
pub between_split : (from mid to : ℕ) (ls : List Line) → from ≤ mid → mid ≤ to → between from to ls ≡ between from mid ls ++ between mid to ls
between_split from mid to ls low high =
    let n = mid - from in
    let m = to - mid in
    let count : to - from ≡ n + m = omega (arith, low, high) in
    let place : from + n ≡ mid = omega (arith, low) in
    ap (λ (k : ℕ). take k (drop from ls)) count ∙ take-add n m (drop from ls)
    ∙ ap (λ (l : List Line). between from mid ls ++ take m l) (drop-drop n from ls ∙ ap (λ (k : ℕ). drop k ls) place)

-- up to the second position are those up to the first, and those between
pub take_between : (from to : ℕ) (ls : List Line) → from ≤ to → take to ls ≡ take from ls ++ between from to ls
take_between from to ls order =
    let whole : to ≡ from + (to - from) = omega (arith, order) in
    ap (λ (k : ℕ). take k ls) whole ∙ take-add from (to - from) ls
