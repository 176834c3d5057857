-- The first lines of an output.
use Rattle.std.proofs.Common.{◌≡◌, ◌∙◌, ℕ, ◌+◌, ◌<◌, List, [], ◌∷◌, ◌++◌, length, take, Some, ap, sym}
use Rattle.std.specs.Prelude.{slice_get}
use Rattle.std.proofs.lemmas.Option.{get_or_from_slice_get, slice_get_within}
use Rattle.std.proofs.lemmas.List.{take_more}
use Rattle.rb_script.specs.Lines.{Line}

-- one line more
pub first_more : (front new output : List Line) (i : ℕ) (line : Line) → front ≡ take i output → slice_get output i ≡ Some line → new ≡ front ++ line ∷ [] → new ≡ take (i + 1) output
first_more front new output i line so_far there more =
    let within : i < length output = slice_get_within output i line there in
    let next : take (i + 1) output ≡ take i output ++ line ∷ [] = take_more output i line within ∙ ap (λ (l : Line). take i output ++ l ∷ []) (get_or_from_slice_get output i line line there) in
    more ∙ ap (λ (ls : List Line). ls ++ line ∷ []) so_far ∙ sym next
