use Rattle.std.proofs.Common.{◌≡◌, ◌-◌, ◌∷◌, [], length, length-append, take, Some, ap, sym, ◌∙◌, arith}
use Rattle.std.proofs.lemmas.List.{take_at}
use Rattle.rb_script.specs.Lines.{Line}
use Rattle.rb_script.proofs.FlatLaws.{flat_line}
use Rattle.rb_script.proofs.flat.line_of.Goals as goal

pub slice_bounds-result-count : goal.slice_bounds-result-count
slice_bounds-result-count c =
    let found = flat_line c.args.ends.now c.args.text.now c.args.i c.requires.line in
    omega (arith, ap length (c.text_part-whole.ensures ∙ found.2), length-append found.0 (10 ∷ []))

pub returns : goal.returns
returns c =
    let found = flat_line c.args.ends.now c.args.text.now c.args.i c.requires.line in
    let whole = c.text_part-whole.ensures ∙ found.2 in
    let n = length c.text_part-whole.result.now - 1 in
    let len : length found.0 ≡ n = omega (arith, ap length whole, length-append found.0 (10 ∷ [])) in
    found.1 ∙ ap (λ (l : Line). Some l) (sym (ap (take n) whole ∙ take_at found.0 (10 ∷ []) n len))
