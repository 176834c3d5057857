-- A part that is replaced.
use Rattle.std.proofs.Common.{◌≡◌, ℕ, true, List, ◌++◌, length, take, max, refl, ap, ◌∙◌, arith, append_assoc, length-append}
use Rattle.std.proofs.Math.Seq.{take-append_seam, drop-append_seam}
use Rattle.rb_lsp.specs.declared.document.position.Encoding.{Encoding}
use Rattle.rb_lsp.specs.Places.{is_place}
use Rattle.rb_lsp.specs.Changes.{spliced, changed, range_of}
use Rattle.rb_lsp.proofs.PositionLaws.{place_returns}

splice_part : (before old after new : List ℕ) → spliced (length before) (length (before ++ old)) new (before ++ old ++ after) ≡ before ++ new ++ after
splice_part before old after new =
    let front : take (length before) (before ++ old ++ after) ≡ before = ap (take (length before)) (append_assoc before old after) ∙ take-append_seam before (old ++ after) in
    let back = drop-append_seam (before ++ old) after in
    rw (front, back) refl

pub part_replaced : (e : Encoding) (before old after new : List ℕ) → is_place (length before) (before ++ old ++ after) ≡ true
    → is_place (length (before ++ old)) (before ++ old ++ after) ≡ true
    → changed e (range_of e before old (before ++ old ++ after)) new (before ++ old ++ after) ≡ before ++ new ++ after
part_replaced e before old after new from to =
    let text = before ++ old ++ after in
    let start = place_returns e 0 (length before) text from in
    let stop = place_returns e 0 (length (before ++ old)) text to in
    let most : max (length before) (length (before ++ old)) ≡ length (before ++ old) = omega (arith, length-append before old) in
    rw (start, stop, most) (splice_part before old after new)
