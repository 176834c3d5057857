-- The blocks in a range, one after the other; and formatting them keeps the script.
use Rattle.std.proofs.Common.{◌≡◌, ℕ, ◌+◌, ◌<◌, ◌≤◌, true, List, length, drop, get_or, Option, Some, None, refl, ap, subst, sym, inl, inr}
use Rattle.std.specs.Prelude.{codes}
use Rattle.std.proofs.lemmas.List.{drop_all, drop_more}
use Rattle.rb_script.specs.Script.{PlainScript, text as canonical_text}
use Rattle.rb_script.specs.Reads.{Reads}
use Rattle.rb_script.specs.Reading.{read_of}
use Rattle.rb_script.proofs.TextLaws.{text_reads}
use Rattle.rb_script.proofs.ValidLaws.{read_valid}
use Rattle.rb_lsp.specs.declared.document.position.Encoding.{Encoding}
use Rattle.rb_lsp.specs.declared.document.position.Range.{Range}
use Rattle.rb_lsp.proofs.PlaceLaws.{test_cases}
use Rattle.rb_editor.specs.declared.offers.block_lines.BlockLines.{BlockLines}
use Rattle.rb_editor.specs.BlockLines.{blocks_of, script_of}
use Rattle.rb_editor.specs.Formatting.{edits, has_canonical}
use Rattle.rb_editor.specs.Layouts.{line_at}
use Rattle.rb_editor.specs.OfferLaws.{KeepsScript}
use Rattle.rb_editor.specs.RangeFormatting.{after_block, if_same, lines_before, of_lines, of_part, of_script, range_formatting, touched, with_part}
use Rattle.rb_editor.proofs.BlockLaws.{script_found}
use Rattle.rb_editor.proofs.FormatLaws.{same_canonical}

pub one_touched : (first last : ℕ) (found : Option (ℕ × ℕ)) (bs : List BlockLines) (i : ℕ) (d : BlockLines) → i < length bs
    → touched first last found (drop i bs) ≡ touched first last (after_block first last found (get_or bs i d)) (drop (i + 1) bs)
unfolding touched
one_touched first last found bs i d within = ap (touched first last found) (drop_more bs i d within)

pub all_touched : (first last : ℕ) (found : Option (ℕ × ℕ)) (bs : List BlockLines) (i : ℕ) → length bs ≤ i → touched first last found (drop i bs) ≡ found
unfolding touched
all_touched first last found bs i past = ap (touched first last found) (drop_all i bs past)

-- ---- the script stays

same_script : (text : List ℕ) (s : PlainScript) → Reads (canonical_text s) s → has_canonical (canonical_text s) (script_of text) ≡ true → Reads text s
unfolding script_of
same_script text s back has = same_canonical text s (read_of text) back refl has

if_same_kept : (encoding : Encoding) (text : List ℕ) (s : PlainScript) (new : List ℕ) → Reads (canonical_text s) s → KeepsScript encoding text s (if_same encoding text s new)
if_same_kept encoding text s new back =
    test_cases (has_canonical (canonical_text s) (script_of new))
    (λ has. let made : if_same encoding text s new ≡ edits encoding text new = rw has refl in inr (new, made, same_script new s back has))
    (λ other. let none : if_same encoding text s new ≡ codes "[]" = rw other refl in inl none)

part_kept : (encoding : Encoding) (text : List ℕ) (s : PlainScript) (front upto : List ℕ) (part : Option PlainScript) → Reads (canonical_text s) s
    → KeepsScript encoding text s (of_part encoding text s front upto part)
part_kept encoding text s front upto None back = inl refl
part_kept encoding text s front upto (Some part) back = if_same_kept encoding text s (with_part text front upto part) back

lines_kept : (encoding : Encoding) (text : List ℕ) (s : PlainScript) (found : Option (ℕ × ℕ)) → Reads (canonical_text s) s → KeepsScript encoding text s (of_lines encoding text s found)
lines_kept encoding text s None back = inl refl
lines_kept encoding text s (Some found) back =
    let upto = lines_before found.1 text in
    let front = lines_before found.0 upto in
    part_kept encoding text s front upto (script_of (drop (length front) upto)) back

pub range_kept : (encoding : Encoding) (range : Range) (text : List ℕ) (s : PlainScript) → Reads text s → KeepsScript encoding text s (range_formatting encoding range text)
unfolding range_formatting
range_kept encoding range text s reads =
    let found = touched (line_at encoding range.start text) (line_at encoding range.end text) None (blocks_of text) in
    subst (λ (o : Option PlainScript). KeepsScript encoding text s (of_script encoding range text o)) (sym (script_found text s reads)) (lines_kept encoding text s found (text_reads s (read_valid text s reads)))
