-- Rows of stretches, one after another.
use Rattle.std.proofs.Common.{◌≡◌, ◌∙◌, ℕ, Bool, cond, false, List, [], ◌∷◌, ◌++◌, length, refl, ap, ap₂, sym, append-nil, append_assoc}
use Rattle.std.specs.Prelude.{codes, fold}
use Rattle.std.specs.List.{flat_map}
use Rattle.std.proofs.lemmas.List.{map-append}
use Rattle.rb_script.specs.Lines.{Line}
use Rattle.rb_replay.specs.Report.{same_lines}
use Rattle.rb_report.specs.Diffs.{Stretch, parts_within, left_after}
use Rattle.rb_view.specs.Kept.{line_rows, texts_of}
use Rattle.rb_view.specs.Rows.{row, next_text}
use Rattle.rb_view.specs.Steps.{count_rows, left_next, mismatch_rows, stretch_rows}
use Rattle.rb_view.proofs.KeepLaws.{two_parts}

-- a stretch with the rows of those before it
abbrev pub with_stretch : List Line → Stretch → List Line
with_stretch texts s = texts ++ texts_of (stretch_rows s)

pub stretches_taken : (t : List Line) (ss : List Stretch) → fold with_stretch t ss ≡ t ++ texts_of (flat_map stretch_rows ss)
stretches_taken t [] = sym (append-nil t)
stretches_taken t (s ∷ ss) =
    stretches_taken (t ++ texts_of (stretch_rows s)) ss ∙ append_assoc t (texts_of (stretch_rows s)) (texts_of (flat_map stretch_rows ss))
    ∙ ap (λ (l : List Line). t ++ l) (sym (map-append next_text (stretch_rows s) (flat_map stretch_rows ss)))

-- what one adds
pub stretch_kept : (t0 t1 t2 t3 same expected output : List Line) (n m : ℕ) → n ≡ length same → m ≡ length output
    → t1 ≡ t0 ++ texts_of (count_rows (codes "same") n) → t2 ≡ t1 ++ texts_of (line_rows (codes "expected") expected) → t3 ≡ t2 ++ texts_of (count_rows (codes "actual") m)
    → t3 ≡ t0 ++ texts_of (stretch_rows (record { same = same; expected = expected; output = output }))
stretch_kept t0 t1 t2 t3 same expected output n m n_is m_is first second third =
    two_parts t0 t1 t3 (count_rows (codes "same") n) (line_rows (codes "expected") expected ++ count_rows (codes "actual") m) first
    (two_parts t1 t2 t3 (line_rows (codes "expected") expected) (count_rows (codes "actual") m) second third)
    ∙ ap₂ (λ (j k : ℕ). t0 ++ texts_of (count_rows (codes "same") j ++ (line_rows (codes "expected") expected ++ count_rows (codes "actual") k))) n_is m_is

-- what a mismatch adds
pub mismatch_kept : (left : ℕ) (expected output t0 t1 none made : List Line) → same_lines expected output ≡ false → t1 ≡ t0 ++ texts_of (row (codes "mismatch") [] ∷ [])
    → none ≡ [] → made ≡ fold with_stretch none (parts_within left expected output) → t1 ++ made ≡ t0 ++ texts_of (mismatch_rows left expected output)
mismatch_kept left expected output t0 t1 none made other first none_is made_is =
    let rows = flat_map stretch_rows (parts_within left expected output) in
    let all : made ≡ texts_of rows = made_is ∙ stretches_taken none (parts_within left expected output) ∙ ap (λ (l : List Line). l ++ texts_of rows) none_is in
    two_parts t0 t1 (t1 ++ made) (row (codes "mismatch") [] ∷ []) rows first (ap (λ (l : List Line). t1 ++ l) all)
    ∙ sym (ap (λ (t : Bool). t0 ++ texts_of (cond t [] (row (codes "mismatch") [] ∷ rows))) other)

pub leaves : (left : ℕ) (expected output : List Line) → same_lines expected output ≡ false → left_after left expected output ≡ left_next left expected output
leaves left expected output other = sym (ap (λ (t : Bool). cond t left (left_after left expected output)) other)
