-- Diagnostics one after another, as far as they are told.
use Rattle.std.proofs.Common.{◌≡◌, ◌∙◌, ℕ, zero, suc, ◌+◌, ◌-◌, ◌*◌, ◌<◌, ◌≤◌, Bool, true, false, List, [], ◌∷◌, ◌++◌, length, drop, take, get_or, Option, Some, None, refl, ap, sym, append_assoc, arith}
use Rattle.std.specs.Prelude.{codes, ◌==◌, nat_le, slice_index}
use Rattle.std.proofs.lemmas.Bool.{leb-false, leb-true}
use Rattle.std.proofs.lemmas.List.{at_drop_all, at_drop_more, length-append, length-take}
use Rattle.rb_script.specs.Bytes.{line_feed}
use Rattle.rb_lsp.proofs.PlaceLaws.{test_cases}
use Rattle.rb_editor.specs.Above.{line_begin}
use Rattle.rb_editor.specs.Diagnostics.{PlainActualOutput, PlainDiagnostic}
use Rattle.rb_editor.specs.Texts.{listed}
use Rattle.rb_editor.specs.Told.{all_told, cut, diff_bytes, left_after, left_behind, left_by, mismatch_bytes, more_text, room, told}

pub told_more : (text : PlainDiagnostic → List ℕ) (ds : List PlainDiagnostic) (i : ℕ) (d : PlainDiagnostic) (left next : ℕ) (lead had led has all : List ℕ) → i < length ds → d ≡ get_or ds i d → next ≡ left_behind left d
    → led ≡ had ++ lead → has ≡ led ++ text (told left d) → had ++ listed text lead (all_told left (drop i ds)) ≡ all → has ++ listed text (codes ",") (all_told next (drop (i + 1) ds)) ≡ all
unfolding listed
told_more text ds i d left next lead had led has all within there is leads made far =
    let rest = listed text (codes ",") (all_told (left_behind left d) (drop (i + 1) ds)) in
    let here = text (told left d) in
    ap (λ (n : ℕ). has ++ listed text (codes ",") (all_told n (drop (i + 1) ds))) is
    ∙ ap (λ (l : List ℕ). l ++ rest) (made ∙ ap (λ (l : List ℕ). l ++ here) leads)
    ∙ append_assoc (had ++ lead) here rest
    ∙ append_assoc had lead (here ++ rest)
    ∙ ap (λ (x : PlainDiagnostic). had ++ (lead ++ (text (told left x) ++ listed text (codes ",") (all_told (left_behind left x) (drop (i + 1) ds))))) there
    ∙ sym (at_drop_more (λ (xs : List PlainDiagnostic). had ++ listed text lead (all_told left xs)) ds i d within)
    ∙ far

pub told_all : (text : PlainDiagnostic → List ℕ) (ds : List PlainDiagnostic) (i left : ℕ) (lead had has all : List ℕ) → length ds ≤ i → has ≡ had ++ codes "]"
    → had ++ listed text lead (all_told left (drop i ds)) ≡ all → has ≡ all
unfolding listed
told_all text ds i left lead had has all past made far =
    made ∙ sym (at_drop_all (λ (xs : List PlainDiagnostic). had ++ listed text lead (all_told left xs)) ds i past) ∙ far

-- ---- how much that is

begin_most : (n : ℕ) (text : List ℕ) → line_begin n text ≤ n
unfolding line_begin
begin_most zero text = omega arith
begin_most (suc n) text =
    test_cases (slice_index text n == line_feed)
    (λ yes. rw yes (omega arith))
    (λ no. rw no (omega (arith, begin_most n text)))

-- a message that isn't cut
pub whole_length : (most : ℕ) (message : List ℕ) → nat_le (length message) most ≡ true → length (cut most message) ≡ length message
whole_length most message whole = rw whole refl

-- and one that is
pub cut_length : (most : ℕ) (message : List ℕ) → nat_le (length message) most ≡ false → length (cut most message) ≡ line_begin most message + length more_text
cut_length most message long =
    let over = leb-false (length message) most long in
    let at = line_begin most message in
    rw long (omega (arith, over, length-append (take at message) more_text, length-take at message, begin_most most message))

-- neither is longer than so many bytes and the sentence
cut_bound : (most : ℕ) (message : List ℕ) → length (cut most message) ≤ most + 36
unfolding more_text
cut_bound most message =
    test_cases (nat_le (length message) most)
    (λ whole. omega (arith, whole_length most message whole, leb-true (length message) most whole))
    (λ long. omega (arith, cut_length most message long, begin_most most message))

-- those of one mismatch take what is left, and the sentence
one_bound : (left : ℕ) (message : List ℕ) (c : PlainActualOutput) → mismatch_bytes left message (Some c) + left_by left message (Some c) ≤ left + 36
one_bound left message c =
    let most = cut_bound (room left) message in
    test_cases (nat_le (length c.shown) (room (left_after left message)))
    (λ fits. rw fits (omega (arith, most, leb-true (length c.shown) (room (left_after left message)) fits)))
    (λ no. rw no (omega (arith, most)))

by_came : (left : ℕ) (message : List ℕ) (came : Option PlainActualOutput) → mismatch_bytes left message came + left_by left message came ≤ left + 36
by_came left message None = omega arith
by_came left message (Some c) = one_bound left message c

pub told_bound : (left : ℕ) (ds : List PlainDiagnostic) → diff_bytes left ds ≤ left + 36 * length ds
told_bound left [] = omega arith
told_bound left (d ∷ ds) = omega (arith, by_came left d.message d.came, told_bound (left_behind left d) ds)
