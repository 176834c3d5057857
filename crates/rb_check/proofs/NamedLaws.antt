-- Directives that are named by lines.
use Rattle.std.proofs.Common.{◌≡◌, ◌∙◌, ℕ, ◌+◌, ◌-◌, List, [], ◌∷◌, ◌++◌, Option, Some, refl, ap, sym, subst, take, append-nil}
use Rattle.std.specs.Prelude.{map, slice_get}
use Rattle.std.specs.List.{flat_map}
use Rattle.std.proofs.lemmas.Grind.{flat_map-append}
use Rattle.std.proofs.lemmas.List.{map-append}
use Rattle.std.proofs.lemmas.Option.{get_or_from_slice_get}
use Rattle.rb_script.proofs.ListLaws.{take_there}
use Rattle.rb_script_report.specs.Checked.{head_line}
use Rattle.rb_check.specs.declared.report_state.ReportForm.{ReportForm}
use Rattle.rb_check.specs.declared.report_state.ReportState.{ReportState}
use Rattle.rb_check.specs.Shown.{GoesOut, GoesOutInPart}
use Rattle.rb_check.specs.ScriptTexts.{AreNamed, ArePicked, AreShown, IsNamed}
use Rattle.rb_check.proofs.ShownLaws.{along, goes_nothing, goes_on}

pub none_named : (heads : List ℕ) → AreNamed heads [] []
unfolding AreNamed
none_named heads = tt

more_named : (heads lines places : List ℕ) (line place : ℕ) → AreNamed heads lines places → IsNamed heads line place → AreNamed heads (lines ++ line ∷ []) (places ++ place ∷ [])
unfolding AreNamed
more_named heads [] [] line place are is = (is, tt)
more_named heads [] (p ∷ places) line place are is = absurd are
more_named heads (l ∷ lines) [] line place are is = absurd are
more_named heads (l ∷ lines) (p ∷ places) line place are is = (are.0, more_named heads lines places line place are.1 is)

-- one line more
pub named_more : (heads lines places : List ℕ) (i line place : ℕ) → slice_get lines i ≡ Some line → AreNamed heads (take i lines) places → IsNamed heads line place → AreNamed heads (take (i + 1) lines) (places ++ place ∷ [])
named_more heads lines places i line place got are is =
    subst (λ (ls : List ℕ). AreNamed heads ls (places ++ place ∷ [])) (sym (take_there lines i line got)) (more_named heads (take i lines) places line place are is)

one_text : (text : ℕ → List ℕ) (places : List ℕ) (place : ℕ) → flat_map text places ++ text place ≡ flat_map text (places ++ place ∷ [])
one_text text places place = sym (flat_map-append text places (place ∷ []) ∙ ap (λ (l : List ℕ). flat_map text places ++ l) (append-nil (text place)))

pub none_shown : (text : ℕ → List ℕ) (heads : List ℕ) (s : ReportState) (a : Option (List ℕ)) → AreShown text heads [] s s a a
none_shown text heads s a = record { places = []; named = none_named heads; out = goes_nothing s a }

-- one directive more, whose text may depend on the form
pub shown_more : {one two three : ReportState} {a b c : Option (List ℕ)} (text : ReportForm → ℕ → List ℕ) (heads lines : List ℕ) (i line place : ℕ) → slice_get lines i ≡ Some line → IsNamed heads line place
    → AreShown (text one.form) heads (take i lines) one two a b → GoesOut two three b c (text two.form place) → AreShown (text one.form) heads (take (i + 1) lines) one three a c
shown_more {one} text heads lines i line place got is so_far next = record {
  places = so_far.places ++ place ∷ [];
  named = named_more heads lines so_far.places i line place got so_far.named is;
  out = along (one_text (text one.form) so_far.places place) (goes_on (λ (f : ReportForm). text f place) so_far.out next);
}

pub none_picked : (text : ℕ → List ℕ) (heads : List ℕ) (s : ReportState) (a : Option (List ℕ)) → ArePicked text heads [] [] s s a a
none_picked text heads s a = record { places = []; named = none_named heads; picked_are = refl; out = goes_nothing s a }

head_at : (heads : List ℕ) (place head : ℕ) → slice_get heads (place - 1) ≡ Some head → head_line heads place ≡ head
head_at heads place head got = get_or_from_slice_get heads (place - 1) head 0 got

-- the text of the place and its head
pub picked_more : {one two three : ReportState} {a b c : Option (List ℕ)} (text : ReportForm → ℕ → ℕ → List ℕ) (heads lines picked more : List ℕ) (i line place head : ℕ) → slice_get lines i ≡ Some line → IsNamed heads line place → slice_get heads (place - 1) ≡ Some head
    → more ≡ picked ++ head ∷ [] → ArePicked (λ k. text one.form (head_line heads k) k) heads (take i lines) picked one two a b → GoesOut two three b c (text two.form head place)
    → ArePicked (λ k. text one.form (head_line heads k) k) heads (take (i + 1) lines) more one three a c
picked_more {one} {two} {three} {a} {b} {c} text heads lines picked more i line place head got is there added so_far next =
    let here = head_at heads place head there in
    let out : GoesOut two three b c (text two.form (head_line heads place) place) = along (ap (λ (n : ℕ). text two.form n place) (sym here)) next in
    record {
      places = so_far.places ++ place ∷ [];
      named = named_more heads lines so_far.places i line place got so_far.named is;
      picked_are = added ∙ ap (λ (ks : List ℕ). ks ++ head ∷ []) so_far.picked_are ∙ ap (λ (n : ℕ). map (head_line heads) so_far.places ++ n ∷ []) (sym here) ∙ sym (map-append (head_line heads) so_far.places (place ∷ []));
      out = along (one_text (λ k. text one.form (head_line heads k) k) so_far.places place) (goes_on (λ (f : ReportForm). text f (head_line heads place) place) so_far.out out);
    }

-- some directives were shown, or picked
pub shown_part : {text : ℕ → List ℕ} {heads lines : List ℕ} {s u : ReportState} {a b : Option (List ℕ)} → AreShown text heads lines s u a b → GoesOutInPart s u a b
shown_part {text = text} shown = record { text = flat_map text shown.places; out = shown.out }

pub picked_part : {text : ℕ → List ℕ} {heads lines picked : List ℕ} {s u : ReportState} {a b : Option (List ℕ)} → ArePicked text heads lines picked s u a b → GoesOutInPart s u a b
picked_part {text = text} picked = record { text = flat_map text picked.places; out = picked.out }
