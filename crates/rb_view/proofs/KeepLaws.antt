-- Texts that are added one after another, and texts that are found.
use Rattle.std.proofs.Common.{◌≡◌, ◌∙◌, ℕ, ◌+◌, Bool, true, false, List, [], ◌∷◌, ◌++◌, drop, Some, refl, ap, sym, append_assoc}
use Rattle.std.specs.Prelude.{◌||◌, if◌then◌else◌, slice_get}
use Rattle.std.specs.List.{flat_map}
use Rattle.std.specs.Str.{bytes_eq}
use Rattle.std.proofs.lemmas.List.{map-append}
use Rattle.rb_script.specs.Lines.{Line}
use Rattle.rb_text.proofs.AddedLaws as added
use Rattle.rb_view.specs.Kept.{texts_of}
use Rattle.rb_view.specs.Rows.{Row, next_text}
use Rattle.rb_view.proofs.KeptLaws.{left_some}
use Rattle.rb_view.specs.NewRows.{has_text, new_row, new_texts, new_rows}

-- what one part adds is there, and the rest is left
pub one_part : (before after first part rest all : List Line) → part ≡ first ++ rest → after ≡ before ++ first → before ++ part ≡ all → after ++ rest ≡ all
one_part before after first part rest all splits adds inv =
    ap (λ (l : List Line). l ++ rest) adds ∙ append_assoc before first rest ∙ ap (λ (l : List Line). before ++ l) (sym splits) ∙ inv

-- the text that is looked for is here
pub found_here : (olds : List Line) (text other : Line) (i : ℕ) → slice_get olds i ≡ Some other → bytes_eq text other ≡ true → has_text (drop i olds) text ≡ true
found_here olds text other i got is_same =
    ap (λ (ls : List Line). has_text ls text) (left_some olds i other got) ∙ ap (λ (t : Bool). t || has_text (drop (i + 1) olds) text) is_same

-- it isn't
pub not_here : (olds : List Line) (text other : Line) (i : ℕ) → slice_get olds i ≡ Some other → bytes_eq text other ≡ false → has_text (drop i olds) text ≡ has_text (drop (i + 1) olds) text
not_here olds text other i got is_other =
    ap (λ (ls : List Line). has_text ls text) (left_some olds i other got) ∙ ap (λ (t : Bool). t || has_text (drop (i + 1) olds) text) is_other

-- new rows, as texts
new_by : (t : Bool) (r : Row) (rest : List Row) (others : List Line) → texts_of rest ≡ others → texts_of ((if t then [] else r ∷ []) ++ rest) ≡ (if t then [] else next_text r ∷ []) ++ others
new_by true r rest others e = e
new_by false r rest others e = ap (λ (l : List Line). next_text r ∷ l) e

new_of_all : (olds : List Line) (rs : List Row) → texts_of (flat_map (new_row olds) rs) ≡ new_texts olds (texts_of rs)
new_of_all olds [] = refl
new_of_all olds (r ∷ rs) = new_by (has_text olds (next_text r)) r (flat_map (new_row olds) rs) (new_texts olds (texts_of rs)) (new_of_all olds rs)

pub new_rows_are : (olds news : List Row) → new_texts (texts_of olds) (texts_of news) ≡ texts_of (new_rows olds news)
new_rows_are olds news = sym (new_of_all (texts_of olds) news)

-- rows in two parts
pub two_parts : (old mid new : List Line) (a b : List Row) → mid ≡ old ++ texts_of a → new ≡ mid ++ texts_of b → new ≡ old ++ texts_of (a ++ b)
two_parts old mid new a b first second = added.two_parts old mid new (texts_of a) (texts_of b) first second ∙ ap (λ (l : List Line). old ++ l) (sym (map-append next_text a b))
