-- A text that is shown line by line, as far as it is.
use Rattle.std.proofs.Common.{◌≡◌, ◌∙◌, ℕ, Bool, false, ◌<◌, List, [], ◌∷◌, ◌++◌, length, get_or, refl, sym, ap, arith, append_assoc, append-nil, eqb-true}
use Rattle.std.specs.Prelude.{◌==◌}
use Rattle.std.specs.List.{AllZip, after_first, before_first, list_any, position_or_len}
use Rattle.std.proofs.lemmas.Grind.{common_steps, flat_map-append}
use Rattle.std.proofs.lemmas.List.Elements.{AllZip-push}
use Rattle.std.proofs.lemmas.List.Folds.{list_any_none}
use Rattle.std.proofs.lemmas.List.Sums.{fails_before_first, passes_at_first, split_at_first}
use Rattle.rb_script.specs.Bytes.{line_feed}
use Rattle.rb_script.specs.Lines.{Line, line_text, text_of}
use Rattle.rb_program.specs.Sentences.{IsLineShown, IsTextShown}

abbrev pub is_feed : ℕ → Bool
is_feed b = b == line_feed

-- the part of a text before its first end of a line has none
pub none_before : (text : List ℕ) → list_any is_feed (before_first is_feed text) ≡ false
none_before text =
    list_any_none is_feed (before_first is_feed text)
    (λ k d lt.
    let inside : k < position_or_len is_feed text = grind (arith, common_steps) in
    let same : get_or (before_first is_feed text) k d ≡ get_or text k d = grind (arith, common_steps) in
    ap is_feed same ∙ fails_before_first is_feed text k d inside)

pub cut_at : (rest line below : List ℕ) → line ≡ before_first is_feed rest → below ≡ after_first is_feed rest → position_or_len is_feed rest < length rest → rest ≡ line ++ (line_feed ∷ below)
cut_at rest line below l b lt =
    let feed : get_or rest (position_or_len is_feed rest) 0 ≡ line_feed = eqb-true _ line_feed (passes_at_first is_feed rest 0 lt) in
    split_at_first is_feed rest 0 lt ∙ (λ i. (sym l) i ++ (feed i ∷ (sym b) i))

pub none_at_all : (text : List ℕ) → position_or_len is_feed text ≡ length text → list_any is_feed text ≡ false
none_at_all text e = list_any_none is_feed text (λ k d lt. fails_before_first is_feed text k d (omega (arith, e, lt)))

pub record ShownSoFar (text rest shown : List ℕ) : Type 0 where
  pub ls : List Line
  pub ls_shown : List Line
  pub parts : text ≡ text_of ls ++ rest
  pub each : AllZip IsLineShown ls ls_shown
  pub shown_is : shown ≡ text_of ls_shown

pub none_shown : (text shown : List ℕ) → shown ≡ [] → ShownSoFar text text shown
none_shown text shown e = record { ls = []; ls_shown = []; parts = refl; each = tt; shown_is = e }

with_line : (ls : List Line) (line : Line) → text_of (ls ++ line ∷ []) ≡ text_of ls ++ (line ++ line_feed ∷ [])
with_line ls line = flat_map-append line_text ls (line ∷ []) ∙ ap (λ xs. text_of ls ++ xs) (append-nil (line_text line))

pub one_more : (text rest shown line below word new : List ℕ) → ShownSoFar text rest shown → rest ≡ line ++ (line_feed ∷ below) → IsLineShown line word → new ≡ (shown ++ word) ++ (line_feed ∷ [])
    → ShownSoFar text below new
one_more text rest shown line below word new h cut is e = record {
  ls = h.ls ++ line ∷ [];
  ls_shown = h.ls_shown ++ word ∷ [];
  parts =
      let feed = line_feed ∷ [] in
      h.parts ∙ ap (λ xs. text_of h.ls ++ xs) (cut ∙ sym (append_assoc line feed below))
      ∙ sym (append_assoc (text_of h.ls) (line ++ feed) below) ∙ ap (λ xs. xs ++ below) (sym (with_line h.ls line));
  each = AllZip-push IsLineShown h.ls h.ls_shown line word h.each is;
  shown_is = e ∙ append_assoc shown word (line_feed ∷ []) ∙ ap (λ xs. xs ++ (word ++ line_feed ∷ [])) h.shown_is ∙ sym (with_line h.ls_shown word);
}

pub all_shown : (text rest shown word whole : List ℕ) → ShownSoFar text rest shown → IsLineShown rest word → whole ≡ shown ++ word → IsTextShown text whole
all_shown text rest shown word whole h is e = record {
  ls = h.ls;
  last = rest;
  ls_shown = h.ls_shown;
  last_shown = word;
  parts = h.parts;
  each = h.each;
  rest = is;
  shown_is = e ∙ ap (λ xs. xs ++ word) h.shown_is;
}
