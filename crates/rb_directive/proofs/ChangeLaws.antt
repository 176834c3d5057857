-- The words that are left, line by line.
use Rattle.std.proofs.Common.{◌≡◌, ℕ, ◌+◌, ◌<◌, List, [], ◌++◌, length, get_or, drop, refl, ap, ◌∙◌}
use Rattle.std.specs.List.{flat_map}
use Rattle.std.proofs.lemmas.List.{drop_more}
use Rattle.rb_script.specs.Lines.{Line}
use Rattle.rb_script.specs.Directive.{without_empty}
use Rattle.rb_text.specs.Words.{parts, words}
use Rattle.rb_directive.specs.Forms.{Word}
use Rattle.rb_directive.specs.Changes.{words_left, input_words}

-- where the text has no words, those of the next line come
pub next_line : (inputs : List Line) (from : ℕ) (rest : Line) → from < length inputs → words rest ≡ []
    → words_left inputs from rest ≡ words_left inputs (from + 1) (get_or inputs from [])
next_line inputs from rest h none =
    ap (λ (some : List Word). some ++ flat_map words (drop from inputs)) none ∙ ap (flat_map words) (drop_more inputs from [] h)

-- the words that are left at first are all of them
pub all_words : (inputs : List Line) → words_left inputs 0 [] ≡ input_words inputs
unfolding words parts without_empty
all_words inputs = refl
