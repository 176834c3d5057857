-- What was probably meant, below an error. (This project's.)
use Rattle.std.specs.Prelude.{ℕ, List, [], ◌++◌, codes, Option, Some, None}
use Rattle.rb_report.specs.declared.check.hint.Hint.{Hint}
use Rattle.rb_report.specs.declared.check.hint.Hint.TheVariants as hints

-- nothing, a word or a form that was meant, or a sentence that says what is missing
pub data PlainHint : Type 0 where
  unknown : PlainHint
  meant : List ℕ → PlainHint
  sentence : List ℕ → PlainHint

abbrev pub plain_hint : Hint → PlainHint
plain_hint hints.Unknown = unknown
plain_hint (hints.Meant word) = meant word.now
plain_hint (hints.Sentence text) = sentence text.now

abbrev pub meant_or : PlainHint → Option (List ℕ) → PlainHint
meant_or other None = other
meant_or other (Some word) = meant word

abbrev pub question : List ℕ → List ℕ
question word = codes "did you mean \"" ++ (word ++ codes "\"?\n")

abbrev pub sentence_line : List ℕ → List ℕ
sentence_line text = text ++ codes "\n"

-- a line of its own
abbrev pub hint_text : PlainHint → List ℕ
hint_text unknown = []
hint_text (meant word) = question word
hint_text (sentence text) = sentence_line text
