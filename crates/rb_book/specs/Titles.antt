-- The title of a script: the first sentence of its first line, if that is a comment. (This project's.)
use Rattle.std.specs.Prelude.{◌≡◌, ℕ, ◌+◌, ◌==◌, ◌&&◌, if◌then◌else◌, List, [], ◌∷◌, Option, Some, None, codes, take}
use Rattle.memchr.specs.Find.{FindsNeedle, IsFirstByte, is_byte}

-- the first items, if a number is given
abbrev pub up_to : Option ℕ → List ℕ → List ℕ
up_to None text = text
up_to (Some n) text = take n text

abbrev pub with_stop : Option ℕ → List ℕ → List ℕ
with_stop None text = text
with_stop (Some n) text = take (n + 1) text

-- up to the first LF
abbrev pub IsFirstLine : List ℕ → List ℕ → Type 0
IsFirstLine text line = (end : Option ℕ) × IsFirstByte (is_byte 10) text end × (line ≡ up_to end text)

-- the text of a comment: what is after `# `
abbrev pub after_sign : List ℕ → List ℕ
after_sign (a ∷ b ∷ text) = if a == 35 && b == 32 then text else []
after_sign line = []

-- up to the first full stop that a blank is after, with it
abbrev pub IsFirstSentence : List ℕ → List ℕ → Type 0
IsFirstSentence text sentence = (end : Option ℕ) × FindsNeedle text (codes ". ") 0 end × (sentence ≡ with_stop end text)

-- the first sentence of the first line, if that is a comment
abbrev pub IsTitle : List ℕ → List ℕ → Type 0
IsTitle script title = (line : List ℕ) × IsFirstLine script line × IsFirstSentence (after_sign line) title
