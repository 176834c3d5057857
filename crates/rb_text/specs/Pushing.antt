-- Pushing bytes into a line. (This project's.)
use Rattle.std.specs.Prelude.{◌≡◌, ℕ, List, [], ◌∷◌, ◌++◌}
use Rattle.rb_text.specs.Begun.{Holds, IsLong, TurnsLong}
use Rattle.rb_text.specs.declared.line_buffer.PushByte.{PushByte}
use Rattle.rb_text.specs.declared.line_buffer.PushByte.TheVariants.{Continue, EndOfLine, TooLong}

-- pushing a byte after `begun`: `old` is stored before, and `new` after it
abbrev pub Pushes : PushByte → List ℕ → ℕ → List ℕ → List ℕ → Type 0
Pushes Continue begun byte old new = Holds (begun ++ byte ∷ []) new
Pushes EndOfLine begun byte old new = (byte ≡ 10) × (new ≡ old)
Pushes TooLong begun byte old new = IsLong (begun ++ byte ∷ []) × (new ≡ old)

-- pushing a front of the unread bytes: all of them, those up to the line's end, or those that make it too long
abbrev pub Takes : PushByte → List ℕ → List ℕ → List ℕ → List ℕ → Type 0
Takes Continue begun unread left kept = (left ≡ []) × Holds (begun ++ unread) kept
Takes EndOfLine begun unread left kept = (part : List ℕ) × (unread ≡ part ++ 10 ∷ left) × Holds (begun ++ part) kept
Takes TooLong begun unread left kept = (part : List ℕ) × (unread ≡ part ++ left) × TurnsLong (begun ++ part)
