-- Output to a sink. (This project's.)
use Rattle.std.specs.Prelude.{◌≡◌, ℕ, List, ◌++◌, Option, Result, Ok, Err}
use Rattle.std.specs.Io.KnownBytes.{Appends}
use Rattle.rb_script.specs.declared.sink.WriteFault.{WriteFault}

-- a beginning of the text was written
pub record AppendsFront (old new : Option (List ℕ)) (text : List ℕ) : Type 0 where
  pub front : List ℕ
  pub rest : List ℕ
  pub parts : text ≡ front ++ rest
  pub appended : Appends old new front

-- the text was written, or on a failure a beginning of it
abbrev pub Writes : {X : Type 0} → Result X WriteFault → Option (List ℕ) → Option (List ℕ) → List ℕ → Type 0
Writes (Ok x) old new text = Appends old new text
Writes (Err e) old new text = AppendsFront old new text
