-- Bytes that a text can't have as they are, and the texts that replace them. (This project's.)
use Rattle.std.specs.Prelude.{ℕ, ◌==◌, if◌then◌else◌, List, [], ◌∷◌}
use Rattle.rb_check.specs.declared.replaced.Replaced.{Replaced}

-- the text that the table has for a byte, or else the byte's own
abbrev pub text_of : List Replaced → ℕ → List ℕ → List ℕ
text_of [] b own = own
text_of (replaced ∷ table) b own = if b == replaced.0 then replaced.1.now else text_of table b own
