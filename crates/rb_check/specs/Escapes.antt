-- Bytes as they are in a workflow command. (GitHub, Workflow commands for GitHub Actions; the escapes are those of its toolkit's
-- @actions/core, command.ts.)
use Rattle.std.specs.Prelude.{ℕ, ◌==◌, if◌then◌else◌, List, [], ◌∷◌, codes}
use Rattle.rb_check.specs.declared.escape.CommandPart.{CommandPart}
use Rattle.rb_check.specs.declared.escape.CommandPart.TheVariants.{Message, Property}

-- in its message: a percent sign, CR and LF by their numbers
abbrev pub in_message : ℕ → List ℕ
in_message b = if b == 37 then codes "%25" else (if b == 13 then codes "%0D" else (if b == 10 then codes "%0A" else (b ∷ [])))

-- in the value of a property: a colon and a comma too
abbrev pub in_property : ℕ → List ℕ
in_property b = if b == 58 then codes "%3A" else (if b == 44 then codes "%2C" else in_message b)

abbrev pub byte_text : CommandPart → ℕ → List ℕ
byte_text Message = in_message
byte_text Property = in_property
