-- How a command is spelled. (This project's.)
use Rattle.std.specs.Prelude.{◌≡◌, ℕ, ◌≤◌, List, [], ◌∷◌, Some, codes}
use Rattle.rb_script.specs.Lines.{Line}
use Rattle.rb_bench.specs.declared.limits.TheConstants.{MAX_GIVEN}
use Rattle.rb_bench.specs.declared.command.Command.{Command}
use Rattle.rb_bench.specs.declared.command.Command.TheVariants.{Blank, Bad, Given, Remove, Accept, Show, Report, Script, Rewrite}
use Rattle.rb_bench.specs.declared.command.Purpose.{Purpose}
use Rattle.rb_bench.specs.declared.command.Purpose.TheVariants.{Insert, Replace, Expect}
use Rattle.rb_text.specs.Numbers.{number_of}

abbrev pub purpose_name : Purpose → Line
purpose_name Insert = codes "insert"
purpose_name Replace = codes "replace"
purpose_name Expect = codes "expect"

-- a name and a place
pub record IsPlaced (name : Line) (place : ℕ) (words : List Line) : Type 0 where
  pub digits : Line
  pub words_are : words ≡ name ∷ digits ∷ []
  pub place_is : number_of digits ≡ Some place

-- a name, a place and a count that is not too large
pub record IsGiven (name : Line) (place count : ℕ) (words : List Line) : Type 0 where
  pub digits : Line
  pub count_digits : Line
  pub words_are : words ≡ name ∷ digits ∷ count_digits ∷ []
  pub place_is : number_of digits ≡ Some place
  pub count_is : number_of count_digits ≡ Some count
  pub few : count ≤ MAX_GIVEN

-- the words of each command
abbrev pub Spells : Command → List Line → Type 0
Spells Blank words = words ≡ []
Spells Bad words = ⊥
Spells (Given purpose place count) words = IsGiven (purpose_name purpose) place count words
Spells (Remove place) words = IsPlaced (codes "remove") place words
Spells Accept words = words ≡ codes "accept" ∷ []
Spells (Show place) words = IsPlaced (codes "show") place words
Spells Report words = words ≡ codes "report" ∷ []
Spells Script words = words ≡ codes "script" ∷ []
Spells Rewrite words = words ≡ codes "rewrite" ∷ []
