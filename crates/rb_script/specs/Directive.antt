-- The grammar of a head: a name and arguments, separated by blanks. (This project's profile of the datadriven
-- format; datadriven's README has `key`, `key=value` and `key=(value, value)`.)
use Rattle.std.specs.Prelude.{◌≡◌, ◌≢◌, ℕ, ◌⊎◌, Bool, true, false, ◌||◌, ◌==◌, not, if◌then◌else◌, List, [], ◌∷◌, ◌++◌, slice_index_or}
use Rattle.std.specs.List.{list_all}
use Rattle.rb_script.specs.Bytes.{opening, closing, comma, equals_sign}
use Rattle.rb_script.specs.Lines.{Line}
use Rattle.rb_script.specs.Marks.{is_space}

pub record PlainArgument : Type 0 where
  pub key : List ℕ
  pub has_equals : Bool
  pub values : List (List ℕ)

pub record PlainDirective : Type 0 where
  pub name : List ℕ
  pub args : List PlainArgument
  pub inputs : List Line

-- the bytes of a name or a key
abbrev pub is_word : ℕ → Bool
is_word b = not (is_space b || b == equals_sign || b == opening || b == closing)

-- the bytes of a value without parentheses
abbrev pub is_value : ℕ → Bool
is_value b = not (is_space b)

-- the separator of values within parentheses
abbrev pub is_gap : ℕ → Bool
is_gap b = is_space b || b == comma

-- what may be within parentheses
abbrev pub is_inside : ℕ → Bool
is_inside b = not (b == opening || b == closing)

-- the byte joins the piece that begins there, if one does
abbrev pub in_piece : ℕ → List (List ℕ) → List (List ℕ)
in_piece b [] = (b ∷ []) ∷ []
in_piece b (piece ∷ pieces) = (b ∷ piece) ∷ pieces

-- the text cut at each gap, empty pieces too
unfoldable pub fields : List ℕ → List (List ℕ)
fields [] = [] ∷ []
fields (b ∷ bytes) = if is_gap b then [] ∷ fields bytes else in_piece b (fields bytes)

abbrev pub is_some_piece : List ℕ → Bool
is_some_piece [] = false
is_some_piece (b ∷ piece) = true

unfoldable pub without_empty : List (List ℕ) → List (List ℕ)
without_empty [] = []
without_empty (piece ∷ pieces) = if is_some_piece piece then piece ∷ without_empty pieces else without_empty pieces

-- the values within parentheses
abbrev pub pieces : List ℕ → List (List ℕ)
pieces inside = without_empty (fields inside)

abbrev pub begins : ℕ → List ℕ → Bool
begins x [] = false
begins x (b ∷ bytes) = b == x

-- one byte or more, all of the class
pub record IsRun (p : ℕ → Bool) (bytes : List ℕ) : Type 0 where
  pub some : bytes ≢ []
  pub all : list_all p bytes ≡ true

-- `key`
pub record IsKeyAlone (text : List ℕ) (a : PlainArgument) : Type 0 where
  pub parts : text ≡ a.key
  pub equals : a.has_equals ≡ false
  pub values : a.values ≡ []

-- `key=value`, where the value doesn't begin with a parenthesis
pub record IsKeyValue (text : List ℕ) (a : PlainArgument) : Type 0 where
  pub value : List ℕ
  pub parts : text ≡ a.key ++ equals_sign ∷ value
  pub equals : a.has_equals ≡ true
  pub values : a.values ≡ value ∷ []
  pub bare : list_all is_value value ≡ true
  pub unopened : begins opening value ≡ false

-- `key=(values)`
pub record IsKeyList (text : List ℕ) (a : PlainArgument) : Type 0 where
  pub inside : List ℕ
  pub parts : text ≡ a.key ++ equals_sign ∷ opening ∷ inside ++ closing ∷ []
  pub equals : a.has_equals ≡ true
  pub values : a.values ≡ pieces inside
  pub flat : list_all is_inside inside ≡ true

abbrev pub IsArgument : List ℕ → PlainArgument → Type 0
IsArgument text a = IsRun is_word a.key × (IsKeyAlone text a ⊎ IsKeyValue text a ⊎ IsKeyList text a)

-- blanks before each, and perhaps after the last
abbrev pub AreArguments : List ℕ → List PlainArgument → Type 0
AreArguments bytes [] = list_all is_space bytes ≡ true
AreArguments bytes (a ∷ others) = (gap : List ℕ) × (text : List ℕ) × (rest : List ℕ) × (bytes ≡ gap ++ (text ++ rest)) × IsRun is_space gap × IsArgument text a × AreArguments rest others

-- the head, as one text, is this name and these arguments
pub record Derives (head name : List ℕ) (args : List PlainArgument) : Type 0 where
  pub gap : List ℕ
  pub rest : List ℕ
  pub parts : head ≡ gap ++ (name ++ rest)
  pub blank : list_all is_space gap ≡ true
  pub word : IsRun is_word name
  pub arguments : AreArguments rest args

abbrev pub no_argument : PlainArgument
no_argument = record { key = []; has_equals = false; values = [] }

-- argument i, if there is one
abbrev pub plain_argument : PlainDirective → ℕ → PlainArgument
plain_argument d i = slice_index_or d.args i no_argument

-- value j of an argument, if there is one
abbrev pub plain_value : PlainArgument → ℕ → List ℕ
plain_value a j = slice_index_or a.values j []
