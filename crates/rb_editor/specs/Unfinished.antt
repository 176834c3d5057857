-- What an unfinished head continues with, read as far as it stands. (docs/SCRIPTS.md, "The head".)
use Rattle.std.specs.Prelude.{ℕ, zero, suc, Bool, false, ◌||◌, ◌++◌, if◌then◌else◌, List, [], ◌∷◌, drop, Result, Ok, Err}
use Rattle.std.specs.Borrow.{Bor}
use Rattle.std.specs.Str.{bytes_eq}
use Rattle.rb_script.specs.declared.limits.TheConstants.{MAX_ARGUMENTS}
use Rattle.rb_script.specs.Bytes.{opening, closing, equals_sign}
use Rattle.rb_script.specs.Marks.{is_space}
use Rattle.rb_script.specs.Runs.{while_of, after_while}
use Rattle.rb_script.specs.Directive.{is_word, is_value, is_inside, is_gap, begins}
use Rattle.rb_script.specs.Heads.{begins_space}
use Rattle.rb_editor.specs.declared.offers.unfinished.UnfinishedKind.{UnfinishedKind}
use Rattle.rb_editor.specs.declared.offers.unfinished.UnfinishedKind.TheVariants as wanted_kinds

-- What a head ends in: what it is, the key of the option if it is a value, what there is of it, and if it is a value in parentheses, all
-- that is written between them.
pub record PlainWanted : Type 0 where
  pub kind : UnfinishedKind
  pub key : List ℕ
  pub prefix : List ℕ
  pub listed : List ℕ

abbrev pub nothing : PlainWanted
nothing = record { kind = wanted_kinds.Nothing; key = []; prefix = []; listed = [] }

abbrev pub name : List ℕ → PlainWanted
name prefix = record { kind = wanted_kinds.Name; key = []; prefix = prefix; listed = [] }

abbrev pub argument : List ℕ → PlainWanted
argument prefix = record { kind = wanted_kinds.Argument; key = []; prefix = prefix; listed = [] }

abbrev pub value : List ℕ → List ℕ → PlainWanted
value key prefix = record { kind = wanted_kinds.Value; key = key; prefix = prefix; listed = [] }

-- the last of some values
abbrev pub value_in : List ℕ → List ℕ → List ℕ → PlainWanted
value_in key prefix listed = record { kind = wanted_kinds.Value; key = key; prefix = prefix; listed = listed }

-- what is left after an argument, or, where the head ends in it, what is wanted there
abbrev pub Reach : Type 0
Reach = Result (List ℕ) PlainWanted

-- as the code has it
abbrev pub reach_of : Result (Bor (List ℕ)) PlainWanted → Reach
reach_of (Ok rest) = Ok rest.now
reach_of (Err wanted) = Err wanted

abbrev pub rest_or : PlainWanted → List ℕ → Reach
rest_or wanted [] = Err wanted
rest_or wanted (b ∷ rest) = Ok (b ∷ rest)

-- what is after the last gap of values in parentheses, of which `piece` is after the last so far
abbrev pub piece_behind : List ℕ → List ℕ → List ℕ
piece_behind piece [] = piece
piece_behind piece (b ∷ bytes) = piece_behind (if is_gap b then bytes else piece) bytes

unfoldable pub last_piece : List ℕ → List ℕ
last_piece bytes = piece_behind bytes bytes

-- One of these values is the word: the bytes of one so far, and those after them. The last isn't finished.
abbrev pub has_piece : List ℕ → List ℕ → List ℕ → Bool
has_piece word piece [] = false
has_piece word piece (b ∷ bytes) = if is_gap b then bytes_eq piece word || has_piece word [] bytes else has_piece word (piece ++ b ∷ []) bytes

unfoldable pub is_listed : List ℕ → List ℕ → Bool
is_listed word bytes = has_piece word [] bytes

-- what is left after values in parentheses
abbrev pub closed : List ℕ → List ℕ
closed rest = if begins closing rest then drop 1 rest else rest

abbrev pub closed_or : PlainWanted → List ℕ → Reach
closed_or wanted [] = Err wanted
closed_or wanted (b ∷ rest) = Ok (closed (b ∷ rest))

abbrev pub list_value : List ℕ → List ℕ → Reach
list_value key bytes = closed_or (value_in key (last_piece bytes) bytes) (after_while is_inside bytes)

-- what is after the `=` of an option
abbrev pub value_at : List ℕ → List ℕ → Reach
value_at key bytes = if begins opening bytes then list_value key (drop 1 bytes) else rest_or (value key bytes) (after_while is_value bytes)

-- an argument whose key was read, and what follows the key
abbrev pub after_key : List ℕ → List ℕ → List ℕ → Reach
after_key bytes key rest = if begins equals_sign rest then value_at key (drop 1 rest) else rest_or (argument bytes) rest

unfoldable pub argument_at : List ℕ → Reach
argument_at bytes = after_key bytes (while_of is_word bytes) (after_while is_word bytes)

abbrev pub reached : Reach → (List ℕ → PlainWanted) → PlainWanted
reached (Err wanted) goes_on = wanted
reached (Ok rest) goes_on = goes_on rest

-- the arguments after a name, at most n, each after a blank
unfoldable pub in_arguments : ℕ → List ℕ → PlainWanted
in_arguments zero bytes = nothing
in_arguments (suc most) bytes = if begins_space bytes then reached (argument_at (after_while is_space bytes)) (in_arguments most) else nothing

abbrev pub behind_name : List ℕ → List ℕ → PlainWanted
behind_name prefix [] = name prefix
behind_name prefix (b ∷ rest) = in_arguments MAX_ARGUMENTS (b ∷ rest)

-- the name of an unfinished head, as far as it goes
abbrev pub name_of : List ℕ → List ℕ
name_of head = while_of is_word (after_while is_space head)

unfoldable pub wanted_of : List ℕ → PlainWanted
wanted_of head = behind_name (after_while is_space head) (after_while is_word (after_while is_space head))
