-- The words of a change of the configuration. (etcd raft's interaction tests have the letters; the rest is this project's.)
use Rattle.std.specs.Prelude.{ℕ, Bool, true, false, ◌==◌, ◌&&◌, ◌||◌, not, is_none, if◌then◌else◌, List, [], ◌∷◌, ◌++◌, drop, Option, Some, None}
use Rattle.std.specs.List.{flat_map}
use Rattle.rb_script.specs.Lines.{Line}
use Rattle.rb_text.specs.Words.{words}
use Rattle.rb_vocab.specs.declared.directive_error.DirectiveError.{DirectiveError}
use Rattle.rb_vocab.specs.declared.directive_error.DirectiveError.TheVariants as errors
use Rattle.rb_vocab.specs.declared.change.Word as change
use Rattle.rb_vocab.specs.declared.change.WordKind.{WordKind}
use Rattle.rb_vocab.specs.declared.change.WordKind.TheVariants as kinds
use Rattle.rb_vocab.specs.declared.change.Transition.{Transition}
use Rattle.rb_vocab.specs.Transitions.{is_auto}
use Rattle.rb_directive.specs.Forms.{Word}
use Rattle.rb_directive.specs.IdLists.{id_of}

-- `v`, `l`, `r`, `u`
abbrev pub kind_of : ℕ → Option WordKind
kind_of letter =
    if letter == 118 then Some kinds.Voter
    else (if letter == 108 then Some kinds.Learner
    else (if letter == 114 then Some kinds.Remove
    else (if letter == 117 then Some kinds.Update
    else None)))

abbrev pub with_id : Option WordKind → Option ℕ → Option change.Word
with_id None id = None
with_id (Some kind) None = None
with_id (Some kind) (Some id) = Some (record { kind = kind; id = id })

-- a letter and an id
abbrev pub change_of : Word → Option change.Word
change_of [] = None
change_of (letter ∷ digits) = with_id (kind_of letter) (id_of digits)

-- ---- all words

-- the words of a text and of the lines from one on
abbrev pub words_left : List Line → ℕ → Line → List Word
words_left inputs from rest = words rest ++ flat_map words (drop from inputs)

-- the words of all lines
abbrev pub input_words : List Line → List Word
input_words inputs = flat_map words inputs

-- the first word that isn't a change
abbrev pub first_bad : List Word → Option Word
first_bad [] = None
first_bad (w ∷ some) = if is_none (change_of w) then Some w else first_bad some

abbrev pub is_one : List Word → Bool
is_one [] = false
is_one (w ∷ []) = true
is_one (w ∷ other ∷ some) = false

-- a change of the first version has exactly one word, and no transition
abbrev pub fits : Bool → Transition → List Word → Bool
fits first_version transition some = not first_version || (is_auto transition && is_one some)

abbrev pub word_fault : Bool → Transition → List Word → Option Word → Option DirectiveError
word_fault first_version transition some (Some bad) = Some (errors.BadChange bad)
word_fault first_version transition some None = if fits first_version transition some then None else Some errors.FirstVersionTakesOne

-- the fault of the words: the first that isn't a change; or, for a change of the first version, several words or a
-- transition
unfoldable pub change_fault : Bool → Transition → List Line → Option DirectiveError
change_fault first_version transition inputs = word_fault first_version transition (input_words inputs) (first_bad (input_words inputs))
