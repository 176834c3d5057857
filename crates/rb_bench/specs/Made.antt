-- The edits of a conversation, read off its commands. (This project's.)
use Rattle.std.specs.Prelude.{◌≡◌, ◌⊎◌, ℕ, nat_lt, Bool, true, List, [], ◌∷◌, length, Option, Some, None, Ok, Err}
use Rattle.std.specs.Result.{result_ok}
use Rattle.rb_script.specs.declared.limits.TheConstants.{MAX_SCRIPT}
use Rattle.rb_script.specs.declared.fault.EditFault.{EditFault}
use Rattle.rb_script.specs.declared.edit.Edit.{Edit}
use Rattle.rb_script.specs.declared.edit.Edit.TheVariants as edits
use Rattle.rb_script.specs.Lines.{Line, text_of}
use Rattle.rb_script.specs.Edits.{edited}
use Rattle.rb_bench.specs.declared.command.Command.{Command}
use Rattle.rb_bench.specs.declared.command.Command.TheVariants as commands
use Rattle.rb_bench.specs.Commands.{command_of}
use Rattle.rb_replay.specs.declared.session.Changed.{Changed}
use Rattle.rb_replay.specs.Run.{outputs}
use Rattle.rb_replay.specs.Holding.{Holding}
use Rattle.rb_replay.specs.After.{IsEdited, Answered}
use Rattle.rb_bench.specs.Responses.{edit_of, refused, done}
use Rattle.rb_bench.specs.Talk.{Exchange}

-- the edit that a command asks for with the lines given to it, if it asks for one
abbrev pub edit_for : Command → List Line → Option Edit
edit_for (commands.Given purpose place count) given = result_ok (edit_of purpose place given)
edit_for (commands.Remove place) given = Some (edits.Remove place)
edit_for commands.Accept given = Some edits.Accept
edit_for _ given = None

-- Why an edit that is asked for isn't made: memory refuses it, more bytes are given than a script may have, or the
-- script doesn't take it.
abbrev pub IsPrevented : Holding → Edit → List Line → Bool → Type 0
IsPrevented h edit given no_memory =
    (no_memory ≡ true) ⊎ ((nat_lt MAX_SCRIPT (length (text_of given)) ≡ true) ⊎ ((fault : EditFault) × (edited h.script edit (outputs h.script) ≡ Err fault)))

-- an edit is asked for, but refused
pub record RefusesEdit (h : Holding) (asked : Option Edit) (given : List Line) (no_memory : Bool) (answer : List ℕ) : Type 0 where
  pub edit : Edit
  pub asked_is : asked ≡ Some edit
  pub prevented : IsPrevented h edit given no_memory
  pub name : List ℕ
  pub answer_is : answer ≡ refused name

-- No edit is asked for, or it is refused: the session stays.
abbrev pub MakesNone : Holding → Option Edit → List Line → Bool → List ℕ → Holding → Type 0
MakesNone h asked given no_memory answer after = ((asked ≡ None) ⊎ RefusesEdit h asked given no_memory answer) × (after ≡ h)

-- The requested edit is made, and its result is the answer.
pub record Makes (h : Holding) (asked : Option Edit) (edit : Edit) (changed : Changed) (answer : List ℕ) (after : Holding) : Type 0 where
  pub asked_is : asked ≡ Some edit
  pub edited_is : IsEdited h edit changed after
  pub answer_is : answer ≡ done changed

-- These are the accepted edits of the exchanges, in order: each exchange makes none or one, as its line asks with the
-- lines given to it.
abbrev pub AreMade : Holding → List Exchange → Answered → Type 0
AreMade h [] steps = steps ≡ []
AreMade h (x ∷ xs) steps =
    (MakesNone h (edit_for (command_of x.line) x.given) x.given x.no_memory x.answer x.after × AreMade x.after xs steps)
    ⊎ ((edit : Edit) × (changed : Changed) × (more : Answered) × (steps ≡ (edit, Ok changed) ∷ more)
    × Makes h (edit_for (command_of x.line) x.given) edit changed x.answer x.after × AreMade x.after xs more)
