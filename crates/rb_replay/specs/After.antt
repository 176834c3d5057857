-- Edits of a session, and the script after a list of edits. (This project's.)
use Rattle.std.specs.Prelude.{◌≡◌, ◌↔◌, ℕ, List, [], ◌∷◌, length, Result, Ok, Err}
use Rattle.rb_script.specs.declared.edit.Edit.{Edit}
use Rattle.rb_script.specs.declared.fault.EditFault.{EditFault}
use Rattle.rb_script.specs.Script.{PlainScript}
use Rattle.rb_script.specs.Edits.{edited}
use Rattle.rb_replay.specs.declared.session.Changed.{Changed}
use Rattle.rb_replay.specs.Run.{outputs}
use Rattle.rb_replay.specs.Report.{mismatches}
use Rattle.rb_replay.specs.Holding.{Holding, IsOneRun}
use Rattle.rb_replay.specs.Reuse.{ReusesFor, IsCostFor}

-- After an accepted edit, the session is that of one run of the new script.
pub record IsEdited (old : Holding) (edit : Edit) (changed : Changed) (new : Holding) : Type 0 where
  pub script : edited old.script edit (outputs old.script) ≡ Ok new.script
  pub fresh : IsOneRun new
  pub checkpoint_interval : new.checkpoint_interval ≡ old.checkpoint_interval
  pub reuse : ReusesFor old edit new.script changed.executed new.points
  pub mismatches_are : changed.mismatches ≡ length (mismatches new.script)

abbrev pub Answer : Type 0
Answer = Result Changed EditFault

-- a refused edit changes nothing
abbrev pub IsAnswer : Holding → Edit → Answer → Holding → Type 0
IsAnswer old edit (Ok changed) new = IsEdited old edit changed new
IsAnswer old edit (Err fault) new = new ≡ old

-- A refused edit changes nothing. What an accepted one says that it executed is the stated number of directives, and no other.
abbrev pub IsExact : Holding → Edit → Answer → Holding → Type 0
IsExact old edit (Ok changed) new = (n : ℕ) → IsCostFor old edit new.script n ↔ (n ≡ changed.executed)
IsExact old edit (Err fault) new = new ≡ old

-- edits, each with its answer
abbrev pub Answered : Type 0
Answered = List (Edit × Answer)

-- these answers lead from the first session to the last
abbrev pub Leads : Holding → Answered → Holding → Type 0
Leads first [] last = last ≡ first
Leads first (step ∷ steps) last = (next : Holding) × IsAnswer first step.0 step.1 next × Leads next steps last

abbrev pub or_same : PlainScript → Result PlainScript EditFault → PlainScript
or_same s (Ok new) = new
or_same s (Err fault) = s

-- the script with the edit made, if it was accepted
abbrev pub after_one : PlainScript → Edit → Answer → PlainScript
after_one s edit (Ok changed) = or_same s (edited s edit (outputs s))
after_one s edit (Err fault) = s

-- The script with the accepted edits applied.
abbrev pub after : PlainScript → Answered → PlainScript
after s [] = s
after s (step ∷ steps) = after (after_one s step.0 step.1) steps
