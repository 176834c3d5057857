-- Replacing the script of a session, and its texts then. (This project's.)
use Rattle.std.specs.Prelude.{◌≡◌, ℕ, ◌+◌, ◌-◌, ◌≤◌, List, length, take, drop, Result, Ok, Err}
use Rattle.rb_script.specs.Lines.{Line}
use Rattle.rb_script.specs.Directive.{PlainDirective}
use Rattle.rb_script.specs.Script.{PlainScript}
use Rattle.rb_replay.specs.declared.splice.Splice.{Splice}
use Rattle.rb_replay.specs.declared.session.Changed.{Changed}
use Rattle.rb_replay.specs.Run.{directives}
use Rattle.rb_replay.specs.Report.{mismatches}
use Rattle.rb_replay.specs.Holding.{Holding, IsOneRun}
use Rattle.rb_replay.specs.Reuse.{change_by, Reuses, IsCost}

-- The longest common rest of two lists of directives, and the longest common front before it.
pub record IsLongestSplice (old new : List PlainDirective) (splice : Splice) : Type 0 where
  pub same_rest : drop splice.new_rest new ≡ drop splice.old_rest old
  pub old_within : splice.old_rest ≤ length old
  pub new_within : splice.new_rest ≤ length new
  pub longest_rest : (n : ℕ) → n ≤ length old → n ≤ length new → drop (length new - n) new ≡ drop (length old - n) old → n + splice.old_rest ≤ length old
  pub same_front : take splice.front new ≡ take splice.front old
  pub old_from : splice.front ≤ splice.old_rest
  pub new_from : splice.front ≤ splice.new_rest
  pub longest_front : (n : ℕ) → n ≤ splice.old_rest → n ≤ splice.new_rest → take n new ≡ take n old → n ≤ splice.front

-- Which part of the old run is reused, exactly.
pub record ReusesLongest (h : Holding) (new : PlainScript) (executed : ℕ) (points : List ℕ) : Type 0 where
  pub splice : Splice
  pub is_longest : IsLongestSplice (directives h.script) (directives new) splice
  pub reuse : Reuses (change_by h new splice) executed points

-- the number of executed directives
pub record IsReplacementCost (h : Holding) (new : PlainScript) (executed : ℕ) : Type 0 where
  pub splice : Splice
  pub is_longest : IsLongestSplice (directives h.script) (directives new) splice
  pub cost : IsCost (change_by h new splice) executed

-- A session whose script was replaced. It is that of one run of the new script.
pub record IsReplaced (old : Holding) (script : PlainScript) (changed : Changed) (new : Holding) : Type 0 where
  pub is_on : new.script ≡ script
  pub fresh : IsOneRun new
  pub checkpoint_interval : new.checkpoint_interval ≡ old.checkpoint_interval
  pub reuse : ReusesLongest old script changed.executed new.points
  pub mismatches_are : changed.mismatches ≡ length (mismatches script)

-- if there is no memory, nothing changes
abbrev pub IsReplacement : {E : Type 0} → Holding → PlainScript → Result Changed E → Holding → Type 0
IsReplacement old script (Ok changed) new = IsReplaced old script changed new
IsReplacement old script (Err e) new = new ≡ old

-- Everything that a session shows.
pub record Shown : Type 0 where
  pub script : PlainScript
  pub outputs : List (List Line)
  pub mismatches : List ℕ

abbrev pub shown : Holding → Shown
shown h = record { script = h.script; outputs = h.outputs; mismatches = h.mismatches }
