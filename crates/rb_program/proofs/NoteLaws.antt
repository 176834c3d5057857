-- The notes on a run are those on the script that was run.
use Rattle.std.proofs.Common.{◌≡◌, ℕ, List, Option, Some, None, IfSome}
use Rattle.rb_script.specs.Script.{PlainScript}
use Rattle.rb_script_report.specs.declared.layout.Layout.{Layout}
use Rattle.rb_script_report.specs.Layouts.{IsLayout}
use Rattle.rb_program.specs.Notes.{AreNotes, notes_shown}

pub are_notes : {T : Type 0} (items : T → List ℕ) (path bytes : List ℕ) (s : PlainScript) (l : Layout) (made : Option T) → IsLayout bytes s l → IfSome made (λ n. items n ≡ notes_shown path l s) → IfSome made (λ n. AreNotes path bytes (items n))
are_notes items path bytes s l None is so = so
are_notes items path bytes s l (Some n) is so = record { script = s; layout = l; layout_is = is; notes_are = so }
