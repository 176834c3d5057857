-- A script that is being checked: it ran. (This project's.)
use Rattle.std.specs.Prelude.{◌≡◌, ℕ, ◌+◌, List, [], ◌∷◌, None, length}
use Rattle.rb_script.specs.Lines.{Line}
use Rattle.rb_script.specs.Script.{PlainBlock, PlainScript}
use Rattle.rb_replay.specs.Report.{mismatches}
use Rattle.rb_replay.specs.Run.{outputs}
use Rattle.rb_report.specs.declared.check.colors.Colors.{Colors}
use Rattle.rb_report.specs.Whys.{reasons_in}
use Rattle.rb_script_report.specs.declared.layout.Layout.{Layout}
use Rattle.rb_script_report.specs.declared.warning.Warning.{Warning}
use Rattle.rb_script_report.specs.Checked.{first_head}
use Rattle.rb_script_report.specs.Doubts.{all_warnings}
use Rattle.rb_script_report.specs.Errors.{error_count}
use Rattle.rb_script_report.specs.Layouts.{IsLayout}
use Rattle.rb_script_report.specs.Whys.{why_at}
use Rattle.rb_check.specs.declared.checked_script.CheckedScript.{CheckedScript}
use Rattle.rb_check.specs.declared.ran_directive.RanDirective.{RanDirective}
use Rattle.rb_check.specs.declared.script_result.ScriptResult.{ScriptResult}

-- the script, with the reasons and the colours of what is shown of it
pub record PlainChecked : Type 0 where
  pub path : List ℕ
  pub layout : Layout
  pub whys : List (List Line)
  pub script : PlainScript
  pub colors : Colors

abbrev pub plain_of : {M E : Type 0} → CheckedScript M E → PlainChecked
plain_of subject = record { path = subject.path.now; layout = subject.layout.now; whys = subject.whys.now; script = subject.session.now.script; colors = subject.colors }

-- ---- its directives

-- one of them: its index, the line of its head, itself, its output and the reasons of that
pub record PlainRan : Type 0 where
  pub index : ℕ
  pub line : ℕ
  pub block : PlainBlock
  pub output : List Line
  pub why : List Line

abbrev pub plain_ran : RanDirective → PlainRan
plain_ran ran = record { index = ran.index; line = ran.place.line; block = ran.block.now; output = ran.output.now; why = reasons_in ran.why }

abbrev pub ran_at : List (List Line) → ℕ → ℕ → PlainBlock → List Line → PlainRan
ran_at whys i line b output = record { index = i; line = line; block = b; output = output; why = why_at whys i }

-- those from an index on, with the lines of their heads and their outputs
abbrev pub runs_from : List (List Line) → ℕ → List ℕ → List PlainBlock → List (List Line) → List PlainRan
runs_from whys i [] bs os = []
runs_from whys i (line ∷ heads) [] os = []
runs_from whys i (line ∷ heads) (b ∷ bs) [] = []
runs_from whys i (line ∷ heads) (b ∷ bs) (output ∷ os) = ran_at whys i line b output ∷ runs_from whys (i + 1) heads bs os

abbrev pub runs_of : PlainChecked → List PlainRan
runs_of c = runs_from c.whys 0 c.layout.heads.items c.script.blocks (outputs c.script)

-- ---- what is found of it

-- its lines that look like a slip
abbrev pub warnings_in : PlainChecked → List Warning
warnings_in c = all_warnings c.layout.text c.layout.heads.items c.script.blocks (outputs c.script)

-- the result of a script with n warnings, if nothing of it is accepted
abbrev pub numbers_of : Layout → PlainScript → ℕ → ScriptResult
numbers_of l s n = record {
  directives = length s.blocks;
  left = length (mismatches s);
  accepted = 0;
  errors = error_count l.text l.heads.items (outputs s);
  warnings = n;
  first = first_head l.heads.items (mismatches s);
  failure = None;
}

abbrev pub result_of : PlainChecked → ScriptResult
result_of c = numbers_of c.layout c.script (length (warnings_in c))

-- its bytes are the script, in its layout; it has these warnings, and this result
pub record AreFindings {M E : Type 0} (subject : CheckedScript M E) : Type 0 where
  pub layout : IsLayout subject.text.now.bytes.items subject.session.now.script subject.layout.now
  pub warnings : subject.warnings.now ≡ warnings_in (plain_of subject)
  pub result : subject.ran ≡ result_of (plain_of subject)
