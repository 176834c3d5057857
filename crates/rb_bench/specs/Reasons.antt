-- The reasons of a script's outputs, if they are asked for. (This project's.)
use Rattle.std.specs.Prelude.{◌≡◌, Bool, if◌then◌else◌, List, [], ◌∷◌, Option, Some, None, option_map}
use Rattle.rb_vocab.specs.declared.level.Level.{Level}
use Rattle.rb_script.specs.Lines.{Line}
use Rattle.rb_script.specs.Script.{PlainScript}
use Rattle.rb_texts.specs.Items.{PlainItem}
use Rattle.rb_machine.specs.Outcome.{Execution}
use Rattle.rb_script_report.specs.declared.reasons.LineReasons.{LineReasons}
use Rattle.rb_script_report.specs.Whys.{at_level, no_reasons, reasons_of, whys_of, with_item}

-- those of each directive if they are asked for, else none
abbrev pub asked_reasons : Bool → PlainScript → List (List Line)
asked_reasons explains s = if explains then whys_of s else []

-- those of one directive
abbrev pub reasons_if : Bool → Execution → Option (List Line)
reasons_if explains e = if explains then Some (reasons_of e) else None

-- of an optional item, the list with it or without it
abbrev pub listed : {T : Type 0} → Option T → List T
listed None = []
listed (Some x) = x ∷ []

-- ---- an observer that collects them

abbrev pub with_level : Option LineReasons → Level → Option LineReasons
with_level reasons level = option_map (λ r. at_level r level) reasons

abbrev pub with_reason : Option LineReasons → PlainItem → Option LineReasons
with_reason reasons item = option_map (λ r. with_item r item) reasons

-- it has no reasons yet, whatever the level will be
abbrev pub begins : Bool → Option LineReasons → Type 0
begins explains reasons = (level : Level) → with_level reasons level ≡ (if explains then Some (no_reasons level) else None)
