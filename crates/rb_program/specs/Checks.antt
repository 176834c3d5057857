-- What a check does, by its options and what the system tells. (This project's.)
use Rattle.std.specs.Prelude.{◌≡◌, ℕ, ◌&&◌, not, Bool, List, Option, Some, None, codes, option_map, string_bytes}
use Rattle.rb_args.specs.declared.choice.CheckChoice.{CheckChoice}
use Rattle.rb_report.specs.declared.check.colors.Colors.{Colors}
use Rattle.rb_report.specs.declared.check.status.Status.{Status}
use Rattle.rb_check.specs.declared.check_request.CheckRequest.{CheckRequest}
use Rattle.rb_check.specs.Reported.{IsCheckStatus}
use Rattle.rb_program.specs.declared.checking.Terminals.{Terminals}
use Rattle.rb_program.specs.declared.colors.ColorChoice.{ColorChoice}
use Rattle.rb_program.specs.declared.path_kind.PathKind.{PathKind}
use Rattle.rb_program.specs.declared.style.Style.{Style}
use Rattle.rb_program.specs.Choices.{AreColors, IsSetting, accepts, color_choice_of, format_of, review_fault, shown_of, style_of}
use Rattle.rb_program.specs.Targets.{AreNamed}

-- A check does what the options say. A quiet one gives no reasons.
abbrev pub IsAskedBy : CheckChoice → Style → Colors → Bool → CheckRequest → Type 0
IsAskedBy choice style shade wants_progress asked =
    (asked.accepts ≡ accepts choice) × (asked.accepts_errors ≡ choice.accepts_errors) × (asked.is_forced ≡ choice.is_forced) × (asked.reviews ≡ choice.reviews)
    × (asked.is_quiet ≡ choice.is_quiet) × (asked.explains ≡ choice.explains && not choice.is_quiet) × (asked.is_strict ≡ choice.is_strict)
    × (asked.shown ≡ shown_of choice style) × (asked.format ≡ format_of style) × (asked.colors ≡ shade)
    × (asked.wants_progress ≡ wants_progress)

-- how far it is is shown on a terminal, but not in a review
abbrev pub wants_progress : CheckChoice → Terminals → Bool
wants_progress choice terminals = terminals.errors && not choice.reviews

-- the status of a check whose options are right, and which does what they say, by what the system tells of its paths and its settings
pub record IsCheckOf (kinds : List ℕ → PathKind → Type 0) (settings : List ℕ → Option (List ℕ) → Type 0) (choice : CheckChoice) (terminals : Terminals) (status : Status) : Type 0 where
  pub color : ColorChoice
  pub style : Style
  pub shade : Colors
  pub asked : CheckRequest
  pub color_is : color_choice_of (option_map string_bytes choice.color) ≡ Some color
  pub style_is : style_of (option_map string_bytes choice.format) ≡ Some style
  pub reviews : review_fault choice style terminals ≡ None
  pub shade_is : AreColors settings color terminals.output shade
  pub is_asked : IsAskedBy choice style shade (wants_progress choice terminals) asked
  pub keys_are : IsSetting settings (codes "RAFTBENCH_KEYS") asked.gives_keys
  pub targets_are : AreNamed kinds choice.paths.items asked.targets.now
  pub filters_are : asked.filters.now ≡ choice.filters.items
  pub status_is : IsCheckStatus asked status
