-- What the arguments choose, by what clap found in them, and how a refusal is answered. (This project's.)
use Rattle.std.specs.Prelude.{◌≡◌, ◌≢◌, if◌then◌else◌, Bool, false, List, [], Option, Some, None, codes, map, option_map, option_and_then, string_bytes, unwrap_or}
use Rattle.std.specs.Str.{bytes_eq}
use Rattle.clap.specs.Words.{IsAmong, Kinds, Row, Text, all_of, first_of, kind_of}
use Rattle.clap.specs.declared.error.Error.{Error}
use Rattle.clap.specs.declared.error.kind.ErrorKind.TheVariants as kind
use Rattle.rb_args.specs.declared.choice.Subcommand.{Subcommand}
use Rattle.rb_args.specs.declared.choice.Subcommand.TheVariants.{Check, Directives, Lsp, Script}
use Rattle.rb_args.specs.declared.choice.ScriptCommand.{ScriptCommand}
use Rattle.rb_args.specs.declared.choice.ScriptCommand.TheVariants.{Run, Rewrite, Session, Look, Page, Chart, Trace}
use Rattle.rb_args.specs.declared.choice.CommandChoice.{CommandChoice}
use Rattle.rb_args.specs.declared.choice.CheckChoice.{CheckChoice}
use Rattle.rb_args.specs.declared.choice.ChoiceFault.{ChoiceFault}
use Rattle.rb_args.specs.declared.choice.ChoiceFault.TheVariants.{Refused, OutOfMemory}

-- what the subcommand of this name does with one script, where it shows what the script does
abbrev pub of_one_view : Text → Option ScriptCommand
of_one_view name =
    if bytes_eq name (codes "look") then Some Look
    else if bytes_eq name (codes "page") then Some Page
    else if bytes_eq name (codes "chart") then Some Chart
    else if bytes_eq name (codes "trace") then Some Trace
    else None

-- what it does with one script
abbrev pub of_one_script : Text → Option ScriptCommand
of_one_script name =
    if bytes_eq name (codes "run") then Some Run
    else if bytes_eq name (codes "rewrite") then Some Rewrite
    else if bytes_eq name (codes "session") then Some Session
    else of_one_view name

-- the subcommand of this name
abbrev pub named_by : Text → Option Subcommand
named_by name =
    if bytes_eq name (codes "check") then Some Check
    else if bytes_eq name (codes "directives") then Some Directives
    else if bytes_eq name (codes "lsp") then Some Lsp
    else option_map (λ command. Script command) (of_one_script name)

-- what is said by the text that clap gives a flag
abbrev pub is_set : Option Text → Bool
is_set (Some text) = bytes_eq text (codes "true")
is_set None = false

-- the PATHs, the filters, the choices of colours and of a format, the folder for pages, and the flags of `check`, by the matches of the subcommand, where one was met
pub record IsCheckOf (rows : Option (List Row)) (check : CheckChoice) : Type 0 where
  pub paths : map string_bytes check.paths.items ≡ unwrap_or (option_and_then (all_of (codes "path")) rows) []
  pub filters : map string_bytes check.filters.items ≡ unwrap_or (option_and_then (all_of (codes "filter")) rows) []
  pub color : option_map string_bytes check.color ≡ option_and_then (first_of (codes "color")) rows
  pub format : option_map string_bytes check.format ≡ option_and_then (first_of (codes "format")) rows
  pub pages : option_map string_bytes check.pages ≡ option_and_then (first_of (codes "pages")) rows
  pub accepts : check.accepts ≡ is_set (option_and_then (first_of (codes "accept")) rows)
  pub errors : check.accepts_errors ≡ is_set (option_and_then (first_of (codes "accept-errors")) rows)
  pub forced : check.is_forced ≡ is_set (option_and_then (first_of (codes "force")) rows)
  pub reviews : check.reviews ≡ is_set (option_and_then (first_of (codes "review")) rows)
  pub first : check.is_first ≡ is_set (option_and_then (first_of (codes "first")) rows)
  pub brief : check.is_brief ≡ is_set (option_and_then (first_of (codes "brief")) rows)
  pub verbose : check.is_verbose ≡ is_set (option_and_then (first_of (codes "verbose")) rows)
  pub quiet : check.is_quiet ≡ is_set (option_and_then (first_of (codes "quiet")) rows)
  pub explains : check.explains ≡ is_set (option_and_then (first_of (codes "why")) rows)
  pub strict : check.is_strict ≡ is_set (option_and_then (first_of (codes "strict")) rows)

-- the subcommand that was met, and the values of its FILE, its NAME, its --every, its --from, its --until and its --out; its --warn; and what is said to `check`
pub record IsChoiceOf (met : Option (Text × List Row)) (choice : CommandChoice) : Type 0 where
  pub subcommand : choice.subcommand ≡ option_and_then (λ p. named_by p.0) met
  pub file : option_map string_bytes choice.file ≡ option_and_then (λ p. first_of (codes "file") p.1) met
  pub name : option_map string_bytes choice.name ≡ option_and_then (λ p. first_of (codes "name") p.1) met
  pub every : option_map string_bytes choice.every ≡ option_and_then (λ p. first_of (codes "every") p.1) met
  pub from : option_map string_bytes choice.from ≡ option_and_then (λ p. first_of (codes "from") p.1) met
  pub until : option_map string_bytes choice.until ≡ option_and_then (λ p. first_of (codes "until") p.1) met
  pub out : option_map string_bytes choice.out ≡ option_and_then (λ p. first_of (codes "out") p.1) met
  pub warns : choice.warns ≡ is_set (option_and_then (λ p. first_of (codes "warn") p.1) met)
  pub check : IsCheckOf (option_map (λ p. p.1) met) choice.check

-- an error of one of these kinds, or that memory was refused, which no error tells
abbrev pub RefusedFor : Kinds → ChoiceFault → Type 0
RefusedFor kinds (Refused error) = IsAmong (kind_of error) kinds × (kind_of error ≢ kind.OutOfMemory)
RefusedFor kinds OutOfMemory = Unit {0}

-- what an error of clap is told as
abbrev pub IsRefusal : Error → ChoiceFault → Type 0
IsRefusal error (Refused told) = (told ≡ error) × (kind_of error ≢ kind.OutOfMemory)
IsRefusal error OutOfMemory = kind_of error ≡ kind.OutOfMemory
