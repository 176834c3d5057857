-- What the words of the command line ask for. (This project's.)
use Rattle.std.specs.Prelude.{ℕ, ◌≡◌, ◌==◌, ◌||◌, ◌&&◌, ◌⊎◌, not, Bool, true, false, if◌then◌else◌, List, length, Option, Some, None, IsUtf8, codes, option_map, string_bytes, unwrap_or}
use Rattle.std.specs.Path.{path_file_name, rsplit_once}
use Rattle.std.specs.Str.{bytes_eq}
use Rattle.rb_text.specs.Numbers.{number_of}
use Rattle.rb_args.specs.declared.choice.CheckChoice.{CheckChoice}
use Rattle.rb_report.specs.declared.check.colors.Colors.{Colors}
use Rattle.rb_report.specs.declared.check.colors.Colors.TheVariants as shades
use Rattle.rb_script_report.specs.declared.view.Detail.{Detail}
use Rattle.rb_script_report.specs.declared.view.Detail.TheVariants as shown
use Rattle.rb_check.specs.declared.format.Format.{Format}
use Rattle.rb_check.specs.declared.format.Format.TheVariants as formats
use Rattle.rb_report.specs.Manual.{page_in, pages}
use Rattle.rb_report.specs.Nearest.{names_of, nearest}
use Rattle.rb_program.specs.declared.checking.Terminals.{Terminals}
use Rattle.rb_program.specs.declared.program_error.ProgramError.{ProgramError}
use Rattle.rb_program.specs.declared.program_error.ProgramError.TheVariants as refusals
use Rattle.rb_program.specs.declared.colors.ColorChoice.{ColorChoice}
use Rattle.rb_program.specs.declared.colors.ColorChoice.TheVariants as colors
use Rattle.rb_program.specs.declared.usage_error.UsageError.{UsageError}
use Rattle.rb_program.specs.declared.usage_error.UsageError.TheVariants as misuses
use Rattle.rb_program.specs.declared.style.Style.{Style}
use Rattle.rb_program.specs.declared.style.Style.TheVariants as styles

-- what `--color` asks for
abbrev pub color_choice_of : Option (List ℕ) → Option ColorChoice
color_choice_of None = Some colors.Auto
color_choice_of (Some word) =
    if bytes_eq word (codes "auto") then Some colors.Auto
    else (if bytes_eq word (codes "always") then Some colors.Always
    else (if bytes_eq word (codes "never") then Some colors.Never
    else None))

-- whether a setting has a text
abbrev pub has_text : Option (List ℕ) → Bool
has_text None = false
has_text (Some text) = not (length text == 0)

-- the setting of this name has a text or not, as the environment tells
abbrev pub IsSetting : (List ℕ → Option (List ℕ) → Type 0) → List ℕ → Bool → Type 0
IsSetting tells name is_set = (text : Option (List ℕ)) × tells name text × (is_set ≡ has_text text)

-- whether colours are shown, on a terminal or not, if NO_COLOR has a text or not
abbrev pub colors_of : ColorChoice → Bool → Bool → Colors
colors_of colors.Always is_terminal is_refused = shades.On
colors_of colors.Never is_terminal is_refused = shades.Off
colors_of colors.Auto is_terminal is_refused = if is_terminal && not is_refused then shades.On else shades.Off

-- the same, by what the environment tells of NO_COLOR
abbrev pub AreColors : (List ℕ → Option (List ℕ) → Type 0) → ColorChoice → Bool → Colors → Type 0
AreColors tells choice is_terminal shade = (is_refused : Bool) × IsSetting tells (codes "NO_COLOR") is_refused × (shade ≡ colors_of choice is_terminal is_refused)

-- what `--format` asks for
abbrev pub style_of : Option (List ℕ) → Option Style
style_of None = Some styles.Text
style_of (Some word) =
    if bytes_eq word (codes "text") then Some styles.Text
    else (if bytes_eq word (codes "json") then Some (styles.Program formats.Json)
    else (if bytes_eq word (codes "github") then Some (styles.Program formats.Github)
    else (if bytes_eq word (codes "junit") then Some (styles.Program formats.Junit)
    else None)))

-- outputs are accepted where one of the three options asks for it, and nowhere else
abbrev pub accepts : CheckChoice → Bool
accepts choice = choice.accepts || choice.accepts_errors || choice.reviews

-- how much is shown: the least of what is asked for; programs are told all that differs
abbrev pub shown_of : CheckChoice → Style → Detail
shown_of choice (styles.Program format) = shown.Differing
shown_of choice styles.Text =
    if choice.is_brief || choice.reviews then shown.Brief
    else (if choice.is_first then shown.First
    else (if choice.is_verbose then shown.All
    else shown.Differing))

abbrev pub is_text : Style → Bool
is_text styles.Text = true
is_text (styles.Program format) = false

-- the format for programs, if people don't read it
abbrev pub format_of : Style → Option Format
format_of styles.Text = None
format_of (styles.Program format) = Some format

-- what is wrong with a review: what it asks about isn't shown, or it can't ask
abbrev pub review_fault : CheckChoice → Style → Terminals → Option UsageError
review_fault choice style terminals =
    if not choice.reviews then None
    else (if choice.is_quiet || not (is_text style) then Some misuses.Unseen
    else (if terminals.input && terminals.output then None
    else Some misuses.NoTerminal))

abbrev pub with_line : Option (List ℕ × List ℕ) → Option (List ℕ × ℕ)
with_line None = None
with_line (Some parts) = option_map (λ line. (parts.0, line)) (number_of parts.1)

-- FILE, and the number after the word's last colon
abbrev pub path_and_line : List ℕ → Option (List ℕ × ℕ)
path_and_line word = with_line (rsplit_once 58 word)

-- the usage error quotes the word, which names no directive of a file
abbrev pub IsPlace : List ℕ → UsageError → Type 0
IsPlace word (misuses.Place text) = string_bytes text ≡ word
IsPlace word misuse = ⊥

abbrev pub IsMisplaced : List ℕ → ProgramError → Type 0
IsMisplaced word (refusals.OwnUsage misuse) = IsPlace word misuse
IsMisplaced word refusal = refusal ≡ refusals.OutOfMemory

-- what a script is called where it is shown: the last name of its path
abbrev pub shown_name : List ℕ → List ℕ
shown_name file = if bytes_eq file (codes "-") then codes "standard input" else unwrap_or (path_file_name file) file

-- the name that is suggested is the nearest one, unless that is no text
abbrev pub IsMeant : Option (List ℕ) → Option (List ℕ) → Type 0
IsMeant None meant = meant ≡ None
IsMeant (Some near) meant = (meant ≡ Some near) ⊎ ((IsUtf8 near → ⊥) × (meant ≡ None))

-- the usage error quotes the name, and suggests the nearest one
abbrev pub IsMisspelled : List ℕ → UsageError → Type 0
IsMisspelled name (misuses.Directive word meant) = (string_bytes word ≡ name) × IsMeant (nearest name (names_of pages)) (option_map (λ m. m.now) meant)
IsMisspelled name misuse = ⊥

-- no directive has the name; the refusal quotes it, or memory was refused
abbrev pub IsUnknown : List ℕ → ProgramError → Type 0
IsUnknown name (refusals.OwnUsage misuse) = (page_in pages name ≡ None) × IsMisspelled name misuse
IsUnknown name refusal = (page_in pages name ≡ None) × (refusal ≡ refusals.OutOfMemory)

-- the line that is asked for, if one is; nothing, where the text is no number
abbrev pub line_asked : Option (List ℕ) → Option (Option ℕ)
line_asked None = Some None
line_asked (Some word) = option_map (λ line. Some line) (number_of word)

-- the usage error quotes the text after `--from`, which is not a line
abbrev pub IsFrom : Option (List ℕ) → UsageError → Type 0
IsFrom from (misuses.From text) = from ≡ Some (string_bytes text)
IsFrom from misuse = ⊥

abbrev pub IsWrongFrom : Option (List ℕ) → ProgramError → Type 0
IsWrongFrom from (refusals.OwnUsage misuse) = (line_asked from ≡ None) × IsFrom from misuse
IsWrongFrom from refusal = (line_asked from ≡ None) × (refusal ≡ refusals.OutOfMemory)

-- the same after `--until`
abbrev pub IsUntil : Option (List ℕ) → UsageError → Type 0
IsUntil until (misuses.Until text) = until ≡ Some (string_bytes text)
IsUntil until misuse = ⊥

abbrev pub IsWrongUntil : Option (List ℕ) → ProgramError → Type 0
IsWrongUntil until (refusals.OwnUsage misuse) = (line_asked until ≡ None) × IsUntil until misuse
IsWrongUntil until refusal = (line_asked until ≡ None) × (refusal ≡ refusals.OutOfMemory)
