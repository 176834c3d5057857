-- The command line. (This project's; a command, its arguments and their matches are clap's.)
use Rattle.std.specs.Prelude.{◌≡◌, ℕ, List, Some, Result, IfOk, codes, fold, true, false}
use Rattle.clap.specs.Words.{App, Rule, Text, app_of, new_app, new_rule, with_rule, with_subcommand}
use Rattle.clap.specs.declared.builder.command.Command.{Command}
use Rattle.clap.specs.declared.builder.command.Command.TheViews.{out-Command}
use Rattle.clap.specs.declared.builder.action.ArgAction.TheVariants.{Append, SetTrue}
use Rattle.rb_args.specs.declared.table.Line.{Line}
use Rattle.rb_args.specs.declared.table.ArgumentRow.{ArgumentRow}
use Rattle.rb_args.specs.declared.table.ArgumentForm.{ArgumentForm}
use Rattle.rb_args.specs.declared.table.ArgumentForm.TheVariants.{File, Name, Paths, Value, Values, Flag, Letter}

-- a value that stands by itself
abbrev pub value_rule : Text → Rule
value_rule name = record (new_rule name) { value_names = 1 }

-- FILE
abbrev pub file_rule : Rule
file_rule = value_rule (codes "file")

-- NAME
abbrev pub name_rule : Rule
name_rule = value_rule (codes "name")

-- PATH, one or more
abbrev pub path_rule : Rule
path_rule = record (value_rule (codes "path")) { required = true; action = Some Append }

-- --NAME VALUE
abbrev pub option_rule : Text → Rule
option_rule name = record (value_rule name) { long = Some name }

-- --NAME
abbrev pub flag_rule : Text → Rule
flag_rule name = record (new_rule name) { long = Some name; action = Some SetTrue }

-- --NAME, or -N
abbrev pub letter_rule : ℕ → Text → Rule
letter_rule letter name = record (flag_rule name) { short = Some letter }

-- --NAME VALUE, any number of times
abbrev pub many_rule : Text → Rule
many_rule name = record (option_rule name) { action = Some Append }

-- how clap takes an argument of this name
abbrev pub rule_in : ArgumentForm → Text → Rule
rule_in File name = value_rule name
rule_in Name name = value_rule name
rule_in Paths name = record (value_rule name) { required = true; action = Some Append }
rule_in (Value value) name = option_rule name
rule_in (Values value) name = many_rule name
rule_in Flag name = flag_rule name
rule_in (Letter letter) name = letter_rule letter name

-- how clap takes the argument of a row
abbrev pub rule_of_row : ArgumentRow → Rule
rule_of_row row = rule_in row.form row.name.now

-- .. and the arguments of these rows
abbrev pub with_rows : List ArgumentRow → App → App
with_rows rows line = fold (λ a row. with_rule a (rule_of_row row)) line rows

-- the subcommand of a line
abbrev pub line_of : Line → App
line_of line = with_rows line.rows.now (new_app line.name.now)

-- .. and the subcommands of these lines
abbrev pub with_lines : List Line → App → App
with_lines lines app = fold (λ a line. with_subcommand a (line_of line).top) app lines

-- .. [--NAME VALUE]
abbrev pub with_option : Text → App → App
with_option name line = with_rule line (option_rule name)

-- SUBCOMMAND [FILE]
abbrev pub file_line : Text → App
file_line subcommand = with_rule (new_app subcommand) file_rule

-- .. [--verbose|-v] [--first] [--brief] [--quiet|-q]
abbrev pub with_amounts : App → App
with_amounts line = with_rule (with_rule (with_rule (with_rule line (letter_rule 118 (codes "verbose"))) (flag_rule (codes "first"))) (flag_rule (codes "brief"))) (letter_rule 113 (codes "quiet"))

-- .. [--why]
abbrev pub with_reasons : App → App
with_reasons line = with_rule line (flag_rule (codes "why"))

-- .. [--strict]
abbrev pub with_strictness : App → App
with_strictness line = with_rule line (flag_rule (codes "strict"))

-- .. [--every K] [--color WHEN] [--format FORMAT] [--pages SITE]
abbrev pub with_choices : App → App
with_choices line = with_option (codes "pages") (with_option (codes "format") (with_option (codes "color") (with_option (codes "every") line)))

-- .. [--accept] [--accept-errors] [--force] [--review]
abbrev pub with_accepting : App → App
with_accepting line = with_rule (with_rule (with_rule (with_rule line (flag_rule (codes "accept"))) (flag_rule (codes "accept-errors"))) (flag_rule (codes "force"))) (flag_rule (codes "review"))

-- check PATH.. [--accept] .. [--filter WORD].. [--verbose|-v] .. [--why] [--strict] [--every K] ..
abbrev pub check_line : App
check_line = with_choices (with_strictness (with_reasons (with_amounts (with_rule (with_accepting (with_rule (new_app (codes "check")) path_rule)) (many_rule (codes "filter"))))))

-- with --version
abbrev pub with_version : App → App
with_version line = record line { top = record line.top { has_version = true } }

-- rewrite FILE [--every K] [--warn]
abbrev pub rewrite_line : App
rewrite_line = with_rule (with_option (codes "every") (file_line (codes "rewrite"))) (flag_rule (codes "warn"))

-- .. run|rewrite|session FILE [--every K]
abbrev pub with_files : App → App
with_files line =
    with_subcommand (with_subcommand (with_subcommand line (with_option (codes "every") (file_line (codes "run"))).top) rewrite_line.top) (with_option (codes "every") (file_line (codes "session"))).top

-- directives [NAME]
abbrev pub directives_line : App
directives_line = with_rule (new_app (codes "directives")) name_rule

-- .. look FILE:LINE, page FILE [--every K] [--out SITE], chart FILE [--from LINE] [--until LINE], trace FILE
abbrev pub with_views : App → App
with_views line =
    with_subcommand (with_subcommand (with_subcommand (with_subcommand line (file_line (codes "look")).top) (with_option (codes "out") (with_option (codes "every") (file_line (codes "page")))).top) (with_option (codes "until") (with_option (codes "from") (file_line (codes "chart")))).top) (file_line (codes "trace")).top

-- lsp
abbrev pub server_line : App
server_line = new_app (codes "lsp")

-- .. directives [NAME]|lsp
abbrev pub with_help : App → App
with_help line = with_subcommand (with_subcommand line directives_line.top) server_line.top

-- raftbench [check|run|rewrite|session|look|page|chart|trace|directives|lsp ..]
abbrev pub command_line : App
command_line = with_help (with_views (with_files (with_subcommand (with_version (new_app (codes "raftbench"))) check_line.top)))

-- where there was memory for it, the command takes this line, and hands no argument down to its subcommands
pub record IsMade {E : Type 0} (made : Result Command E) (line : App) : Type 0 where
  pub app : IfOk made (λ command. app_of command ≡ line)
  pub local : IfOk made (λ command. (out-Command command).has_globals ≡ false)
