-- How a directive is written that people often write otherwise. (This project's.)
use Rattle.std.specs.Prelude.{ℕ, ◌==◌, ◌&&◌, ◌||◌, nat_le, nat_lt, not, Bool, true, false, if◌then◌else◌, List, [], ◌∷◌, codes, length, map, take}
use Rattle.std.specs.List.{list_all, list_any}
use Rattle.std.specs.Str.{bytes_eq}
use Rattle.rb_script.specs.Directive.{PlainArgument, PlainDirective, plain_argument}
use Rattle.rb_script.specs.Lines.{Line}
use Rattle.rb_vocab.specs.declared.directive_error.DirectiveError.{DirectiveError}
use Rattle.rb_vocab.specs.declared.directive_error.DirectiveError.TheVariants as errors
use Rattle.rb_report.specs.Hints.{PlainHint, meant, sentence, unknown}
use Rattle.rb_report.specs.declared.help.other_names.TheConstants.{OTHER_NAMES}
use Rattle.rb_report.specs.Distance.{Word}
use Rattle.rb_report.specs.HelpLines.{line_among, option_line}
use Rattle.rb_report.specs.Manual.{Key}

abbrev pub number_sign : ℕ
number_sign = 35

abbrev pub comma : ℕ
comma = 44

abbrev pub greater : ℕ
greater = 62

-- a digit, or what people put between ids and around them
abbrev pub is_id_byte : ℕ → Bool
is_id_byte b = b == comma || (b == 91 || (b == 93 || (nat_le 48 b && nat_le b 57)))

abbrev pub has_byte : ℕ → Word → Bool
has_byte wanted word = list_any (λ b. b == wanted) word

-- ids with commas between them, which have blanks there
abbrev pub are_joined_ids : Word → Bool
are_joined_ids word = has_byte comma word && list_all is_id_byte word

-- a comment, which has a line of its own
abbrev pub is_comment : Word → Bool
is_comment [] = false
is_comment (b ∷ word) = b == number_sign

-- a line of help; nothing if it is empty
abbrev pub said : List ℕ → PlainHint
said line = if length line == 0 then unknown else sentence line

-- ---- the name

-- names that other tools have, each with what does the same
unfoldable pub other_names : List Key
other_names = map (λ r. (r.0.now, r.1.now)) OTHER_NAMES

-- a byte order mark, in UTF-8 (RFC 3629, section 6)
abbrev pub has_mark : Word → Bool
has_mark name = bytes_eq (take 3 name) (239 ∷ 187 ∷ 191 ∷ [])

-- a line of an output that has a message, from a node to another
abbrev pub has_message : PlainDirective → Bool
has_message d = nat_lt 0 (length d.args) && has_byte greater (plain_argument d 0).key

-- what a directive was probably meant to be if none has its name
unfoldable pub form_of_name : PlainDirective → PlainHint
form_of_name d =
    if has_mark d.name then sentence (codes "a byte order mark, which editors don't show, is before the name; save the file without it")
    else (if has_message d then sentence (codes "this is a line of an output; usually an empty line cut it off")
    else said (line_among d.name other_names))

-- ---- a word

-- the word is after a payload: the third argument is a word, and the first is another
abbrev pub is_after_payload : PlainDirective → Word → Bool
is_after_payload d word = nat_lt 2 (length d.args) && (not (plain_argument d 2).has_equals && not (bytes_eq (plain_argument d 0).key word))

-- the form that a refused word was probably meant to have
abbrev pub form_of_word : PlainDirective → Word → PlainHint
form_of_word d word =
    if is_comment word then meant (codes "a comment on a line of its own, above the directive")
    else (if are_joined_ids word then meant (codes "ids with blanks between them, such as 1 2")
    else (if bytes_eq d.name (codes "propose-conf-change") then meant (codes "changes on the lines below this one, such as v2")
    else (if bytes_eq d.name (codes "transfer-leadership") then meant (codes "transfer-leadership from=1 to=2")
    else (if bytes_eq d.name (codes "log-level") then said (option_line d.name)
    else (if bytes_eq d.name (codes "propose") && is_after_payload d word then sentence (codes "a payload is one word, such as hello-world; quotes are letters of it")
    else unknown)))))

-- the first argument with this key is a word, without an `=`
abbrev pub is_bare : Word → List PlainArgument → Bool
is_bare key [] = false
is_bare key (a ∷ args) = if bytes_eq a.key key then not a.has_equals else is_bare key args

-- ---- an option

-- an argument has this key
abbrev pub has_key : Word → List PlainArgument → Bool
has_key key args = list_any (λ a. bytes_eq a.key key) args

-- two arguments have it
abbrev pub is_repeated : Word → List PlainArgument → Bool
is_repeated key [] = false
is_repeated key (a ∷ args) = if bytes_eq a.key key then has_key key args else is_repeated key args

-- an option with a wrong value: what it takes
abbrev pub form_of_option : List PlainArgument → Word → PlainHint
form_of_option args key = if is_repeated key args then sentence (codes "an option is given once") else said (option_line key)

-- ---- any fault

abbrev pub form_of_argument : PlainDirective → Word → PlainHint
form_of_argument d key = if is_bare key d.args then form_of_word d key else form_of_option d.args key

-- the form that a refused directive was probably meant to have
abbrev pub form_of_fault : PlainDirective → DirectiveError → PlainHint
form_of_fault d (errors.UnknownDirective name) = form_of_name d
form_of_fault d (errors.BadArgument key) = form_of_argument d key
form_of_fault d other = unknown

-- ---- what is missing

-- a log that begins with members or a content begins at an index
abbrev pub needs_index : List PlainArgument → Bool
needs_index args = (has_key (codes "voters") args || has_key (codes "learners") args || has_key (codes "content") args) && not (has_key (codes "index") args)

-- this is a line of the input
abbrev pub has_input : Word → List Line → Bool
has_input text [] = false
has_input text (line ∷ inputs) = if bytes_eq line text then true else has_input text inputs

-- what a directive that can be read is missing
abbrev pub missing : PlainDirective → PlainHint
missing d =
    if bytes_eq d.name (codes "add-nodes") && needs_index d.args then sentence (codes "voters, learners and content need index=N, 2 or more")
    else (if has_input (codes "---") d.inputs then meant (codes "----")
    else unknown)
