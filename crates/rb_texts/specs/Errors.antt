-- Errors of directives as a line shows them. (This project's.)
use Rattle.std.specs.Prelude.{ℕ, codes, decimal, List, ◌++◌, take}
use Rattle.rb_vocab.specs.declared.directive_error.DirectiveError.{DirectiveError}
use Rattle.rb_vocab.specs.declared.directive_error.DirectiveError.TheVariants as errors
use Rattle.rb_texts.specs.Quoted.{quoted}

-- how many bytes of a word an error shows at the most
abbrev pub WORD_SHOWN : ℕ
WORD_SHOWN = 64

abbrev pub word_text : List ℕ → List ℕ
word_text word = quoted (take WORD_SHOWN word)

unfoldable pub error_text : DirectiveError → List ℕ
error_text (errors.UnknownDirective name) = codes "error: unknown directive " ++ word_text name
error_text (errors.UnsupportedOption key) = codes "error: unsupported option " ++ word_text key
error_text (errors.BadArgument word) = codes "error: bad argument " ++ word_text word
error_text (errors.MissingArgument name) = codes "error: missing argument " ++ word_text name
error_text (errors.NoSuchNode id) = codes "error: no node " ++ decimal id
error_text errors.TooManyNodes = codes "error: too many nodes"
error_text errors.IndexTooLow = codes "error: index must be above 1"
error_text errors.AlreadyCompacted = codes "error: already compacted"
error_text errors.IndexPastApplied = codes "error: index past applied"
error_text (errors.BadChange word) = codes "error: bad change " ++ word_text word
error_text errors.FirstVersionTakesOne = codes "error: v1 takes one change and no transition"
