-- The requests of directives with one word or none, which most directives are. Each is the request of `Requests.request`, or `None` if
-- that needs more than the word. (This project's.)
use Rattle.std.specs.Prelude.{ℕ, if◌then◌else◌, List, [], ◌∷◌, Option, Some, None, Result, Ok}
use Rattle.std.specs.Option.{option_and_then}
use Rattle.rb_text.specs.Numbers.{number_of}
use Rattle.rb_vocab.specs.declared.directive_error.DirectiveError.{DirectiveError}
use Rattle.rb_directive.specs.declared.name.Name.{Name}
use Rattle.rb_directive.specs.declared.name.Name.TheVariants as names
use Rattle.rb_directive.specs.declared.table.Row.{Row}
use Rattle.rb_directive.specs.declared.argument.Argument.{Argument}
use Rattle.rb_directive.specs.declared.argument.Argument.TheVariants as arguments
use Rattle.rb_directive.specs.declared.argument.Number.TheVariants as numbers
use Rattle.rb_directive.specs.declared.requests.Request.{Request}
use Rattle.rb_directive.specs.declared.requests.Request.TheVariants as requests
use Rattle.rb_directive.specs.declared.build.Asked.{Asked}
use Rattle.rb_directive.specs.declared.limits.TheConstants.{ROUNDS}
use Rattle.rb_directive.specs.Forms.{Word, within}
use Rattle.rb_directive.specs.IdLists.{id_of}
use Rattle.rb_directive.specs.Requests.{all_mail}

-- the request, with no level of its own
abbrev pub asks : Request → Result Asked DirectiveError
asks r = Ok (record { request = r; log_level = None })

-- with these ids, if it takes ids instead of words
abbrev pub of_ids : Name → List ℕ → Option Request
of_ids names.ProcessReady ids = Some (requests.ProcessReady ids)
of_ids names.Restart ids = Some (requests.Restart ids)
of_ids names.DeliverMsgs ids = Some (requests.DeliverMsgs (record { nodes = ids; choice = all_mail; drop = [] }))
of_ids names.Stabilize ids = Some (requests.Stabilize ids ROUNDS)
of_ids name ids = None

-- at this node
abbrev pub of_node : Name → ℕ → Option Request
of_node (names.NodeCommand node_command) id = Some (requests.NodeCommand node_command id)
of_node names.RaftLog id = Some (requests.RaftLog id)
of_node names.Status id = Some (requests.Status id)
of_node name id = None

-- by a first word that is a node
abbrev pub of_first : Name → Option Argument → Word → Option Request
of_first name (Some (arguments.Number numbers.Id low high)) w = option_and_then (of_node name) (within low high (number_of w))
of_first name first w = None

-- by one word
abbrev pub of_word : Row → Word → Option Request
of_word row w = if row.takes_ids then option_and_then (λ id. of_ids row.name (id ∷ [])) (id_of w) else of_first row.name row.first w

-- by nothing
abbrev pub of_nothing : Name → Option Request
of_nothing names.Stabilize = Some (requests.Stabilize [] ROUNDS)
of_nothing names.RaftState = Some requests.RaftState
of_nothing name = None
