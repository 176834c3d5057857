-- Requests: one variant for each directive, made of its arguments, or the first missing argument. (etcd raft's interaction tests
-- have most of the directives; the defaults are this project's.)
use Rattle.std.specs.Prelude.{ℕ, ◌≤◌, false, codes, List, [], length, Option, Some, None, IfSome, Result, Ok, Err, ⊤}
use Rattle.std.specs.List.{All}
use Rattle.std.specs.Option.{unwrap_or}
use Rattle.rb_script.specs.Lines.{Line}
use Rattle.rb_script.specs.Directive.{PlainDirective}
use Rattle.rb_vocab.specs.declared.directive_error.DirectiveError.{DirectiveError}
use Rattle.rb_vocab.specs.declared.directive_error.DirectiveError.TheVariants as errors
use Rattle.rb_directive.specs.declared.node_command_with_arg.NodeCommandWithArg.{NodeCommandWithArg}
use Rattle.rb_directive.specs.declared.node_command_with_arg.NodeCommandWithArg.TheVariants as withs
use Rattle.rb_directive.specs.declared.argument.Number.{Number}
use Rattle.rb_directive.specs.declared.argument.Number.TheVariants as numbers
use Rattle.rb_directive.specs.declared.argument.Flag.TheVariants as flags
use Rattle.rb_directive.specs.declared.name.Name.{Name}
use Rattle.rb_directive.specs.declared.name.Name.TheVariants as names
use Rattle.rb_vocab.specs.declared.change.Transition.TheVariants as transitions
use Rattle.rb_directive.specs.declared.table.Row.{Row}
use Rattle.rb_directive.specs.declared.arguments.Arguments.{Arguments}
use Rattle.rb_directive.specs.declared.requests.AddNodes.{AddNodes}
use Rattle.rb_directive.specs.declared.requests.MailChoice.{MailChoice}
use Rattle.rb_directive.specs.declared.requests.Request.{Request}
use Rattle.rb_directive.specs.declared.requests.Request.TheVariants as requests
use Rattle.rb_directive.specs.declared.build.Asked.{Asked}
use Rattle.rb_directive.specs.declared.limits.TheConstants.{MAX_ID, MAX_NODES, MAX_FIRST_INDEX, MAX_COMPACTED, MAX_BYTES, MAX_WINDOW, MAX_ROUNDS, MAX_TIMEOUT, MAX_MESSAGES, MAX_IDS, WINDOW, ROUNDS}
use Rattle.rb_directive.specs.Forms.{Word}
use Rattle.rb_directive.specs.Table.{directives, row_in}
use Rattle.rb_directive.specs.Arguments.{nothing, flag_given, number_given}
use Rattle.rb_directive.specs.Names.{number_text}
use Rattle.rb_directive.specs.Reading.{with_arguments}
use Rattle.rb_directive.specs.Changes.{change_fault}

-- the required value, or an error that it is missing
abbrev pub require : {T : Type 0} → Word → Option T → Result T DirectiveError
require name None = Err (errors.MissingArgument name)
require name (Some value) = Ok value

-- continues with the value
abbrev pub and_then : {S T : Type 0} → Result S DirectiveError → (S → Result T DirectiveError) → Result T DirectiveError
and_then (Err e) next = Err e
and_then (Ok value) next = next value

-- ---- the directives

abbrev pub add_nodes : Arguments → Result Request DirectiveError
add_nodes g = and_then (require (codes "n") g.count) (λ count. Ok (requests.AddNodes (record {
  count = count;
  voters = g.voters;
  learners = g.learners;
  index = g.index;
  content = g.content;
  inflight = unwrap_or g.inflight WINDOW;
  prevote = unwrap_or (flag_given flags.Prevote g) false;
  check_quorum = unwrap_or (flag_given flags.CheckQuorum g) false;
  step_down = unwrap_or (flag_given flags.StepDown g) false;
})))

-- a directive that takes a node alone
abbrev pub at_node : (ℕ → Request) → Arguments → Result Request DirectiveError
at_node make g = and_then (require (codes "id") g.id) (λ id. Ok (make id))

abbrev pub propose : Arguments → Result Request DirectiveError
propose g = and_then (require (codes "id") g.id) (λ id. and_then (require (codes "payload") g.payload) (λ payload. Ok (requests.Propose id payload)))

abbrev pub propose_conf_change : Arguments → List Line → Result Request DirectiveError
propose_conf_change g inputs =
    let transition = unwrap_or g.transition transitions.Auto in
    and_then (require (codes "id") g.id) (λ id. Ok (requests.ProposeConfChange (record {
      id = id;
      transition = transition;
      inputs = inputs;
      fault = change_fault (unwrap_or (flag_given flags.FirstVersion g) false) transition inputs;
    })))

abbrev pub process_ready : Arguments → Result Request DirectiveError
process_ready g = and_then (require (codes "id") g.nodes) (λ ids. Ok (requests.ProcessReady ids))

abbrev pub restart : Arguments → Result Request DirectiveError
restart g = and_then (require (codes "id") g.nodes) (λ ids. Ok (requests.Restart ids))

-- each message
abbrev pub all_mail : MailChoice
all_mail = record { types = None; from = None; skip = 0; count = None }

-- messages of all types if none is given, and of all senders
abbrev pub deliver_msgs : Arguments → Request
deliver_msgs g = requests.DeliverMsgs (record {
  nodes = unwrap_or g.nodes [];
  choice = record { types = g.types; from = g.from; skip = unwrap_or g.skip 0; count = g.messages };
  drop = unwrap_or g.drop [];
})

abbrev pub stabilize : Arguments → Request
stabilize g = requests.Stabilize (unwrap_or g.nodes []) (unwrap_or g.rounds ROUNDS)

-- the arguments that a command with a number requires: the node and the number
abbrev pub required : NodeCommandWithArg → Number × Number
required withs.SetRandomizedElectionTimeout = (numbers.Id, numbers.Timeout)
required withs.TransferLeadership = (numbers.From, numbers.To)
required withs.ReportUnreachable = (numbers.Id, numbers.Peer)
required withs.SendSnapshot = (numbers.From, numbers.To)
required withs.Compact = (numbers.Id, numbers.Index)

abbrev pub with_numbers : NodeCommandWithArg → Number → Number → Arguments → Result Request DirectiveError
with_numbers what node number g =
    and_then (require (number_text node) (number_given node g)) (λ id. and_then (require (number_text number) (number_given number g)) (λ value. Ok (requests.NodeCommandWithArg what id value)))

abbrev pub node_command_with_arg : NodeCommandWithArg → Arguments → Result Request DirectiveError
node_command_with_arg what g = with_numbers what (required what).0 (required what).1 g

abbrev pub built : Name → Arguments → List Line → Result Request DirectiveError
built names.AddNodes g inputs = add_nodes g
built (names.NodeCommand node_command) g inputs = at_node (requests.NodeCommand node_command) g
built names.Propose g inputs = propose g
built names.ProposeConfChange g inputs = propose_conf_change g inputs
built names.ProcessReady g inputs = process_ready g
built names.DeliverMsgs g inputs = Ok (deliver_msgs g)
built names.Stabilize g inputs = Ok (stabilize g)
built (names.NodeCommandWithArg node_command) g inputs = node_command_with_arg node_command g
built names.Restart g inputs = restart g
built names.LogLevel g inputs = and_then (require (codes "level") g.level) (λ level. Ok (requests.LogLevel level))
built names.RaftLog g inputs = at_node requests.RaftLog g
built names.Status g inputs = at_node requests.Status g
built names.RaftState g inputs = Ok requests.RaftState

-- ---- any directive

abbrev pub asked_of : Row → PlainDirective → Result Asked DirectiveError
asked_of row d =
    and_then (with_arguments row d.args (Ok nothing)) (λ g.
    and_then (built row.name g d.inputs) (λ r. Ok (record { request = r; log_level = g.log_level })))

abbrev pub request_of : Option Row → PlainDirective → Result Asked DirectiveError
request_of None d = Err (errors.UnknownDirective d.name)
request_of (Some row) d = asked_of row d

-- the request of a directive, or its first fault: of the name, of the arguments from left to right, or a missing argument
unfoldable pub request : PlainDirective → Result Asked DirectiveError
request d = request_of (row_in directives d.name) d

-- ---- the limits of requests

abbrev pub IsFrom : ℕ → ℕ → ℕ → Type 0
IsFrom low high n = (low ≤ n) × (n ≤ high)

abbrev pub IsId : ℕ → Type 0
IsId id = IsFrom 1 MAX_ID id

abbrev pub AreIds : List ℕ → Type 0
AreIds ids = All IsId ids × (length ids ≤ MAX_IDS)

-- the number of a command: an id, unless it is a timeout or an index
abbrev pub IsNumber : Number → ℕ → Type 0
IsNumber numbers.Timeout n = IsFrom 1 MAX_TIMEOUT n
IsNumber numbers.Index n = IsFrom 0 MAX_COMPACTED n
IsNumber which n = IsId n

-- nodes that `add-nodes` can make
pub record AreNodes (r : AddNodes) : Type 0 where
  pub count : IsFrom 1 MAX_NODES r.count
  pub voters : IfSome r.voters AreIds
  pub learners : IfSome r.learners AreIds
  pub index : unwrap_or r.index 0 ≤ MAX_FIRST_INDEX
  pub content : IfSome r.content (λ w. length w ≤ MAX_BYTES)
  pub inflight : IsFrom 1 MAX_WINDOW r.inflight

-- a choice of messages
pub record IsChoice (c : MailChoice) : Type 0 where
  pub from : IfSome c.from IsId
  pub skip : c.skip ≤ MAX_MESSAGES
  pub count : IfSome c.count (IsFrom 1 MAX_MESSAGES)

-- the request is within the limits
unfoldable pub IsWithin : Request → Type 0
IsWithin (requests.AddNodes r) = AreNodes r
IsWithin (requests.NodeCommand node_command id) = IsId id
IsWithin (requests.Propose id payload) = IsId id × IsFrom 1 MAX_BYTES (length payload)
IsWithin (requests.ProposeConfChange r) = IsId r.id
IsWithin (requests.ProcessReady ids) = AreIds ids
IsWithin (requests.DeliverMsgs r) = AreIds r.nodes × AreIds r.drop × IsChoice r.choice
IsWithin (requests.Stabilize ids rounds) = AreIds ids × IsFrom 1 MAX_ROUNDS rounds
IsWithin (requests.NodeCommandWithArg node_command id number) = IsId id × IsNumber (required node_command).1 number
IsWithin (requests.Restart ids) = AreIds ids
IsWithin (requests.LogLevel level) = ⊤
IsWithin (requests.RaftLog id) = IsId id
IsWithin (requests.Status id) = IsId id
IsWithin requests.RaftState = ⊤
