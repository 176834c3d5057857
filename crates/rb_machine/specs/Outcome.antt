-- The outcome of a directive. If it is refused, the first fault is all that happens; otherwise it has the effect of its request. Its output
-- is a function of the items of that effect. (This project's.)
use Rattle.std.specs.Prelude.{ℕ, Bool, false, if◌then◌else◌, List, [], ◌∷◌, Option, Some, None, Result, Ok, Err}
use Rattle.std.specs.List.{list_all, flat_map}
use Rattle.std.specs.Option.{unwrap_or, option_or}
use Rattle.rb_script.specs.Lines.{Line}
use Rattle.rb_script.specs.Directive.{PlainDirective}
use Rattle.rb_vocab.specs.declared.level.Level.{Level}
use Rattle.rb_vocab.specs.declared.directive_error.DirectiveError.{DirectiveError}
use Rattle.rb_vocab.specs.declared.directive_error.DirectiveError.TheVariants as errors
use Rattle.rb_directive.specs.declared.node_command_with_arg.NodeCommandWithArg.{NodeCommandWithArg}
use Rattle.rb_directive.specs.declared.node_command_with_arg.NodeCommandWithArg.TheVariants as withs
use Rattle.rb_directive.specs.declared.requests.Request.{Request}
use Rattle.rb_directive.specs.declared.requests.Request.TheVariants as requests
use Rattle.rb_directive.specs.declared.build.Asked.{Asked}
use Rattle.rb_directive.specs.Requests.{request}
use Rattle.rb_node.specs.Node.{PlainNode}
use Rattle.rb_texts.specs.Items.{PlainItem, nothing_else, error}
use Rattle.rb_texts.specs.Shapes.{is_solid}
use Rattle.rb_texts.specs.Texts.{line_of}
use Rattle.rb_machine.specs.Acts as acts
use Rattle.rb_machine.specs.AddNodes.{add_nodes_fault, nodes_added}
use Rattle.rb_machine.specs.Changes.{propose_change}
use Rattle.rb_machine.specs.Cluster.{Cluster, is_node}
use Rattle.rb_machine.specs.Deliveries.{msgs_delivered}
use Rattle.rb_machine.specs.Observations.{Observation, Shown, items_of}
use Rattle.rb_machine.specs.Readies.{ready_processed_each}
use Rattle.rb_machine.specs.Rounds.{stabilized}
use Rattle.rb_machine.specs.Effects.{Effect, quiet}
use Rattle.rb_machine.specs.Snapshots.{snapshot_sent, compact, compact_error}
use Rattle.rb_machine.specs.Views.{log_shown, status_shown, states_shown}

-- the cluster after a directive, and its output
pub record Outcome : Type 0 where
  pub cluster : Cluster
  pub output : List Line

-- ---- what is refused

abbrev pub absent : List PlainNode → ℕ → Option DirectiveError
absent nodes id = if is_node nodes id then None else Some (errors.NoSuchNode id)

-- the first id without a node
abbrev pub first_absent : List PlainNode → List ℕ → Option DirectiveError
first_absent nodes [] = None
first_absent nodes (id ∷ ids) = option_or (absent nodes id) (first_absent nodes ids)

-- the first node that a request names and that doesn't exist
abbrev pub missing_node : List PlainNode → Request → Option DirectiveError
missing_node nodes (requests.AddNodes asked) = None
missing_node nodes (requests.NodeCommand what id) = absent nodes id
missing_node nodes (requests.Propose id payload) = absent nodes id
missing_node nodes (requests.ProposeConfChange asked) = absent nodes asked.id
missing_node nodes (requests.ProcessReady ids) = first_absent nodes ids
missing_node nodes (requests.DeliverMsgs asked) = first_absent nodes asked.nodes
missing_node nodes (requests.Stabilize ids rounds) = first_absent nodes ids
missing_node nodes (requests.NodeCommandWithArg what id number) = absent nodes id
missing_node nodes (requests.Restart ids) = first_absent nodes ids
missing_node nodes (requests.LogLevel level) = None
missing_node nodes (requests.RaftLog id) = absent nodes id
missing_node nodes (requests.Status id) = absent nodes id
missing_node nodes requests.RaftState = None

-- why a node can't do something with a number
abbrev pub with_fault : NodeCommandWithArg → ℕ → ℕ → Cluster → Option DirectiveError
with_fault withs.Compact id index c = compact_error id index c
with_fault what id number c = None

-- why this cluster can't do a request whose nodes exist
abbrev pub own_fault : Request → Cluster → Option DirectiveError
own_fault (requests.AddNodes asked) c = add_nodes_fault asked c.nodes
own_fault (requests.ProposeConfChange asked) c = asked.fault
own_fault (requests.NodeCommandWithArg what id number) c = with_fault what id number c
own_fault r c = None

unfoldable pub fault : Request → Cluster → Option DirectiveError
fault r c = option_or (missing_node c.nodes r) (own_fault r c)

abbrev pub refusal_of : Result Asked DirectiveError → Cluster → Option DirectiveError
refusal_of (Err e) c = Some e
refusal_of (Ok a) c = fault a.request c

-- the first fault that refuses a directive: of its name, its arguments, or this cluster
unfoldable pub refusal : PlainDirective → Cluster → Option DirectiveError
refusal d c = refusal_of (request d) c

-- ---- the effects

-- `log-level`: sets the lowest level that is shown, from the next directive on
abbrev pub level_set : Level → Cluster → Cluster
level_set level c = record c { level = level }

abbrev pub act_with : NodeCommandWithArg → ℕ → ℕ → Cluster → Effect
act_with withs.SetRandomizedElectionTimeout id timeout c = quiet (acts.set_timeout id timeout c)
act_with withs.TransferLeadership from to c = acts.transfer from to c
act_with withs.ReportUnreachable id peer c = quiet (acts.report_unreachable id peer c)
act_with withs.SendSnapshot from to c = snapshot_sent from to c
act_with withs.Compact id index c = compact id index c

abbrev pub effect : Request → Cluster → Effect
effect (requests.AddNodes asked) c = nodes_added asked c
effect (requests.NodeCommand what id) c = acts.act what id c
effect (requests.Propose id payload) c = acts.propose id payload c
effect (requests.ProposeConfChange asked) c = propose_change asked c
effect (requests.ProcessReady ids) c = ready_processed_each c ids
effect (requests.DeliverMsgs asked) c = msgs_delivered asked c
effect (requests.Stabilize ids rounds) c = stabilized ids rounds c
effect (requests.NodeCommandWithArg what id number) c = act_with what id number c
effect (requests.Restart ids) c = acts.restart_each c ids
effect (requests.LogLevel level) c = quiet (level_set level c)
effect (requests.RaftLog id) c = log_shown id c
effect (requests.Status id) c = status_shown id c
effect requests.RaftState c = states_shown c

-- ---- what happens

-- the cluster after a directive, the level for its items, and what is observed
pub record Execution : Type 0 where
  pub cluster : Cluster
  pub level : Level
  pub observed : List Observation

-- the items of a directive
abbrev pub shown_items : Execution → List PlainItem
shown_items h = items_of h.observed

-- the error is the only item, and the cluster stays
abbrev pub refused : Cluster → DirectiveError → Execution
refused c e = record { cluster = c; level = c.level; observed = Shown (error e ∷ []) ∷ [] }

-- the option `log-level` applies to this directive only
abbrev pub done : Asked → Cluster → Execution
done a c = record { cluster = (effect a.request c).cluster; level = unwrap_or a.log_level c.level; observed = (effect a.request c).observed }

abbrev pub unless_refused : Option DirectiveError → Asked → Cluster → Execution
unless_refused (Some e) a c = refused c e
unless_refused None a c = done a c

abbrev pub execution_of : Result Asked DirectiveError → Cluster → Execution
execution_of (Err e) c = refused c e
execution_of (Ok a) c = unless_refused (fault a.request c) a c

unfoldable pub execution : Cluster → PlainDirective → Execution
execution c d = execution_of (request d) c

-- ---- what is printed

-- `ok` if there is no line
abbrev pub or_ok : Level → List Line → List Line
or_ok level [] = line_of level nothing_else
or_ok level (line ∷ lines) = line ∷ lines

-- the lines of the items, at a level
abbrev pub lines_at : Level → List PlainItem → List Line
lines_at level items = or_ok level (flat_map (line_of level) items)

abbrev pub printed : Execution → Outcome
printed h = record { cluster = h.cluster; output = lines_at h.level (shown_items h) }

-- the cluster after a directive, and its output
unfoldable pub outcome : Cluster → PlainDirective → Outcome
outcome c d = printed (execution c d)

-- at least one line, and none that is blank or ---- or holds a byte outside 32 to 126
unfoldable pub is_output : List Line → Bool
is_output [] = false
is_output (line ∷ lines) = list_all is_solid (line ∷ lines)
