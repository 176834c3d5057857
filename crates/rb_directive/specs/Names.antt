-- How directives and their arguments are called. (etcd raft's interaction tests have most of the directives; the others,
-- and the names of what has no key there, are this project's.)
use Rattle.std.specs.Prelude.{ℕ, codes, List}
use Rattle.rb_directive.specs.declared.node_command.NodeCommand.{NodeCommand}
use Rattle.rb_directive.specs.declared.node_command.NodeCommand.TheVariants as acts
use Rattle.rb_directive.specs.declared.node_command_with_arg.NodeCommandWithArg.{NodeCommandWithArg}
use Rattle.rb_directive.specs.declared.node_command_with_arg.NodeCommandWithArg.TheVariants as withs
use Rattle.rb_directive.specs.declared.name.Name.{Name}
use Rattle.rb_directive.specs.declared.name.Name.TheVariants as names
use Rattle.rb_directive.specs.declared.argument.Argument.{Argument}
use Rattle.rb_directive.specs.declared.argument.Argument.TheVariants as arguments
use Rattle.rb_directive.specs.declared.argument.Number.{Number}
use Rattle.rb_directive.specs.declared.argument.Number.TheVariants as numbers
use Rattle.rb_directive.specs.declared.argument.Bytes.{Bytes}
use Rattle.rb_directive.specs.declared.argument.Bytes.TheVariants as bytes
use Rattle.rb_directive.specs.declared.argument.LevelFor.{LevelFor}
use Rattle.rb_directive.specs.declared.argument.LevelFor.TheVariants as levels
use Rattle.rb_directive.specs.declared.argument.Flag.{Flag}
use Rattle.rb_directive.specs.declared.argument.Flag.TheVariants as flags
use Rattle.rb_directive.specs.declared.argument.Ids.{Ids}
use Rattle.rb_directive.specs.declared.argument.Ids.TheVariants as lists

abbrev pub node_command_text : NodeCommand → List ℕ
node_command_text acts.Campaign = codes "campaign"
node_command_text acts.TickElection = codes "tick-election"
node_command_text acts.TickHeartbeat = codes "tick-heartbeat"
node_command_text acts.ForgetLeader = codes "forget-leader"

abbrev pub node_command_with_arg_text : NodeCommandWithArg → List ℕ
node_command_with_arg_text withs.SetRandomizedElectionTimeout = codes "set-randomized-election-timeout"
node_command_with_arg_text withs.TransferLeadership = codes "transfer-leadership"
node_command_with_arg_text withs.ReportUnreachable = codes "report-unreachable"
node_command_with_arg_text withs.SendSnapshot = codes "send-snapshot"
node_command_with_arg_text withs.Compact = codes "compact"

abbrev pub name_text : Name → List ℕ
name_text names.AddNodes = codes "add-nodes"
name_text (names.NodeCommand node_command) = node_command_text node_command
name_text names.Propose = codes "propose"
name_text names.ProposeConfChange = codes "propose-conf-change"
name_text names.ProcessReady = codes "process-ready"
name_text names.DeliverMsgs = codes "deliver-msgs"
name_text names.Stabilize = codes "stabilize"
name_text (names.NodeCommandWithArg node_command) = node_command_with_arg_text node_command
name_text names.Restart = codes "restart"
name_text names.LogLevel = codes "log-level"
name_text names.RaftLog = codes "raft-log"
name_text names.Status = codes "status"
name_text names.RaftState = codes "raft-state"

abbrev pub number_text : Number → List ℕ
number_text numbers.Count = codes "n"
number_text numbers.Id = codes "id"
number_text numbers.Peer = codes "id"
number_text numbers.From = codes "from"
number_text numbers.To = codes "to"
number_text numbers.Index = codes "index"
number_text numbers.Inflight = codes "inflight"
number_text numbers.Rounds = codes "rounds"
number_text numbers.Timeout = codes "timeout"
number_text numbers.Skip = codes "skip"
number_text numbers.Messages = codes "count"

abbrev pub bytes_text : Bytes → List ℕ
bytes_text bytes.Payload = codes "payload"
bytes_text bytes.Content = codes "content"

abbrev pub level_text : LevelFor → List ℕ
level_text levels.Cluster = codes "level"
level_text levels.Directive = codes "log-level"

abbrev pub flag_text : Flag → List ℕ
flag_text flags.Prevote = codes "prevote"
flag_text flags.CheckQuorum = codes "checkquorum"
flag_text flags.StepDown = codes "step-down-on-removal"
flag_text flags.FirstVersion = codes "v1"

abbrev pub ids_text : Ids → List ℕ
ids_text lists.Nodes = codes "id"
ids_text lists.Voters = codes "voters"
ids_text lists.Learners = codes "learners"
ids_text lists.Drop = codes "drop"

-- the key of an option, and the name under which an argument is said to be missing
abbrev pub argument_text : Argument → List ℕ
argument_text (arguments.Number which low high) = number_text which
argument_text (arguments.Bytes which low high) = bytes_text which
argument_text (arguments.Level which) = level_text which
argument_text (arguments.Flag which) = flag_text which
argument_text arguments.Transition = codes "transition"
argument_text arguments.Types = codes "type"
argument_text (arguments.Ids which other) = ids_text which
