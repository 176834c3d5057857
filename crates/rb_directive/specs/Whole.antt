-- Properties of a directive's request. (This project's.)
use Rattle.std.specs.Prelude.{ℕ, if◌then◌else◌, List, [], ◌∷◌}
use Rattle.std.specs.List.{Contains}
use Rattle.rb_script.specs.Directive.{PlainArgument}
use Rattle.rb_directive.specs.declared.name.Name.{Name}
use Rattle.rb_directive.specs.declared.name.Name.TheVariants as names
use Rattle.rb_directive.specs.declared.requests.Request.{Request}
use Rattle.rb_directive.specs.declared.requests.Request.TheVariants as requests

-- the directive of a request
abbrev pub name_of : Request → Name
name_of (requests.AddNodes r) = names.AddNodes
name_of (requests.NodeCommand node_command id) = names.NodeCommand node_command
name_of (requests.Propose id payload) = names.Propose
name_of (requests.ProposeConfChange r) = names.ProposeConfChange
name_of (requests.ProcessReady ids) = names.ProcessReady
name_of (requests.DeliverMsgs r) = names.DeliverMsgs
name_of (requests.Stabilize ids rounds) = names.Stabilize
name_of (requests.NodeCommandWithArg node_command id number) = names.NodeCommandWithArg node_command
name_of (requests.Restart ids) = names.Restart
name_of (requests.LogLevel level) = names.LogLevel
name_of (requests.RaftLog id) = names.RaftLog
name_of (requests.Status id) = names.Status
name_of requests.RaftState = names.RaftState

-- the first argument that is a word, which has no `=`
abbrev pub first_word : List PlainArgument → List ℕ
first_word [] = []
first_word (a ∷ args) = if a.has_equals then first_word args else a.key

-- the lists have no id in common
abbrev pub AreApart : List ℕ → List ℕ → Type 0
AreApart ids others = (id : ℕ) → Contains ids id → Contains others id → ⊥
