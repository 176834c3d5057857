-- What a node puts out: its answers to others, and those to itself (etcd raft documentation, "Ready"; Ongaro's thesis, section 3.8)
use Rattle.std.specs.Prelude.{ℕ, ◌==◌, List, [], ◌∷◌, if◌then◌else◌}
use Rattle.rb_message.specs.declared.message.Message.{Message}

-- the messages to other nodes, in order
abbrev pub to_others : ℕ → List Message → List Message
to_others id [] = []
to_others id (m ∷ ms) = if m.to == id then to_others id ms else m ∷ to_others id ms

-- the messages to the node itself, in order
abbrev pub to_itself : ℕ → List Message → List Message
to_itself id [] = []
to_itself id (m ∷ ms) = if m.to == id then m ∷ to_itself id ms else to_itself id ms
