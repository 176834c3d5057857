-- Configurations: who votes and who learns (Ongaro's thesis, sections 4.1 and 4.3; etcd raft documentation, "Learners")
use Rattle.std.specs.Prelude.{ℕ, Bool, not, ◌||◌, List, length, ◌==◌}
use Rattle.rb_tracker.specs.Sets.{has, union, set_of}
use Rattle.rb_tracker.specs.declared.config.Config.{Config}
use Rattle.rb_vocab.specs.declared.conf_state.ConfState.{ConfState}

-- the configuration is joint: two sets of voters decide
abbrev pub is_joint : Config → Bool
is_joint c = not (length c.outgoing == 0)

abbrev pub is_voter : Config → ℕ → Bool
is_voter c id = has c.incoming id || has c.outgoing id

abbrev pub is_member : Config → ℕ → Bool
is_member c id = is_voter c id || has c.learners id || has c.next id

abbrev pub voters : Config → List ℕ
voters c = union c.outgoing c.incoming

-- voters and learners
abbrev pub members : Config → List ℕ
members c = union (union (voters c) c.learners) c.next

-- the configuration of a snapshot
abbrev pub config_of : ConfState → Config
config_of s = record { incoming = set_of s.incoming; outgoing = set_of s.outgoing; learners = set_of s.learners; next = set_of s.next; auto = s.auto }

abbrev pub state_of : Config → ConfState
state_of c = record { incoming = c.incoming; outgoing = c.outgoing; learners = c.learners; next = c.next; auto = c.auto }
