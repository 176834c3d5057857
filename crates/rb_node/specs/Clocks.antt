-- A node's clock. (Ongaro's thesis, section 3.4; the number of ticks is this project's.)
use Rattle.rb_node.specs.declared.clock.Clock.{Clock}
use Rattle.rb_node.specs.declared.limits.TheConstants.{ELECTION_TICKS}

-- at the beginning of a term
abbrev pub fresh_clock : Clock
fresh_clock = record { elapsed = 0; heartbeat_elapsed = 0; timeout = ELECTION_TICKS }
