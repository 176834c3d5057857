-- A node's events.
use Rattle.std.specs.Prelude.{ℕ}
use Rattle.rb_message.specs.declared.event.Event.{Event}
use Rattle.rb_message.specs.declared.event.EventKind.{EventKind}

-- this happened at the node with this id
abbrev pub event_at : ℕ → EventKind → Event
event_at id what = record { id = id; kind = what }
