-- What a node shows (this project's): its events, one after another
use Rattle.std.specs.Prelude.{◌≡◌, List, ◌++◌}
use Rattle.rb_message.specs.declared.event.Event.{Event}

-- the events so far stay as they are, and others may follow them
pub record OnlyAdded (before now : List Event) : Type 0 where
  pub more : List Event
  pub is : now ≡ before ++ more
