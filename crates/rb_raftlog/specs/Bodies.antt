-- The body of an entry.
use Rattle.std.specs.Prelude.{Bool, false, true}
use Rattle.rb_raftlog.specs.declared.entry.Body.{Body}
use Rattle.rb_raftlog.specs.declared.entry.Body.TheVariants.{Payload, Change}

-- whether it changes the configuration
abbrev pub is_change : Body → Bool
is_change (Payload _) = false
is_change (Change _ _) = true
