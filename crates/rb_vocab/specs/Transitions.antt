-- Transitions of a configuration change, by their names. (etcd's raft has the transitions; their names are this project's.)
use Rattle.std.specs.Prelude.{ℕ, Bool, true, false, if◌then◌else◌, codes, List, Option, Some, None}
use Rattle.std.specs.Str.{bytes_eq}
use Rattle.rb_vocab.specs.declared.change.Transition.{Transition}
use Rattle.rb_vocab.specs.declared.change.Transition.TheVariants as transitions

abbrev pub transition_text : Transition → List ℕ
transition_text transitions.Auto = codes "auto"
transition_text transitions.Explicit = codes "explicit"
transition_text transitions.Implicit = codes "implicit"

abbrev pub is_auto : Transition → Bool
is_auto transitions.Auto = true
is_auto transitions.Explicit = false
is_auto transitions.Implicit = false

-- the transition with this name
unfoldable pub transition_of : List ℕ → Option Transition
transition_of name =
    if bytes_eq name (transition_text transitions.Auto) then Some transitions.Auto
    else (if bytes_eq name (transition_text transitions.Explicit) then Some transitions.Explicit
    else (if bytes_eq name (transition_text transitions.Implicit) then Some transitions.Implicit
    else None))
