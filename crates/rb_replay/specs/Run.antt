-- One run of a script from the empty cluster: its clusters, and its outputs. (This project's.)
use Rattle.std.specs.Prelude.{ℕ, ◌-◌, ◌==◌, if◌then◌else◌, List, [], ◌∷◌, map, take, slice_get, Option, None}
use Rattle.rb_script.specs.Lines.{Line}
use Rattle.rb_script.specs.Script.{PlainScript}
use Rattle.rb_script.specs.Directive.{PlainDirective}
use Rattle.rb_script.specs.Reading.{directive_of}
use Rattle.rb_machine.specs.Cluster.{Cluster, empty}
use Rattle.rb_machine.specs.Outcome.{outcome}

-- the directives of a script, in order
abbrev pub directives : PlainScript → List PlainDirective
directives s = map directive_of s.blocks

-- the cluster that directives lead to
abbrev pub led : Cluster → List PlainDirective → Cluster
led c [] = c
led c (d ∷ ds) = led (outcome c d).cluster ds

-- their answers
abbrev pub answers : Cluster → List PlainDirective → List (List Line)
answers c [] = []
answers c (d ∷ ds) = (outcome c d).output ∷ answers (outcome c d).cluster ds

-- the cluster at point i of a script, after its first i directives
abbrev pub state : PlainScript → ℕ → Cluster
state s i = led empty (take i (directives s))

-- the output of each directive
abbrev pub outputs : PlainScript → List (List Line)
outputs s = answers empty (directives s)

-- the item at a place of a list; places count from 1
abbrev pub at_place : {T : Type 0} → List T → ℕ → Option T
at_place xs place = if place == 0 then None else slice_get xs (place - 1)

-- the output of the directive at a place
abbrev pub output_at : PlainScript → ℕ → Option (List Line)
output_at s place = at_place (outputs s) place
