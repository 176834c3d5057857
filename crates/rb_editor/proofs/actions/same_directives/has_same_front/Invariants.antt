-- The directives so far are the same.
use Rattle.std.proofs.Common.{◌≡◌, map, take}
use Rattle.rb_editor.specs.Stops.{directive_in}
use Rattle.rb_editor.proofs.actions.same_directives.has_same_front.Given as goal

abbrev pub invariant-loop-i : goal.invariant-loop-i
invariant-loop-i l = take l.i (map (directive_in l.one) l.olds) ≡ take l.i (map (directive_in l.other) l.news)
