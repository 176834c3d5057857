-- The places so far, and what is still to be compared.
use Rattle.std.proofs.Common.{◌≡◌, ◌+◌, ◌-◌, ◌++◌, drop, take}
use Rattle.rb_replay.specs.Report.{differing}
use Rattle.rb_replay.proofs.differing.list_differing.Given as goal

abbrev pub invariant-loop-i : goal.invariant-loop-i
invariant-loop-i l =
    l.places.items ++ differing (l.i + 1) (drop l.i l.script.blocks) (take (l.to - l.i) (drop l.i l.outputs))
    ≡ differing (l.from + 1) (drop l.from l.script.blocks) (take (l.to - l.from) (drop l.from l.outputs))
