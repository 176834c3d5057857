-- The entries so far are no changes.
use Rattle.std.proofs.Common.{◌≡◌, drop, take}
use Rattle.std.specs.List.{list_any}
use Rattle.rb_raftlog.specs.Bodies.{is_change}
use Rattle.rb_raftlog.proofs.log.Log.any_change.Given as goal

abbrev pub invariant-loop-k : goal.invariant-loop-k
invariant-loop-k g l =
    list_any (λ e. is_change e.body) (drop l.low (take l.high l.self.entries)) ≡ list_any (λ e. is_change e.body) (drop l.k (take l.high l.self.entries))
