-- Events are only added: no call takes one back, changes one, or puts one before another
use Rattle.std.proofs.Common.{[], List, sym, append-nil, ◌∷◌}
use Rattle.rb_node.specs.Node.{NodeStep}
use Rattle.rb_calls.specs.Calling.{Call, run, after}
use Rattle.rb_calls.specs.Events.{OnlyAdded}
use Rattle.rb_calls.proofs.CallWays.{called_way}
use Rattle.rb_calls.proofs.Moves.{added_then, added}

pub only_added : (cs : List Call) (t : NodeStep) → OnlyAdded t.events (run cs t).events
only_added [] t = record { more = []; is = sym (append-nil t.events) }
only_added (c ∷ cs) t = added_then (added (called_way {sound = ⊥} c t (λ no. absurd no))) (only_added cs (after c t))
