-- Every call, and one upon another
use Rattle.std.proofs.Common.{[], List, ◌∷◌, Option, ℕ, ◌≡◌, None, ap, Some, ◌∙◌, Ok, sym, min, Err}
use Rattle.rb_raftlog.specs.Log.{compacted, term_at, LogValue, compact_fault}
use Rattle.rb_raftlog.specs.declared.snapshot.Snapshot.{Snapshot}
use Rattle.rb_raftlog.specs.declared.raft_log.CompactFault.{CompactFault}
use Rattle.rb_raftlog.specs.declared.raft_log.CompactFault.TheVariants.{AlreadyCompacted, PastApplied, OutOfMemory}
use Rattle.rb_node.specs.Compacting.{IsCompactedTo, start_at}
use Rattle.rb_node.specs.Node.{NodeStep, PlainNode}
use Rattle.rb_calls.specs.Calling.{Call, after, run, compacted_at, compacted_unless, compacted_to}
use Rattle.rb_calls.specs.Sound.{IsSound}
use Rattle.rb_calls.proofs.CallWays.{ways, called_way}
use Rattle.rb_calls.proofs.Goes.{Keeps, core, anyone, self, and_then, anyhow, Ways}
use Rattle.rb_calls.proofs.MoveLaws.{calls_keep}
use Rattle.rb_calls.proofs.Moves.{over, Allows, CallMove}

pub calls : (c : Call) (t : NodeStep) → Keeps (ways c t) (core t.node) (core (after c t).node)
calls c t = record { goes = λ o. (over (calls_keep o) (called_way c t (λ s. s))).goes o }

pub runs : (cs : List Call) (t : NodeStep) → Keeps anyone (core t.node) (core (run cs t).node)
runs [] t = self (core t.node)
runs (c ∷ cs) t = and_then (anyhow (calls c t)) (runs cs (after c t))

-- ---- what a relation from a sound node must allow, to hold over every call

pub record Carried (R : PlainNode → PlainNode → Type 0) : Type 1 where
  pub under : (a b : PlainNode) → (IsSound a → R a b) → R a b
  pub moves : {sound : Type 0} {w : Ways} → sound → Allows (CallMove sound w) R

pub over_call : {R : PlainNode → PlainNode → Type 0} → Carried R → (c : Call) (t : NodeStep) → R t.node (after c t).node
over_call p c t = p.under t.node (after c t).node (λ s. over (p.moves s) (called_way c t (λ o. o)))

pub over_calls : {R : PlainNode → PlainNode → Type 0} → Carried R → (cs : List Call) (t : NodeStep) → R t.node (run cs t).node
over_calls p [] t = p.under t.node t.node (λ s. (p.moves {w = anyone} s).nothing t.node)
over_calls p (c ∷ cs) t =
    p.under t.node (run (c ∷ cs) t).node (λ s.
    (p.moves {w = anyone} s).chain t.node (after c t).node (run (c ∷ cs) t).node (over_call p c t) (over_calls p cs (after c t)))

-- ---- compacting is what its contract says

unless_none : (o : Option CompactFault) (n : PlainNode) (i : ℕ) → o ≡ None → compacted_unless o n i ≡ compacted_at n i
unless_none o n i e = ap (λ (x : Option CompactFault). compacted_unless x n i) e

unless_some : (o : Option CompactFault) (fault : CompactFault) (n : PlainNode) (i : ℕ) → o ≡ Some fault → compacted_unless o n i ≡ n
unless_some o fault n i e = ap (λ (x : Option CompactFault). compacted_unless x n i) e

with_log : (old new : PlainNode) (v : LogValue) (from : Snapshot) → new.log ≡ v → new ≡ record old { log = new.log; start = from } → new ≡ record old { log = v; start = from }
with_log old new v from e is = is ∙ ap (λ (x : LogValue). record old { log = x; start = from }) e

pub compacted_is : (old new : PlainNode) (index : ℕ) (done : Unit {0}) → IsCompactedTo old index (Ok done) new → new ≡ compacted_to old index
compacted_is old new index done is =
    with_log old new (compacted old.log index (term_at old.log index)) (start_at old index) is.0.1 is.1
    ∙ sym (unless_none (compact_fault old.log index (min old.applied old.log.durable)) old index is.0.0)

pub compacted_already : (old new : PlainNode) (index : ℕ) → IsCompactedTo old index (Err AlreadyCompacted) new → new ≡ compacted_to old index
compacted_already old new index is =
    with_log old new old.log old.start is.0.1 is.1
    ∙ sym (unless_some (compact_fault old.log index (min old.applied old.log.durable)) AlreadyCompacted old index is.0.0)

pub compacted_past : (old new : PlainNode) (index : ℕ) → IsCompactedTo old index (Err PastApplied) new → new ≡ compacted_to old index
compacted_past old new index is =
    with_log old new old.log old.start is.0.1 is.1
    ∙ sym (unless_some (compact_fault old.log index (min old.applied old.log.durable)) PastApplied old index is.0.0)

pub compacted_without_memory : (old new : PlainNode) (index : ℕ) → IsCompactedTo old index (Err OutOfMemory) new → new ≡ old
compacted_without_memory old new index is = with_log old new old.log old.start is.0.1 is.1
