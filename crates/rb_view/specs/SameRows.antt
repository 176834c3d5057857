-- What of two nodes, and of two views, rows show alike. (This project's.)
use Rattle.std.specs.Prelude.{◌≡◌, ℕ, decimal, length}
use Rattle.rb_node.specs.Node.{PlainNode}
use Rattle.rb_tracker.specs.Progresses.{PlainProgress}
use Rattle.rb_view.specs.MessageRows.{flag}

-- the same numbers, and as much content
abbrev pub ShowSameNumbers : PlainNode → PlainNode → Type 0
ShowSameNumbers a b =
    (decimal a.id ≡ decimal b.id) × (decimal a.term ≡ decimal b.term) × (decimal a.vote ≡ decimal b.vote) × (decimal a.lead ≡ decimal b.lead)
    × (decimal a.commit ≡ decimal b.commit) × (decimal a.applied ≡ decimal b.applied) × (decimal a.log.durable ≡ decimal b.log.durable)
    × (decimal (length a.content) ≡ decimal (length b.content))

-- the same progress
abbrev pub ShowSameProgress : PlainProgress → PlainProgress → Type 0
ShowSameProgress a b =
    (a.state ≡ b.state) × (decimal a.matched ≡ decimal b.matched) × (decimal a.next ≡ decimal b.next)
    × (decimal (length a.window.in_flight) ≡ decimal (length b.window.in_flight)) × (decimal (flag a.waiting) ≡ decimal (flag b.waiting))
    × (decimal a.pending ≡ decimal b.pending) × (decimal (flag a.active) ≡ decimal (flag b.active))

-- the same node's view of the same member
abbrev pub ShowSameView : ℕ → ℕ × PlainProgress → ℕ → ℕ × PlainProgress → Type 0
ShowSameView id v other w = (decimal id ≡ decimal other) × (decimal v.0 ≡ decimal w.0) × ShowSameProgress v.1 w.1
