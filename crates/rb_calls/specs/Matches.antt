-- How a leader comes to count an index as held by a member (matchIndex in Ongaro's thesis, figure 3.1), and as committed (section 3.6.2)
use Rattle.std.specs.Prelude.{ℕ, ◌≡◌, ◌≤◌, ◌⊎◌, true, List, [], ◌∷◌, All}
use Rattle.rb_raftlog.specs.Log.{last}
use Rattle.rb_tracker.specs.Commits.{match_of, is_held}
use Rattle.rb_message.specs.declared.kind.MessageKind.TheVariants.{AppendResponse}
use Rattle.rb_message.specs.declared.message.Message.{Message}
use Rattle.rb_message.specs.declared.role.Role.TheVariants.{Candidate, Leader}
use Rattle.rb_node.specs.Node.{PlainNode, NodeStep}
use Rattle.rb_calls.specs.Calling.{Call, Step, after}
use Rattle.rb_calls.specs.Words.{IsLater}

-- a message tells a leader, in its term, that its sender holds the log up to an index or further; the leader's own log reaches it
pub record IsAccepted (n : PlainNode) (m : Message) (matched : ℕ) : Type 0 where
  pub leads : n.role ≡ Leader
  pub of_term : m.term ≡ n.term
  pub index : ℕ
  pub says : m.kind ≡ AppendResponse index
  pub at_most : matched ≤ index
  pub held : matched ≤ last n.log

-- what a node knows a member to hold is no more than before, or is durable where it is the node itself, or its answer says it
abbrev pub RestsOn : PlainNode → Message → PlainNode → ℕ → Type 0
RestsOn old m new id =
    (match_of new.tracker.views id ≤ match_of old.tracker.views id)
    ⊎ (((id ≡ new.id) × (match_of new.tracker.views id ≤ new.log.durable))
    ⊎ ((id ≡ m.from) × IsAccepted old m (match_of new.tracker.views id)))

-- ---- over calls

-- a call brings a leader a member's answer, which says what it holds
abbrev pub Tells : Call → NodeStep → ℕ → ℕ → Type 0
Tells (Step m) t id matched = (id ≡ m.from) × IsAccepted t.node m matched
Tells _ t id matched = ⊥

-- one of some calls does
abbrev pub Told : List Call → NodeStep → ℕ → ℕ → Type 0
Told [] t id matched = ⊥
Told (c ∷ cs) t id matched = Tells c t id matched ⊎ Told cs (after c t) id matched

-- A call brings no answer to an append under the node's own name: its own answers never leave it.
abbrev pub IsOfOthers : ℕ → Call → Type 0
IsOfOthers id (Step m) = (index : ℕ) → m.kind ≡ AppendResponse index → m.from ≡ id → ⊥
IsOfOthers id _ = Unit {0}

-- An answer that waits is the node's own. One to an append is of a term that the node has reached; who leads in that term has its log up to
-- there, and who is in it has taken nothing yet.
pub record IsOwnAnswer (n : PlainNode) (upto : ℕ) (m : Message) : Type 0 where
  pub own : m.from ≡ n.id
  pub reached : (index : ℕ) → m.kind ≡ AppendResponse index → m.term ≤ n.term
  pub leads : (index : ℕ) → m.kind ≡ AppendResponse index → m.term ≡ n.term → n.role ≡ Leader → index ≤ upto
  pub stands : (index : ℕ) → m.kind ≡ AppendResponse index → m.term ≡ n.term → n.role ≡ Candidate → index ≡ 0

abbrev pub HasOwnAnswers : PlainNode → Type 0
HasOwnAnswers n = All (IsOwnAnswer n (last n.log)) n.waiting

-- the part of its own log that a leader counts is durable
abbrev pub CountsDurable : PlainNode → Type 0
CountsDurable n = match_of n.tracker.views n.id ≤ n.log.durable

-- ---- its commit

-- A quorum of the leader's configuration held its commit, by its views, at the moment between two states at which it came to be.
pub record IsHeldBetween (old new : PlainNode) : Type 0 where
  pub moment : PlainNode
  pub since : IsLater old moment
  pub until : IsLater moment new
  pub leads : moment.role ≡ Leader
  pub reached : moment.commit ≡ new.commit
  pub held : is_held moment.tracker moment.commit ≡ true
