-- What a leader commits (Ongaro's thesis, section 3.6.2)
use Rattle.std.specs.Prelude.{ℕ, ◌≡◌, ◌+◌, ◌<◌, ◌≤◌, ◌||◌, true, false, List, [], ◌∷◌, length, Ok}
use Rattle.rb_raftlog.specs.declared.entry.Entry.{Entry}
use Rattle.rb_raftlog.specs.Log.{last, term_at, entry_at, is_term}
use Rattle.rb_tracker.specs.Commits.{match_of, is_held, holds}
use Rattle.rb_tracker.specs.Quorum.{is_quorum}
use Rattle.rb_tracker.specs.Sets.{has}
use Rattle.rb_tracker.specs.Trackers.{PlainTracker}
use Rattle.rb_message.specs.declared.kind.MessageKind.TheVariants.{AppendResponse}
use Rattle.rb_message.specs.declared.message.Message.{Message}
use Rattle.rb_message.specs.declared.role.Role.TheVariants.{Leader}
use Rattle.rb_node.specs.Node.{PlainNode, message}
use Rattle.rb_calls.specs.Calling.{Call, Step}
use Rattle.rb_calls.specs.Sound.{IsSound, HasViewsOfMembers}

-- a quorum of voters holds an index, and none holds the next
pub record IsHeldUpTo (t : PlainTracker) (i : ℕ) : Type 0 where
  pub some : 0 < length t.config.incoming
  pub held : is_held t i ≡ true
  pub last : is_held t (i + 1) ≡ false

-- A leader has committed all that it may: where a quorum holds the log up to an index past the commit, the entry there is of another term. No member
-- is known to hold more than the leader's log.
pub record HasCommittedAll (n : PlainNode) : Type 0 where
  pub within : (id : ℕ) → match_of n.tracker.views id ≤ last n.log
  pub all : (i : ℕ) → n.commit < i → IsHeldUpTo n.tracker i → is_term (term_at n.log i) n.term ≡ false

-- ---- its last entry

-- a member's answer to a leader that it holds the leader's whole log
abbrev pub ack_from : PlainNode → ℕ → Message
ack_from n id = message id n.id n.term (AppendResponse (last n.log))

-- the answers of some members come, one after another
abbrev pub acks : PlainNode → List ℕ → List Call
acks n [] = []
acks n (id ∷ ids) = Step (ack_from n id) ∷ acks n ids

-- a quorum holds a leader's whole log, with the answers of some members that are still to come
abbrev pub IsHeldWith : PlainNode → List ℕ → Type 0
IsHeldWith n ids = is_quorum n.tracker.config (λ id. holds n.tracker.views (last n.log) id || has ids id) ≡ true

-- a leader of some voters that has committed all that it may
pub record CommitsAll (n : PlainNode) : Type 0 where
  pub sound : IsSound n
  pub members : HasViewsOfMembers n
  pub leads : n.role ≡ Leader
  pub voters : 0 < length n.tracker.config.incoming
  pub all : HasCommittedAll n

-- and whose last entry is of its term
pub record AwaitsAnswers (n : PlainNode) : Type 0 where
  pub leader : CommitsAll n
  pub own : is_term (term_at n.log (last n.log)) n.term ≡ true

-- an entry of an index is committed
pub record HasCommittedEntry (n : PlainNode) (i : ℕ) (e : Entry) : Type 0 where
  pub known : i ≤ n.commit
  pub held : entry_at n.log i ≡ Ok e
