-- How an election is won (Ongaro's thesis, section 3.4): who would vote for a candidate, and what passes between them
use Rattle.std.specs.Prelude.{ℕ, ◌≡◌, ◌<◌, ◌||◌, true, false, List, [], ◌∷◌, ◌++◌}
use Rattle.rb_raftlog.specs.Log.{last, last_term, is_up_to_date}
use Rattle.rb_tracker.specs.Quorum.{is_quorum}
use Rattle.rb_tracker.specs.Sets.{has}
use Rattle.rb_message.specs.declared.kind.MessageKind.TheVariants.{Vote, VoteResponse}
use Rattle.rb_message.specs.declared.message.Message.{Message}
use Rattle.rb_message.specs.declared.role.Role.TheVariants.{Candidate, Leader}
use Rattle.rb_node.specs.Node.{PlainNode, message}
use Rattle.rb_calls.specs.Calling.{Call, Step}
use Rattle.rb_laws.specs.Rules.{HasNoLease}

-- a candidate's vote request to a node, and the node's yes
abbrev pub request_to : PlainNode → ℕ → Message
request_to n id = message n.id id n.term (Vote (last_term n.log) (last n.log) false)

abbrev pub yes_from : PlainNode → ℕ → Message
yes_from n id = message id n.id n.term (VoteResponse true)

-- the answers of some nodes come, one after another
abbrev pub yeses : PlainNode → List ℕ → List Call
yeses n [] = []
yeses n (id ∷ ids) = Step (yes_from n id) ∷ yeses n ids

-- a node of an earlier term that holds to no lease, and whose log is no newer than the candidate's
pub record WouldVoteFor (voter n : PlainNode) : Type 0 where
  pub earlier : voter.term < n.term
  pub free : HasNoLease voter
  pub log : is_up_to_date voter.log (last n.log) (last_term n.log) ≡ true

-- it votes for the candidate, in the candidate's term, and its yes waits to be put out
pub record VotesFor (old new n : PlainNode) : Type 0 where
  pub vote : new.vote ≡ n.id
  pub term : new.term ≡ n.term
  pub says : new.waiting ≡ old.waiting ++ yes_from n old.id ∷ []

-- a candidate that nobody has refused, and that has no quorum yet
pub record StillStands (n : PlainNode) : Type 0 where
  pub role : n.role ≡ Candidate
  pub unrefused : n.votes.refused ≡ []
  pub undecided : is_quorum n.tracker.config (λ id. has n.votes.granted id) ≡ false

-- a quorum has voted for a candidate, with the answers of some nodes that are still to come
abbrev pub HasQuorumWith : PlainNode → List ℕ → Type 0
HasQuorumWith n ids = is_quorum n.tracker.config (λ id. has n.votes.granted id || has ids id) ≡ true

pub record LeadsIn (n : PlainNode) (term : ℕ) : Type 0 where
  pub role : n.role ≡ Leader
  pub of_term : n.term ≡ term
