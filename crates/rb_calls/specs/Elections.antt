-- Votes and elections (Ongaro's thesis, section 3.4), as the messages that decide them
use Rattle.std.specs.Prelude.{ℕ, ◌≡◌, ◌⊎◌, Bool, true, List, [], ◌∷◌, if◌then◌else◌, ◌==◌}
use Rattle.rb_raftlog.specs.Log.{is_up_to_date}
use Rattle.rb_tracker.specs.Ballots.{answered, vote_result}
use Rattle.rb_tracker.specs.declared.votes.VoteResult.TheVariants.{Won}
use Rattle.rb_message.specs.declared.kind.MessageKind.TheVariants.{Vote, VoteResponse}
use Rattle.rb_message.specs.declared.message.Message.{Message}
use Rattle.rb_message.specs.declared.role.Role.TheVariants.{Candidate, Leader}
use Rattle.rb_node.specs.Node.{PlainNode, NodeStep, with_node}
use Rattle.rb_node.specs.Changing.{applied_all, joint_left}
use Rattle.rb_node.specs.Step.{stepped}
use Rattle.rb_node.specs.Readying.{applying, saved}
use Rattle.rb_calls.specs.Calling.{Call, Step, Advance}

-- a message asks a node for its vote, for a log that is at least as new as the node's
pub record IsGranted (n : PlainNode) (m : Message) : Type 0 where
  pub last_term : ℕ
  pub last_index : ℕ
  pub transfer : Bool
  pub asks : m.kind ≡ Vote last_term last_index transfer
  pub is_new : is_up_to_date n.log last_index last_term ≡ true

-- a message answers a candidate of its term, and with it a quorum has granted
pub record IsElected (n : PlainNode) (m : Message) : Type 0 where
  pub stands : n.role ≡ Candidate
  pub of_term : m.term ≡ n.term
  pub granted : Bool
  pub answers : m.kind ≡ VoteResponse granted
  pub won : vote_result n.tracker.config (answered n.votes m.from granted) ≡ Won

-- a node votes for nobody, or as before in the same term, or for itself, or as it is said
abbrev pub VotesOnly : PlainNode → PlainNode → Type 0 → Type 0
VotesOnly old new granted =
    (new.vote ≡ 0) ⊎ (((new.term ≡ old.term) × (new.vote ≡ old.vote)) ⊎ ((new.vote ≡ new.id) ⊎ granted))

-- a node that leads led before in the same term, or was elected as it is said
abbrev pub LeadsOnly : PlainNode → PlainNode → Type 0 → Type 0
LeadsOnly old new elected = new.role ≡ Leader → ((old.role ≡ Leader) × (new.term ≡ old.term)) ⊎ elected

-- one of a node's own answers, which it takes in one after another, asks for the vote that is given, in its term
abbrev pub OwnGrants : ℕ → NodeStep → List Message → ℕ → ℕ → Type 0
OwnGrants id t [] vote term = ⊥
OwnGrants id t (m ∷ ms) vote term =
    ((m.to ≡ id) × (vote ≡ m.from) × (term ≡ m.term) × IsGranted t.node m) ⊎ OwnGrants id (if m.to == id then stepped t m else t) ms vote term

-- or decides the election
abbrev pub OwnElects : ℕ → NodeStep → List Message → ℕ → Type 0
OwnElects id t [] term = ⊥
OwnElects id t (m ∷ ms) term = ((m.to ≡ id) × (term ≡ t.node.term) × IsElected t.node m) ⊎ OwnElects id (if m.to == id then stepped t m else t) ms term

-- the turn in which a node that advances takes its own answers in
abbrev pub own_turn : NodeStep → NodeStep
own_turn t = joint_left (applied_all (with_node t (saved t.node)) t.node.applied (applying t.node))

-- how a call may give a vote in a term: by a message of the term that asks for it
abbrev pub Granted : Call → NodeStep → ℕ → ℕ → Type 0
Granted (Step m) t vote term = (vote ≡ m.from) × (term ≡ m.term) × IsGranted t.node m
Granted Advance t vote term = OwnGrants t.node.id (own_turn t) t.node.waiting vote term
Granted _ t vote term = ⊥

-- how a call may win an election of a term: by an answer of a quorum's last voter
abbrev pub Elected : Call → NodeStep → ℕ → Type 0
Elected (Step m) t term = (term ≡ t.node.term) × IsElected t.node m
Elected Advance t term = OwnElects t.node.id (own_turn t) t.node.waiting term
Elected _ t term = ⊥
