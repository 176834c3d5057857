-- What a node's messages say of it, at the moment at which it puts them out (Ongaro's thesis, sections 3.4 to 3.6, 3.10 and 5.1; etcd raft
-- documentation, "MessageType")
use Rattle.std.specs.Prelude.{ℕ, ◌≡◌, ◌+◌, ◌<◌, ◌≤◌, true, max, List, [], ◌∷◌, ◌++◌, length, All, Ok, Err, Some, ◌⊎◌, Contains, slice_get}
use Rattle.rb_raftlog.specs.declared.entry.Entry.{Entry}
use Rattle.rb_raftlog.specs.declared.raft_log.LogFault.{LogFault}
use Rattle.rb_raftlog.specs.declared.snapshot.Snapshot.{Snapshot}
use Rattle.rb_raftlog.specs.Laws.{AreOfLog}
use Rattle.rb_raftlog.specs.Log.{LogValue, last, last_term as last_term_of, term_at}
use Rattle.rb_tracker.specs.Commits.{match_of}
use Rattle.rb_tracker.specs.Configs.{state_of}
use Rattle.rb_message.specs.Appends.{PlainAppend}
use Rattle.rb_message.specs.declared.kind.MessageKind.{MessageKind}
use Rattle.rb_message.specs.declared.kind.MessageKind.TheVariants as kind
use Rattle.rb_message.specs.declared.message.Message.{Message}
use Rattle.rb_message.specs.declared.role.Role.TheVariants.{Candidate, Leader}
use Rattle.rb_node.specs.Node.{PlainNode, message}
use Rattle.rb_calls.specs.Sound.{IsGrown, HasSoundViews}

-- ---- votes

-- a vote is given
abbrev pub IsYes : Message → Type 0
IsYes m = (m.kind ≡ kind.VoteResponse true) × (0 < m.to)

-- A vote of a term that is promised to a node: the term is at most the voter's, in that term its vote is for that node, and none of its
-- answers that wait gives a vote of the term to another.
pub record IsPromised (n : PlainNode) (term to : ℕ) : Type 0 where
  pub reached : term ≤ n.term
  pub given : n.term ≡ term → n.vote ≡ to
  pub alone : All (λ (m : Message). IsYes m → m.term ≡ term → m.to ≡ to) n.waiting

-- each vote that an answer gives is promised to whom the answer is for; votes are given by answers that wait alone
pub record HasPromises (n : PlainNode) : Type 0 where
  pub kept : All (λ (m : Message). IsYes m → IsPromised n m.term m.to) n.waiting
  pub none_sent : All (λ (m : Message). IsYes m → ⊥) n.sent

-- ---- logs and states

-- An append is the log's: the entry before its entries is one that isn't compacted, with its term; the entries follow it in the log. Its
-- commit is the node's.
pub record IsOfLog (n : PlainNode) (append : PlainAppend) : Type 0 where
  pub past_base : n.log.base ≤ append.prev
  pub prev_term : (term : ℕ) → term_at n.log append.prev ≡ Ok term → append.prev_term ≡ term
  pub no_term : (fault : LogFault) → term_at n.log append.prev ≡ Err fault → append.prev_term ≡ 0
  pub entries : AreOfLog n.log append.prev append.entries
  pub commit : append.commit ≡ n.commit

-- a snapshot is the state as far as it is applied
pub record IsOfState (n : PlainNode) (snapshot : Snapshot) : Type 0 where
  pub index : snapshot.index ≡ n.applied
  pub term : (term : ℕ) → term_at n.log n.applied ≡ Ok term → snapshot.term ≡ term
  pub content : snapshot.content ≡ n.content
  pub config : snapshot.config ≡ state_of n.tracker.config

-- ---- every message

-- What is sent at once. A leader's entries and states, and heartbeats, go to others alone; a heartbeat's commit is at most the receiver's
-- match; a candidate names its last entry; a leader's MsgTimeoutNow goes to whom the lead goes, who is known to hold its whole log;
-- what is for the leader goes to the leader.
abbrev pub SendsBy : MessageKind → PlainNode → Message → Type 0
SendsBy (kind.Append append) n m = (m.term ≡ n.term) × (m.to ≡ n.id → ⊥) × (HasSoundViews n → n.role ≡ Leader) × IsOfLog n append
SendsBy (kind.Snapshot snapshot) n m = (m.term ≡ n.term) × (m.to ≡ n.id → ⊥) × (HasSoundViews n → n.role ≡ Leader) × IsOfState n snapshot
SendsBy (kind.Heartbeat commit) n m =
    (m.term ≡ n.term) × (m.to ≡ n.id → ⊥) × (commit ≤ match_of n.tracker.views m.to) × (commit ≤ n.commit)
SendsBy kind.HeartbeatResponse n m = m.term ≡ n.term
SendsBy kind.TimeoutNow n m =
    (m.term ≡ n.term) × (n.role ≡ Leader) × (m.to ≡ n.transferee) × (match_of n.tracker.views m.to ≡ last n.log)
SendsBy (kind.Vote last_term last_index transfer) n m =
    (m.term ≡ n.term) × (m.to ≡ n.id → ⊥) × (last_term ≡ last_term_of n.log) × (last_index ≡ last n.log) × (n.role ≡ Candidate)
SendsBy (kind.PreVote last_term last_index) n m =
    (m.term ≡ n.term + 1) × (m.to ≡ n.id → ⊥) × (last_term ≡ last_term_of n.log) × (last_index ≡ last n.log)
SendsBy (kind.Proposal body) n m = (m.term ≡ 0) × (m.to ≡ n.lead)
SendsBy (kind.TransferLeader target) n m = (m.term ≡ 0) × (m.to ≡ n.lead)
SendsBy _ n m = ⊥

abbrev pub Sends : PlainNode → Message → Type 0
Sends n m = (m.from ≡ n.id) × SendsBy m.kind n m

-- What waits until it is durable: a vote of the node's term for whom it voted, and what it holds of its log. A candidate has taken nothing
-- from a leader of its term.
abbrev pub AnswersBy : MessageKind → PlainNode → Message → Type 0
AnswersBy (kind.VoteResponse granted) n m = (m.term ≡ n.term) × (granted ≡ true → n.vote ≡ m.to)
AnswersBy (kind.PreVoteResponse granted) n m = Unit {0}
AnswersBy (kind.AppendResponse matched) n m = (m.term ≡ n.term) × (matched ≤ last n.log) × (n.role ≡ Candidate → matched ≡ 0)
AnswersBy (kind.AppendRefusal refused hint) n m = m.term ≡ n.term
AnswersBy _ n m = ⊥

abbrev pub Answers : PlainNode → Message → Type 0
Answers n m = (m.from ≡ n.id) × AnswersBy m.kind n m

-- ---- answers to an append

-- An append's entries are in a log up to an index: at each place of one that isn't compacted is an entry of its term.
abbrev pub HasEntries : LogValue → PlainAppend → ℕ → Type 0
HasEntries log append upto =
    (k : ℕ) (e : Entry) → slice_get append.entries k ≡ Some e → append.prev + 1 + k ≤ upto → log.base < append.prev + 1 + k
    → term_at log (append.prev + 1 + k) ≡ Ok e.term

-- Who accepts an append answers no index past what it was sent and what is committed, and holds the append's entries up to there.
abbrev pub TellsOf : MessageKind → PlainNode → PlainAppend → Type 0
TellsOf (kind.AppendResponse matched) n append =
    (matched ≤ max n.commit (append.prev + length append.entries)) × HasEntries n.log append matched
TellsOf _ n append = Unit {0}

-- one more answer waits, for whom the append came from, and tells what is held
pub record IsAnswered (before : List Message) (from : ℕ) (append : PlainAppend) (new : PlainNode) : Type 0 where
  pub answer : MessageKind
  pub waits : new.waiting ≡ before ++ message new.id from new.term answer ∷ []
  pub tells : TellsOf answer new append

-- ---- the moment

-- A node that has gone on: its term and its commit have not fallen, and where it leads on in its term, its log has only grown.
pub record IsLater (old new : PlainNode) : Type 0 where
  pub id : new.id ≡ old.id
  pub term : old.term ≤ new.term
  pub commit : old.commit ≤ new.commit
  pub leads_on : old.role ≡ Leader → new.role ≡ Leader → new.term ≡ old.term → IsGrown old.log new.log

-- a message is true at a moment between two states of a node
pub record IsTrueBetween (old new : PlainNode) (m : Message) : Type 0 where
  pub moment : PlainNode
  pub since : IsLater old moment
  pub until : IsLater moment new
  pub true_then : Sends moment m ⊎ Answers moment m

-- each message of the node after is one of the node before, or was true at a moment between
abbrev pub AreTrueBetween : PlainNode → PlainNode → List Message → List Message → Type 0
AreTrueBetween old new before now = All (λ (m : Message). Contains before m ⊎ IsTrueBetween old new m) now
