-- Rules of single calls, in the words of the laws: terms, timers, windows, and changes of the configuration
use Rattle.std.specs.Prelude.{ℕ, ◌≡◌, ◌<◌, ◌≤◌, ◌⊎◌, true, false, [], ◌∷◌, ◌++◌, Ok}
use Rattle.rb_raftlog.specs.Bodies.{is_change}
use Rattle.rb_raftlog.specs.declared.entry.Entry.{Entry}
use Rattle.rb_raftlog.specs.Log.{LogValue, entry_at, is_up_to_date}
use Rattle.rb_message.specs.declared.event.WhyRefused.{WhyRefused}
use Rattle.rb_message.specs.declared.event.WhyRefused.TheVariants as why_not
use Rattle.rb_message.specs.declared.hard_state.HardState.{HardState}
use Rattle.rb_message.specs.declared.kind.MessageKind.{MessageKind}
use Rattle.rb_message.specs.declared.kind.MessageKind.TheVariants as kind
use Rattle.rb_message.specs.declared.role.Role.TheVariants.{Leader}
use Rattle.rb_message.specs.declared.message.Message.{Message}
use Rattle.rb_node.specs.declared.limits.TheConstants.{ELECTION_TICKS}
use Rattle.rb_node.specs.declared.options.Options.{Options}
use Rattle.rb_node.specs.Node.{PlainNode, message}
use Rattle.rb_calls.specs.Learning.{IsLeaders}

-- ---- terms

-- A message of a term that some node is in. A question before a vote and a yes to it name the term after it; proposals and requests to
-- transfer the leadership name none; a vote request may meet a lease.
abbrev pub ShowsTerm : MessageKind → Type 0
ShowsTerm (kind.Vote last_term last_index transfer) = transfer ≡ true
ShowsTerm (kind.PreVote last_term last_index) = ⊥
ShowsTerm (kind.PreVoteResponse granted) = granted ≡ false
ShowsTerm (kind.Proposal body) = ⊥
ShowsTerm (kind.TransferLeader target) = ⊥
ShowsTerm _ = Unit {0}

-- what keeps a leader's followers: appends and heartbeats
abbrev pub KeepsFollowers : MessageKind → Type 0
KeepsFollowers (kind.Append append) = Unit {0}
KeepsFollowers (kind.Heartbeat commit) = Unit {0}
KeepsFollowers _ = ⊥

-- a node that asks before votes, or checks its quorum, shows its term to leaders of earlier ones
abbrev pub ShowsItsTerm : Options → Type 0
ShowsItsTerm o = (o.pre_vote ≡ true) ⊎ (o.check_quorum ≡ true)

-- a node holds to no lease: it doesn't check its quorum, or knows of no leader, or hasn't heard of it for an election timeout
abbrev pub HasNoLease : PlainNode → Type 0
HasNoLease n = (n.options.check_quorum ≡ false) ⊎ ((n.lead ≡ 0) ⊎ (ELECTION_TICKS ≤ n.clock.elapsed))

-- ---- who leads

-- The leader that a node knows of is the one that it knew of, or none, or itself since it leads, or whoever sent a leader's message of the
-- node's term.
abbrev pub KnowsLeader : PlainNode → Message → PlainNode → Type 0
KnowsLeader old m new =
    (new.lead ≡ old.lead) ⊎ ((new.lead ≡ 0) ⊎ (((new.role ≡ Leader) × (new.lead ≡ new.id)) ⊎ (IsLeaders m.kind × (new.lead ≡ m.from) × (m.term ≡ new.term))))

-- no entry past an index is a change
abbrev pub NoChangePast : LogValue → ℕ → Type 0
NoChangePast v index = (i : ℕ) (e : Entry) → index < i → entry_at v i ≡ Ok e → is_change e.body ≡ false

-- a leader knows itself as the leader, and up to which index a change may be in its log
abbrev pub LeadsKnowing : PlainNode → Type 0
LeadsKnowing n = n.role ≡ Leader → (n.lead ≡ n.id) × NoChangePast n.log n.pending_change

-- ---- a refused vote

-- A reason to refuse a candidate's request holds: its log is older; or the node's vote is another's; or the node has given none, but knows a leader.
abbrev pub IsReason : PlainNode → Message → ℕ → ℕ → WhyRefused → Type 0
IsReason n m last_term last_index (why_not.OlderLog term index own_term own_index) =
    (term ≡ last_term) × (index ≡ last_index) × (is_up_to_date n.log last_index last_term ≡ false)
IsReason n m last_term last_index (why_not.Voted term vote) = (vote ≡ n.vote) × (vote ≡ 0 → ⊥) × (vote ≡ m.from → ⊥)
IsReason n m last_term last_index (why_not.KnowsLeader term lead) = (n.vote ≡ 0) × (lead ≡ n.lead) × (lead ≡ 0 → ⊥)
IsReason n m last_term last_index (why_not.EarlierTerm term own) = m.term < n.term

-- ---- ready

-- a hard state is a node's
pub record IsHardStateOf (h : HardState) (n : PlainNode) : Type 0 where
  pub term : h.term ≡ n.term
  pub vote : h.vote ≡ n.vote
  pub commit : h.commit ≡ n.commit

-- ---- windows

abbrev pub HasNoEntries : MessageKind → Type 0
HasNoEntries (kind.Append append) = append.entries ≡ []
HasNoEntries (kind.Snapshot snapshot) = Unit {0}
HasNoEntries _ = ⊥

-- a node sends nothing more, or one message that has no entries
abbrev pub SendsNoEntries : PlainNode → ℕ → PlainNode → Type 0
SendsNoEntries old to new = (new.sent ≡ old.sent) ⊎ ((k : MessageKind) × HasNoEntries k × (new.sent ≡ old.sent ++ message old.id to old.term k ∷ []))

-- ---- changes of the configuration

-- a log has a change after one index and up to another
pub record HasChangeIn (v : LogValue) (after upto : ℕ) : Type 0 where
  pub index : ℕ
  pub entry : Entry
  pub past : after < index
  pub within : index ≤ upto
  pub held : entry_at v index ≡ Ok entry
  pub changes : is_change entry.body ≡ true
