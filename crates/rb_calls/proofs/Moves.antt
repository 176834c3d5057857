-- The single moves of which each call of a node is made, with what is known where each is made.
--
-- A law over calls is a relation between a node before and a node after. Where it allows each move, nothing at all, and one after another, it
-- holds of each way of moves; and each call goes such a way (TellWays, LeaderWays, StepWays, CallWays). So a law's proof is about moves alone.
use Rattle.std.proofs.Common.{[], ◌≡◌, ℕ, ◌+◌, length, Ok, Some, true, ◌≤◌, ◌<◌, None, false, Bool, List, ◌++◌, min, ◌⊎◌, ◌∙◌, ap, append_assoc, sym, append-nil, ◌∷◌, refl}
use Rattle.std.specs.Prelude.{All, slice_get}
use Rattle.rb_raftlog.specs.Bodies.{is_change}
use Rattle.rb_raftlog.specs.Log.{own, last, compact_fault, term_at, entry_at}
use Rattle.rb_raftlog.specs.declared.entry.Body.{Body}
use Rattle.rb_raftlog.specs.declared.entry.Body.TheVariants.{Payload, Change}
use Rattle.rb_raftlog.specs.declared.entry.Entry.{Entry}
use Rattle.rb_raftlog.specs.declared.snapshot.Snapshot.{Snapshot}
use Rattle.rb_vocab.specs.declared.change.Transition.{Transition}
use Rattle.rb_vocab.specs.declared.change.Transition.TheVariants.{Auto}
use Rattle.rb_vocab.specs.declared.change.Word.{Word}
use Rattle.rb_tracker.specs.Active.{others_marked_inactive}
use Rattle.rb_tracker.specs.Ballots.{answered, vote_result}
use Rattle.rb_tracker.specs.Commits.{commit_of}
use Rattle.rb_tracker.specs.Configs.{members, is_joint}
use Rattle.rb_tracker.specs.Progresses.{PlainProgress, acked}
use Rattle.rb_tracker.specs.Trackers.{PlainTracker, view_at, configured, ids_of, place}
use Rattle.rb_tracker.specs.declared.config.Config.{Config}
use Rattle.rb_tracker.specs.declared.votes.Votes.{Votes}
use Rattle.rb_tracker.specs.declared.votes.VoteResult.TheVariants as vote
use Rattle.rb_message.specs.Appends.{PlainAppend}
use Rattle.rb_message.specs.declared.event.Event.{Event}
use Rattle.rb_message.specs.declared.hard_state.HardState.{HardState}
use Rattle.rb_message.specs.declared.kind.MessageKind.{MessageKind}
use Rattle.rb_message.specs.declared.kind.MessageKind.TheVariants as kind
use Rattle.rb_message.specs.declared.message.Message.{Message}
use Rattle.rb_message.specs.declared.role.Role.TheVariants as role
use Rattle.rb_node.specs.Campaigns.{why_no_campaign, precandidate, candidate}
use Rattle.rb_node.specs.Changing.{without_views, missing}
use Rattle.rb_node.specs.Following.{with_appended, restored_to}
use Rattle.rb_node.specs.Leading.{can_commit, with_views, leading}
use Rattle.rb_node.specs.Node.{PlainNode, NodeStep, with_node, with_event}
use Rattle.rb_node.specs.declared.options.Options.{Options}
use Rattle.rb_node.specs.Readying.{saved}
use Rattle.rb_node.specs.Sends.{with_view_at}
use Rattle.rb_node.specs.Terms.{reset}
use Rattle.rb_node.specs.Votes.{grants, voted_for}
use Rattle.rb_calls.specs.Calling.{compacted_at}
use Rattle.rb_calls.specs.Events.{OnlyAdded}
use Rattle.rb_calls.specs.Sound.{IsSound, IsSoundView}
use Rattle.rb_calls.specs.Words.{Sends, Answers}
use Rattle.rb_calls.proofs.Goes.{Core, core, Ways}
use Rattle.rb_calls.proofs.Saying.{Words, words, with_sent, with_waiting}

-- ---- what the laws look at

-- what a node goes back to when it restarts, but for its log and its id
pub record Stable : Type 0 where
  pub start : Snapshot
  pub saved : HardState
  pub restored : Bool
  pub options : Options

abbrev pub stable : PlainNode → Stable
stable n = record { start = n.start; saved = n.saved; restored = n.restored; options = n.options }

pub record Whole : Type 0 where
  pub core : Core
  pub tracker : PlainTracker
  pub votes : Votes
  pub words : Words
  pub pending : ℕ
  pub stable : Stable

abbrev pub whole : PlainNode → Whole
whole n = record { core = core n; tracker = n.tracker; votes = n.votes; words = words n; pending = n.pending_change; stable = stable n }

-- ---- what a leader tells, and its commit

-- a proposal is passed on alone
abbrev pub IsNoProposal : MessageKind → Type 0
IsNoProposal (kind.Proposal body) = ⊥
IsNoProposal _ = Unit {0}

pub data TellMove : PlainNode → PlainNode → Type 0 where
  -- nothing that a law looks at
  Idle : (a b : PlainNode) → whole b ≡ whole a → TellMove a b
  Sent : (n : PlainNode) (m : Message) → IsNoProposal m.kind → (IsSound n → Sends n m) → TellMove n (with_sent n m)
  -- a view is written, which matches what it did
  Viewed : (n : PlainNode) (at : ℕ) (view new : PlainProgress) → view_at n.tracker.views at ≡ Some view → new.matched ≡ view.matched
      → (IsSound n → IsSoundView view → IsSoundView new) → TellMove n (with_view_at n at new)
  Commits : (n : PlainNode) → can_commit n (commit_of n.tracker) ≡ true → TellMove n (record n { commit = commit_of n.tracker })

-- ---- a change of the configuration

abbrev pub following : PlainNode → ℕ → ℕ → PlainNode
following n term lead = record (reset n term) { lead = lead; role = role.Follower }

abbrev pub in_config : PlainNode → Config → PlainNode
in_config n c = record n { tracker = configured n.tracker c }

-- with views of the members alone, and of each
abbrev pub with_members : PlainNode → PlainNode
with_members n =
    let left = without_views n (ids_of n.tracker.views) in
    with_views left (missing left.tracker.views (members left.tracker.config)) true

pub data ChangeMove : PlainNode → PlainNode → Type 0 where
  Unchanged : (n : PlainNode) → ChangeMove n n
  Configures : (n : PlainNode) (c : Config) → (n.role ≡ role.Leader → ⊥) → ChangeMove n (in_config n c)
  Resigns : (n : PlainNode) (c : Config) → ChangeMove n (following (in_config n c) n.term 0)
  Revises : (n : PlainNode) (c : Config) → n.role ≡ role.Leader → ChangeMove n (with_members (in_config n c))

-- ---- a message, or a campaign

-- a message of a kind came
pub record Came (w : Ways) (k : MessageKind) : Type 0 where
  pub message : Message
  pub comes : w.came message
  pub is : message.kind ≡ k

-- and is of the node's term
pub record CameNow (w : Ways) (n : PlainNode) (k : MessageKind) : Type 0 where
  pub came : Came w k
  pub of_term : came.message.term ≡ n.term

-- an append came, and the log has it up to its end
pub record HoldsAppend (w : Ways) (n : PlainNode) (i : ℕ) : Type 0 where
  pub append : PlainAppend
  pub came : CameNow w n (kind.Append append)
  pub end : i ≡ append.prev + length append.entries
  pub first : term_at n.log append.prev ≡ Ok append.prev_term
  pub held : (k : ℕ) (e : Entry) → slice_get append.entries k ≡ Some e → term_at n.log (append.prev + 1 + k) ≡ Ok e.term

-- what a node says that it holds: what is committed, its own log where it leads, or an append that came
abbrev pub MaySay : Ways → PlainNode → ℕ → Type 0
MaySay w n i = (i ≤ n.commit) ⊎ (((n.role ≡ role.Leader) × (i ≤ last n.log)) ⊎ HoldsAppend w n i)

-- why a follower's commit is an index: it was so; by an append that the log has up to there; by a heartbeat; by a snapshot of an entry that
-- the log has
pub data Learned (w : Ways) (n : PlainNode) (i : ℕ) : Type 0 where
  Known : i ≡ n.commit → Learned w n i
  By_append : (j : ℕ) (h : HoldsAppend w n j) → i ≤ j → i ≤ h.append.commit → Learned w n i
  By_beat : (commit : ℕ) (m : CameNow w n (kind.Heartbeat commit)) → i ≤ commit → i ≤ last n.log → Learned w n i
  By_snapshot : (s : Snapshot) → CameNow w n (kind.Snapshot s) → i ≡ s.index → term_at n.log i ≡ Ok s.term → Learned w n i

-- what a leader appends is empty, or is proposed, or leaves a joint configuration
abbrev pub Puts : Ways → PlainNode → Body → Type 0
Puts w n body = (body ≡ Payload []) ⊎ (Came w (kind.Proposal body) ⊎ ((body ≡ Change Auto []) × (is_joint n.tracker.config ≡ true)))

-- a change becomes the pending one, where each before it is applied; any other entry leaves that as it is
abbrev pub Marks : PlainNode → Body → ℕ → Type 0
Marks n body pending = ((is_change body ≡ false) × (pending ≡ n.pending_change)) ⊎ ((n.pending_change ≤ n.applied) × (pending ≡ last n.log + 1))

pub data StepMove (w : Ways) : PlainNode → PlainNode → Type 0 where
  StepTells : {a b : PlainNode} → TellMove a b → StepMove w a b
  -- what came is passed on to the leader
  Passes : (n : PlainNode) (m : Message) → Came w m.kind → (IsSound n → Sends n m) → StepMove w n (with_sent n m)
  Waits : (n : PlainNode) (m : Message) → (IsSound n → Answers n m) → ((i : ℕ) → m.kind ≡ kind.AppendResponse i → MaySay w n i) → StepMove w n (with_waiting n m)
  Follows : (n : PlainNode) (term lead : ℕ) → n.term ≤ term → (n.role ≡ role.Leader → n.term < term) → StepMove w n (following n term lead)
  Asks : (n : PlainNode) → why_no_campaign n ≡ None → StepMove w n (precandidate n)
  Stands : (n : PlainNode) → why_no_campaign n ≡ None → StepMove w n (candidate n)
  Leads : (n : PlainNode) → n.role ≡ role.Candidate → w.elected n.term → vote_result n.tracker.config n.votes ≡ vote.Won → StepMove w n (leading n)
  Votes_for : (n : PlainNode) (m : Message) (last_term last_index : ℕ) (transfer : Bool) → grants n m last_term last_index false ≡ true → w.given m.from n.term
      → w.came m → m.kind ≡ kind.Vote last_term last_index transfer → m.term ≡ n.term → StepMove w n (voted_for n m.from)
  Counts : (n : PlainNode) (m : Message) (granted : Bool) → w.came m
      → (n.role ≡ role.Candidate → (m.kind ≡ kind.VoteResponse granted) × (m.term ≡ n.term)) → StepMove w n (record n { votes = answered n.votes m.from granted })
  -- an entry of its own
  Appends : (n : PlainNode) (body : Body) (pending : ℕ) → n.role ≡ role.Leader → Puts w n body → Marks n body pending
      → StepMove w n (record n { log = own n.log (record { term = n.term; body = body }); pending_change = pending })
  -- a leader's entries, commit and snapshot
  Takes : (n : PlainNode) (from : ℕ) (append : PlainAppend) → n.role ≡ role.Follower → CameNow w n (kind.Append append) → StepMove w n (with_appended n from append)
  Learns : (n : PlainNode) (i : ℕ) → n.role ≡ role.Follower → n.commit ≤ i → (IsSound n → i ≤ last n.log) → Learned w n i → StepMove w n (record n { commit = i })
  Restores : (n : PlainNode) (s : Snapshot) → n.role ≡ role.Follower → n.commit < s.index → CameNow w n (kind.Snapshot s)
      → (term_at n.log s.index ≡ Ok s.term → ⊥) → StepMove w n (restored_to n s)
  -- a member's answer
  Acks : (n : PlainNode) (at from i : ℕ) (view : PlainProgress) → n.role ≡ role.Leader → place n.tracker.views from ≡ Some at → view_at n.tracker.views at ≡ Some view
      → view.matched ≤ i → w.matched n.term from i → StepMove w n (with_view_at n at (acked view i))

-- ---- whatever is called; some is known only where the node was sound at first

abbrev pub ChangesNothing : Entry → Type 0
ChangesNothing e = is_change e.body ≡ false

abbrev pub HasChange : PlainNode → Type 0
HasChange n = All ChangesNothing n.log.entries → ⊥

-- the entry past the applied ones, which is committed and durable
pub record IsNext (n : PlainNode) (i : ℕ) (e : Entry) : Type 0 where
  pub next : i ≡ n.applied + 1
  pub known : i ≤ n.commit
  pub durable : i ≤ n.log.durable
  pub held : entry_at n.log i ≡ Ok e

pub data CallMove (sound : Type 0) (w : Ways) : PlainNode → PlainNode → Type 0 where
  CallChanges : {a b : PlainNode} → ChangeMove a b → HasChange a → CallMove sound w a b
  CallSteps : {a b : PlainNode} → StepMove w a b → CallMove sound w a b
  -- a committed entry is applied: a change, or a payload, which goes to the end of the content
  Applies : (n : PlainNode) (i : ℕ) (e : Entry) (transition : Transition) (words : List Word) → e.body ≡ Change transition words → (sound → IsNext n i e)
      → CallMove sound w n (record n { applied = i })
  Fills : (n : PlainNode) (i : ℕ) (e : Entry) (bytes : List ℕ) → e.body ≡ Payload bytes → (sound → IsNext n i e)
      → CallMove sound w n (record n { applied = i; content = n.content ++ bytes })
  -- a leader looks at its quorum, and leads no more where it has heard of none
  Unmarks : (n : PlainNode) → CallMove sound w n (record n { tracker = others_marked_inactive n.tracker n.id })
  Gives_up : (n : PlainNode) → CallMove sound w n (following n n.term 0)
  Saves : (n : PlainNode) → (sound → IsSound n) → CallMove sound w n (saved n)
  Compacts : (n : PlainNode) (i : ℕ) → compact_fault n.log i (min n.applied n.log.durable) ≡ None
      → CallMove sound w n (compacted_at n i)

-- ---- ways of moves, of a node and of a turn

pub data Way (M : PlainNode → PlainNode → Type 0) : PlainNode → PlainNode → Type 0 where
  One : {a b : PlainNode} → M a b → Way M a b
  Then : {a b c : PlainNode} → Way M a b → Way M b c → Way M a c

pub data Path (M : PlainNode → PlainNode → Type 0) : NodeStep → NodeStep → Type 0 where
  Goes_on : (t : NodeStep) {b : PlainNode} → Way M t.node b → Path M t (with_node t b)
  Shows : (t : NodeStep) (e : Event) → Path M t (with_event t e)
  Onward : {t u v : NodeStep} → Path M t u → Path M u v → Path M t v

-- ---- what a relation must allow, to hold over ways of moves

pub record Allows (M R : PlainNode → PlainNode → Type 0) : Type 0 where
  pub nothing : (n : PlainNode) → R n n
  pub chain : (a b c : PlainNode) → R a b → R b c → R a c
  pub each : (a b : PlainNode) → M a b → R a b

pub over_way : {M R : PlainNode → PlainNode → Type 0} → Allows M R → {a b : PlainNode} → Way M a b → R a b
over_way p (One m) = p.each _ _ m
over_way p (Then x y) = p.chain _ _ _ (over_way p x) (over_way p y)

pub over : {M R : PlainNode → PlainNode → Type 0} → Allows M R → {t u : NodeStep} → Path M t u → R t.node u.node
over p (Goes_on t x) = over_way p x
over p (Shows t e) = p.nothing t.node
over p (Onward x y) = p.chain _ _ _ (over p x) (over p y)

-- a way of moves of one kind is one of a kind that has them
pub wider : {M N : PlainNode → PlainNode → Type 0} → ((a b : PlainNode) → M a b → N a b) → {a b : PlainNode} → Way M a b → Way N a b
wider f (One m) = One (f _ _ m)
wider f (Then x y) = Then (wider f x) (wider f y)

pub wider_path : {M N : PlainNode → PlainNode → Type 0} → ((a b : PlainNode) → M a b → N a b) → {t u : NodeStep} → Path M t u → Path N t u
wider_path f (Goes_on t x) = Goes_on t (wider f x)
wider_path f (Shows t e) = Shows t e
wider_path f (Onward x y) = Onward (wider_path f x) (wider_path f y)

-- events are only added
pub added_then : {a b c : List Event} → OnlyAdded a b → OnlyAdded b c → OnlyAdded a c
added_then {a} p q = record { more = p.more ++ q.more; is = q.is ∙ ap (λ (es : List Event). es ++ q.more) p.is ∙ append_assoc a p.more q.more }

pub added : {M : PlainNode → PlainNode → Type 0} {t u : NodeStep} → Path M t u → OnlyAdded t.events u.events
added (Goes_on t x) = record { more = []; is = sym (append-nil t.events) }
added (Shows t e) = record { more = e ∷ []; is = refl }
added (Onward x y) = added_then (added x) (added y)
