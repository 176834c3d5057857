-- Who campaigns, what goes into a leader's log, what takes effect, and when nothing is ready (Ongaro's thesis, sections 3.4, 4.1 and 4.2;
-- etcd raft documentation, "Ready")
use Rattle.std.specs.Prelude.{ℕ, ◌≡◌, ◌≤◌, ◌⊎◌, true, false, List, [], ◌∷◌, ◌++◌, None}
use Rattle.rb_raftlog.specs.declared.entry.Body.{Body}
use Rattle.rb_raftlog.specs.declared.entry.Body.TheVariants.{Payload, Change}
use Rattle.rb_raftlog.specs.declared.entry.Entry.{Entry}
use Rattle.rb_raftlog.specs.Log.{own, has_change}
use Rattle.rb_tracker.specs.Configs.{is_voter}
use Rattle.rb_message.specs.declared.role.Role.TheVariants.{Follower, Leader}
use Rattle.rb_node.specs.Node.{PlainNode}
use Rattle.rb_node.specs.Readying.{ready}

-- a voter that doesn't lead, whose restored snapshot is saved, and that has applied each change that is committed
pub record MayCampaign (n : PlainNode) : Type 0 where
  pub follows : n.role ≡ Leader → ⊥
  pub votes : is_voter n.tracker.config n.id ≡ true
  pub saved : n.restored ≡ false
  pub no_change : has_change n.log n.applied n.commit ≡ false

-- a proposed change goes into the log only where each change that may be in it is applied; else an empty entry does, or nothing
abbrev pub PutsChange : PlainNode → PlainNode → Body → Type 0
PutsChange old new body =
    (new.log ≡ old.log)
    ⊎ ((new.log ≡ own old.log (record { term = old.term; body = Payload [] }))
    ⊎ ((old.pending_change ≤ old.applied) × (new.log ≡ own old.log (record { term = old.term; body = body }))))

-- the lead may be handed to another voter
pub record MayTakeLead (n : PlainNode) (target : ℕ) : Type 0 where
  pub votes : is_voter n.tracker.config target ≡ true
  pub another : target ≡ n.id → ⊥

-- a leader that steps down in its term follows nobody
abbrev pub StepsDown : PlainNode → PlainNode → Type 0
StepsDown old new = (new.role ≡ Follower) × (new.lead ≡ 0) × (new.term ≡ old.term)

-- the bytes that entries bring, in order
abbrev pub bytes_of : Body → List ℕ
bytes_of (Payload bytes) = bytes
bytes_of (Change _ _) = []

abbrev pub payloads : List Entry → List ℕ
payloads [] = []
payloads (e ∷ es) = bytes_of e.body ++ payloads es

-- nothing is to be saved, applied or sent, and nothing waits
pub record HasNothing (n : PlainNode) : Type 0 where
  pub hard : (ready n).hard ≡ None
  pub snapshot : (ready n).snapshot ≡ None
  pub save : (ready n).save ≡ []
  pub apply : (ready n).apply ≡ []
  pub sent : n.sent ≡ []
  pub waiting : n.waiting ≡ []
