-- How a node that alone times out is elected, message by message (Ongaro's thesis, section 3.4): no other timeout passes, and each message is delivered
use Rattle.std.specs.Prelude.{ℕ, zero, suc, ◌≡◌, ◌+◌, ◌-◌, ◌<◌, true, false, List, [], ◌∷◌, ◌++◌, Some, slice_get}
use Rattle.rb_tracker.specs.Configs.{voters}
use Rattle.rb_tracker.specs.Quorum.{is_quorum}
use Rattle.rb_tracker.specs.Sets.{has}
use Rattle.rb_node.specs.Node.{PlainNode}
use Rattle.rb_calls.specs.Calling.{Call, Step, Tick, Advance}
use Rattle.rb_calls.specs.Sound.{IsSound}
use Rattle.rb_laws.specs.Choices.{HasNothing}
use Rattle.rb_laws.specs.Network.{Network, Happening}
use Rattle.rb_laws.specs.Timing.{CanTimeOut}
use Rattle.rb_laws.specs.Winning.{request_to, yes_from, WouldVoteFor}

-- ---- what happens

abbrev pub call_at : ℕ → Call → Happening
call_at place call = record { place = place; call = call; told = [] }

-- a number of ticks pass at a node
abbrev pub ticks_at : ℕ → ℕ → List Happening
ticks_at place zero = []
ticks_at place (suc n) = call_at place Tick ∷ ticks_at place n

-- the nodes at some places get a candidate's request, one after another, and each puts out what it has to say
abbrev pub requests_come : PlainNode → List ℕ → List Happening
requests_come n [] = []
requests_come n (place ∷ places) = call_at place (Step (request_to n (place + 1))) ∷ call_at place Advance ∷ requests_come n places

-- and the candidate gets their votes
abbrev pub votes_come : PlainNode → ℕ → List ℕ → List Happening
votes_come n at [] = []
votes_come n at (place ∷ places) = call_at at (Step (yes_from n (place + 1))) ∷ votes_come n at places

abbrev pub in_next_term : PlainNode → PlainNode
in_next_term n = record n { term = n.term + 1 }

-- one node's timeout passes, it puts out its requests, they are delivered, and so are the votes
abbrev pub lone_election : ℕ → PlainNode → List ℕ → List Happening
lone_election at n places =
    let c = in_next_term n in
    ticks_at at (n.clock.timeout - n.clock.elapsed) ++ (call_at at Advance ∷ (requests_come c places ++ votes_come c at places))

-- ---- where it happens

abbrev pub ids_at : List ℕ → List ℕ
ids_at [] = []
ids_at (place ∷ places) = (place + 1) ∷ ids_at places

-- no place stands in a list twice
abbrev pub AreApart : List ℕ → Type 0
AreApart [] = Unit {0}
AreApart (place ∷ places) = (has places place ≡ false) × AreApart places

-- The node at a place is a voter, and would vote for a candidate: it is of an earlier term, holds to no lease, and its log is no newer.
pub record WouldVoteAt (s : Network) (n : PlainNode) (place : ℕ) : Type 0 where
  pub node : PlainNode
  pub stands : slice_get s.nodes place ≡ Some node
  pub own : node.id ≡ place + 1
  pub votes : has (voters n.tracker.config) (place + 1) ≡ true
  pub would : WouldVoteFor node (in_next_term n)

-- A node that may campaign, without asking first, has nothing to do but to wait for its timeout; with it, the nodes at some places make a quorum, and
-- would vote for it.
pub record TimesOutAlone (s : Network) (at : ℕ) (n : PlainNode) (places : List ℕ) : Type 0 where
  pub stands : slice_get s.nodes at ≡ Some n
  pub own : n.id ≡ at + 1
  pub sound : IsSound n
  pub can : CanTimeOut n
  pub direct : n.options.pre_vote ≡ false
  pub early : n.clock.elapsed < n.clock.timeout
  pub idle : HasNothing n
  pub apart : AreApart (at ∷ places)
  pub each : (place : ℕ) → has places place ≡ true → WouldVoteAt s n place
  pub quorum : is_quorum n.tracker.config (λ id. has (n.id ∷ ids_at places) id) ≡ true
