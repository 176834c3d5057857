-- What a change makes of each member (etcd raft documentation, "Learners" and "Configuration changes"; Ongaro's thesis, sections 4.2.1
-- and 4.3), and what further answers make of a vote (section 3.4)
use Rattle.std.specs.Prelude.{ℕ, ◌≡◌, ◌↔◌, ◌⊎◌, Bool, true, false, List, [], ◌∷◌}
use Rattle.rb_tracker.specs.Sets.{has}
use Rattle.rb_tracker.specs.Ballots.{answered}
use Rattle.rb_tracker.specs.declared.config.Config.{Config}
use Rattle.rb_tracker.specs.declared.votes.Votes.{Votes}

-- one member is among the incoming voters, the learners and those that are to learn later, as it is said; nobody else moves
pub record Moves (c d : Config) (id : ℕ) (votes learns waits : Bool) : Type 0 where
  pub voting : has d.incoming id ≡ votes
  pub learning : has d.learners id ≡ learns
  pub waiting : has d.next id ≡ waits
  pub other_voters : (y : ℕ) → (id ≡ y → ⊥) → has d.incoming y ≡ has c.incoming y
  pub other_learners : (y : ℕ) → (id ≡ y → ⊥) → has d.learners y ≡ has c.learners y
  pub others_waiting : (y : ℕ) → (id ≡ y → ⊥) → has d.next y ≡ has c.next y
  pub outgoing : d.outgoing ≡ c.outgoing

-- a joint configuration is left: its incoming voters decide alone, and who was to learn learns
pub record IsLeft (c d : Config) : Type 0 where
  pub alone : d.outgoing ≡ []
  pub nobody_waits : d.next ≡ []
  pub not_auto : d.auto ≡ false
  pub learns : (id : ℕ) → (has d.learners id ≡ true) ↔ ((has c.learners id ≡ true) ⊎ (has c.next id ≡ true))

-- one answer after another: of whom, and whether it grants
abbrev pub answered_all : Votes → List (ℕ × Bool) → Votes
answered_all v [] = v
answered_all v (a ∷ more) = answered_all (answered v a.0 a.1) more

-- an answer that grants, of each of some ids
abbrev pub grants_of : List ℕ → List (ℕ × Bool)
grants_of [] = []
grants_of (id ∷ ids) = (id, true) ∷ grants_of ids
