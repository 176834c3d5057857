-- Majorities and quorums (Ongaro's thesis, sections 3.4 and 4.3)
use Rattle.std.specs.Prelude.{ℕ, ◌≡◌, ◌<◌, ◌*◌, Bool, true, ◌&&◌, ◌||◌, List, length, count_by, nat_lt, ◌==◌}
use Rattle.rb_tracker.specs.Sets.{has}
use Rattle.rb_tracker.specs.Configs.{is_voter}
use Rattle.rb_tracker.specs.declared.config.Config.{Config}

-- more than half of the voters have it; of no voters, most do
abbrev pub is_majority : List ℕ → (ℕ → Bool) → Bool
is_majority voters having = length voters == 0 || nat_lt (length voters) (2 * count_by having voters)

-- most of the incoming and most of the outgoing voters have it: the rule of joint consensus
abbrev pub is_quorum : Config → (ℕ → Bool) → Bool
is_quorum c having = is_majority c.incoming having && is_majority c.outgoing having

-- more than half of a set of voters are among some ids
pub record IsMajority (voters : List ℕ) (among : ℕ → Bool) : Type 0 where
  pub some : 0 < length voters
  pub decides : is_majority voters among ≡ true

-- some ids can decide: a majority of the incoming voters and, while there are outgoing ones, a majority of those
pub record IsQuorum (c : Config) (among : ℕ → Bool) : Type 0 where
  pub some : 0 < length c.incoming
  pub decides : is_quorum c among ≡ true

-- one of a set of voters is among these ids and among those
pub record Share (voters : List ℕ) (these those : ℕ → Bool) : Type 0 where
  pub id : ℕ
  pub votes : has voters id ≡ true
  pub first : these id ≡ true
  pub second : those id ≡ true

-- one voter of a configuration is among these ids and among those
pub record ShareVoter (c : Config) (these those : ℕ → Bool) : Type 0 where
  pub id : ℕ
  pub votes : is_voter c id ≡ true
  pub first : these id ≡ true
  pub second : those id ≡ true
