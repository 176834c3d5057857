-- Votes and their result (Ongaro's thesis, section 3.4)
use Rattle.std.specs.Prelude.{ℕ, ◌≡◌, Bool, true, not, ◌||◌, [], if◌then◌else◌}
use Rattle.rb_tracker.specs.Sets.{has, with_id}
use Rattle.rb_tracker.specs.Quorum.{is_quorum}
use Rattle.rb_tracker.specs.declared.config.Config.{Config}
use Rattle.rb_tracker.specs.declared.votes.Votes.{Votes}
use Rattle.rb_tracker.specs.declared.votes.VoteResult.{VoteResult}
use Rattle.rb_tracker.specs.declared.votes.VoteResult.TheVariants.{Won, Lost, Pending}

abbrev pub no_votes : Votes
no_votes = record { granted = []; refused = [] }

abbrev pub has_answered : Votes → ℕ → Bool
has_answered v id = has v.granted id || has v.refused id

-- the first response of each id counts
unfoldable pub answered : Votes → ℕ → Bool → Votes
answered v id granted =
    if has_answered v id then v
    else (if granted then record v { granted = with_id v.granted id } else record v { refused = with_id v.refused id })

-- a quorum granted
abbrev pub is_won : Config → Votes → Bool
is_won c v = is_quorum c (λ id. has v.granted id)

-- a quorum may still grant: the voters that haven't refused are one
abbrev pub is_open : Config → Votes → Bool
is_open c v = is_quorum c (λ id. not (has v.refused id))

unfoldable pub vote_result : Config → Votes → VoteResult
vote_result c v = if is_won c v then Won else (if is_open c v then Pending else Lost)

-- who granted in the first grants in the second too
abbrev pub MoreGrants : Votes → Votes → Type 0
MoreGrants v w = (id : ℕ) → has v.granted id ≡ true → has w.granted id ≡ true

-- nobody both grants and refuses
abbrev pub IsOnce : Votes → Type 0
IsOnce v = (id : ℕ) → has v.granted id ≡ true → not (has v.refused id) ≡ true
