-- Lemmas on votes
use Rattle.std.proofs.Common.{◌≡◌, ℕ, ◌+◌, ◌*◌, ◌<◌, ◌≤◌, Bool, true, false, not, ◌&&◌, ◌||◌, cond, List, [], ◌∷◌, length, refl, arith, if◌then◌else◌, nat_lt, ◌==◌}
use Rattle.std.specs.List.{count_by}
use Rattle.std.proofs.lemmas.Bool.{and_parts, and_from, or_parts}
use Rattle.std.proofs.lemmas.Bool.Decides.{nat_tests}
use Rattle.rb_tracker.specs.Sets.{has}
use Rattle.rb_tracker.specs.Quorum.{is_majority, is_quorum, IsQuorum}
use Rattle.rb_tracker.specs.Ballots.{has_answered, answered, is_won, is_open, vote_result, MoreGrants, IsOnce}
use Rattle.rb_tracker.specs.declared.config.Config.{Config}
use Rattle.rb_tracker.specs.declared.votes.Votes.{Votes}
use Rattle.rb_tracker.specs.declared.votes.VoteResult.{VoteResult}
use Rattle.rb_tracker.specs.declared.votes.VoteResult.TheVariants.{Won, Lost}
use Rattle.rb_tracker.proofs.SetLaws.{if_both, also, has_here}
use Rattle.rb_tracker.proofs.CountLaws.{count-cons}
use Rattle.rb_tracker.proofs.ChangeLaws.{has_with_id, same_has}

more_step : (a b : Bool) (n m : ℕ) → (a ≡ true → b ≡ true) → n ≤ m → cond a 1 0 + n ≤ cond b 1 0 + m
more_step a b n m h k = grind arith

-- what passes a test that allows more, of these ids, counts for more
count_more : (p q : ℕ → Bool) (xs : List ℕ) → ((id : ℕ) → has xs id ≡ true → p id ≡ true → q id ≡ true) → count_by p xs ≤ count_by q xs
count_more p q [] more = omega arith
count_more p q (x ∷ xs) more =
    rw (count-cons p x xs, count-cons q x xs)
    (more_step (p x) (q x) _ _ (more x (has_here x xs)) (count_more p q xs (λ id inside. more id (also (x == id) (has xs id) inside))))

most_more' : (len few many : ℕ) → few ≤ many → (len == 0 || nat_lt len (2 * few)) ≡ true → (len == 0 || nat_lt len (2 * many)) ≡ true
most_more' len few many h is_majority = grind (arith, nat_tests)

pub most_more : (p q : ℕ → Bool) (voters : List ℕ) → ((id : ℕ) → has voters id ≡ true → p id ≡ true → q id ≡ true) → is_majority voters p ≡ true → is_majority voters q ≡ true
most_more p q voters more h = most_more' (length voters) (count_by p voters) (count_by q voters) (count_more p q voters more) h

pub both_more : (c : Config) (p q : ℕ → Bool) → ((id : ℕ) → p id ≡ true → q id ≡ true) → is_quorum c p ≡ true → is_quorum c q ≡ true
both_more c p q more h =
    let halves = and_parts (is_majority c.incoming p) (is_majority c.outgoing p) h in
    and_from (is_majority c.incoming q) (is_majority c.outgoing q) (most_more p q c.incoming (λ id _. more id) halves.0) (most_more p q c.outgoing (λ id _. more id) halves.1)

-- what a result says
pub won_is : (c : Config) (v : Votes) → vote_result c v ≡ Won → is_won c v ≡ true
unfolding vote_result
won_is c v =
    let P : VoteResult → Type 0 = λ r. r ≡ Won → is_won c v ≡ true in
    if_both P (is_won c v) _ _ (λ won _. won) (λ _. if_both P (is_open c v) _ _ (λ _ e. cc) (λ _ e. cc))

pub is_won_won : (c : Config) (v : Votes) → is_won c v ≡ true → vote_result c v ≡ Won
unfolding vote_result
is_won_won c v h = rw h refl

-- with more grants a vote stays won
pub more_stays_won : (c : Config) (v w : Votes) → MoreGrants v w → vote_result c v ≡ Won → vote_result c w ≡ Won
more_stays_won c v w more won = is_won_won c w (both_more c (λ id. has v.granted id) (λ id. has w.granted id) more (won_is c v won))

-- a further answer takes no grant back
pub answer_grants_more : (v : Votes) (id : ℕ) (granted : Bool) → MoreGrants v (answered v id granted)
unfolding answered
answer_grants_more v id granted =
    let P : Votes → Type 0 = λ w. MoreGrants v w in
    if_both P (has_answered v id) _ _ (λ _ y h. h)
    (λ _. if_both P granted _ _ (λ _ y h. rw (has_with_id v.granted id y) (also (id == y) (has v.granted y) h)) (λ _ y h. h))

-- a quorum of grants, none of whom refused, is a quorum that didn't refuse
pub won_is_open : (c : Config) (v : Votes) → IsOnce v → is_won c v ≡ true → is_open c v ≡ true
won_is_open c v once won = both_more c (λ id. has v.granted id) (λ id. not (has v.refused id)) once won

-- a lost vote isn't open
pub lost_is : (c : Config) (v : Votes) → vote_result c v ≡ Lost → is_open c v ≡ false
unfolding vote_result
lost_is c v =
    let P : VoteResult → Type 0 = λ r. r ≡ Lost → is_open c v ≡ false in
    if_both P (is_won c v) _ _ (λ _ e. cc) (λ _. if_both P (is_open c v) _ _ (λ _ e. cc) (λ closed _. closed))

pub won_decides : (c : Config) (v : Votes) → 0 < length c.incoming → vote_result c v ≡ Won → IsQuorum c (λ id. has v.granted id)
won_decides c v some won = record { some = some; decides = won_is c v won }

grant_once : (b g r : Bool) → (b ≡ true → r ≡ false) → (g ≡ true → not r ≡ true) → (if b then true else g) ≡ true → not r ≡ true
grant_once b g r new old h = grind arith

refuse_once : (b g r : Bool) → (b ≡ true → g ≡ false) → (g ≡ true → not r ≡ true) → g ≡ true → not (if b then true else r) ≡ true
refuse_once b g r new old h = grind arith

-- an answer of one who answered already counts for nothing, so nobody both grants and refuses
pub answered_once : (v : Votes) (id : ℕ) (granted : Bool) → IsOnce v → IsOnce (answered v id granted)
unfolding answered
answered_once v id granted once =
    let P : Votes → Type 0 = IsOnce in
    if_both P (has_answered v id) _ _ (λ _. once)
    (λ new.
    let none = or_parts (has v.granted id) (has v.refused id) new in
    if_both P granted _ _
    (λ _ y h. grant_once (id == y) (has v.granted y) (has v.refused y) (same_has v.refused id y false none.1) (once y) (rw (has_with_id v.granted id y) at h))
    (λ _ y h. rw (has_with_id v.refused id y) (refuse_once (id == y) (has v.granted y) (has v.refused y) (same_has v.granted id y false none.0) (once y) h)))
