-- Two nodes that were elected in one term are one, since their quorums share a voter, who cast its vote once
use Rattle.std.proofs.Common.{◌≡◌, ℕ, ◌<◌, ◌||◌, true, List, [], ◌∷◌, length, sym, subst, ◌∙◌, arith}
use Rattle.std.proofs.lemmas.Bool.{false≢true}
use Rattle.rb_tracker.proofs.QuorumLaws.{quorums_meet}
use Rattle.rb_tracker.proofs.VoteLaws.{won_decides}
use Rattle.rb_tracker.specs.Quorum.{ShareVoter}
use Rattle.rb_tracker.specs.Sets.{has}
use Rattle.rb_message.specs.declared.message.Message.{Message}
use Rattle.rb_laws.specs.Votes.{IsCast}
use Rattle.rb_laws.proofs.Holding.{Setting, IsElected, AreOnce}

-- who was chosen had a voter
pub some_voters : (xs ys : List ℕ) (id : ℕ) → ys ≡ [] → (has xs id || has ys id) ≡ true → 0 < length xs
some_voters [] ys id none h = absurd (false≢true (subst (λ (l : List ℕ). (has [] id || has l id) ≡ true) none h))
some_voters (x ∷ xs) ys id none h = omega arith

pub one_elected : (g : Setting) (said : List Message) (i j term : ℕ) → AreOnce said → IsElected g said i term → IsElected g said j term → i ≡ j
one_elected g said i j term once a b =
    let c = g.config in
    let some : 0 < length c.incoming = some_voters c.incoming c.outgoing i g.single a.may in
    let both : ShareVoter c (λ id. has a.by.votes.granted id) (λ id. has b.by.votes.granted id) =
    quorums_meet c (λ id. has a.by.votes.granted id) (λ id. has b.by.votes.granted id) (won_decides c a.by.votes some a.by.won) (won_decides c b.by.votes some b.by.won) in
    let first : IsCast said both.id term i = a.by.cast both.id both.first in
    let second : IsCast said both.id term j = b.by.cast both.id both.second in
    let same : first.answer.to ≡ second.answer.to =
    once first.answer second.answer first.among second.among first.gives second.gives (first.by ∙ sym second.by) (first.of_term ∙ sym second.of_term) in
    sym first.for_it ∙ same ∙ second.for_it
