-- While a leader leads on in its term, no message lowers what it counts as held by a member
use Rattle.std.proofs.Common.{ℕ, ◌≡◌, ◌<◌, ◌≤◌, sym, ap, subst, ◌∙◌, arith}
use Rattle.rb_message.specs.declared.message.Message.{Message}
use Rattle.rb_message.specs.declared.role.Role.TheVariants as role
use Rattle.rb_node.specs.Leading.{leading}
use Rattle.rb_node.specs.Node.{PlainNode, NodeStep}
use Rattle.rb_node.specs.Step.{stepped}
use Rattle.rb_calls.proofs.Goes.{Ways, Core, anyone, core}
use Rattle.rb_calls.proofs.LeaderLaws.{leading_same}
use Rattle.rb_calls.proofs.MatchViewLaws.{of}
use Rattle.rb_calls.proofs.Moves.{StepMove, StepTells, Follows, Asks, Stands, Leads, Acks, Allows, over}
use Rattle.rb_calls.proofs.StepWays.{stepped_way}
use Rattle.rb_calls.proofs.TellWays.{Rest, rest, tells_rest, tells_match}
use Rattle.rb_laws.proofs.CommitLaws.{acked_more}

-- a term isn't gone back to, who stands is past it, and who leads in it counts so much or more
abbrev IsStill : ℕ → ℕ → Rest → ℕ → Type 0
IsStill term low r held = (term ≤ r.term) × (r.role ≡ role.Candidate → term < r.term) × (r.role ≡ role.Leader → r.term ≡ term → low ≤ held)

abbrev CountsStill : ℕ → ℕ → ℕ → PlainNode → Type 0
CountsStill id term low n = IsStill term low (rest (core n)) (of n id)

step_still : {w : Ways} (id term low : ℕ) {a b : PlainNode} → StepMove w a b → CountsStill id term low a → CountsStill id term low b
step_still id term low {a} {b} (StepTells m) p =
    subst (λ (r : Rest). IsStill term low r (of b id)) (sym (tells_rest m)) (subst (IsStill term low (rest (core a))) (sym (tells_match id m)) p)
step_still id term low (Follows n later lead up past) p =
    (let from = p.0 in (omega (arith, from, up), λ is. absurd (let no : role.Follower ≡ role.Candidate = is in cc), λ is. absurd (let no : role.Follower ≡ role.Leader = is in cc)))
step_still id term low (Asks n may) p =
    (p.0, λ is. absurd (let no : role.Precandidate ≡ role.Candidate = is in cc), λ is. absurd (let no : role.Precandidate ≡ role.Leader = is in cc))
step_still id term low (Stands n may) p =
    (let from = p.0 in (omega (arith, from), λ _. omega (arith, from), λ is. absurd (let no : role.Candidate ≡ role.Leader = is in cc)))
step_still id term low (Leads n stands elected won) p =
    (let same : (leading n).term ≡ n.term = ap (λ (c : Core). c.term) (leading_same n) in
    let past = p.1 stands in
    (omega (arith, same, past), λ _. omega (arith, same, past), λ _ now. absurd (omega (arith, now, same, past))))
step_still id term low (Acks n at from i view leads here is up said) p =
    (let more = acked_more n at from i view here is up id in (p.0, p.1, λ leads_on in_term. (let counted = p.2 leads_on in_term in omega (arith, counted, more))))
step_still id term low _ p = p

pub matches_stay : (t : NodeStep) (m : Message) (id : ℕ) → t.node.role ≡ role.Leader → (stepped t m).node.role ≡ role.Leader → (stepped t m).node.term ≡ t.node.term → of t.node id ≤ of (stepped t m).node id
matches_stay t m id leads still same =
    let n = t.node in
    let stays : Allows (StepMove anyone) (λ a b. CountsStill id n.term (of n id) a → CountsStill id n.term (of n id) b) =
    record { nothing = λ _ p. p; chain = λ a b c p q r. q (p r); each = λ a b s p. step_still id n.term (of n id) s p } in
    let first : CountsStill id n.term (of n id) n = (omega arith, λ is. absurd (let no : role.Leader ≡ role.Candidate = sym leads ∙ is in cc), λ _ _. omega arith) in
    (over stays (stepped_way t m tt (λ _. tt) (λ _. tt) (λ _ _. tt)) first).2 still same
