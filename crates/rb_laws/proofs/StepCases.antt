-- A step by the message's term: what holds in each case holds of the step
use Rattle.std.proofs.Common.{◌≡◌, ◌<◌, true, false, not, ◌||◌, nat_lt, ◌==◌, if◌then◌else◌}
use Rattle.std.proofs.lemmas.Bool.{ltb-true, or_parts}
use Rattle.rb_tracker.proofs.SetLaws.{if_both}
use Rattle.rb_message.specs.Messages.{has_term}
use Rattle.rb_message.specs.declared.event.WhyIgnored.TheVariants.{HearsLeader}
use Rattle.rb_message.specs.declared.message.Message.{Message}
use Rattle.rb_node.specs.Node.{NodeStep, ignored}
use Rattle.rb_node.specs.Step.{stepped, at_term}
use Rattle.rb_node.specs.Terms.{stepped_earlier, stepped_later, ignores_campaign}
use Rattle.rb_calls.proofs.StepWays.{of_term, above}

pub by_term : (P : NodeStep → Type 0) (t : NodeStep) (m : Message)
    → ((has_term m.kind ≡ true → m.term ≡ t.node.term) → P (at_term t m))
    → (m.term < t.node.term → P (stepped_earlier t m))
    → (t.node.term < m.term → ignores_campaign m.kind t.node ≡ true → P (ignored t m (HearsLeader t.node.lead)))
    → (t.node.term < m.term → ignores_campaign m.kind t.node ≡ false → P (at_term (stepped_later t m) m))
    → P (stepped t m)
unfolding stepped
by_term P t m now earlier disturbed later =
    if_both P (not (has_term m.kind) || m.term == t.node.term) (at_term t m)
    (if nat_lt m.term t.node.term then stepped_earlier t m else (if ignores_campaign m.kind t.node then ignored t m (HearsLeader t.node.lead) else at_term (stepped_later t m) m))
    (λ same. now (λ has. of_term t m has same))
    (λ other. (let apart = (or_parts (not (has_term m.kind)) (m.term == t.node.term) other).1 in
    if_both P (nat_lt m.term t.node.term) (stepped_earlier t m) (if ignores_campaign m.kind t.node then ignored t m (HearsLeader t.node.lead) else at_term (stepped_later t m) m)
    (λ low. earlier (ltb-true m.term t.node.term low))
    (λ high. (let past = above t.node.term m.term high apart in
    if_both P (ignores_campaign m.kind t.node) (ignored t m (HearsLeader t.node.lead)) (at_term (stepped_later t m) m) (λ yes. disturbed past yes) (λ no. later past no)))))
