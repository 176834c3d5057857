-- What goes out with a ready, and that an advance leaves nothing of it
use Rattle.std.proofs.Common.{◌≡◌, ℕ, Bool, true, false, not, ◌==◌, List, [], ◌∷◌, ◌++◌, refl, ap, sym, ◌∙◌, if◌then◌else◌}
use Rattle.std.proofs.lemmas.Bool.{cond-false}
use Rattle.rb_tracker.proofs.SetLaws.{if_both}
use Rattle.rb_message.specs.declared.message.Message.{Message}
use Rattle.rb_node.specs.Node.{PlainNode, NodeStep, with_node}
use Rattle.rb_node.specs.Readying.{others, ready, own_answers_stepped, advanced}
use Rattle.rb_node.specs.Step.{stepped}
use Rattle.rb_calls.specs.Elections.{own_turn}
use Rattle.rb_laws.specs.Outgoing.{to_others, to_itself}

-- ---- what goes out

one_other : (b : Bool) (m : Message) (ms : List Message) → (if not b then m ∷ ms else ms) ≡ (if b then ms else m ∷ ms)
one_other true m ms = refl
one_other false m ms = refl

pub others_are : (id : ℕ) (ms : List Message) → others id ms ≡ to_others id ms
others_are id [] = refl
others_are id (m ∷ ms) =
    one_other (m.to == id) m (others id ms) ∙ ap (λ (l : List Message). if m.to == id then l else m ∷ l) (others_are id ms)

pub goes_out : (n : PlainNode) → (ready n).send ≡ n.sent ++ to_others n.id n.waiting
goes_out n = ap (λ (l : List Message). n.sent ++ l) (others_are n.id n.waiting)

-- ---- what is taken in

-- a node takes in its own answers alone
own_alone : (id : ℕ) (t : NodeStep) (ms : List Message) → own_answers_stepped id t ms ≡ own_answers_stepped id t (to_itself id ms)
own_alone id t [] = refl
own_alone id t (m ∷ ms) =
    let next : NodeStep = if m.to == id then stepped t m else t in
    if_both (λ (l : List Message). own_answers_stepped id t (m ∷ ms) ≡ own_answers_stepped id t l) (m.to == id) (m ∷ to_itself id ms) (to_itself id ms)
    (λ _. own_alone id next ms)
    (λ other. own_alone id next ms ∙ ap (λ (u : NodeStep). own_answers_stepped id u (to_itself id ms)) (cond-false (m.to == id) (stepped t m) t other))

same_own : (id : ℕ) (t : NodeStep) (ms ns : List Message) → to_itself id ms ≡ to_itself id ns → own_answers_stepped id t ms ≡ own_answers_stepped id t ns
same_own id t ms ns e = own_alone id t ms ∙ ap (λ (l : List Message). own_answers_stepped id t l) e ∙ sym (own_alone id t ns)

-- an advance is the same, whatever goes out before it
pub advances_alike : (t : NodeStep) (sent waiting : List Message) → to_itself t.node.id waiting ≡ to_itself t.node.id t.node.waiting
    → advanced (with_node t (record t.node { sent = sent; waiting = waiting })) ≡ advanced t
unfolding advanced
advances_alike t sent waiting same = same_own t.node.id (own_turn t) waiting t.node.waiting same
