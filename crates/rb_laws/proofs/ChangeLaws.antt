-- Entries that take effect: how far they bring applied, and what they bring to the content
use Rattle.std.proofs.Common.{[], ◌≡◌, ◌++◌, refl, ap, ◌∙◌, sym, append-nil, ℕ, List, ◌∷◌, ◌+◌, append_assoc, length, arith}
use Rattle.rb_raftlog.specs.declared.entry.Body.{Body}
use Rattle.rb_raftlog.specs.declared.entry.Body.TheVariants.{Payload, Change}
use Rattle.rb_raftlog.specs.declared.entry.Entry.{Entry}
use Rattle.rb_vocab.specs.declared.change.Transition.TheVariants.{Auto}
use Rattle.rb_tracker.proofs.SetLaws.{if_both}
use Rattle.rb_node.specs.Changing.{body_applied, applied_all, applied_one, joint_left, leaves_joint}
use Rattle.rb_node.specs.Leading.{appended_change, is_log_full}
use Rattle.rb_node.specs.Node.{NodeStep, with_node}
use Rattle.rb_laws.specs.Choices.{bytes_of, payloads}
use Rattle.rb_calls.proofs.CallWays.{Untouched, changed_leaves, change_way, one_brought}
use Rattle.rb_calls.proofs.Moves.{over_way}
use Rattle.rb_calls.proofs.TellWays.{keeps_rest, append_broadcast_way, Rest}

body_fills : (body : Body) (t : NodeStep) → (body_applied body t).node.content ≡ t.node.content ++ bytes_of body
body_fills (Payload bytes) t = refl
body_fills (Change transition words) t = ap (λ (u : Untouched). u.content) (changed_leaves (change_way t transition words)).same ∙ sym (append-nil t.node.content)

pub all_fill : (t : NodeStep) (i : ℕ) (es : List Entry) → (applied_all t i es).node.content ≡ t.node.content ++ payloads es
all_fill t i [] = sym (append-nil t.node.content)
all_fill t i (e ∷ es) =
    let following : NodeStep = applied_one t (i + 1) e in
    all_fill following (i + 1) es
    ∙ ap (λ (bytes : List ℕ). bytes ++ payloads es) (body_fills e.body (with_node t (record t.node { applied = i + 1 })))
    ∙ append_assoc t.node.content (bytes_of e.body) (payloads es)

pub all_applied : (t : NodeStep) (i : ℕ) (es : List Entry) → t.node.applied ≡ i → (applied_all t i es).node.applied ≡ i + length es
all_applied t i [] at = omega (arith, at)
all_applied t i (e ∷ es) at = let rest = all_applied (applied_one t (i + 1) e) (i + 1) es ((one_brought t (i + 1) e).applied) in omega (arith, rest)

-- leaving a joint configuration changes neither

change_core : (t : NodeStep) → ((appended_change t (Change Auto [])).node.applied ≡ t.node.applied) × ((appended_change t (Change Auto [])).node.content ≡ t.node.content)
change_core t =
    if_both (λ (u : NodeStep). (u.node.applied ≡ t.node.applied) × (u.node.content ≡ t.node.content)) (is_log_full t.node) _ _ (λ _. (refl, refl)) (λ _. (refl, refl))

pub left_core : (t : NodeStep) → ((joint_left t).node.applied ≡ t.node.applied) × ((joint_left t).node.content ≡ t.node.content)
unfolding joint_left
left_core t =
    let u = appended_change t (Change Auto []) in
    let all_told = over_way keeps_rest (append_broadcast_way u.node) in
    let first = change_core t in
    if_both (λ (x : NodeStep). (x.node.applied ≡ t.node.applied) × (x.node.content ≡ t.node.content)) (leaves_joint t.node) _ _
    (λ _. (ap (λ (r : Rest). r.applied) all_told ∙ first.0, ap (λ (r : Rest). r.content) all_told ∙ first.1)) (λ _. (refl, refl))
