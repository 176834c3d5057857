-- What is ready: when nothing is, and what takes effect once it is saved
use Rattle.std.proofs.Common.{◌≡◌, ℕ, ◌+◌, ◌-◌, ◌≤◌, ◌<◌, min, max, Bool, true, false, not, ◌||◌, List, [], ◌∷◌, ◌++◌, length, drop, Some, None, refl, sym, ap, ◌∙◌, arith, eqb-true, nat_lt, ◌==◌, if◌then◌else◌, length-drop, drop_of_length-le, inl, inr}
use Rattle.std.proofs.lemmas.Bool.{ltb-false, ltb-true, or_parts, cond-true, cond-false, cases_Bool, false≢true}
use Rattle.rb_raftlog.specs.declared.entry.Entry.{Entry}
use Rattle.rb_raftlog.specs.Log.{last}
use Rattle.rb_message.specs.declared.hard_state.HardState.{HardState}
use Rattle.rb_message.specs.declared.message.Message.{Message}
use Rattle.rb_node.specs.Node.{PlainNode, NodeStep, with_node}
use Rattle.rb_node.specs.Changing.{applied_all}
use Rattle.rb_node.specs.Readying.{hard_state, is_saved, has_ready, applying, saved}
use Rattle.rb_node.proofs.Between.{between_sizes}
use Rattle.rb_calls.specs.Sound.{IsSound}
use Rattle.rb_calls.specs.Elections.{own_turn}
use Rattle.rb_laws.specs.Choices.{HasNothing, payloads}
use Rattle.rb_laws.proofs.ChangeLaws.{all_fill, all_applied, left_core}

-- ---- nothing is ready

not_false_is : (b : Bool) → not b ≡ false → b ≡ true
not_false_is true e = refl
not_false_is false e = absurd (false≢true (sym e))

none_left : {X : Type 0} (xs : List X) → length xs ≡ 0 → xs ≡ []
none_left [] e = refl
none_left (x ∷ xs) e = absurd (omega (arith, e))

no_message : (ms : List Message) → not (length ms == 0) ≡ false → ms ≡ []
no_message ms e = none_left ms (eqb-true (length ms) 0 (not_false_is (length ms == 0) e))

pub nothing_is : (n : PlainNode) → IsSound n → has_ready n ≡ false → HasNothing n
nothing_is n s e =
    let a = not (is_saved n) in
    let b = nat_lt n.log.durable (last n.log) in
    let c = nat_lt n.applied n.commit in
    let d = not (length n.sent == 0) in
    let f = not (length n.waiting == 0) in
    let waits = or_parts (a || b || n.restored || c || d) f e in
    let sends = or_parts (a || b || n.restored || c) d waits.0 in
    let applies = or_parts (a || b || n.restored) c sends.0 in
    let restores = or_parts (a || b) n.restored applies.0 in
    let saves = or_parts a b restores.0 in
    let durable : last n.log ≤ n.log.durable = ltb-false n.log.durable (last n.log) saves.1 in
    let known : n.commit ≤ n.applied = ltb-false n.applied n.commit applies.1 in
    let sizes : length (applying n) ≡ min n.commit (last n.log) - max n.applied n.log.base = between_sizes n.log n.applied n.commit in
    record {
      hard = cond-true (is_saved n) None (Some (hard_state n)) (not_false_is (is_saved n) saves.0);
      snapshot = cond-false n.restored (Some (n.log.base_term, n.log.base)) None restores.1;
      save = drop_of_length-le n.log.entries (omega (arith, durable));
      apply = none_left (applying n) (omega (arith, sizes, known));
      sent = no_message n.sent sends.1;
      waiting = no_message n.waiting waits.1;
    }

is_none : (b : Bool) (h : HardState) → (if b then None else Some h) ≡ None → b ≡ true
is_none true h e = refl
is_none false h e = cc

not_restored : (b : Bool) (s : ℕ × ℕ) → (if b then Some s else None) ≡ None → b ≡ false
not_restored true s e = cc
not_restored false s e = refl

not_below : (x y : ℕ) → y ≤ x → nat_lt x y ≡ false
not_below x y e =
    elim (cases_Bool (nat_lt x y)) as (λ _. nat_lt x y ≡ false) [
      | inl low ↦ (let under : x < y = ltb-true x y low in absurd (omega (arith, under, e)))
      | inr above ↦ above
    ]

no_messages : (ms : List Message) → ms ≡ [] → not (length ms == 0) ≡ false
no_messages ms e = ap (λ (l : List Message). not (length l == 0)) e

all_false : (a b c d e f : Bool) → a ≡ false → b ≡ false → c ≡ false → d ≡ false → e ≡ false → f ≡ false → (a || b || c || d || e || f) ≡ false
all_false a b c d e f p q r s t u = rw (p, q, r, s, t, u) refl

pub has_none : (n : PlainNode) → IsSound n → HasNothing n → has_ready n ≡ false
has_none n s h =
    let base : n.log.base ≤ n.log.durable = omega (arith, s.past_base, s.is_durable) in
    let left : length (drop (n.log.durable - n.log.base) n.log.entries) ≡ 0 = ap (λ (es : List Entry). length es) h.save in
    let size : length (drop (n.log.durable - n.log.base) n.log.entries) ≡ length n.log.entries - (n.log.durable - n.log.base) = length-drop (n.log.durable - n.log.base) n.log.entries in
    let none : length (applying n) ≡ 0 = ap (λ (es : List Entry). length es) h.apply in
    let sizes : length (applying n) ≡ min n.commit (last n.log) - max n.applied n.log.base = between_sizes n.log n.applied n.commit in
    let held = s.is_held in
    let past = s.past_base in
    all_false (not (is_saved n)) (nat_lt n.log.durable (last n.log)) n.restored (nat_lt n.applied n.commit) (not (length n.sent == 0)) (not (length n.waiting == 0))
    (ap not (is_none (is_saved n) (hard_state n) h.hard))
    (not_below n.log.durable (last n.log) (omega (arith, base, left, size)))
    (not_restored n.restored (n.log.base_term, n.log.base) h.snapshot)
    (not_below n.applied n.commit (omega (arith, none, sizes, held, past)))
    (no_messages n.sent h.sent) (no_messages n.waiting h.waiting)

-- ---- what takes effect

pub own_turn_fills : (t : NodeStep) → (own_turn t).node.content ≡ t.node.content ++ payloads (applying t.node)
own_turn_fills t =
    let n = t.node in
    (left_core (applied_all (with_node t (saved n)) n.applied (applying n))).1 ∙ all_fill (with_node t (saved n)) n.applied (applying n)

pub own_turn_applied : (t : NodeStep) → IsSound t.node → (own_turn t).node.applied ≡ t.node.commit
own_turn_applied t s =
    let n = t.node in
    let sizes : length (applying n) ≡ min n.commit (last n.log) - max n.applied n.log.base = between_sizes n.log n.applied n.commit in
    let at : (own_turn t).node.applied ≡ n.applied + length (applying n) = (left_core (applied_all (with_node t (saved n)) n.applied (applying n))).0 ∙ all_applied (with_node t (saved n)) n.applied (applying n) refl in
    let held = s.is_held in
    let past = s.past_base in
    let known = s.is_committed in
    omega (arith, at, sizes, held, past, known)
