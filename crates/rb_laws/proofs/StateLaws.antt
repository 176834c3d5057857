-- What is ready is the node's state (Ongaro's thesis, section 3.8 and figure 3.1), and what the tests of a node's rules mean
use Rattle.std.proofs.Common.{◌≡◌, ℕ, zero, suc, ◌+◌, ◌-◌, ◌<◌, ◌≤◌, Bool, true, false, ◌&&◌, ◌||◌, ◌==◌, ◌*◌, nat_lt, List, [], ◌∷◌, ◌++◌, length, Option, Some, None, Ok, refl, sym, ap, ◌∙◌, arith, eqb-true, inl, inr}
use Rattle.std.specs.Prelude.{slice_get, count_by}
use Rattle.std.specs.List.{list_any}
use Rattle.std.specs.Option.{option_map}
use Rattle.std.proofs.lemmas.Bool.{false≢true, cases_Bool, or_left, or_right, lt-ltb}
use Rattle.rb_raftlog.specs.Bodies.{is_change}
use Rattle.rb_raftlog.specs.declared.entry.Entry.{Entry}
use Rattle.rb_raftlog.specs.Log.{LogValue, entry_at, between, has_change, last_of}
use Rattle.rb_raftlog.proofs.PlaceLaws.{between-entries, between-all, not_durable-entries}
use Rattle.rb_tracker.proofs.ChangeLaws.{has_union}
use Rattle.rb_tracker.proofs.SetLaws.{if_both}
use Rattle.rb_tracker.specs.Active.{quorum_active, is_active}
use Rattle.rb_tracker.specs.Configs.{is_voter, voters}
use Rattle.rb_tracker.specs.Quorum.{is_majority, is_quorum, IsQuorum}
use Rattle.rb_tracker.specs.Sets.{has}
use Rattle.rb_tracker.specs.Trackers.{PlainTracker}
use Rattle.rb_tracker.specs.declared.config.Config.{Config}
use Rattle.rb_message.specs.declared.hard_state.HardState.{HardState}
use Rattle.rb_node.specs.Node.{PlainNode}
use Rattle.rb_node.specs.Readying.{ready, hard_state, is_saved}
use Rattle.rb_laws.specs.Rules.{IsHardStateOf, HasChangeIn}
use Rattle.rb_calls.specs.Sound.{IsSound}

-- ---- what is ready

of_node : (n : PlainNode) (h : HardState) → hard_state n ≡ h → IsHardStateOf h n
of_node n h is = record { term = sym (ap (λ (x : HardState). x.term) is); vote = sym (ap (λ (x : HardState). x.vote) is); commit = sym (ap (λ (x : HardState). x.commit) is) }

pub hard_is : (n : PlainNode) (h : HardState) → (ready n).hard ≡ Some h → IsHardStateOf h n
hard_is n h =
    if_both (λ (o : Option HardState). o ≡ Some h → IsHardStateOf h n) (is_saved n) _ _ (λ _ e. cc)
    (λ _ e. (let same : hard_state n ≡ h = cc in of_node n h same))

-- the three parts of a hard state
three : (a b c : Bool) → (a && b && c) ≡ true → (a ≡ true) × (b ≡ true) × (c ≡ true)
three true true true e = (refl, refl, refl)
three true true false e = absurd (false≢true e)
three true false c e = absurd (false≢true e)
three false b c e = absurd (false≢true e)

pub saved_is : (n : PlainNode) → (ready n).hard ≡ None → IsHardStateOf n.saved n
saved_is n =
    if_both (λ (o : Option HardState). o ≡ None → IsHardStateOf n.saved n) (is_saved n) _ _
    (λ is e. (let parts = three (n.term == n.saved.term) (n.vote == n.saved.vote) (n.commit == n.saved.commit) is in record { term = sym (eqb-true n.term n.saved.term parts.0); vote = sym (eqb-true n.vote n.saved.vote parts.1); commit = sym (eqb-true n.commit n.saved.commit parts.2) }))
    (λ _ e. cc)

pub apply_is : (n : PlainNode) (k : ℕ) (e : Entry) → IsSound n → slice_get (ready n).apply k ≡ Some e → entry_at n.log (n.applied + 1 + k) ≡ Ok e
apply_is n k e s at = (between-entries n.log n.applied n.commit k e s.past_base at).0

pub save_is : (n : PlainNode) (k : ℕ) (e : Entry) → IsSound n → slice_get (ready n).save k ≡ Some e → entry_at n.log (n.log.durable + 1 + k) ≡ Ok e
save_is n k e s at = (let low = s.past_base in let durable = s.is_durable in not_durable-entries n.log k e (omega (arith, low, durable)) at)

-- ---- what tests mean

pub active_quorum : (t : PlainTracker) → 0 < length t.config.incoming → quorum_active t ≡ true → IsQuorum t.config (λ id. is_active t.views id)
unfolding quorum_active
active_quorum t some is = record { some = some; decides = is }

pub quorum_is_active : (t : PlainTracker) → IsQuorum t.config (λ id. is_active t.views id) → quorum_active t ≡ true
unfolding quorum_active
quorum_is_active t q = q.decides

either_order : (a b : Bool) → (a || b) ≡ (b || a)
either_order true true = refl
either_order true false = refl
either_order false true = refl
either_order false false = refl

pub voter_is : (c : Config) (id : ℕ) → is_voter c id ≡ has (voters c) id
voter_is c id = either_order (has c.incoming id) (has c.outgoing id) ∙ sym (has_union c.outgoing c.incoming id)

left_over : (a b : Bool) → a ≡ false → (a || b) ≡ true → b ≡ true
left_over false b e is = is
left_over true b e is = absurd (false≢true (sym e))

-- one of some entries passes a test
any_at : (f : Entry → Bool) (es : List Entry) → list_any f es ≡ true → (k : ℕ) × (e : Entry) × (slice_get es k ≡ Some e) × (f e ≡ true)
any_at f [] is = absurd (false≢true is)
any_at f (e ∷ es) is =
    elim (cases_Bool (f e)) as (λ _. (k : ℕ) × (x : Entry) × (slice_get (e ∷ es) k ≡ Some x) × (f x ≡ true)) [
      | inl passes ↦ (zero, e, refl, passes)
      | inr fails ↦ (let rest = any_at f es (left_over (f e) (list_any f es) fails is) in (suc rest.0, rest.1, rest.2, rest.3))
    ]

at_any : (f : Entry → Bool) (es : List Entry) (k : ℕ) (e : Entry) → slice_get es k ≡ Some e → f e ≡ true → list_any f es ≡ true
at_any f [] k e at passes = cc
at_any f (x ∷ es) zero e at passes = (let same : x ≡ e = cc in or_left (f x) (list_any f es) (ap f same ∙ passes))
at_any f (x ∷ es) (suc k) e at passes = or_right (f x) (list_any f es) (at_any f es k e at passes)

pub change_is_there : (v : LogValue) (after upto : ℕ) → v.base ≤ after → has_change v after upto ≡ true → HasChangeIn v after upto
change_is_there v after upto above is =
    let found = any_at (λ (e : Entry). is_change e.body) (between v after upto) is in
    let at = between-entries v after upto found.0 found.1 above found.2 in
    let within = at.1 in
    record { index = after + 1 + found.0; entry = found.1; past = omega arith; within = omega (arith, within); held = at.0; changes = found.3 }

pub change_is_seen : (v : LogValue) (after upto : ℕ) → v.base ≤ after → HasChangeIn v after upto → has_change v after upto ≡ true
change_is_seen v after upto above has =
    let k = has.index - after - 1 in
    let past = has.past in
    let within = has.within in
    let place : after + 1 + k ≡ has.index = omega (arith, past) in
    at_any (λ (e : Entry). is_change e.body) (between v after upto) k has.entry
    (between-all v after upto k has.entry above (omega (arith, place, within)) (ap (entry_at v) place ∙ has.held)) has.changes

-- ---- the last of some entries

last_got : (es : List Entry) (e : Entry) → slice_get (es ++ e ∷ []) (length es) ≡ Some e
last_got [] e = refl
last_got (x ∷ xs) e = last_got xs e

length_push : (es : List Entry) (e : Entry) → length (es ++ e ∷ []) ≡ length es + 1
length_push [] e = refl
length_push (x ∷ xs) e = (let rest = length_push xs e in omega (arith, rest))

one_more : (es : List Entry) (e : Entry) → length (es ++ e ∷ []) - 1 ≡ length es
one_more es e = (let size = length_push es e in omega (arith, size))

pub last_of_last : (es : List Entry) (e : Entry) → last_of (es ++ e ∷ []) ≡ Some e.term
last_of_last es e = ap (λ (o : Option Entry). option_map (λ (x : Entry). x.term) o) (ap (slice_get (es ++ e ∷ [])) (one_more es e) ∙ last_got es e)

-- ---- majorities

pub most_decide : (voters : List ℕ) (among : ℕ → Bool) → length voters < 2 * count_by among voters → is_majority voters among ≡ true
most_decide voters among more = or_right (length voters == 0) (nat_lt (length voters) (2 * count_by among voters)) (lt-ltb (length voters) (2 * count_by among voters) more)

with_no_others : (b : Bool) → (b && true) ≡ b
with_no_others true = refl
with_no_others false = refl

pub alone_decide : (c : Config) (among : ℕ → Bool) → c.outgoing ≡ [] → is_quorum c among ≡ is_majority c.incoming among
alone_decide c among none = ap (λ (ids : List ℕ). is_majority c.incoming among && is_majority ids among) none ∙ with_no_others (is_majority c.incoming among)
