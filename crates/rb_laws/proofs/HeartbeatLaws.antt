-- A leader's heartbeats: each other member gets one when they are due (Ongaro's thesis, section 3.4)
use Rattle.std.proofs.Common.{◌≡◌, ◌⊎◌, ℕ, ◌≤◌, Bool, true, false, not, ◌&&◌, ◌==◌, nat_le, min, List, [], ◌∷◌, refl, ap, sym, subst, ◌∙◌, eqb-true, inl, inr}
use Rattle.std.specs.Prelude.{Contains}
use Rattle.std.specs.Map.{keys_of}
use Rattle.std.proofs.lemmas.Bool.{false≢true, le-leb}
use Rattle.std.proofs.lemmas.List.Elements.{Contains-append_left, Contains-push}
use Rattle.rb_tracker.proofs.ChangeLaws.{has_union}
use Rattle.rb_tracker.proofs.SetLaws.{if_both}
use Rattle.rb_tracker.specs.Active.{quorum_active, others_marked_inactive}
use Rattle.rb_tracker.specs.Configs.{is_member}
use Rattle.rb_tracker.specs.Sets.{has}
use Rattle.rb_tracker.specs.Trackers.{ids_of}
use Rattle.rb_message.specs.declared.kind.MessageKind.TheVariants as kind
use Rattle.rb_message.specs.declared.message.Message.{Message}
use Rattle.rb_message.specs.declared.role.Role.{Role}
use Rattle.rb_message.specs.declared.role.Role.TheVariants as role
use Rattle.rb_node.specs.Node.{PlainNode, NodeStep, message, with_node, with_elapsed, with_heartbeat_elapsed}
use Rattle.rb_node.specs.Ticking.{next_count, heartbeat_sent_to, heartbeat_sent_to_each, due_heartbeats_sent, has_lost_quorum, activity_reset, active_quorum_checked, counters_advanced, leader_ticked, ticked_by, ticked}
use Rattle.rb_node.specs.Transferring.{transfer_ended}
use Rattle.rb_node.specs.declared.limits.TheConstants.{ELECTION_TICKS, HEARTBEAT_TICKS}
use Rattle.rb_calls.specs.Sound.{HasViewsOfMembers}
use Rattle.rb_laws.specs.Timing.{heartbeat, IsSupported}
use Rattle.rb_calls.proofs.MatchViewLaws.{unmarked_match}
use Rattle.rb_calls.proofs.MemberLaws.{ids_unmarked}

-- ---- to each

one_only : (n : PlainNode) (id : ℕ) → heartbeat_sent_to n id ≡ record n { sent = (heartbeat_sent_to n id).sent }
one_only n id = if_both (λ (x : PlainNode). x ≡ record n { sent = x.sent }) (id == n.id) _ _ (λ _. refl) (λ _. refl)

one_keeps : (n : PlainNode) (id : ℕ) (m : Message) → Contains n.sent m → Contains (heartbeat_sent_to n id).sent m
one_keeps n id m among =
    if_both (λ (x : PlainNode). Contains x.sent m) (id == n.id) _ _ (λ _. among) (λ _. Contains-append_left n.sent (heartbeat n id ∷ []) m among)

all_keep : (n : PlainNode) (ids : List ℕ) (m : Message) → Contains n.sent m → Contains (heartbeat_sent_to_each n ids).sent m
all_keep n [] m among = among
all_keep n (x ∷ xs) m among = all_keep (heartbeat_sent_to n x) xs m (one_keeps n x m among)

one_sent : (n : PlainNode) (id : ℕ) → (id ≡ n.id → ⊥) → Contains (heartbeat_sent_to n id).sent (heartbeat n id)
one_sent n id other =
    if_both (λ (x : PlainNode). Contains x.sent (heartbeat n id)) (id == n.id) _ _
    (λ own. absurd (other (eqb-true id n.id own))) (λ _. Contains-push n.sent (heartbeat n id))

all_sent : (n : PlainNode) (ids : List ℕ) (id : ℕ) → has ids id ≡ true → (id ≡ n.id → ⊥) → Contains (heartbeat_sent_to_each n ids).sent (heartbeat n id)
all_sent n [] id is other = absurd (false≢true is)
all_sent n (x ∷ xs) id is other =
    let y : PlainNode = heartbeat_sent_to n x in
    let same : heartbeat y id ≡ heartbeat n id = ap (λ (z : PlainNode). heartbeat z id) (one_only n x) in
    let own : y.id ≡ n.id = ap (λ (z : PlainNode). z.id) (one_only n x) in
    if_both (λ (b : Bool). b ≡ true → Contains (heartbeat_sent_to_each y xs).sent (heartbeat n id)) (x == id) true (has xs id)
    (λ here _. all_keep y xs (heartbeat n id)
    (subst (λ (i : ℕ). Contains y.sent (heartbeat n i)) (eqb-true x id here) (one_sent n x (λ e. other (sym (eqb-true x id here) ∙ e)))))
    (λ _ rest. subst (Contains (heartbeat_sent_to_each y xs).sent) same (all_sent y xs id rest (λ e. other (e ∙ own))))
    is

-- ---- when they are due

due_sent : (n : PlainNode) (id : ℕ) → HEARTBEAT_TICKS ≤ n.clock.heartbeat_elapsed → has (keys_of n.tracker.views) id ≡ true → (id ≡ n.id → ⊥)
    → Contains (due_heartbeats_sent n).sent (heartbeat n id)
unfolding due_heartbeats_sent
due_sent n id due is other =
    let count = n.clock.heartbeat_elapsed in
    if_both (λ (x : PlainNode). Contains x.sent (heartbeat n id)) (nat_le HEARTBEAT_TICKS count) _ _
    (λ _. all_sent (with_heartbeat_elapsed n 0) (ids_of n.tracker.views) id (has_union [] (keys_of n.tracker.views) id ∙ is) other)
    (λ no. absurd (false≢true (sym no ∙ le-leb HEARTBEAT_TICKS count due)))

-- ---- a look at the quorum changes nothing of that

record IsAlike (id : ℕ) (n x : PlainNode) : Type 0 where
  own : x.id ≡ n.id
  keys : keys_of x.tracker.views ≡ keys_of n.tracker.views
  count : x.clock.heartbeat_elapsed ≡ n.clock.heartbeat_elapsed
  same : heartbeat x id ≡ heartbeat n id

alike_sent : (id : ℕ) (n x : PlainNode) → IsAlike id n x → HEARTBEAT_TICKS ≤ n.clock.heartbeat_elapsed → has (keys_of n.tracker.views) id ≡ true → (id ≡ n.id → ⊥)
    → Contains (due_heartbeats_sent x).sent (heartbeat n id)
alike_sent id n x a due is other =
    subst (Contains (due_heartbeats_sent x).sent) a.same
    (due_sent x id (subst (λ (k : ℕ). HEARTBEAT_TICKS ≤ k) (sym a.count) due) (ap (λ (ks : List ℕ). has ks id) a.keys ∙ is) (λ e. other (e ∙ a.own)))

reset_alike : (id : ℕ) (n : PlainNode) → IsAlike id n (activity_reset n)
unfolding others_marked_inactive
reset_alike id n =
    if_both (IsAlike id n) n.options.check_quorum _ _
    (λ _. record {
      own = refl;
      keys = ids_unmarked n.id n.tracker.views;
      count = refl;
      same = ap (λ (i : ℕ). message n.id id n.term (kind.Heartbeat (min i n.commit))) (unmarked_match n.id n.tracker.views id);
    })
    (λ _. record { own = refl; keys = refl; count = refl; same = refl })

ended_alike : (id : ℕ) (n : PlainNode) (t : NodeStep) → IsAlike id n t.node → IsAlike id n (transfer_ended t).node
unfolding transfer_ended
ended_alike id n t a =
    if_both (λ (u : NodeStep). IsAlike id n u.node) (t.node.transferee == 0) _ _ (λ _. a) (λ _. record { own = a.own; keys = a.keys; count = a.count; same = a.same })

supported : (check active : Bool) → (check ≡ false) ⊎ (active ≡ true) → (check && not active) ≡ false
supported check active (inl none) = rw none refl
supported true active (inr heard) = rw heard refl
supported false active (inr heard) = refl

looked_sent : (id : ℕ) (t : NodeStep) → IsSupported t.node → HEARTBEAT_TICKS ≤ t.node.clock.heartbeat_elapsed → has (keys_of t.node.tracker.views) id ≡ true → (id ≡ t.node.id → ⊥)
    → Contains (active_quorum_checked t).node.sent (heartbeat t.node id)
unfolding active_quorum_checked
looked_sent id t has_quorum due is other =
    let n = t.node in
    let v : NodeStep = with_node t (activity_reset n) in
    let u : NodeStep = transfer_ended v in
    if_both (λ (x : NodeStep). Contains x.node.sent (heartbeat n id)) (has_lost_quorum n) _ (with_node u (due_heartbeats_sent u.node))
    (λ lost. absurd (false≢true (sym (supported n.options.check_quorum (quorum_active n.tracker) has_quorum) ∙ lost)))
    (λ _. alike_sent id n u.node (ended_alike id n v (reset_alike id n)) due is other)

leader_sent : (id : ℕ) (t : NodeStep) → IsSupported t.node → HEARTBEAT_TICKS ≤ next_count t.node.clock.heartbeat_elapsed → has (keys_of t.node.tracker.views) id ≡ true
    → (id ≡ t.node.id → ⊥) → Contains (leader_ticked t).node.sent (heartbeat t.node id)
unfolding leader_ticked
leader_sent id t has_quorum due is other =
    let n : PlainNode = counters_advanced t.node in
    if_both (λ (x : NodeStep). Contains x.node.sent (heartbeat t.node id)) (nat_le ELECTION_TICKS n.clock.elapsed) _ _
    (λ _. looked_sent id (with_node t (with_elapsed n 0)) has_quorum due is other) (λ _. due_sent n id due is other)

role_sent : (P : NodeStep → Type 0) (r : Role) (t : NodeStep) → r ≡ role.Leader → P (leader_ticked t) → P (ticked_by r t)
role_sent P role.Leader t leads p = p
role_sent P role.Follower t leads p = cc
role_sent P role.Precandidate t leads p = cc
role_sent P role.Candidate t leads p = cc

pub heartbeats_sent : (t : NodeStep) (id : ℕ) → t.node.role ≡ role.Leader → IsSupported t.node → HasViewsOfMembers t.node → is_member t.node.tracker.config id ≡ true
    → (id ≡ t.node.id → ⊥) → HEARTBEAT_TICKS ≤ next_count t.node.clock.heartbeat_elapsed → Contains (ticked t).node.sent (heartbeat t.node id)
heartbeats_sent t id leads has_quorum views member other due =
    role_sent (λ (u : NodeStep). Contains u.node.sent (heartbeat t.node id)) t.node.role t leads
    (leader_sent id t has_quorum due (views.of_members leads id ∙ member) other)
