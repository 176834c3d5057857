-- A leader's match of a member rests on that member's answers, or is its own and durable
use Rattle.std.proofs.Common.{ℕ, ◌≤◌, ◌⊎◌, ◌≡◌, inl, inr, subst, sym, arith, not, ap, ◌∙◌, refl, true, Result, Ok, Err}
use Rattle.rb_raftlog.specs.Log.{LogValue, compacted, made_durable, term_at}
use Rattle.rb_raftlog.specs.declared.raft_log.LogFault.{LogFault}
use Rattle.rb_tracker.specs.Active.{others_marked_inactive}
use Rattle.rb_tracker.specs.Configs.{members}
use Rattle.rb_tracker.specs.Progresses.{acked}
use Rattle.rb_tracker.specs.Trackers.{ids_of}
use Rattle.rb_message.specs.declared.message.Message.{Message}
use Rattle.rb_message.specs.declared.role.Role.TheVariants as role
use Rattle.rb_node.specs.Campaigns.{precandidate}
use Rattle.rb_node.specs.Changing.{without_views, missing}
use Rattle.rb_node.specs.Following.{with_appended, restored_to}
use Rattle.rb_node.specs.Leading.{in_lead, leading}
use Rattle.rb_node.specs.Node.{PlainNode, NodeStep}
use Rattle.rb_node.specs.Sends.{with_view_at}
use Rattle.rb_node.specs.Step.{stepped}
use Rattle.rb_calls.specs.Calling.{Call, after}
use Rattle.rb_calls.specs.Matches.{IsAccepted, RestsOn}
use Rattle.rb_calls.specs.Sound.{HasViewsOfMembers, IsSound}
use Rattle.rb_calls.proofs.CallWays.{with_members_only, ways, called_way}
use Rattle.rb_laws.proofs.ChoiceLaws.{may_campaign}
use Rattle.rb_calls.proofs.Goes.{Ways, anyone, core, Core}
use Rattle.rb_calls.proofs.LeaderLaws.{leading_same, leading_leads, strangers_only}
use Rattle.rb_calls.proofs.MatchViewLaws.{of, with_views_at_most, place_set, strangers_less, unmarked_match}
use Rattle.rb_laws.proofs.MemberMoveLaws.{call_members}
use Rattle.rb_calls.proofs.MoveLaws.{no_leader}
use Rattle.rb_calls.proofs.Moves.{StepMove, StepTells, Follows, Asks, Stands, Leads, Takes, Restores, Acks, Allows, over, ChangeMove, Unchanged, Configures, Resigns, Revises, in_config, with_members, CallMove, CallChanges, CallSteps, Unmarks, Gives_up, Saves, Compacts}
use Rattle.rb_calls.proofs.ProgressLaws.{acked_matched}
use Rattle.rb_calls.proofs.StepWays.{stepped_way}
use Rattle.rb_calls.proofs.TellWays.{Rest, rest, tells_rest, tells_match}

-- ---- how much a node knows a member to hold: no more than so much, or, while it leads, what it led with, what is durable, or what was said

abbrev pub Bounded : Ways → ℕ → ℕ → ℕ → ℕ → Rest → ℕ → Type 0
Bounded w id low term bound r held =
    (held ≤ low)
    ⊎ ((r.role ≡ role.Leader) × (((r.term ≡ term) × (held ≤ bound))
    ⊎ (((id ≡ r.id) × (held ≤ r.log.durable)) ⊎ ((j : ℕ) × (held ≤ j) × w.matched r.term id j))))

abbrev pub IsBounded : Ways → ℕ → ℕ → ℕ → ℕ → PlainNode → Type 0
IsBounded w id low term bound n = Bounded w id low term bound (rest (core n)) (of n id)

-- who doesn't lead knows no more by new views of the same
not_leading : (w : Ways) (id low term bound : ℕ) (r s : Rest) (held : ℕ) → (r.role ≡ role.Leader → ⊥) → Bounded w id low term bound r held
    → Bounded w id low term bound s held
not_leading w id low term bound r s held never p =
    elim p as (λ _. Bounded w id low term bound s held) [
      | inl less ↦ inl less
      | inr leads ↦ absurd (never leads.0)
    ]

step_bounded : {w : Ways} (id low term bound : ℕ) {a b : PlainNode} → StepMove w a b → IsBounded w id low term bound a → IsBounded w id low term bound b
step_bounded {w} id low term bound {a} {b} (StepTells m) p =
    subst (λ (r : Rest). Bounded w id low term bound r (of b id)) (sym (tells_rest m)) (subst (Bounded w id low term bound (rest (core a))) (sym (tells_match id m)) p)
step_bounded id low term bound (Follows n later lead up past) p = inl (omega arith)
step_bounded {w} id low term bound (Asks n may) p =
    not_leading w id low term bound (rest (core n)) (rest (core (precandidate n))) (of n id) (may_campaign n may).follows p
step_bounded id low term bound (Stands n may) p = inl (omega arith)
step_bounded {w} id low term bound (Leads n stands elected won) p =
    (let e = leading_same n in
    elim (with_views_at_most (in_lead n) (members n.tracker.config) (not n.options.check_quorum) id) as (λ _. IsBounded w id low term bound (leading n)) [
      | inl less ↦ inl (omega (arith, less))
      | inr own ↦ (let durable : (leading n).log.durable ≡ n.log.durable = ap (λ (c : Core). c.log.durable) e in let far = own.1 in
          inr (leading_leads n, inr (inl (own.0 ∙ sym (ap (λ (c : Core). c.id) e), omega (arith, far, durable)))))
    ])
step_bounded {w} id low term bound (Takes n from append is came) p =
    not_leading w id low term bound (rest (core n)) (rest (core (with_appended n from append))) (of n id) (no_leader n.role is) p
step_bounded {w} id low term bound (Restores n s is past came other) p =
    not_leading w id low term bound (rest (core n)) (rest (core (restored_to n s))) (of n id) (no_leader n.role is) p
step_bounded {w} id low term bound (Acks n at from i view leads here is up said) p =
    elim (place_set n.tracker.views at from id (acked view i) here) as (λ _. IsBounded w id low term bound (with_view_at n at (acked view i))) [
      | inl same ↦ subst (Bounded w id low term bound (rest (core n))) (sym same) p
      | inr new ↦ (let now = new.1 ∙ acked_matched view.state view i in
          inr (leads, inr (inr (i, omega (arith, now), subst (λ (x : ℕ). w.matched n.term x i) (sym new.0) said))))
    ]
step_bounded id low term bound _ p = p

-- ---- a message

-- by the answer that it is
abbrev AnswerOf : NodeStep → Message → Ways
AnswerOf t m = record anyone { matched = λ _ from i. (from ≡ m.from) × IsAccepted t.node m i }

pub accepted_less : (n : PlainNode) (m : Message) (i j : ℕ) → j ≤ i → IsAccepted n m i → IsAccepted n m j
accepted_less n m i j less is =
    (let at_most = is.at_most in let held = is.held in
    record { leads = is.leads; of_term = is.of_term; index = is.index; says = is.says; at_most = omega (arith, less, at_most); held = omega (arith, less, held) })

pub stepped_rests : (t : NodeStep) (m : Message) (id : ℕ) → RestsOn t.node m (stepped t m).node id
stepped_rests t m id =
    let n = t.node in
    let x = (stepped t m).node in
    let bounds : Allows (StepMove (AnswerOf t m)) (λ a b. IsBounded (AnswerOf t m) id (of n id) 0 0 a → IsBounded (AnswerOf t m) id (of n id) 0 0 b) =
    record { nothing = λ _ p. p; chain = λ a b c p q r. q (p r); each = λ a b s p. step_bounded id (of n id) 0 0 s p } in
    elim (over bounds (stepped_way t m tt (λ _. tt) (λ _. tt) (λ i is. (refl, is))) (inl (omega arith))) as (λ _. RestsOn n m x id) [
      | inl less ↦ inl less
      | inr leads ↦ elim leads.1 as (λ _. RestsOn n m x id) [
        | inl first ↦ (let none = first.1 in inl (omega (arith, none)))
        | inr more ↦ elim more as (λ _. RestsOn n m x id) [
          | inl own ↦ inr (inl own)
          | inr said ↦ inr (inr (said.2.0, accepted_less n m said.0 (of x id) said.1 said.2.1))
        ]
      ]
    ]

-- ---- every call

less_bounded : (w : Ways) (id low term bound : ℕ) (r : Rest) (old new : ℕ) → new ≤ old → Bounded w id low term bound r old → Bounded w id low term bound r new
less_bounded w id low term bound r old new less p =
    elim p as (λ _. Bounded w id low term bound r new) [
      | inl below ↦ inl (omega (arith, less, below))
      | inr leads ↦ elim leads.1 as (λ _. Bounded w id low term bound r new) [
        | inl first ↦ (let far = first.1 in inr (leads.0, inl (first.0, omega (arith, less, far))))
        | inr more ↦ elim more as (λ _. Bounded w id low term bound r new) [
          | inl own ↦ (let far = own.1 in inr (leads.0, inr (inl (own.0, omega (arith, less, far)))))
          | inr said ↦ (let far = said.1 in inr (leads.0, inr (inr (said.0, omega (arith, less, far), said.2))))
        ]
      ]
    ]

durable_bounded : (w : Ways) (id low term bound : ℕ) (r : Rest) (v : LogValue) (held : ℕ) → r.log.durable ≤ v.durable → Bounded w id low term bound r held
    → Bounded w id low term bound (record r { log = v }) held
durable_bounded w id low term bound r v held more p =
    elim p as (λ _. Bounded w id low term bound (record r { log = v }) held) [
      | inl below ↦ inl below
      | inr leads ↦ elim leads.1 as (λ _. Bounded w id low term bound (record r { log = v }) held) [
        | inl first ↦ inr (leads.0, inl first)
        | inr rest_of ↦ elim rest_of as (λ _. Bounded w id low term bound (record r { log = v }) held) [
          | inl own ↦ (let far = own.1 in inr (leads.0, inr (inl (own.0, omega (arith, more, far)))))
          | inr said ↦ inr (leads.0, inr (inr said))
        ]
      ]
    ]

change_bounded : (w : Ways) (id low term bound : ℕ) {a b : PlainNode} → ChangeMove a b → HasViewsOfMembers a → IsBounded w id low term bound a
    → IsBounded w id low term bound b
change_bounded w id low term bound (Unchanged n) h p = p
change_bounded w id low term bound (Configures n c never) h p = p
change_bounded w id low term bound (Resigns n c) h p = inl (omega arith)
change_bounded w id low term bound (Revises n c leads) h p =
    (let x = in_config n c in
    let y = with_members x in
    let ids = ids_of x.tracker.views in
    let left = without_views x ids in
    let fewer : of left id ≤ of n id = strangers_less x ids id h.in_order in
    let e : core left ≡ core n = ap core (strangers_only x ids) in
    let m : rest (core y) ≡ rest (core n) = ap (λ (z : PlainNode). rest (core z)) (with_members_only x) in
    elim (with_views_at_most left (missing left.tracker.views (members left.tracker.config)) true id) as (λ _. IsBounded w id low term bound y) [
      | inl less ↦ subst (λ (r : Rest). Bounded w id low term bound r (of y id)) (sym m)
          (less_bounded w id low term bound (rest (core n)) (of n id) (of y id) (omega (arith, less, fewer)) p)
      | inr own ↦ (let far = own.1 in let durable : left.log.durable ≡ n.log.durable = ap (λ (k : Core). k.log.durable) e in
          subst (λ (r : Rest). Bounded w id low term bound r (of y id)) (sym m) (inr (leads, inr (inl (own.0 ∙ ap (λ (k : Core). k.id) e, omega (arith, far, durable))))))
    ])

compacted_durable : (v : LogValue) (i : ℕ) (r : Result ℕ LogFault) → (compacted v i r).durable ≡ v.durable
compacted_durable v i (Ok term) = refl
compacted_durable v i (Err fault) = refl

looked_match : (n : PlainNode) (id : ℕ) → of (record n { tracker = others_marked_inactive n.tracker n.id }) id ≡ of n id
unfolding others_marked_inactive
looked_match n id = unmarked_match n.id n.tracker.views id

call_bounded : {sound : Type 0} {w : Ways} (id low term bound : ℕ) → sound → {a b : PlainNode} → CallMove sound w a b → HasViewsOfMembers a
    → IsBounded w id low term bound a → IsBounded w id low term bound b
call_bounded {w = w} id low term bound s (CallChanges m has) h p = change_bounded w id low term bound m h p
call_bounded id low term bound s (CallSteps m) h p = step_bounded id low term bound m p
call_bounded {w = w} id low term bound s (Unmarks n) h p = subst (Bounded w id low term bound (rest (core n))) (sym (looked_match n id)) p
call_bounded id low term bound s (Gives_up n) h p = inl (omega arith)
call_bounded {w = w} id low term bound s (Saves n known) h p =
    (let within = (known s).within in durable_bounded w id low term bound (rest (core n)) (made_durable n.log) (of n id) within p)
call_bounded {w = w} id low term bound s (Compacts n i is) h p =
    (let same = compacted_durable n.log i (term_at n.log i) in
    durable_bounded w id low term bound (rest (core n)) (compacted n.log i (term_at n.log i)) (of n id) (omega (arith, same)) p)
call_bounded id low term bound s _ h p = p

pub called_bounded : (c : Call) (t : NodeStep) (id low term bound : ℕ) → IsSound t.node → HasViewsOfMembers t.node → IsBounded (ways c t) id low term bound t.node
    → IsBounded (ways c t) id low term bound (after c t).node
called_bounded c t id low term bound s h p =
    let P : PlainNode → Type 0 = IsBounded (ways c t) id low term bound in
    let bounds : Allows (CallMove (IsSound t.node) (ways c t)) (λ a b. HasViewsOfMembers a → P a → HasViewsOfMembers b × P b) = record {
      nothing = λ n h p. (h, p);
      chain = λ a b c p q h r. (let first = p h r in q first.0 first.1);
      each = λ a b m h p. (call_members m h, call_bounded id low term bound s m h p);
    } in
    (over bounds (called_way c t (λ o. o)) h p).1
