-- What a restart finds of a node: each call leaves it, except for an advance, which saves anew, and for compacting, which moves its beginning (Ongaro's
-- thesis, section 3.8)
use Rattle.std.proofs.Common.{◌≡◌, ◌⊎◌, ℕ, ◌+◌, ◌-◌, ◌≤◌, true, false, List, [], ◌∷◌, ◌++◌, length, refl, sym, ap, subst, ◌∙◌, arith, inl, inr, nat_le, not}
use Rattle.std.proofs.lemmas.List.{take-append-le}
use Rattle.rb_raftlog.specs.declared.entry.Body.{Body}
use Rattle.rb_raftlog.specs.declared.entry.Body.TheVariants.{Payload, Change}
use Rattle.rb_raftlog.specs.declared.entry.Entry.{Entry}
use Rattle.rb_raftlog.specs.Log.{LogValue, own, appended, saved_entries}
use Rattle.rb_raftlog.specs.Log as logs
use Rattle.rb_raftlog.proofs.AppendLaws.{by_append}
use Rattle.rb_raftlog.proofs.SavedLaws.{appended-saves, restored-saves}
use Rattle.rb_tracker.proofs.SetLaws.{if_both}
use Rattle.rb_tracker.specs.Configs.{members}
use Rattle.rb_tracker.specs.Progresses.{PlainProgress}
use Rattle.rb_message.specs.declared.message.Message.{Message}
use Rattle.rb_message.specs.declared.role.Role.{Role}
use Rattle.rb_message.specs.declared.role.Role.TheVariants as role
use Rattle.rb_message.specs.declared.kind.MessageKind.TheVariants as kind
use Rattle.rb_node.specs.Campaigns.{campaigned}
use Rattle.rb_node.specs.Changing.{body_applied, applied_one, applied_all}
use Rattle.rb_node.specs.Leading.{in_lead}
use Rattle.rb_node.specs.Node.{PlainNode, NodeStep, with_node, started, message, with_elapsed}
use Rattle.rb_node.specs.Readying.{applying, saved, advanced}
use Rattle.rb_node.specs.Restarting.{restarted}
use Rattle.rb_node.specs.Step.{stepped}
use Rattle.rb_node.specs.Ticking.{due_heartbeats_sent, activity_reset, active_quorum_checked, has_lost_quorum, quorum_lost, counters_advanced, leader_ticked, next_count, is_due, non_leader_ticked, ticked_by}
use Rattle.rb_node.specs.Terms.{became_follower}
use Rattle.rb_node.specs.Transferring.{transfer_ended}
use Rattle.rb_node.specs.declared.limits.TheConstants.{ELECTION_TICKS}
use Rattle.rb_calls.specs.Calling.{Call, Step, Campaign, Propose, Transfer, Tick, Advance, ForgetLeader, ReportUnreachable, SetTimeout, Compact, after}
use Rattle.rb_calls.specs.Elections.{own_turn}
use Rattle.rb_calls.specs.Sound.{IsSound}
use Rattle.rb_calls.proofs.CallWays.{with_members_only, Changes, change_way, one_brought, applied_way, ready_within, beats_due_way, left_way, own_way, forgotten_way, reported_way}
use Rattle.rb_calls.proofs.Goes.{Ways, Keeps, core, anyone}
use Rattle.rb_calls.proofs.LeaderLaws.{viewing, with_views_only}
use Rattle.rb_calls.proofs.LeaderWays.{transfer_ended_way}
use Rattle.rb_calls.proofs.MoveLaws.{step_keeps, calls_keep}
use Rattle.rb_calls.proofs.Moves.{Whole, whole, Path, Onward, Allows, over, over_way, TellMove, Idle, ChangeMove, Revises, in_config, with_members, StepMove, StepTells, Leads, Appends, Takes, Restores}
use Rattle.rb_calls.proofs.Turns.{all_durable}
use Rattle.rb_calls.proofs.StepWays.{campaigned_way, stepped_way}

-- ---- one step

-- a restart finds the same; and the log's base, what is applied, and whether there is a snapshot to save, stay
pub record Stays (a b : PlainNode) : Type 0 where
  pub again : restarted b ≡ restarted a
  pub restored : b.restored ≡ a.restored
  pub base : b.log.base ≡ a.log.base
  pub base_term : b.log.base_term ≡ a.log.base_term
  pub applied : b.applied ≡ a.applied

-- the log begins at a snapshot that is to be saved yet
abbrev pub IsUnsaved : PlainNode → Type 0
IsUnsaved n = (n.restored ≡ true) × (n.log.base ≡ n.applied)

abbrev pub Leaves : PlainNode → PlainNode → Type 0
Leaves a b = Stays a b ⊎ ((restarted b ≡ restarted a) × IsUnsaved b)

pub same_again : {a b : PlainNode} → Leaves a b → restarted b ≡ restarted a
same_again {a} {b} h = elim h as (λ _. restarted b ≡ restarted a) [ inl stays ↦ stays.again | inr unsaved ↦ unsaved.0 ]

stays_same : (n : PlainNode) → Stays n n
stays_same n = record { again = refl; restored = refl; base = refl; base_term = refl; applied = refl }

stays_then : (a b c : PlainNode) → Stays a b → Stays b c → Stays a c
stays_then a b c p q = record {
  again = q.again ∙ p.again;
  restored = q.restored ∙ p.restored;
  base = q.base ∙ p.base;
  base_term = q.base_term ∙ p.base_term;
  applied = q.applied ∙ p.applied;
}

unsaved_then : (b c : PlainNode) → Stays b c → IsUnsaved b → IsUnsaved c
unsaved_then b c q p = (q.restored ∙ p.0, q.base ∙ p.1 ∙ sym q.applied)

leaves_then : (a b c : PlainNode) → Leaves a b → Leaves b c → Leaves a c
leaves_then a b c p q =
    elim q as (λ _. Leaves a c) [
      | inl stays ↦ elim p as (λ _. Leaves a c) [ inl first ↦ inl (stays_then a b c first stays) | inr was ↦ inr (stays.again ∙ was.0, unsaved_then b c stays was.1) ]
      | inr now ↦ inr (now.0 ∙ same_again p, now.1)
    ]

-- ---- what a leader tells, and changes

abbrev again_of : Whole → PlainNode
again_of x = record (started x.core.id x.stable.start x.stable.options) {
  term = x.stable.saved.term;
  vote = x.stable.saved.vote;
  log = logs.restarted x.core.log x.stable.start;
  commit = x.stable.saved.commit;
  saved = x.stable.saved;
}

idle_stays : (a b : PlainNode) → whole b ≡ whole a → Stays a b
idle_stays a b e = record {
  again = ap again_of e;
  restored = ap (λ (x : Whole). x.stable.restored) e;
  base = ap (λ (x : Whole). x.core.log.base) e;
  base_term = ap (λ (x : Whole). x.core.log.base_term) e;
  applied = ap (λ (x : Whole). x.core.applied) e;
}

telling_stays : {a b : PlainNode} → TellMove a b → Stays a b
telling_stays (Idle a b e) = idle_stays a b e
telling_stays _ = record { again = refl; restored = refl; base = refl; base_term = refl; applied = refl }

tell_stays : Allows TellMove Stays
tell_stays = record { nothing = stays_same; chain = stays_then; each = λ a b m. telling_stays m }

-- with other views alone
viewing_stays : (n : PlainNode) (views : List (ℕ × PlainProgress)) → Stays n (viewing n views)
viewing_stays n views = record { again = refl; restored = refl; base = refl; base_term = refl; applied = refl }

in_config_stays : (n : PlainNode) (x : PlainNode) → x ≡ viewing n x.tracker.views → Stays n x
in_config_stays n x is = subst (Stays n) (sym is) (viewing_stays n x.tracker.views)

change_stays : {a b : PlainNode} → ChangeMove a b → Stays a b
change_stays (Revises n c leads) =
    (let x : PlainNode = in_config n c in
    stays_then n x (with_members x) (record { again = refl; restored = refl; base = refl; base_term = refl; applied = refl })
    (in_config_stays x (with_members x) (with_members_only x)))
change_stays _ = record { again = refl; restored = refl; base = refl; base_term = refl; applied = refl }

changes_stay : {t u : NodeStep} → Changes t u → Stays t.node u.node
changes_stay {t} {u} c = stays_then t.node c.to u.node (change_stays c.first) (over tell_stays c.next)

-- ---- a message, or a campaign

-- another log of which the same is saved
again_by : (n : PlainNode) (v : LogValue) → saved_entries v ≡ saved_entries n.log → restarted (record n { log = v }) ≡ restarted n
again_by n v same =
    ap (λ (es : List Entry). record (started n.id n.start n.options) {
      term = n.saved.term;
      vote = n.saved.vote;
      log = record { base = n.start.index; base_term = n.start.term; entries = es; durable = n.start.index + length es; overwritten = [] };
      commit = n.saved.commit;
      saved = n.saved;
    }) same

own_saves : (v : LogValue) (e : Entry) → v.durable ≤ logs.last v → saved_entries (own v e) ≡ saved_entries v
own_saves v e within = ap (λ (es : List Entry). es ++ v.overwritten) (take-append-le (v.durable - v.base) v.entries (e ∷ []) (omega (arith, within)))

appended_base : (v : LogValue) (prev term commit : ℕ) (es : List Entry) → ((appended v prev term es commit).base ≡ v.base) × ((appended v prev term es commit).base_term ≡ v.base_term)
appended_base v prev term commit es = by_append v prev term commit es (λ w. (w.base ≡ v.base) × (w.base_term ≡ v.base_term)) (refl, refl) (λ c over holds e. (refl, refl))

step_leaves : {w : Ways} {a b : PlainNode} → StepMove w a b → IsSound a → Leaves a b
step_leaves (StepTells m) s = inl (telling_stays m)
step_leaves (Leads n stands elected won) s =
    (let x : PlainNode = in_lead n in
    let is = with_views_only x (members n.tracker.config) (not n.options.check_quorum) in
    inl (record {
      again = ap restarted is;
      restored = ap (λ (y : PlainNode). y.restored) is;
      base = ap (λ (y : PlainNode). y.log.base) is;
      base_term = ap (λ (y : PlainNode). y.log.base_term) is;
      applied = ap (λ (y : PlainNode). y.applied) is;
    }))
step_leaves (Appends n body pending leads puts marks) s =
    (let e : Entry = record { term = n.term; body = body } in
    inl (record { again = again_by n (own n.log e) (own_saves n.log e s.within); restored = refl; base = refl; base_term = refl; applied = refl }))
step_leaves (Takes n from append is came) s =
    (let v = appended n.log append.prev append.prev_term append.entries n.commit in
    let base = appended_base n.log append.prev append.prev_term n.commit append.entries in
    inl (record {
      again = again_by n v (appended-saves n.log append.prev append.prev_term n.commit append.entries);
      restored = refl;
      base = base.0;
      base_term = base.1;
      applied = refl;
    }))
step_leaves (Restores n snapshot is past came other) s = inr (again_by n (logs.restored n.log snapshot) (restored-saves n.log snapshot), (refl, refl))
step_leaves _ s = inl (record { again = refl; restored = refl; base = refl; base_term = refl; applied = refl })

-- from a sound node to a sound one
abbrev Carries : PlainNode → PlainNode → Type 0
Carries a b = IsSound a → IsSound b × Leaves a b

steps_carry : {w : Ways} → Allows (StepMove w) Carries
steps_carry {w} = record {
  nothing = λ n s. (s, inl (stays_same n));
  chain = λ a b c p q s. (let first = p s in let second = q first.0 in (second.0, leaves_then a b c first.1 second.1));
  each = λ a b m s. (((step_keeps m).goes s).ordered, step_leaves m s);
}

path_leaves : {w : Ways} {t u : NodeStep} → Path (StepMove w) t u → IsSound t.node → Leaves t.node u.node
path_leaves x s = (over steps_carry x s).1

-- ---- ticks

-- a step from a node of which a restart finds the same
from_same : (a b c : PlainNode) → Stays a b → Leaves b c → Leaves a c
from_same a b c p q = leaves_then a b c (inl p) q

reset_stays : (n : PlainNode) → Stays n (activity_reset n)
reset_stays n = if_both (Stays n) n.options.check_quorum _ _ (λ _. record { again = refl; restored = refl; base = refl; base_term = refl; applied = refl }) (λ _. stays_same n)

quorum_stays : (t : NodeStep) → Stays t.node (active_quorum_checked t).node
unfolding active_quorum_checked
quorum_stays t =
    let n = t.node in
    let u : NodeStep = with_node t (activity_reset n) in
    let v : NodeStep = transfer_ended u in
    if_both (λ (x : NodeStep). Stays n x.node) (has_lost_quorum n) (became_follower (quorum_lost t) n.term 0) (with_node v (due_heartbeats_sent v.node))
    (λ _. record { again = refl; restored = refl; base = refl; base_term = refl; applied = refl })
    (λ _. stays_then n u.node (due_heartbeats_sent v.node) (reset_stays n) (over tell_stays (Onward (transfer_ended_way u) (beats_due_way v))))

leader_ticks : (t : NodeStep) → Stays t.node (leader_ticked t).node
unfolding leader_ticked
leader_ticks t =
    let u : NodeStep = with_node t (counters_advanced t.node) in
    let v : NodeStep = with_node t (with_elapsed u.node 0) in
    if_both (λ (x : NodeStep). Stays t.node x.node) (nat_le ELECTION_TICKS u.node.clock.elapsed) (active_quorum_checked v) (with_node t (due_heartbeats_sent u.node))
    (λ _. stays_then t.node v.node (active_quorum_checked v).node (record { again = refl; restored = refl; base = refl; base_term = refl; applied = refl }) (quorum_stays v))
    (λ _. stays_then t.node u.node (due_heartbeats_sent u.node) (record { again = refl; restored = refl; base = refl; base_term = refl; applied = refl }) (over tell_stays (beats_due_way u)))

other_ticks : (t : NodeStep) → IsSound t.node → Leaves t.node (non_leader_ticked t).node
unfolding non_leader_ticked
other_ticks t s =
    let n = with_elapsed t.node (next_count t.node.clock.elapsed) in
    let v : NodeStep = with_node t (with_elapsed n 0) in
    let reset : Stays t.node v.node = record { again = refl; restored = refl; base = refl; base_term = refl; applied = refl } in
    if_both (λ (x : NodeStep). Leaves t.node x.node) (is_due n) (campaigned v false) (with_node t n)
    (λ _. from_same t.node v.node (campaigned v false).node reset (path_leaves {w = anyone} (campaigned_way v false) s))
    (λ _. inl (record { again = refl; restored = refl; base = refl; base_term = refl; applied = refl }))

tick_leaves : (r : Role) (t : NodeStep) → IsSound t.node → Leaves t.node (ticked_by r t).node
tick_leaves role.Follower t s = other_ticks t s
tick_leaves role.Precandidate t s = other_ticks t s
tick_leaves role.Candidate t s = other_ticks t s
tick_leaves role.Leader t s = inl (leader_ticks t)

-- ---- calls that save nothing and don't compact

any_step : (t : NodeStep) (m : Message) → IsSound t.node → Leaves t.node (stepped t m).node
any_step t m s = path_leaves {w = anyone} (stepped_way t m tt (λ _. tt) (λ _. tt) (λ _ _. tt)) s

abbrev pub LeavesSaved : Call → Type 0
LeavesSaved Advance = ⊥
LeavesSaved (Compact index) = ⊥
LeavesSaved _ = Unit {0}

pub call_leaves : (c : Call) (t : NodeStep) → LeavesSaved c → IsSound t.node → Leaves t.node (after c t).node
call_leaves (Step m) t leaves s = any_step t m s
call_leaves Campaign t leaves s = path_leaves {w = anyone} (campaigned_way t false) s
call_leaves (Propose body) t leaves s = any_step t (message t.node.id t.node.id 0 (kind.Proposal body)) s
call_leaves (Transfer to) t leaves s = any_step t (message t.node.id t.node.id 0 (kind.TransferLeader to)) s
call_leaves Tick t leaves s = tick_leaves t.node.role t s
call_leaves Advance t leaves s = absurd leaves
call_leaves ForgetLeader t leaves s = inl (over_way tell_stays (forgotten_way t.node.role t.node))
call_leaves (ReportUnreachable id) t leaves s = inl (over_way tell_stays (reported_way t.node id))
call_leaves (SetTimeout ticks) t leaves s = inl (record { again = refl; restored = refl; base = refl; base_term = refl; applied = refl })
call_leaves (Compact index) t leaves s = absurd leaves

-- ---- an advance

-- entries take effect up to an index; the log stays
record Applied (a b : PlainNode) (i : ℕ) : Type 0 where
  again : restarted b ≡ restarted a
  restored : b.restored ≡ a.restored
  log : b.log ≡ a.log
  applied : b.applied ≡ i

body_again : (body : Body) (t : NodeStep) → (restarted (body_applied body t).node ≡ restarted t.node) × ((body_applied body t).node.restored ≡ t.node.restored)
body_again (Payload bytes) t = (refl, refl)
body_again (Change transition words) t = (let h = changes_stay (change_way t transition words) in (h.again, h.restored))

one_applies : (t : NodeStep) (i : ℕ) (e : Entry) → Applied t.node (applied_one t i e).node i
one_applies t i e =
    let h = body_again e.body (with_node t (record t.node { applied = i })) in
    let b = one_brought t i e in
    record { again = h.0; restored = h.1; log = b.log; applied = b.applied }

all_apply : (t : NodeStep) (i : ℕ) (es : List Entry) → t.node.applied ≡ i → Applied t.node (applied_all t i es).node (i + length es)
all_apply t i [] at = (let none : i ≡ i + 0 = omega arith in record { again = refl; restored = refl; log = refl; applied = at ∙ none })
all_apply t i (e ∷ es) at =
    let u : NodeStep = applied_one t (i + 1) e in
    let first = one_applies t (i + 1) e in
    let rest = all_apply u (i + 1) es first.applied in
    let far : i + 1 + length es ≡ i + length (e ∷ es) = omega arith in
    record { again = rest.again ∙ first.again; restored = rest.restored ∙ first.restored; log = rest.log ∙ first.log; applied = rest.applied ∙ far }

-- a restart finds what the advance saves; the log's base stays, and what is applied is saved as committed; or a snapshot is to be saved next
pub record HasSaved (n m : PlainNode) : Type 0 where
  pub again : restarted m ≡ restarted (saved n)
  pub next : ((m.restored ≡ false) × (m.log.base ≡ n.log.base) × (m.log.base_term ≡ n.log.base_term) × (m.applied ≤ n.commit)) ⊎ IsUnsaved m

saved_sound : (t : NodeStep) → IsSound t.node → IsSound (applied_all (with_node t (saved t.node)) t.node.applied (applying t.node)).node
saved_sound t s =
    let n = t.node in
    let k : Keeps anyone (core n) (core (saved n)) = all_durable (core n) in
    ((over (calls_keep {w = anyone} s) (applied_way t (λ (o : IsSound n). o))).goes (k.goes s).ordered).ordered

pub advance_saves : (t : NodeStep) → IsSound t.node → HasSaved t.node (after Advance t).node
unfolding advanced
advance_saves t s =
    let n = t.node in
    let first : NodeStep = with_node t (saved n) in
    let all : NodeStep = applied_all first n.applied (applying n) in
    let x = all_apply first n.applied (applying n) refl in
    let known = (ready_within n s).0 in
    let sound : IsSound all.node = saved_sound t s in
    let y : Leaves all.node (after Advance t).node =
    path_leaves {w = anyone} (Onward (left_way all) (own_way n.id (own_turn t) n.waiting (λ k d low _. tt) (λ v m g. tt) (λ m e. tt) (λ term from i a. tt))) sound in
    record {
      again = same_again y ∙ x.again;
      next = elim y as (λ _. (((after Advance t).node.restored ≡ false) × ((after Advance t).node.log.base ≡ n.log.base) × ((after Advance t).node.log.base_term ≡ n.log.base_term) × ((after Advance t).node.applied ≤ n.commit)) ⊎ IsUnsaved (after Advance t).node) [
        | inl stays ↦ inl (
          stays.restored ∙ x.restored,
          stays.base ∙ ap (λ (v : LogValue). v.base) x.log,
          stays.base_term ∙ ap (λ (v : LogValue). v.base_term) x.log,
          (let at = stays.applied ∙ x.applied in omega (arith, at, known)),
        )
        | inr unsaved ↦ inr unsaved.1
      ];
    }
