-- Each call, as a way of moves: entries that take effect, ticks, what is ready, and the calls themselves
use Rattle.std.proofs.Common.{[], suc, ◌≡◌, true, refl, false, ap, Result, Ok, if◌then◌else◌, Err, List, ℕ, ◌≤◌, ◌∙◌, arith, nat_lt, ◌+◌, length, ◌∷◌, Bool, ◌&&◌, ◌==◌, nat_le, min, ◌⊎◌, eqb-true, inl, inr, ◌-◌, max, Option, None, Some, sym, subst}
use Rattle.std.specs.Prelude.{All, Contains, slice_get}
use Rattle.std.proofs.lemmas.Bool.{ltb-true, leb-true, and_parts, false≢true}
use Rattle.std.proofs.lemmas.List.Elements.{All-head, All-tail, All-take, All-drop, All-weaker, All-contains_itself}
use Rattle.rb_raftlog.specs.Bodies.{is_change}
use Rattle.rb_raftlog.specs.Log.{LogValue, is_term, term_at, entry_at, last, compact_fault}
use Rattle.rb_raftlog.proofs.PlaceLaws.{between-entries}
use Rattle.rb_raftlog.specs.declared.entry.Body.{Body}
use Rattle.rb_raftlog.specs.declared.entry.Body.TheVariants.{Payload, Change}
use Rattle.rb_raftlog.specs.declared.entry.Entry.{Entry}
use Rattle.rb_raftlog.specs.declared.raft_log.CompactFault.{CompactFault}
use Rattle.rb_vocab.specs.declared.change.Transition.{Transition}
use Rattle.rb_vocab.specs.declared.change.Transition.TheVariants.{Auto}
use Rattle.rb_vocab.specs.declared.change.Word.{Word}
use Rattle.rb_tracker.proofs.SetLaws.{if_both}
use Rattle.rb_tracker.specs.Changes.{changed}
use Rattle.rb_tracker.specs.Commits.{commit_of, match_of}
use Rattle.rb_tracker.specs.Configs.{is_member, members, is_joint}
use Rattle.rb_tracker.specs.Progresses.{PlainProgress}
use Rattle.rb_tracker.specs.Trackers.{ids_of, view_at, place}
use Rattle.rb_tracker.specs.declared.changes.ChangeFault.{ChangeFault}
use Rattle.rb_tracker.specs.declared.config.Config.{Config}
use Rattle.rb_message.specs.declared.event.Event.{Event}
use Rattle.rb_message.specs.declared.event.EventKind.TheVariants as event
use Rattle.rb_message.specs.Events.{event_at}
use Rattle.rb_message.specs.declared.kind.MessageKind.TheVariants as kind
use Rattle.rb_message.specs.declared.message.Message.{Message}
use Rattle.rb_message.specs.declared.role.Role.{Role}
use Rattle.rb_message.specs.declared.role.Role.TheVariants as role
use Rattle.rb_node.proofs.Between.{between_sizes}
use Rattle.rb_node.specs.Calls.{forgotten_by, reported_with, unreachable, reported_at, reported}
use Rattle.rb_node.specs.Campaigns.{campaigned}
use Rattle.rb_node.specs.Changing.{transfer_to_non_member_cancelled, views_updated, without_views, missing, switched, steps_down, change_applied, body_applied, applied_one, applied_all, joint_left, leaves_joint}
use Rattle.rb_node.specs.Leading.{appended_change}
use Rattle.rb_node.specs.Node.{NodeStep, with_node, is_leader, PlainNode, with_event, message, with_heartbeat_elapsed, with_elapsed, with_timeout}
use Rattle.rb_node.specs.Readying.{own_answers_stepped, applying, saved, advanced}
use Rattle.rb_node.specs.Step.{stepped}
use Rattle.rb_node.specs.Terms.{became_follower}
use Rattle.rb_node.specs.Ticking.{heartbeat_sent_to, heartbeat_sent_to_each, due_heartbeats_sent, activity_reset, active_quorum_checked, has_lost_quorum, quorum_lost, leader_ticked, counters_advanced, non_leader_ticked, next_count as counted_tick, is_due, ticked_by}
use Rattle.rb_node.specs.Transferring.{transfer_ended}
use Rattle.rb_node.specs.declared.limits.TheConstants.{HEARTBEAT_TICKS, ELECTION_TICKS}
use Rattle.rb_calls.specs.Calling.{Call, Step, Advance, compacted_unless, after, Campaign, Propose, Transfer, Tick, ForgetLeader, ReportUnreachable, SetTimeout, Compact}
use Rattle.rb_calls.specs.Elections.{OwnGrants, OwnElects, own_turn, Granted, Elected}
use Rattle.rb_calls.specs.Matches.{IsAccepted}
use Rattle.rb_calls.specs.Sound.{IsSound}
use Rattle.rb_calls.proofs.Goes.{Core, core, Ways}
use Rattle.rb_calls.proofs.LeaderLaws.{viewing, with_views_only, strangers_only}
use Rattle.rb_calls.proofs.LeaderWays.{nothing_done, transfer_ended_way, telling_path, appended_change_way, all_told_way}
use Rattle.rb_calls.proofs.Moves.{Path, TellMove, ChangesNothing, with_members, Onward, Goes_on, ChangeMove, in_config, following, Resigns, Shows, Revises, Configures, Unchanged, Idle, Whole, Commits, Allows, over, StepMove, CallMove, IsNext, wider_path, CallSteps, One, Fills, CallChanges, StepTells, Applies, Way, Sent, Then, Unmarks, Gives_up, whole, Saves, Viewed, Compacts}
use Rattle.rb_calls.proofs.ProgressLaws.{unreachable_matched, sound_unreachable}
use Rattle.rb_calls.proofs.Saying.{different}
use Rattle.rb_calls.proofs.StepWays.{campaigned_way, stepped_way}
use Rattle.rb_calls.proofs.TellWays.{checked_way}

-- ---- a change that takes effect

given_up_way : (t : NodeStep) → Path TellMove t (transfer_to_non_member_cancelled t)
given_up_way t = if_both (Path TellMove t) (is_member t.node.tracker.config t.node.transferee) _ _ (λ _. nothing_done t) (λ _. transfer_ended_way t)

pub revised_way : (t : NodeStep) → Path TellMove (with_node t (with_members t.node)) (views_updated t)
unfolding views_updated
revised_way t =
    let u : NodeStep = with_node t (with_members t.node) in
    let left = without_views t.node (ids_of t.node.tracker.views) in
    Onward (given_up_way u) (Goes_on (transfer_to_non_member_cancelled u) (checked_way (transfer_to_non_member_cancelled u).node (missing left.tracker.views (members left.tracker.config))))

pub leader_of : (r : Role) → is_leader r ≡ true → r ≡ role.Leader
leader_of role.Follower e = cc
leader_of role.Precandidate e = cc
leader_of role.Candidate e = cc
leader_of role.Leader e = refl

pub follower_of : (r : Role) → is_leader r ≡ false → r ≡ role.Leader → ⊥
follower_of r follows leads = let is : is_leader r ≡ true = ap is_leader leads in cc

-- first the configuration becomes another, and then its leader tells
pub record Changes (t u : NodeStep) : Type 0 where
  pub to : PlainNode
  pub first : ChangeMove t.node to
  pub next : Path TellMove (with_node t to) u

switched_way : (r : Result Config ChangeFault) (t : NodeStep) → Changes t (switched r t)
switched_way (Ok c) t =
    let n = t.node in
    let shown : Event = event_at n.id (event.Switched c) in
    let x : PlainNode = in_config n c in
    let u : NodeStep = with_event (with_node t x) shown in
    let down : PlainNode = following x n.term 0 in
    let on : PlainNode = with_members x in
    if_both (Changes t) (is_leader n.role) (if steps_down u.node then became_follower u u.node.term 0 else views_updated u) u
    (λ leads. if_both (Changes t) (steps_down u.node) (became_follower u u.node.term 0) (views_updated u)
    (λ _. record { to = down; first = Resigns n c; next = Onward (Shows (with_node t down) shown) (Shows (with_event (with_node t down) shown) _) })
    (λ _. record { to = on; first = Revises n c (leader_of n.role leads); next = Onward (Shows (with_node t on) shown) (revised_way u) }))
    (λ follows. record { to = x; first = Configures n c (follower_of n.role follows); next = Shows (with_node t x) shown })
switched_way (Err fault) t = record { to = t.node; first = Unchanged t.node; next = Shows t _ }

pub change_way : (t : NodeStep) (transition : Transition) (words : List Word) → Changes t (change_applied t transition words)
unfolding change_applied
change_way t transition words = switched_way (changed t.node.tracker.config transition words) t

-- ---- what such a change leaves as it is

pub record Untouched : Type 0 where
  pub id : ℕ
  pub log : LogValue
  pub applied : ℕ
  pub content : List ℕ

abbrev pub untouched : Core → Untouched
untouched c = record { id = c.id; log = c.log; applied = c.applied; content = c.content }

pub record Leaves (a b : PlainNode) : Type 0 where
  pub same : untouched (core b) ≡ untouched (core a)
  pub commit : a.commit ≤ b.commit

pub with_members_only : (n : PlainNode) → with_members n ≡ viewing n (with_members n).tracker.views
with_members_only n =
    let left = without_views n (ids_of n.tracker.views) in
    with_views_only left (missing left.tracker.views (members left.tracker.config)) true
    ∙ ap (λ (y : PlainNode). viewing y (with_members n).tracker.views) (strangers_only n (ids_of n.tracker.views))

leaves_same : {a b : PlainNode} → core b ≡ core a → Leaves a b
leaves_same {a} {b} e = let commit : b.commit ≡ a.commit = ap (λ (c : Core). c.commit) e in record { same = ap untouched e; commit = omega (arith, commit) }

telling_leaves : {a b : PlainNode} → TellMove a b → Leaves a b
telling_leaves (Idle a b e) = leaves_same (ap (λ (w : Whole). w.core) e)
telling_leaves (Commits n can) =
    (let i = commit_of n.tracker in
    let up = ltb-true n.commit i (and_parts (nat_lt n.commit i) (is_term (term_at n.log i) n.term) can).0 in
    record { same = refl; commit = omega (arith, up) })
telling_leaves _ = leaves_same refl

change_leaves : {a b : PlainNode} → ChangeMove a b → Leaves a b
change_leaves (Revises n c leads) = leaves_same (ap core (with_members_only (in_config n c)))
change_leaves _ = record { same = refl; commit = omega arith }

leaves_then : (a b c : PlainNode) → Leaves a b → Leaves b c → Leaves a c
leaves_then a b c p q = record { same = q.same ∙ p.same; commit = omega (arith, p.commit, q.commit) }

leaves : Allows TellMove Leaves
leaves = record { nothing = λ n. leaves_same refl; chain = leaves_then; each = λ a b m. telling_leaves m }

pub changed_leaves : {t u : NodeStep} → Changes t u → Leaves t.node u.node
changed_leaves {t} {u} c = leaves_then t.node c.to u.node (change_leaves c.first) (over leaves c.next)

-- ---- entries

stepping : {sound : Type 0} {w : Ways} {t u : NodeStep} → Path (StepMove w) t u → Path (CallMove sound w) t u
stepping x = wider_path (λ a b m. CallSteps m) x

body_way : {sound : Type 0} {w : Ways} (body : Body) (t : NodeStep) (i : ℕ) (e : Entry) → e.body ≡ body → (sound → IsNext t.node i e) → (All ChangesNothing t.node.log.entries → is_change body ≡ false)
    → Path (CallMove sound w) t (body_applied body (with_node t (record t.node { applied = i })))
body_way (Payload bytes) t i e is next plain = Goes_on t (One (Fills t.node i e bytes is next))
body_way (Change transition words) t i e is next plain =
    (let u : NodeStep = with_node t (record t.node { applied = i }) in
    let c = change_way u transition words in
    Onward (Goes_on t (One (Applies t.node i e transition words is next)))
    (Onward (Goes_on u (One (CallChanges c.first (λ all. false≢true (sym (plain all)))))) (stepping (telling_path c.next))))

-- an entry brings applied to its index, and leaves the log
pub record Brought (t u : NodeStep) (i : ℕ) : Type 0 where
  pub id : u.node.id ≡ t.node.id
  pub log : u.node.log ≡ t.node.log
  pub applied : u.node.applied ≡ i
  pub commit : t.node.commit ≤ u.node.commit

pub body_brought : (body : Body) (t : NodeStep) → Brought t (body_applied body t) t.node.applied
body_brought (Payload bytes) t = record { id = refl; log = refl; applied = refl; commit = omega arith }
body_brought (Change transition words) t =
    (let l = changed_leaves (change_way t transition words) in
    record {
      id = ap (λ (u : Untouched). u.id) l.same;
      log = ap (λ (u : Untouched). u.log) l.same;
      applied = ap (λ (u : Untouched). u.applied) l.same;
      commit = l.commit;
    })

pub one_brought : (t : NodeStep) (i : ℕ) (e : Entry) → Brought t (applied_one t i e) i
one_brought t i e =
    (let b = body_brought e.body (with_node t (record t.node { applied = i })) in record { id = b.id; log = b.log; applied = b.applied; commit = b.commit })

-- some entries follow an index in a log
abbrev Follow : LogValue → ℕ → List Entry → Type 0
Follow v i es = (k : ℕ) (e : Entry) → slice_get es k ≡ Some e → entry_at v (i + 1 + k) ≡ Ok e

-- the entries that were committed and durable take effect
all_way : {sound : Type 0} {w : Ways} (t : NodeStep) (i : ℕ) (es : List Entry)
    → (sound → (t.node.applied ≡ i) × (i + length es ≤ t.node.commit) × (i + length es ≤ t.node.log.durable) × Follow t.node.log i es)
    → (All ChangesNothing t.node.log.entries → All ChangesNothing es) → Path (CallMove sound w) t (applied_all t i es)
all_way t i [] known plain = Goes_on t (One (CallSteps (StepTells (Idle t.node t.node refl))))
all_way {sound} {w} t i (e ∷ es) known plain =
    let u : NodeStep = applied_one t (i + 1) e in
    let b = one_brought t (i + 1) e in
    let at = b.applied in
    let up = b.commit in
    let durable : u.node.log.durable ≡ t.node.log.durable = ap (λ (v : LogValue). v.durable) b.log in
    let next : sound → IsNext t.node (i + 1) e = λ s.
    (let k = known s in let low = k.0 in let far = k.1 in let safe = k.2 in
    let here : i + 1 ≡ i + 1 + 0 = omega arith in
    record { next = omega (arith, low); known = omega (arith, far); durable = omega (arith, safe); held = ap (entry_at t.node.log) here ∙ k.3 0 e refl }) in
    Onward (body_way e.body t (i + 1) e refl next (λ all. All-head ChangesNothing e es (plain all)))
    (all_way u (i + 1) es (λ s.
    (let k = known s in let far = k.1 in let safe = k.2 in (
      at,
      omega (arith, far, up),
      omega (arith, safe, durable),
      λ j x is. (let place : i + 1 + 1 + j ≡ i + 1 + suc j = omega arith in ap (λ (v : LogValue). entry_at v (i + 1 + 1 + j)) b.log ∙ ap (entry_at t.node.log) place ∙ k.3 (suc j) x is),
    )))
    (λ all. All-tail ChangesNothing e es (plain (subst (λ (v : LogValue). All ChangesNothing v.entries) b.log all))))

ends_of : (a b c d e : Bool) → (a && b && c && d && e) ≡ true → (a ≡ true) × (b ≡ true) × (e ≡ true)
ends_of true true true true e h = (refl, refl, h)
ends_of true true true false e h = absurd (false≢true h)
ends_of true true false d e h = absurd (false≢true h)
ends_of true false c d e h = absurd (false≢true h)
ends_of false b c d e h = absurd (false≢true h)

pub left_way : {w : Ways} (t : NodeStep) → Path (StepMove w) t (joint_left t)
unfolding joint_left
left_way {w} t =
    let n = t.node in
    if_both (Path (StepMove w) t) (leaves_joint n) _ _
    (λ can. (let c = n.tracker.config in
    let all = ends_of (is_leader n.role) (is_joint c) c.auto (n.transferee == 0) (nat_le n.pending_change n.applied) can in
    Onward (appended_change_way t (Change Auto []) (leader_of n.role all.0) (inr (inr (refl, all.1))) (leb-true n.pending_change n.applied all.2)) (all_told_way (appended_change t (Change Auto [])))))
    (λ _. telling_path (nothing_done t))

-- ---- ticks

beat_way : (n : PlainNode) (id : ℕ) → Way TellMove n (heartbeat_sent_to n id)
beat_way n id =
    if_both (Way TellMove n) (id == n.id) _ _ (λ _. One (Idle n n refl))
    (λ no. One (Sent n (message n.id id n.term (kind.Heartbeat (min (match_of n.tracker.views id) n.commit)))
    tt (λ _. (refl, (refl, different id n.id no, omega arith, omega arith)))))

heartbeat_sent_to_each_way : (n : PlainNode) (ids : List ℕ) → Way TellMove n (heartbeat_sent_to_each n ids)
heartbeat_sent_to_each_way n [] = One (Idle n n refl)
heartbeat_sent_to_each_way n (id ∷ ids) = Then (beat_way n id) (heartbeat_sent_to_each_way (heartbeat_sent_to n id) ids)

pub beats_due_way : (t : NodeStep) → Path TellMove t (with_node t (due_heartbeats_sent t.node))
unfolding due_heartbeats_sent
beats_due_way t =
    let n : PlainNode = with_heartbeat_elapsed t.node 0 in
    if_both (λ (x : PlainNode). Path TellMove t (with_node t x)) (nat_le HEARTBEAT_TICKS t.node.clock.heartbeat_elapsed) _ _
    (λ _. Goes_on t (Then {b = n} (One (Idle t.node n refl)) (heartbeat_sent_to_each_way n (ids_of t.node.tracker.views)))) (λ _. nothing_done t)

looked_way : {sound : Type 0} {w : Ways} (t : NodeStep) → Path (CallMove sound w) t (with_node t (activity_reset t.node))
looked_way {sound} {w} t =
    if_both (λ (x : PlainNode). Path (CallMove sound w) t (with_node t x)) t.node.options.check_quorum _ _
    (λ _. Goes_on t (One (Unmarks t.node))) (λ _. stepping (telling_path (nothing_done t)))

quorum_way : {sound : Type 0} {w : Ways} (t : NodeStep) → Path (CallMove sound w) t (active_quorum_checked t)
unfolding active_quorum_checked
quorum_way {sound} {w} t =
    let n = t.node in
    let lost : NodeStep = quorum_lost t in
    let u : NodeStep = with_node t (activity_reset n) in
    if_both (Path (CallMove sound w) t) (has_lost_quorum n) _ _
    (λ _. Onward (Shows t _) (Onward (Goes_on lost (One (Gives_up n))) (Shows (with_node lost (following n n.term 0)) _)))
    (λ _. Onward (looked_way t) (stepping (telling_path (Onward (transfer_ended_way u) (beats_due_way (transfer_ended u))))))

-- the clocks go on
clocked : {sound : Type 0} {w : Ways} (t : NodeStep) (n : PlainNode) → whole n ≡ whole t.node → Path (CallMove sound w) t (with_node t n)
clocked t n same = Goes_on t (One (CallSteps (StepTells (Idle t.node n same))))

leader_ticked_way : {sound : Type 0} {w : Ways} (t : NodeStep) → Path (CallMove sound w) t (leader_ticked t)
unfolding leader_ticked
leader_ticked_way {sound} {w} t =
    let u : NodeStep = with_node t (counters_advanced t.node) in
    let n : PlainNode = with_elapsed u.node 0 in
    Onward (clocked t u.node refl)
    (if_both (Path (CallMove sound w) u) (nat_le ELECTION_TICKS u.node.clock.elapsed) _ _
    (λ _. Onward (clocked u n refl) (quorum_way (with_node u n))) (λ _. stepping (telling_path (beats_due_way u))))

other_ticked_way : {sound : Type 0} {w : Ways} (t : NodeStep) → Path (CallMove sound w) t (non_leader_ticked t)
unfolding non_leader_ticked
other_ticked_way {sound} {w} t =
    let u : NodeStep = with_node t (with_elapsed t.node (counted_tick t.node.clock.elapsed)) in
    let v : NodeStep = with_node u (with_elapsed u.node 0) in
    Onward (clocked t u.node refl)
    (if_both (Path (CallMove sound w) u) (is_due u.node) (campaigned v false) u
    (λ _. Onward (clocked u v.node refl) (stepping (campaigned_way v false))) (λ _. stepping (telling_path (nothing_done u))))

ticked_way : {sound : Type 0} {w : Ways} (r : Role) (t : NodeStep) → Path (CallMove sound w) t (ticked_by r t)
ticked_way role.Follower t = other_ticked_way t
ticked_way role.Precandidate t = other_ticked_way t
ticked_way role.Candidate t = other_ticked_way t
ticked_way role.Leader t = leader_ticked_way t

-- ---- what is ready is done

-- one of a node's own answers says to it, while it leads in a term, what a member holds
abbrev pub OwnTells : ℕ → NodeStep → List Message → ℕ → ℕ → ℕ → Type 0
OwnTells id t [] term from i = ⊥
OwnTells id t (m ∷ ms) term from i =
    ((m.to ≡ id) × (term ≡ t.node.term) × (from ≡ m.from) × IsAccepted t.node m i) ⊎ OwnTells id (if m.to == id then stepped t m else t) ms term from i

pub own_way : {w : Ways} (id : ℕ) (t : NodeStep) (ms : List Message) → All (λ (m : Message). m.to ≡ id → w.came m) ms
    → ((v n : ℕ) → OwnGrants id t ms v n → w.given v n) → ((n : ℕ) → OwnElects id t ms n → w.elected n)
    → ((term from i : ℕ) → OwnTells id t ms term from i → w.matched term from i) → Path (StepMove w) t (own_answers_stepped id t ms)
own_way id t [] came grant elect accept = telling_path (nothing_done t)
own_way {w} id t (m ∷ ms) came grant elect accept =
    let P : Message → Type 0 = λ x. x.to ≡ id → w.came x in
    let next : NodeStep = if m.to == id then stepped t m else t in
    Onward
    (if_both (Path (StepMove w) t) (m.to == id) (stepped t m) t
    (λ own. (let to = eqb-true m.to id own in
    stepped_way t m (All-head P m ms came to) (λ g. grant m.from m.term (inl (to, refl, refl, g))) (λ e. elect t.node.term (inl (to, refl, e)))
    (λ i a. accept t.node.term m.from i (inl (to, refl, refl, a)))))
    (λ _. telling_path (nothing_done t)))
    (own_way id next ms (All-tail P m ms came) (λ v n g. grant v n (inr g)) (λ n e. elect n (inr e)) (λ term from i a. accept term from i (inr a)))

-- what is committed and isn't applied is held
pub ready_within : (n : PlainNode) → IsSound n → (n.applied + length (applying n) ≤ n.commit) × (n.applied + length (applying n) ≤ last n.log)
ready_within n o =
    let sizes : length (applying n) ≡ min n.commit (last n.log) - max n.applied n.log.base = between_sizes n.log n.applied n.commit in
    let base = o.past_base in
    let known = o.is_committed in
    let held = o.is_held in
    (omega (arith, sizes, base, known, held), omega (arith, sizes, base, known, held))

-- the votes, elections, answers and messages of the call alone
abbrev pub Accepted : Call → NodeStep → ℕ → ℕ → ℕ → Type 0
Accepted (Step m) t term from i = (term ≡ t.node.term) × (from ≡ m.from) × IsAccepted t.node m i
Accepted Advance t term from i = OwnTells t.node.id (own_turn t) t.node.waiting term from i
Accepted _ t term from i = ⊥

abbrev pub Comes : Call → NodeStep → Message → Type 0
Comes (Step m) t x = x ≡ m
Comes (Propose body) t x = x ≡ message t.node.id t.node.id 0 (kind.Proposal body)
Comes (Transfer to) t x = x ≡ message t.node.id t.node.id 0 (kind.TransferLeader to)
Comes Advance t x = Contains t.node.waiting x × (x.to ≡ t.node.id)
Comes _ t x = ⊥

abbrev pub ways : Call → NodeStep → Ways
ways c t = record { given = Granted c t; elected = Elected c t; matched = Accepted c t; came = Comes c t }

-- what is saved, and then what is committed takes effect
pub applied_way : {sound : Type 0} {w : Ways} (t : NodeStep) → (sound → IsSound t.node) → Path (CallMove sound w) (with_node t (saved t.node)) (applied_all (with_node t (saved t.node)) t.node.applied (applying t.node))
applied_way t known =
    let n = t.node in
    all_way (with_node t (saved n)) n.applied (applying n)
    (λ s. (let o = known s in let within = ready_within n o in (refl, within.0, within.1, λ k e is. (between-entries n.log n.applied n.commit k e o.past_base is).0)))
    (λ all. All-drop ChangesNothing (n.applied - n.log.base) _ (All-take ChangesNothing (n.commit - n.log.base) n.log.entries all))

-- from what is saved to the turn in which the node takes its own answers in
pub ready_way : {sound : Type 0} {w : Ways} (t : NodeStep) → (sound → IsSound t.node) → Path (CallMove sound w) (with_node t (saved t.node)) (own_turn t)
ready_way t known =
    let n = t.node in
    Onward (applied_way t known) (stepping (left_way (applied_all (with_node t (saved n)) n.applied (applying n))))

own_come : (t : NodeStep) → All (λ (m : Message). m.to ≡ t.node.id → Comes Advance t m) t.node.waiting
own_come t =
    let ms = t.node.waiting in
    All-weaker (Contains ms) (λ (m : Message). m.to ≡ t.node.id → Comes Advance t m) (λ m among to. (among, to)) ms (All-contains_itself ms)

advanced_way : {sound : Type 0} (t : NodeStep) → (sound → IsSound t.node) → Path (CallMove sound (ways Advance t)) t (advanced t)
unfolding advanced
advanced_way t known =
    Onward (Goes_on t (One (Saves t.node known)))
    (Onward (ready_way t known) (stepping (own_way t.node.id (own_turn t) t.node.waiting (own_come t) (λ v n g. g) (λ n e. e) (λ term from i a. a))))

-- ---- every call

pub forgotten_way : (r : Role) (n : PlainNode) → Way TellMove n (forgotten_by r n)
forgotten_way role.Follower n = One (Idle n (record n { lead = 0 }) refl)
forgotten_way role.Precandidate n = One (Idle n n refl)
forgotten_way role.Candidate n = One (Idle n n refl)
forgotten_way role.Leader n = One (Idle n n refl)

reported_with_way : (o : Option PlainProgress) (n : PlainNode) (at : ℕ) → view_at n.tracker.views at ≡ o → Way TellMove n (reported_with o n at)
reported_with_way None n at is = One (Idle n n refl)
reported_with_way (Some view) n at is = One (Viewed n at view (unreachable view) is (unreachable_matched view) (λ _ g. sound_unreachable view g))

reported_at_way : (o : Option ℕ) (n : PlainNode) → Way TellMove n (reported_at o n)
reported_at_way None n = One (Idle n n refl)
reported_at_way (Some at) n = reported_with_way (view_at n.tracker.views at) n at refl

pub reported_way : (n : PlainNode) (id : ℕ) → Way TellMove n (reported n id)
reported_way n id = if_both (Way TellMove n) (is_leader n.role) _ _ (λ _. reported_at_way (place n.tracker.views id) n) (λ _. One (Idle n n refl))

compacted_way : {sound : Type 0} {w : Ways} (o : Option CompactFault) (n : PlainNode) (i : ℕ) → compact_fault n.log i (min n.applied n.log.durable) ≡ o
    → Way (CallMove sound w) n (compacted_unless o n i)
compacted_way (Some fault) n i is = One (CallSteps (StepTells (Idle n n refl)))
compacted_way None n i is = One (Compacts n i is)

pub called_way : {sound : Type 0} (c : Call) (t : NodeStep) → (sound → IsSound t.node) → Path (CallMove sound (ways c t)) t (after c t)
called_way (Step m) t known = stepping (stepped_way t m refl (λ g. (refl, refl, g)) (λ e. (refl, e)) (λ i a. (refl, refl, a)))
called_way Campaign t known = stepping (campaigned_way t false)
called_way (Propose body) t known =
    stepping (stepped_way t (message t.node.id t.node.id 0 (kind.Proposal body)) refl
    (λ g. (let no = g.asks in cc)) (λ e. (let no = e.answers in cc)) (λ i a. (let no = a.says in cc)))
called_way (Transfer to) t known =
    stepping (stepped_way t (message t.node.id t.node.id 0 (kind.TransferLeader to)) refl
    (λ g. (let no = g.asks in cc)) (λ e. (let no = e.answers in cc)) (λ i a. (let no = a.says in cc)))
called_way Tick t known = ticked_way t.node.role t
called_way Advance t known = advanced_way t known
called_way ForgetLeader t known = stepping (telling_path (Goes_on t (forgotten_way t.node.role t.node)))
called_way (ReportUnreachable id) t known = stepping (telling_path (Goes_on t (reported_way t.node id)))
called_way (SetTimeout ticks) t known = clocked t (with_timeout t.node ticks) refl
called_way (Compact index) t known = Goes_on t (compacted_way (compact_fault t.node.log index (min t.node.applied t.node.log.durable)) t.node index refl)
