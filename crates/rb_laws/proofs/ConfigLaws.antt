-- Changes of the configuration that take effect, and leaving a joint configuration (Ongaro's thesis, sections 4.1 and 4.3)
use Rattle.std.proofs.Common.{◌≡◌, ℕ, ◌+◌, ◌<◌, ◌≤◌, Bool, true, ◌&&◌, ◌==◌, nat_le, List, [], ◌∷◌, Result, Ok, Err, refl, sym, ap, ◌∙◌, arith}
use Rattle.std.proofs.lemmas.Bool.{false≢true, leb-true, le-leb, eq-eqb}
use Rattle.rb_raftlog.specs.declared.entry.Body.{Body}
use Rattle.rb_raftlog.specs.declared.entry.Body.TheVariants.{Payload, Change}
use Rattle.rb_raftlog.specs.declared.entry.Entry.{Entry}
use Rattle.rb_raftlog.specs.declared.limits.TheConstants.{MAX_INDEX}
use Rattle.rb_raftlog.specs.Log.{last, own}
use Rattle.rb_vocab.specs.declared.change.Transition.{Transition}
use Rattle.rb_vocab.specs.declared.change.Transition.TheVariants.{Auto}
use Rattle.rb_vocab.specs.declared.change.Word.{Word}
use Rattle.rb_tracker.proofs.SetLaws.{if_both}
use Rattle.rb_tracker.specs.Changes.{changed}
use Rattle.rb_tracker.specs.Configs.{is_joint}
use Rattle.rb_tracker.specs.Trackers.{configured}
use Rattle.rb_tracker.specs.declared.changes.ChangeFault.{ChangeFault}
use Rattle.rb_tracker.specs.declared.config.Config.{Config}
use Rattle.rb_message.specs.declared.event.EventKind.TheVariants as event
use Rattle.rb_message.specs.Events.{event_at}
use Rattle.rb_message.specs.declared.role.Role.TheVariants as role
use Rattle.rb_node.specs.Changing.{views_updated, continued_after_switch, steps_down, switched, change_applied, body_applied, applied_one, applied_all, leaves_joint, joint_left}
use Rattle.rb_node.specs.Compacting.{changed_or_same, config_with, config_after}
use Rattle.rb_node.specs.Leading.{appended_change, is_log_full, all_sent_append}
use Rattle.rb_node.specs.Node.{PlainNode, NodeStep, with_event, with_node, is_leader}
use Rattle.rb_node.specs.Readying.{applying, saved}
use Rattle.rb_calls.specs.Elections.{own_turn}
use Rattle.rb_calls.proofs.CallWays.{revised_way, with_members_only}
use Rattle.rb_calls.proofs.Moves.{Whole, TellMove, Idle, Allows, over, over_way}
use Rattle.rb_calls.proofs.TellWays.{Rest, keeps_rest, append_broadcast_way}

-- ---- what telling leaves

tells_config : {a b : PlainNode} → TellMove a b → b.tracker.config ≡ a.tracker.config
tells_config (Idle a b e) = ap (λ (w : Whole). w.tracker.config) e
tells_config _ = refl

pub keeps_config : Allows TellMove (λ a b. b.tracker.config ≡ a.tracker.config)
keeps_config = record { nothing = λ n. refl; chain = λ a b c p q. q ∙ p; each = λ a b m. tells_config m }

-- ---- a change

revised_config : (t : NodeStep) → (views_updated t).node.tracker.config ≡ t.node.tracker.config
revised_config t = over keeps_config (revised_way t) ∙ ap (λ (n : PlainNode). n.tracker.config) (with_members_only t.node)

led_on_config : (t : NodeStep) → (continued_after_switch t).node.tracker.config ≡ t.node.tracker.config
led_on_config t =
    let P : NodeStep → Type 0 = λ u. u.node.tracker.config ≡ t.node.tracker.config in
    if_both P (is_leader t.node.role) _ t (λ _. if_both P (steps_down t.node) _ _ (λ _. refl) (λ _. revised_config t)) (λ _. refl)

switched_config : (r : Result Config ChangeFault) (t : NodeStep) → (switched r t).node.tracker.config ≡ changed_or_same t.node.tracker.config r
switched_config (Ok c) t = led_on_config (with_event (with_node t (record t.node { tracker = configured t.node.tracker c })) (event_at t.node.id (event.Switched c)))
switched_config (Err fault) t = refl

pub change_config : (t : NodeStep) (transition : Transition) (words : List Word) → (change_applied t transition words).node.tracker.config ≡ changed_or_same t.node.tracker.config (changed t.node.tracker.config transition words)
unfolding change_applied
change_config t transition words = switched_config (changed t.node.tracker.config transition words) t

body_config : (body : Body) (t : NodeStep) → (body_applied body t).node.tracker.config ≡ config_with t.node.tracker.config body
body_config (Payload bytes) t = refl
body_config (Change transition words) t = change_config t transition words

pub all_config : (t : NodeStep) (i : ℕ) (es : List Entry) → (applied_all t i es).node.tracker.config ≡ config_after t.node.tracker.config es
all_config t i [] = refl
all_config t i (e ∷ es) =
    let u : NodeStep = applied_one t (i + 1) e in
    all_config u (i + 1) es ∙ ap (λ (c : Config). config_after c es) (body_config e.body (with_node t (record t.node { applied = i + 1 })))

-- ---- leaving a joint configuration

put_config : (t : NodeStep) → (appended_change t (Change Auto [])).node.tracker.config ≡ t.node.tracker.config
put_config t = if_both (λ (u : NodeStep). u.node.tracker.config ≡ t.node.tracker.config) (is_log_full t.node) _ _ (λ _. refl) (λ _. refl)

left_config : (t : NodeStep) → (joint_left t).node.tracker.config ≡ t.node.tracker.config
unfolding joint_left
left_config t =
    let u : NodeStep = appended_change t (Change Auto []) in
    if_both (λ (x : NodeStep). x.node.tracker.config ≡ t.node.tracker.config) (leaves_joint t.node) _ _
    (λ _. over_way keeps_config (append_broadcast_way u.node) ∙ put_config t) (λ _. refl)

pub advance_config : (t : NodeStep) → (own_turn t).node.tracker.config ≡ config_after t.node.tracker.config (applying t.node)
advance_config t =
    let n = t.node in
    left_config (applied_all (with_node t (saved n)) n.applied (applying n)) ∙ all_config (with_node t (saved n)) n.applied (applying n)

all_five : (a b c d e : Bool) → a ≡ true → b ≡ true → c ≡ true → d ≡ true → e ≡ true → (a && b && c && d && e) ≡ true
all_five a b c d e p q r s t = rw (p, q, r, s, t) refl

put_change : (t : NodeStep) → last t.node.log < MAX_INDEX → (appended_change t (Change Auto [])).node.log ≡ own t.node.log (record { term = t.node.term; body = Change Auto [] })
put_change t room =
    if_both (λ (u : NodeStep). u.node.log ≡ own t.node.log (record { term = t.node.term; body = Change Auto [] })) (is_log_full t.node) _ _
    (λ full. (let over = leb-true MAX_INDEX (last t.node.log) full in absurd (omega (arith, over, room)))) (λ _. refl)

pub joint_is_left : (t : NodeStep) → t.node.role ≡ role.Leader → is_joint t.node.tracker.config ≡ true → t.node.tracker.config.auto ≡ true → t.node.transferee ≡ 0 → t.node.pending_change ≤ t.node.applied → last t.node.log < MAX_INDEX
    → (joint_left t).node.log ≡ own t.node.log (record { term = t.node.term; body = Change Auto [] })
unfolding joint_left
joint_is_left t leads joint auto free applied room =
    let n = t.node in
    let u : NodeStep = appended_change t (Change Auto []) in
    let can : leaves_joint n ≡ true = all_five (is_leader n.role) (is_joint n.tracker.config) n.tracker.config.auto (n.transferee == 0) (nat_le n.pending_change n.applied)
    (ap is_leader leads) joint auto (eq-eqb n.transferee 0 free) (le-leb n.pending_change n.applied applied) in
    if_both (λ (x : NodeStep). x.node.log ≡ own n.log (record { term = n.term; body = Change Auto [] })) (leaves_joint n) (all_sent_append u) t
    (λ _. ap (λ (r : Rest). r.log) (over_way keeps_rest (append_broadcast_way u.node)) ∙ put_change t room)
    (λ no. absurd (false≢true (sym no ∙ can)))
