-- A node's configuration is that of its applied index, and so is that of each snapshot that it sends: so it stays, whatever it is called with
use Rattle.std.proofs.Common.{◌≡◌, ℕ, suc, ◌+◌, ◌≤◌, false, nat_le, min, List, [], ◌∷◌, length, Option, Some, None, refl, sym, ap, subst, ◌∙◌, arith, not}
use Rattle.std.specs.Prelude.{All, slice_get}
use Rattle.std.proofs.lemmas.List.Elements.{All-nil, All-push, All-weaker}
use Rattle.rb_raftlog.specs.declared.entry.Body.{Body}
use Rattle.rb_raftlog.specs.declared.entry.Body.TheVariants.{Payload, Change}
use Rattle.rb_raftlog.specs.declared.entry.Entry.{Entry}
use Rattle.rb_raftlog.specs.declared.raft_log.CompactFault.{CompactFault}
use Rattle.rb_raftlog.specs.Log.{LogValue, compact_fault}
use Rattle.rb_tracker.proofs.SetLaws.{if_both, set_of_ascending}
use Rattle.rb_tracker.specs.Active.{others_marked_inactive}
use Rattle.rb_tracker.specs.Changes.{IsConfig}
use Rattle.rb_tracker.specs.Configs.{config_of, state_of, members}
use Rattle.rb_tracker.specs.declared.config.Config.{Config}
use Rattle.rb_message.specs.declared.kind.MessageKind.{MessageKind}
use Rattle.rb_message.specs.declared.kind.MessageKind.TheVariants as kind
use Rattle.rb_message.specs.declared.message.Message.{Message}
use Rattle.rb_message.specs.declared.role.Role.{Role}
use Rattle.rb_message.specs.declared.role.Role.TheVariants as role
use Rattle.rb_node.specs.Campaigns.{campaigned}
use Rattle.rb_node.specs.Changing.{change_applied, body_applied, applied_one, applied_all, joint_left}
use Rattle.rb_node.specs.Compacting.{config_with}
use Rattle.rb_node.specs.Leading.{in_lead}
use Rattle.rb_node.specs.Node.{PlainNode, NodeStep, with_node, with_elapsed, message}
use Rattle.rb_node.specs.Readying.{applying, saved, advanced}
use Rattle.rb_node.specs.Ticking.{activity_reset, active_quorum_checked, has_lost_quorum, quorum_lost, leader_ticked, counters_advanced, non_leader_ticked, next_count as counted_tick, is_due, ticked_by, due_heartbeats_sent}
use Rattle.rb_node.specs.Terms.{became_follower}
use Rattle.rb_node.specs.Transferring.{transfer_ended}
use Rattle.rb_node.specs.declared.limits.TheConstants.{ELECTION_TICKS}
use Rattle.rb_calls.specs.Calling.{Call, Step, Campaign, Propose, Transfer, Tick, Advance, ForgetLeader, ReportUnreachable, SetTimeout, Compact, compacted_unless, after}
use Rattle.rb_calls.specs.Sound.{IsSound}
use Rattle.rb_calls.specs.Words.{SendsBy, AnswersBy}
use Rattle.rb_calls.proofs.CallLaws.{calls}
use Rattle.rb_calls.proofs.CallWays.{Changes, change_way, with_members_only, body_brought, beats_due_way, left_way, own_way, forgotten_way, reported_way, ready_within}
use Rattle.rb_laws.proofs.ConfigLaws.{keeps_config, change_config}
use Rattle.rb_calls.proofs.Goes.{Ways, anyone}
use Rattle.rb_calls.proofs.LeaderLaws.{with_views_only}
use Rattle.rb_calls.proofs.LeaderWays.{transfer_ended_way}
use Rattle.rb_calls.proofs.MoveLaws.{step_keeps, change_keeps, call_keeps}
use Rattle.rb_calls.proofs.Moves.{Whole, Allows, TellMove, Idle, Sent, StepMove, StepTells, Came, Passes, Waits, Leads, Restores, ChangeMove, Revises, in_config, Saves, Goes_on, over}
use Rattle.rb_calls.proofs.StepWays.{campaigned_way, stepped_way}

-- the configuration of each index from a base on, and what the entry of each index makes of it
pub record Timeline : Type 0 where
  pub base : ℕ
  pub conf : ℕ → Config
  pub good : (i : ℕ) → IsConfig (conf i)

abbrev pub FitsBy : Timeline → MessageKind → Type 0
FitsBy g (kind.Snapshot s) = config_of s.config ≡ g.conf s.index
FitsBy g _ = Unit {0}

-- a snapshot's configuration is that of its index
abbrev pub Fits : Timeline → Message → Type 0
Fits g m = FitsBy g m.kind

pub record Suits (g : Timeline) (config : Config) (applied : ℕ) (sending answering : List Message) : Type 0 where
  pub reached : g.base ≤ applied
  pub is : config ≡ g.conf applied
  pub sent : All (Fits g) sending
  pub waiting : All (Fits g) answering

abbrev pub Suit : Timeline → PlainNode → Type 0
Suit g n = Suits g n.tracker.config n.applied n.sent n.waiting

abbrev pub Both : Timeline → PlainNode → Type 0
Both g n = IsSound n × Suit g n

-- messages that fit may come
abbrev fair : Timeline → Ways
fair g = record { given = λ _ _. Unit {0}; elected = λ _. Unit {0}; matched = λ _ _ _. Unit {0}; came = Fits g }

pub read_back : (c : Config) → IsConfig c → config_of (state_of c) ≡ c
read_back d is = rw (set_of_ascending d.incoming is.incoming, set_of_ascending d.outgoing is.outgoing, set_of_ascending d.learners is.learners, set_of_ascending d.next is.next) refl

-- ---- what is said

pub state_fits : (g : Timeline) (n : PlainNode) → n.tracker.config ≡ g.conf n.applied → config_of (state_of n.tracker.config) ≡ g.conf n.applied
state_fits g n is = subst (λ (c : Config). config_of (state_of c) ≡ g.conf n.applied) (sym is) (read_back (g.conf n.applied) (g.good n.applied))

sends_fit : (g : Timeline) (k : MessageKind) (n : PlainNode) (m : Message) → SendsBy k n m → n.tracker.config ≡ g.conf n.applied → FitsBy g k
sends_fit g (kind.Snapshot s) n m sent is =
    let of = sent.3 in
    ap config_of of.config ∙ state_fits g n is ∙ ap g.conf (sym of.index)
sends_fit g _ n m sent is = tt

answers_fit : (g : Timeline) (k : MessageKind) (n : PlainNode) (m : Message) → AnswersBy k n m → FitsBy g k
answers_fit g (kind.Snapshot s) n m answer = absurd answer
answers_fit g _ n m answer = tt

came_fits : (g : Timeline) (k : MessageKind) → Came (fair g) k → FitsBy g k
came_fits g k came = subst (FitsBy g) came.is came.comes

-- ---- each move of a step

telling_fits : (g : Timeline) {a b : PlainNode} → TellMove a b → IsSound a → Suit g a → Suit g b
telling_fits g (Idle a b e) s h = subst (λ (x : Whole). Suits g x.tracker.config x.core.applied x.words.sent x.words.waiting) (sym e) h
telling_fits g (Sent n m own says) s h = record { reached = h.reached; is = h.is; sent = All-push (Fits g) n.sent m h.sent (sends_fit g m.kind n m (says s).1 h.is); waiting = h.waiting }
telling_fits g _ s h = h

step_fits : (g : Timeline) {a b : PlainNode} → StepMove (fair g) a b → IsSound a → Suit g a → Suit g b
step_fits g (StepTells m) s h = telling_fits g m s h
step_fits g (Passes n m came sent) s h = record { reached = h.reached; is = h.is; sent = All-push (Fits g) n.sent m h.sent (came_fits g m.kind came); waiting = h.waiting }
step_fits g (Waits n m answer may) s h = record { reached = h.reached; is = h.is; sent = h.sent; waiting = All-push (Fits g) n.waiting m h.waiting (answers_fit g m.kind n m (answer s).1) }
step_fits g (Restores n snapshot is past came other) s h = record {
  reached = (let low = h.reached in let known = s.is_committed in omega (arith, low, known, past));
  is = came_fits g (kind.Snapshot snapshot) came.came;
  sent = h.sent;
  waiting = h.waiting;
}
step_fits g (Leads n stands elected won) s h = subst (Suit g) (sym (with_views_only (in_lead n) (members n.tracker.config) (not n.options.check_quorum))) h
step_fits g _ s h = h

steps : (g : Timeline) → Allows (StepMove (fair g)) (λ a b. Both g a → Both g b)
steps g = record { nothing = λ n p. p; chain = λ a b c p q r. q (p r); each = λ a b m p. (((step_keeps m).goes p.0).ordered, step_fits g m p.0 p.1) }

tells : (g : Timeline) → Allows TellMove (λ a b. Both g a → Both g b)
tells g = record { nothing = λ n p. p; chain = λ a b c p q r. q (p r); each = λ a b m p. (((step_keeps {w = anyone} (StepTells m)).goes p.0).ordered, telling_fits g m p.0 p.1) }

message_stepped : (g : Timeline) (t : NodeStep) (m : Message) → Fits g m → Both g t.node → Both g (after (Step m) t).node
message_stepped g t m fits p = over (steps g) (stepped_way {w = fair g} t m fits (λ _. tt) (λ _. tt) (λ _ _. tt)) p

-- ---- ticks

lost_or_looked : (g : Timeline) (t : NodeStep) → Both g t.node → Both g (active_quorum_checked t).node
unfolding active_quorum_checked others_marked_inactive
lost_or_looked g t p =
    let P : NodeStep → Type 0 = λ u. Both g u.node in
    let v : NodeStep = with_node t (activity_reset t.node) in
    let u : NodeStep = transfer_ended v in
    let looked : Both g v.node = if_both (Both g) t.node.options.check_quorum (record t.node { tracker = others_marked_inactive t.node.tracker t.node.id }) t.node (λ _. p) (λ _. p) in
    if_both P (has_lost_quorum t.node) (became_follower (quorum_lost t) t.node.term 0) (with_node u (due_heartbeats_sent u.node)) (λ _. p)
    (λ _. over (tells g) (beats_due_way u) (over (tells g) (transfer_ended_way v) looked))

leader_ticks : (g : Timeline) (t : NodeStep) → Both g t.node → Both g (leader_ticked t).node
unfolding leader_ticked
leader_ticks g t p =
    let u : NodeStep = with_node t (counters_advanced t.node) in
    let v : NodeStep = with_node t (with_elapsed u.node 0) in
    if_both (λ (x : NodeStep). Both g x.node) (nat_le ELECTION_TICKS u.node.clock.elapsed) (active_quorum_checked v) (with_node t (due_heartbeats_sent u.node))
    (λ _. lost_or_looked g v p) (λ _. over (tells g) (beats_due_way u) p)

other_ticks : (g : Timeline) (t : NodeStep) → Both g t.node → Both g (non_leader_ticked t).node
unfolding non_leader_ticked
other_ticks g t p =
    let n : PlainNode = with_elapsed t.node (counted_tick t.node.clock.elapsed) in
    let v : NodeStep = with_node t (with_elapsed n 0) in
    if_both (λ (x : NodeStep). Both g x.node) (is_due n) (campaigned v false) (with_node t n) (λ _. over (steps g) (campaigned_way v false) p) (λ _. p)

ticks_by : (g : Timeline) (r : Role) (t : NodeStep) → Both g t.node → Both g (ticked_by r t).node
ticks_by g role.Follower t p = other_ticks g t p
ticks_by g role.Precandidate t p = other_ticks g t p
ticks_by g role.Candidate t p = other_ticks g t p
ticks_by g role.Leader t p = leader_ticks g t p

-- ---- entries that take effect

change_suits : (g : Timeline) {a b : PlainNode} → ChangeMove a b → b.tracker.config ≡ g.conf a.applied → g.base ≤ a.applied → All (Fits g) a.sent → All (Fits g) a.waiting → Suit g b
change_suits g (Revises n c leads) is low sent waiting =
    let at : PlainNode → Type 0 = λ x. x.tracker.config ≡ g.conf n.applied → Suit g x in
    subst at (sym (with_members_only (in_config n c))) (λ e. record { reached = low; is = e; sent = sent; waiting = waiting }) is
change_suits g _ is low sent waiting = record { reached = low; is = is; sent = sent; waiting = waiting }

-- the node has applied up to an entry, and is as it was before
record Is_at (g : Timeline) (n : PlainNode) (before : Config) : Type 0 where
  sound : IsSound n
  reached : g.base ≤ n.applied
  is : n.tracker.config ≡ before
  sent : All (Fits g) n.sent
  waiting : All (Fits g) n.waiting

body_suits : (g : Timeline) (body : Body) (t : NodeStep) (before : Config) → g.conf t.node.applied ≡ config_with before body → Is_at g t.node before → Both g (body_applied body t).node
body_suits g (Payload bytes) t before makes a = (a.sound, record { reached = a.reached; is = a.is ∙ sym makes; sent = a.sent; waiting = a.waiting })
body_suits g (Change transition words) t before makes a =
    let c : Changes t (change_applied t transition words) = change_way t transition words in
    let to : PlainNode = c.to in
    let stays : (change_applied t transition words).node.tracker.config ≡ to.tracker.config = over keeps_config c.next in
    let is : to.tracker.config ≡ g.conf t.node.applied = sym stays ∙ change_config t transition words ∙ ap (λ (x : Config). config_with x (Change transition words)) a.is ∙ sym makes in
    let sound : IsSound to = ((change_keeps {w = anyone} c.first).goes a.sound).ordered in
    over (tells g) c.next (sound, change_suits g c.first is a.reached a.sent a.waiting)

-- these entries follow an index, and each makes the configuration of the next of it
abbrev pub Make : Timeline → ℕ → List Entry → Type 0
Make g i es = (k : ℕ) (e : Entry) → slice_get es k ≡ Some e → g.conf (i + 1 + k) ≡ config_with (g.conf (i + k)) e.body

all_suit : (g : Timeline) (t : NodeStep) (i : ℕ) (es : List Entry) → t.node.applied ≡ i → i + length es ≤ t.node.commit → i + length es ≤ t.node.log.durable → Make g i es → Both g t.node → Both g (applied_all t i es).node
all_suit g t i [] at known durable makes p = p
all_suit g t i (e ∷ es) at known durable makes p =
    let u : NodeStep = with_node t (record t.node { applied = i + 1 }) in
    let v : NodeStep = applied_one t (i + 1) e in
    let s = p.0 in
    let h = p.1 in
    let below = s.past_base in
    let within = s.within in
    let held = s.is_held in
    let low = h.reached in
    let next : i + 1 ≡ i + 1 + 0 = omega arith in
    let here : i ≡ i + 0 = omega arith in
    let first : g.conf (i + 1) ≡ config_with (g.conf i) e.body = ap g.conf next ∙ makes 0 e refl ∙ ap (λ (j : ℕ). config_with (g.conf j) e.body) (sym here) in
    let sound : IsSound u.node = record {
      past_base = omega (arith, below, at);
      is_durable = omega (arith, durable);
      within = within;
      is_committed = omega (arith, known);
      is_held = held;
    } in
    let one : Both g v.node = body_suits g e.body u (g.conf i) first (record { sound = sound; reached = omega (arith, low, at); is = h.is ∙ ap g.conf at; sent = h.sent; waiting = h.waiting }) in
    let b = body_brought e.body u in
    let up = b.commit in
    let same : v.node.log.durable ≡ t.node.log.durable = ap (λ (x : LogValue). x.durable) b.log in
    all_suit g v (i + 1) es b.applied (omega (arith, known, up)) (omega (arith, durable, same))
    (λ k x is. (let one_more : i + 1 + 1 + k ≡ i + 1 + suc k = omega arith in let more : i + suc k ≡ i + 1 + k = omega arith in ap g.conf one_more ∙ makes (suc k) x is ∙ ap (λ (j : ℕ). config_with (g.conf j) x.body) more)) one

advance_suits : (g : Timeline) (t : NodeStep) → Make g t.node.applied (applying t.node) → Both g t.node → Both g (after Advance t).node
unfolding advanced
advance_suits g t makes p =
    let n = t.node in
    let s = p.0 in
    let h = p.1 in
    let within = ready_within n s in
    let first = within.0 in
    let held = within.1 in
    let u : NodeStep = with_node t (saved n) in
    let sound : IsSound u.node = ((call_keeps {w = anyone} s (Saves n (λ o. o))).goes s).ordered in
    let start : Both g u.node = (sound, record { reached = h.reached; is = h.is; sent = All-nil (Fits g); waiting = All-nil (Fits g) }) in
    let v : NodeStep = applied_all u n.applied (applying n) in
    let done : Both g v.node = all_suit g u n.applied (applying n) refl (omega (arith, first)) (omega (arith, held)) makes start in
    let x : NodeStep = joint_left v in
    let left : Both g x.node = over (steps g) (left_way v) done in
    let come : All (λ (m : Message). m.to ≡ n.id → Fits g m) n.waiting = All-weaker (Fits g) (λ (m : Message). m.to ≡ n.id → Fits g m) (λ m fits _. fits) n.waiting h.waiting in
    over (steps g) (own_way {w = fair g} n.id x n.waiting come (λ _ _ _. tt) (λ _ _. tt) (λ _ _ _ _. tt)) left

-- ---- each call

compacted_suits : (g : Timeline) (o : Option CompactFault) (n : PlainNode) (i : ℕ) → Suit g n → Suit g (compacted_unless o n i)
compacted_suits g (Some fault) n i h = h
compacted_suits g None n i h = h

-- a message that comes fits
abbrev pub Brings : Timeline → Call → Type 0
Brings g (Step m) = Fits g m
Brings g _ = Unit {0}

pub called_suits : (g : Timeline) (c : Call) (t : NodeStep) → Brings g c → Make g t.node.applied (applying t.node) → Both g t.node → Both g (after c t).node
called_suits g (Step m) t brings makes p = message_stepped g t m brings p
called_suits g Campaign t brings makes p = over (steps g) (campaigned_way t false) p
called_suits g (Propose body) t brings makes p = message_stepped g t (message t.node.id t.node.id 0 (kind.Proposal body)) tt p
called_suits g (Transfer to) t brings makes p = message_stepped g t (message t.node.id t.node.id 0 (kind.TransferLeader to)) tt p
called_suits g Tick t brings makes p = ticks_by g t.node.role t p
called_suits g Advance t brings makes p = advance_suits g t makes p
called_suits g ForgetLeader t brings makes p = over (tells g) (Goes_on t (forgotten_way t.node.role t.node)) p
called_suits g (ReportUnreachable id) t brings makes p = over (tells g) (Goes_on t (reported_way t.node id)) p
called_suits g (SetTimeout ticks) t brings makes p = p
called_suits g (Compact index) t brings makes p =
    (((calls (Compact index) t).goes p.0).ordered, compacted_suits g (compact_fault t.node.log index (min t.node.applied t.node.log.durable)) t.node index p.1)
