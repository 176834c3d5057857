-- What the directives of a cluster do: nodes are called, one after another, and put out what they have. A fact of nodes, and of messages that
-- may come to them, which lasts through that lasts through each directive.
use Rattle.std.proofs.Common.{◌≡◌, ℕ, zero, suc, ◌+◌, ◌-◌, ◌<◌, ◌≤◌, Bool, true, false, not, List, [], ◌∷◌, ◌++◌, length, min, Option, Some, None, Result, Ok, Err, refl, sym, ap, subst, ◌∙◌, arith, nat_le, ◌==◌, eqb-true}
use Rattle.std.specs.Prelude.{All, Contains, slice_get, slice_set}
use Rattle.std.specs.List.{range_with_len}
use Rattle.std.specs.Option.{option_or}
use Rattle.std.proofs.lemmas.Bool.{and_parts, leb-true}
use Rattle.std.proofs.lemmas.List.{set-set, set-get_or}
use Rattle.std.proofs.lemmas.List.Elements.{All-nil, All-head, All-tail, All-cons, All-push, All-weaker, All-append, All-filter, All-contains_itself, Contains-append_left, Contains-append_right, Contains-push}
use Rattle.std.proofs.lemmas.Option.{get_or_from_slice_get}
use Rattle.rb_script.specs.Directive.{PlainDirective}
use Rattle.rb_vocab.specs.declared.directive_error.DirectiveError.{DirectiveError}
use Rattle.rb_vocab.specs.declared.directive_error.DirectiveError.TheVariants as errors
use Rattle.rb_directive.specs.declared.node_command.NodeCommand.{NodeCommand}
use Rattle.rb_directive.specs.declared.node_command.NodeCommand.TheVariants as does
use Rattle.rb_directive.specs.declared.node_command_with_arg.NodeCommandWithArg.TheVariants as withs
use Rattle.rb_directive.specs.declared.requests.DeliverMsgs.{DeliverMsgs}
use Rattle.rb_directive.specs.declared.requests.MailChoice.{MailChoice}
use Rattle.rb_directive.specs.declared.requests.Request.{Request}
use Rattle.rb_directive.specs.declared.requests.Request.TheVariants as requests
use Rattle.rb_directive.specs.declared.build.Asked.{Asked}
use Rattle.rb_directive.specs.Changes.{input_words}
use Rattle.rb_directive.specs.Requests.{all_mail, request}
use Rattle.rb_raftlog.specs.Bodies.{is_change}
use Rattle.rb_raftlog.specs.declared.entry.Body.TheVariants.{Payload, Change}
use Rattle.rb_raftlog.specs.declared.raft_log.CompactFault.{CompactFault}
use Rattle.rb_raftlog.specs.declared.snapshot.Snapshot.{Snapshot}
use Rattle.rb_raftlog.specs.Log.{compact_fault}
use Rattle.rb_tracker.proofs.SetLaws.{if_both}
use Rattle.rb_message.specs.Messages.{type_of}
use Rattle.rb_message.specs.declared.kind.MessageKind.TheVariants as kind
use Rattle.rb_message.specs.declared.message.Message.{Message}
use Rattle.rb_node.specs.declared.limits.TheConstants.{ELECTION_TICKS}
use Rattle.rb_node.specs.declared.options.Options.{Options}
use Rattle.rb_node.specs.Node.{PlainNode, NodeStep, node_step, started, message}
use Rattle.rb_node.specs.Calls.{node_started}
use Rattle.rb_node.specs.Readying.{has_ready, outgoing, others}
use Rattle.rb_node.specs.Restarting.{node_restarted}
use Rattle.rb_node.specs.Sends.{snapshot_of}
use Rattle.rb_node.specs.Ticking.{ticked}
use Rattle.rb_calls.specs.Calling.{Call, Step, Campaign, Propose, Transfer, Tick, Advance, ForgetLeader, ReportUnreachable, SetTimeout, Compact, compacted_unless, after}
use Rattle.rb_machine.specs.Acts.{act, restart, restart_each, ticked_times}
use Rattle.rb_machine.specs.AddNodes.{added_each, node_added, nodes_added, options, start}
use Rattle.rb_machine.specs.Changes.{words_of}
use Rattle.rb_machine.specs.Cluster.{Cluster, is_node, node_at, with_node, changed_by}
use Rattle.rb_machine.specs.Deliveries.{left_by, received, all_received, delivered, delivered_each, dropped, dropped_each, chooses_any, msgs_delivered}
use Rattle.rb_machine.specs.Outcome.{absent, first_absent, missing_node, own_fault, fault, effect, unless_refused, execution_of, execution, outcome}
use Rattle.rb_machine.specs.Pending.{Quota, quota_of, chooses, after_one, chosen_by, left_over, is_selected, is_for, is_from, is_meant, mail, has_room, sent, all_sent}
use Rattle.rb_machine.specs.Readies.{advanced_by, whole_ready_processed, ready_processed_by, ready_processed, ready_processed_each}
use Rattle.rb_machine.specs.Rounds.{is_chosen, chosen, is_ready, has_work, processed_if_ready, each_ready_processed, round, rounds_run}
use Rattle.rb_machine.specs.Effects.{Effect, acted_by, acted}
use Rattle.rb_machine.specs.Snapshots.{queued, snapshot_sent_by, compact_error_by, compact_error, compact_by}
use Rattle.rb_machine.specs.Views.{log_shown_by, status_shown_by}
use Rattle.rb_machine.proofs.CompactLaws.{may_compact}
use Rattle.rb_calls.proofs.ListLaws.{set_here}

-- ---- what holds after a directive: it is refused, and the cluster stays; or it has its effect

abbrev pub effect_of : Asked → Cluster → Cluster
effect_of a c = (effect a.request c).cluster

unless_has : (P : Cluster → Type 0) (o : Option DirectiveError) (a : Asked) (c : Cluster) → (o ≡ None → P (effect_of a c)) → P c → P (unless_refused o a c).cluster
unless_has P (Some e) a c done h = h
unless_has P None a c done h = done refl

request_has : (P : Cluster → Type 0) (r : Result Asked DirectiveError) (c : Cluster) → ((a : Asked) → r ≡ Ok a → fault a.request c ≡ None → P (effect_of a c)) → P c → P (execution_of r c).cluster
request_has P (Err e) c done h = h
request_has P (Ok a) c done h = unless_has P (fault a.request c) a c (done a refl) h

pub outcome_has : (P : Cluster → Type 0) (c : Cluster) (d : PlainDirective) → ((a : Asked) → request d ≡ Ok a → fault a.request c ≡ None → P (effect_of a c)) → P c → P (outcome c d).cluster
unfolding outcome execution
outcome_has P c d done h = request_has P (request d) c done h

-- ---- facts that last

-- what a node at a place may be called with: a message to it that may come; and no change, where the directives are steady
abbrev pub IsBrought : Bool → List Message → ℕ → Call → Type 0
IsBrought steady ms k (Step m) = Contains ms m × (m.to ≡ k + 1)
IsBrought steady ms k (Propose body) = steady ≡ true → is_change body ≡ false
IsBrought steady ms k _ = Unit {0}

-- A fact of nodes, and of messages that may come to them. A node is called; it advances, and what it has to send and to answer comes out; a
-- snapshot of it is sent by hand; a node joins, unless the directives are steady; and a node restarts, unless none may.
pub record Lasts (steady lasting : Bool) (P : List PlainNode → List Message → Type 0) : Type 0 where
  pub calls : (nodes : List PlainNode) (ms : List Message) (k : ℕ) (call : Call) (t : NodeStep) → slice_get nodes k ≡ Some t.node → IsBrought steady ms k call → P nodes ms → P (slice_set nodes k (after call t).node) ms
  pub advances : (nodes : List PlainNode) (ms : List Message) (k : ℕ) (t : NodeStep) → slice_get nodes k ≡ Some t.node → P nodes ms → P (slice_set nodes k (after Advance t).node) (ms ++ (t.node.sent ++ t.node.waiting))
  pub shows : (nodes : List PlainNode) (ms : List Message) (k from to : ℕ) (n : PlainNode) → slice_get nodes k ≡ Some n → P nodes ms → P nodes (ms ++ message from to n.term (kind.Snapshot (snapshot_of n)) ∷ [])
  pub joins : (steady ≡ true → ⊥) → (nodes : List PlainNode) (ms : List Message) (id : ℕ) (from : Snapshot) (given : Options) → P nodes ms → P (nodes ++ started id from given ∷ []) ms
  pub restarts : (lasting ≡ true → ⊥) → (nodes : List PlainNode) (ms : List Message) (k : ℕ) (t : NodeStep) → slice_get nodes k ≡ Some t.node → P nodes ms → P (slice_set nodes k (node_restarted t).node) ms

-- it holds of a cluster's nodes and of messages among which are the pending ones
abbrev pub Covers : (List PlainNode → List Message → Type 0) → List Message → Cluster → Type 0
Covers P ms c = P c.nodes ms × All (Contains ms) c.pending

abbrev pub IsCovered : (List PlainNode → List Message → Type 0) → Cluster → Type 0
IsCovered P c = (ms : List Message) × Covers P ms c

-- ---- requests that neither add nodes nor propose a change

abbrev pub IsQuietRequest : Request → Type 0
IsQuietRequest (requests.AddNodes asked) = ⊥
IsQuietRequest (requests.ProposeConfChange asked) = ⊥
IsQuietRequest _ = Unit {0}

-- requests by which no node restarts
abbrev pub IsLastingRequest : Request → Type 0
IsLastingRequest (requests.Restart ids) = ⊥
IsLastingRequest _ = Unit {0}

abbrev pub IsLastingBy : Result Asked DirectiveError → Type 0
IsLastingBy (Ok a) = IsLastingRequest a.request
IsLastingBy (Err e) = Unit {0}

abbrev pub IsQuietBy : Result Asked DirectiveError → Type 0
IsQuietBy (Ok a) = IsQuietRequest a.request
IsQuietBy (Err e) = Unit {0}

-- ---- ids of nodes that exist

abbrev AreIds : List ℕ → Type 0
AreIds ids = All (λ (id : ℕ). 0 < id) ids

some_none : {X : Type 0} → (x : X) → Some x ≡ None → ⊥
some_none x e = cc

pub neither : {X : Type 0} → (a b : Option X) → option_or a b ≡ None → (a ≡ None) × (b ≡ None)
neither None b none = (refl, none)
neither (Some x) b none = absurd (some_none x none)

present : (nodes : List PlainNode) (id : ℕ) → absent nodes id ≡ None → 0 < id
present nodes id =
    let P : Option DirectiveError → Type 0 = λ o. o ≡ None → 0 < id in
    if_both P (is_node nodes id) None (Some (errors.NoSuchNode id))
    (λ is _. (let low : 1 ≤ id = leb-true 1 id (and_parts (nat_le 1 id) (nat_le id (length nodes)) is).0 in omega arith))
    (λ _ e. absurd (some_none (errors.NoSuchNode id) e))

all_present : (nodes : List PlainNode) (ids : List ℕ) → first_absent nodes ids ≡ None → AreIds ids
all_present nodes [] none = All-nil (λ (id : ℕ). 0 < id)
all_present nodes (id ∷ ids) none =
    let both = neither (absent nodes id) (first_absent nodes ids) none in
    All-cons (λ (i : ℕ). 0 < i) id ids (present nodes id both.0) (all_present nodes ids both.1)

from_one : (low n : ℕ) → 0 < low → AreIds (range_with_len low n)
from_one low zero some = All-nil (λ (id : ℕ). 0 < id)
from_one low (suc n) some = All-cons (λ (id : ℕ). 0 < id) low (range_with_len (low + 1) n) some (from_one (low + 1) n (omega (arith, some)))

chosen_some : (ids : List ℕ) (nodes : List PlainNode) → AreIds (chosen ids nodes)
unfolding chosen
chosen_some ids nodes = All-filter (is_chosen ids) (λ (id : ℕ). 0 < id) (range_with_len 1 (length nodes)) (from_one 1 (length nodes) (omega arith))

-- ---- messages

-- messages to one node that may come
abbrev IsMail : List Message → ℕ → Message → Type 0
IsMail ms id m = Contains ms m × (m.to ≡ id)

-- what holds of each message and is meant holds of each that is chosen
chosen_each : (P Q : Message → Type 0) (meant : Message → Bool) (q : Quota) (pending : List Message) → ((m : Message) → meant m ≡ true → P m → Q m) → All P pending → All Q (chosen_by meant q pending)
chosen_each P Q meant q [] so all = All-nil Q
chosen_each P Q meant q (m ∷ ms) so all =
    let A : List Message → Type 0 = All Q in
    let later : All P ms = All-tail P m ms all in
    let next : All Q (chosen_by meant (after_one q) ms) = chosen_each P Q meant (after_one q) ms so later in
    if_both A (meant m) _ (chosen_by meant q ms)
    (λ is. if_both A (chooses q) (m ∷ chosen_by meant (after_one q) ms) (chosen_by meant (after_one q) ms)
    (λ _. All-cons Q m (chosen_by meant (after_one q) ms) (so m is (All-head P m ms all)) next) (λ _. next))
    (λ _. chosen_each P Q meant q ms so later)

-- and of each other one
left_each : (P : Message → Type 0) (meant : Message → Bool) (q : Quota) (pending : List Message) → All P pending → All P (left_over meant q pending)
left_each P meant q [] all = All-nil P
left_each P meant q (m ∷ ms) all =
    let A : List Message → Type 0 = All P in
    let first : P m = All-head P m ms all in
    let later : All P ms = All-tail P m ms all in
    let next : All P (left_over meant (after_one q) ms) = left_each P meant (after_one q) ms later in
    if_both A (meant m) _ (m ∷ left_over meant q ms)
    (λ _. if_both A (chooses q) (left_over meant (after_one q) ms) (m ∷ left_over meant (after_one q) ms) (λ _. next)
    (λ _. All-cons P m (left_over meant (after_one q) ms) first next))
    (λ _. All-cons P m (left_over meant q ms) first (left_each P meant q ms later))

to_it : (id : ℕ) (choice : MailChoice) (m : Message) → is_meant id choice m ≡ true → m.to ≡ id
to_it id choice m meant =
    let theirs = (and_parts (is_for id choice.types m) (is_from choice.from m) meant).0 in
    eqb-true m.to id (and_parts (m.to == id) (is_selected choice.types (type_of m.kind)) theirs).0

mail_comes : (ms : List Message) (id : ℕ) (choice : MailChoice) (pending : List Message) → All (Contains ms) pending → All (IsMail ms id) (mail pending id choice)
mail_comes ms id choice pending coming =
    chosen_each (Contains ms) (IsMail ms id) (is_meant id choice) (quota_of choice) pending (λ m meant there. (there, to_it id choice m meant)) coming

-- what is handed over is put out
handed_out : (n : PlainNode) → All (Contains (n.sent ++ n.waiting)) (outgoing n)
handed_out n =
    let P : Message → Type 0 = Contains (n.sent ++ n.waiting) in
    All-append P n.sent (others n.id n.waiting)
    (All-weaker (Contains n.sent) P (λ m is. Contains-append_left n.sent n.waiting m is) n.sent (All-contains_itself n.sent))
    (All-filter (λ (m : Message). not (m.to == n.id)) P n.waiting
    (All-weaker (Contains n.waiting) P (λ m is. Contains-append_right n.sent n.waiting m is) n.waiting (All-contains_itself n.waiting)))

still_coming : (ms more pending : List Message) → All (Contains ms) pending → All (Contains (ms ++ more)) pending
still_coming ms more pending coming = All-weaker (Contains ms) (Contains (ms ++ more)) (λ m there. Contains-append_left ms more m there) pending coming

set_same : (nodes : List PlainNode) (k : ℕ) (n : PlainNode) → slice_get nodes k ≡ Some n → slice_set nodes k n ≡ nodes
set_same nodes k n is = ap (slice_set nodes k) (sym (get_or_from_slice_get nodes k n n is)) ∙ set-get_or nodes k n

-- ---- what directives do

module _ {steady lasting : Bool} {P : List PlainNode → List Message → Type 0} (w : Lasts steady lasting P) where
  -- the node with an id acts
  acts_by : (ms : List Message) (x : Cluster) (id : ℕ) (call : Call) (o : Option PlainNode) → node_at x id ≡ o → IsBrought steady ms (id - 1) call → Covers P ms x → Covers P ms (acted_by o x id (λ t. after call t)).cluster
  acts_by ms x id call None at brought h = h
  acts_by ms x id call (Some n) at brought h = (w.calls x.nodes ms (id - 1) call (node_step n []) at brought h.0, h.1)

  acts : (ms : List Message) (x : Cluster) (id : ℕ) (call : Call) → IsBrought steady ms (id - 1) call → Covers P ms x → Covers P ms (acted x id (λ t. after call t)).cluster
  acts ms x id call brought h = acts_by ms x id call (node_at x id) refl brought h

  -- ticks, one upon another: after a node has become one and then another, the other stands there
  then_ticks : (ms : List Message) (nodes : List PlainNode) (k times : ℕ) (t : NodeStep) → slice_get nodes k ≡ Some t.node → P nodes ms → P (slice_set nodes k (ticked_times times t).node) ms
  then_ticks ms nodes k zero t at h = subst (λ (ns : List PlainNode). P ns ms) (sym (set_same nodes k t.node at)) h
  then_ticks ms nodes k (suc times) t at h =
      let u = ticked t in
      subst (λ (ns : List PlainNode). P ns ms) (set-set nodes k u.node (ticked_times times u).node)
      (then_ticks ms (slice_set nodes k u.node) k times u (set_here nodes k t.node u.node at) (w.calls nodes ms k Tick t at tt h))

  ticks : (ms : List Message) (x : Cluster) (id times : ℕ) (o : Option PlainNode) → node_at x id ≡ o → Covers P ms x → Covers P ms (acted_by o x id (ticked_times times)).cluster
  ticks ms x id times None at h = h
  ticks ms x id times (Some n) at h = (then_ticks ms x.nodes (id - 1) times (node_step n []) at h.0, h.1)

  act_lasts : (ms : List Message) (what : NodeCommand) (x : Cluster) (id : ℕ) → Covers P ms x → Covers P ms (act what id x).cluster
  act_lasts ms does.Campaign x id h = acts ms x id Campaign tt h
  act_lasts ms does.TickElection x id h = ticks ms x id ELECTION_TICKS (node_at x id) refl h
  act_lasts ms does.TickHeartbeat x id h = acts ms x id Tick tt h
  act_lasts ms does.ForgetLeader x id h = acts ms x id ForgetLeader tt h

  -- changes that tell nothing
  changes : (ms : List Message) (c : Cluster) (id : ℕ) (call : Call) (o : Option PlainNode) → node_at c id ≡ o → IsBrought steady ms (id - 1) call → Covers P ms c → Covers P ms (changed_by o c id (λ n. (after call (node_step n [])).node))
  changes ms c id call None at brought h = h
  changes ms c id call (Some n) at brought h = (w.calls c.nodes ms (id - 1) call (node_step n []) at brought h.0, h.1)

  compacts : (ms : List Message) (x : Cluster) (id index : ℕ) (o : Option PlainNode) → node_at x id ≡ o → compact_error_by o index ≡ None → Covers P ms x → Covers P ms (compact_by o id index x).cluster
  compacts ms x id index None at none h = h
  compacts ms x id index (Some n) at none h =
      let upto = min n.applied n.log.durable in
      let may : compact_fault n.log index upto ≡ None = may_compact n.log index upto none in
      let now = w.calls x.nodes ms (id - 1) (Compact index) (node_step n []) at tt h.0 in
      (subst (λ (f : Option CompactFault). P (slice_set x.nodes (id - 1) (compacted_unless f n index)) ms) may now, h.1)

  -- nodes join
  adds : (ms : List Message) (from : Snapshot) (given : Options) (x : Cluster) (ids : List ℕ) → (steady ≡ true → ⊥) → Covers P ms x → Covers P ms (added_each from given x ids).cluster
  adds ms from given x [] free h = h
  adds ms from given x (id ∷ ids) free h = adds ms from given (node_added x (node_started id from given [])).cluster ids free (w.joins free x.nodes ms id from given h.0, h.1)

  -- nodes restart
  restarts_by : (ms : List Message) (x : Cluster) (id : ℕ) (o : Option PlainNode) → (lasting ≡ true → ⊥) → node_at x id ≡ o → Covers P ms x → Covers P ms (acted_by o x id node_restarted).cluster
  restarts_by ms x id None free at h = h
  restarts_by ms x id (Some n) free at h = (w.restarts free x.nodes ms (id - 1) (node_step n []) at h.0, h.1)

  restarts_each : (ms : List Message) (x : Cluster) (ids : List ℕ) → (lasting ≡ true → ⊥) → Covers P ms x → Covers P ms (restart_each x ids).cluster
  restarts_each ms x [] free h = h
  restarts_each ms x (id ∷ ids) free h = restarts_each ms (restart x id).cluster ids free (restarts_by ms x id (node_at x id) free refl h)

  -- ---- deliveries

  receives : (ms : List Message) (x : Cluster) (id : ℕ) (list : List Message) → 0 < id → All (IsMail ms id) list → Covers P ms x → Covers P ms (all_received id x list).cluster
  receives ms x id [] some comes h = h
  receives ms x id (m ∷ list) some comes h =
      let first : IsMail ms id m = All-head (IsMail ms id) m list comes in
      let back : id ≡ id - 1 + 1 = omega (arith, some) in
      receives ms (received id x m).cluster id list some (All-tail (IsMail ms id) m list comes) (acts ms x id (Step m) (first.0, first.1 ∙ back) h)

  leaves : (ms : List Message) (x : Cluster) (id : ℕ) (choice : MailChoice) → Covers P ms x → Covers P ms (left_by x id choice)
  leaves ms x id choice h = (h.0, left_each (Contains ms) (is_meant id choice) (quota_of choice) x.pending h.1)

  delivers : (ms : List Message) (x : Cluster) (id : ℕ) (choice : MailChoice) → 0 < id → Covers P ms x → Covers P ms (delivered choice x id).cluster
  unfolding delivered
  delivers ms x id choice some h =
      let pending = x.pending in
      receives ms (left_by x id choice) id (mail pending id choice) some (mail_comes ms id choice pending h.1) (leaves ms x id choice h)

  delivers_each : (ms : List Message) (x : Cluster) (ids : List ℕ) (choice : MailChoice) → AreIds ids → Covers P ms x → Covers P ms (delivered_each choice x ids).cluster
  delivers_each ms x [] choice some h = h
  delivers_each ms x (id ∷ ids) choice some h =
      delivers_each ms (delivered choice x id).cluster ids choice (All-tail (λ (id : ℕ). 0 < id) id ids some) (delivers ms x id choice (All-head (λ (id : ℕ). 0 < id) id ids some) h)

  drops_each : (ms : List Message) (x : Cluster) (ids : List ℕ) (choice : MailChoice) → Covers P ms x → Covers P ms (dropped_each choice x ids).cluster
  unfolding dropped
  drops_each ms x [] choice h = h
  drops_each ms x (id ∷ ids) choice h = drops_each ms (dropped choice x id).cluster ids choice (leaves ms x id choice h)

  delivers_msgs : (ms : List Message) (asked : DeliverMsgs) (x : Cluster) → AreIds asked.nodes → Covers P ms x → Covers P ms (msgs_delivered asked x).cluster
  unfolding msgs_delivered
  delivers_msgs ms asked x some h =
      let y = (delivered_each asked.choice x asked.nodes).cluster in
      if_both (λ (q : Effect). Covers P ms q.cluster) (chooses_any asked x.pending) _ _
      (λ _. drops_each ms y asked.drop asked.choice (delivers_each ms x asked.nodes asked.choice some h)) (λ _. h)

  -- ---- what is ready

  pushes : (ms : List Message) (x : Cluster) (m : Message) → Contains ms m → Covers P ms x → Covers P ms (record x { pending = x.pending ++ m ∷ [] })
  pushes ms x m there h = (h.0, All-push (Contains ms) x.pending m h.1 there)

  sends_all : (ms : List Message) (x : Cluster) (list : List Message) → All (Contains ms) list → Covers P ms x → Covers P ms (all_sent x list).cluster
  sends_all ms x [] out h = h
  sends_all ms x (m ∷ list) out h =
      sends_all ms (sent x m).cluster list (All-tail (Contains ms) m list out)
      (if_both (λ (y : Effect). Covers P ms y.cluster) (has_room x.pending) _ _ (λ _. pushes ms x m (All-head (Contains ms) m list out) h) (λ _. h))

  advances_by : (x : Cluster) (id : ℕ) (o : Option PlainNode) → node_at x id ≡ o → IsCovered P x → IsCovered P (advanced_by o x id).cluster
  advances_by x id None at h = h
  advances_by x id (Some n) at (ms, h) =
      let out = n.sent ++ n.waiting in (
        ms ++ out,
        sends_all (ms ++ out) (with_node x id (after Advance (node_step n [])).node) (outgoing n)
            (All-weaker (Contains out) (Contains (ms ++ out)) (λ m there. Contains-append_right ms out m there) (outgoing n) (handed_out n))
            (w.advances x.nodes ms (id - 1) (node_step n []) at h.0, still_coming ms out x.pending h.1),
      )

  does_all : (x : Cluster) (id : ℕ) (n : PlainNode) → IsCovered P x → IsCovered P (whole_ready_processed x id n).cluster
  unfolding whole_ready_processed
  does_all x id n h = advances_by x id (node_at x id) refl h

  readies_by : (x : Cluster) (id : ℕ) (o : Option PlainNode) → IsCovered P x → IsCovered P (ready_processed_by o x id).cluster
  readies_by x id None h = h
  readies_by x id (Some n) h = if_both (λ (y : Effect). IsCovered P y.cluster) (has_ready n) (whole_ready_processed x id n) _ (λ _. does_all x id n h) (λ _. h)

  readies_each : (x : Cluster) (ids : List ℕ) → IsCovered P x → IsCovered P (ready_processed_each x ids).cluster
  readies_each x [] h = h
  readies_each x (id ∷ ids) h = readies_each (ready_processed x id).cluster ids (readies_by x id (node_at x id) h)

  -- ---- rounds

  rounds_ready : (x : Cluster) (ids : List ℕ) → IsCovered P x → IsCovered P (each_ready_processed x ids).cluster
  rounds_ready x [] h = h
  rounds_ready x (id ∷ ids) h =
      rounds_ready (processed_if_ready x id).cluster ids
      (if_both (λ (q : Effect). IsCovered P q.cluster) (is_ready x id) (ready_processed x id) _ (λ _. readies_by x id (node_at x id) h) (λ _. h))

  goes_round : (x : Cluster) (ids : List ℕ) → AreIds ids → IsCovered P x → IsCovered P (round ids x).cluster
  unfolding round
  goes_round x ids some h = let r = rounds_ready x ids h in (r.0, delivers_each r.0 (each_ready_processed x ids).cluster ids all_mail some r.1)

  settles : (allowed rounds : ℕ) (x : Cluster) (ids : List ℕ) → AreIds ids → IsCovered P x → IsCovered P (rounds_run allowed rounds ids x).cluster
  unfolding rounds_run
  settles allowed zero x ids some h = if_both (λ (q : Effect). IsCovered P q.cluster) (has_work x ids) _ _ (λ _. h) (λ _. h)
  settles allowed (suc rounds) x ids some h =
      if_both (λ (q : Effect). IsCovered P q.cluster) (has_work x ids) _ _
      (λ _. settles allowed rounds (round ids x).cluster ids some (goes_round x ids some h)) (λ _. h)

  -- ---- a snapshot sent by hand

  queues : (ms : List Message) (x : Cluster) (m : Message) → Contains ms m → Covers P ms x → Covers P ms (queued x m).cluster
  unfolding queued
  queues ms x m there h = if_both (λ (y : Effect). Covers P ms y.cluster) (has_room x.pending) _ _ (λ _. pushes ms x m there h) (λ _. h)

  sends_snapshot : (ms : List Message) (x : Cluster) (from to : ℕ) (o : Option PlainNode) → node_at x from ≡ o → Covers P ms x → IsCovered P (snapshot_sent_by o from to x).cluster
  sends_snapshot ms x from to None at h = (ms, h)
  sends_snapshot ms x from to (Some n) at h =
      let m = message from to n.term (kind.Snapshot (snapshot_of n)) in
      (ms ++ m ∷ [], queues (ms ++ m ∷ []) x m (Contains-push ms m) (w.shows x.nodes ms (from - 1) from to n at h.0, still_coming ms (m ∷ []) x.pending h.1))

  -- ---- each request, and each directive

  pub has_effect : (r : Request) (x : Cluster) (ms : List Message) → (steady ≡ true → IsQuietRequest r) → (lasting ≡ true → IsLastingRequest r) → (missing_node x.nodes r ≡ None) × (own_fault r x ≡ None) → Covers P ms x → IsCovered P (effect r x).cluster
  unfolding nodes_added compact_error
  has_effect (requests.AddNodes asked) x ms asks stays may h = (ms, adds ms (start asked) (options asked) x (range_with_len (length x.nodes + 1) asked.count) asks h)
  has_effect (requests.ProposeConfChange asked) x ms asks stays may h =
      (ms, acts ms x asked.id (Propose (Change asked.transition (words_of (input_words asked.inputs)))) (λ is. absurd (asks is)) h)
  has_effect (requests.NodeCommand what id) x ms asks stays may h = (ms, act_lasts ms what x id h)
  has_effect (requests.Propose id payload) x ms asks stays may h = (ms, acts ms x id (Propose (Payload payload)) (λ _. refl) h)
  has_effect (requests.ProcessReady ids) x ms asks stays may h = readies_each x ids (ms, h)
  has_effect (requests.DeliverMsgs asked) x ms asks stays may h = (ms, delivers_msgs ms asked x (all_present x.nodes asked.nodes may.0) h)
  has_effect (requests.Stabilize ids rounds) x ms asks stays may h = settles rounds rounds x (chosen ids x.nodes) (chosen_some ids x.nodes) (ms, h)
  has_effect (requests.NodeCommandWithArg withs.SetRandomizedElectionTimeout id timeout) x ms asks stays may h = (ms, changes ms x id (SetTimeout timeout) (node_at x id) refl tt h)
  has_effect (requests.NodeCommandWithArg withs.TransferLeadership from to) x ms asks stays may h = (ms, acts ms x from (Transfer to) tt h)
  has_effect (requests.NodeCommandWithArg withs.ReportUnreachable id peer) x ms asks stays may h = (ms, changes ms x id (ReportUnreachable peer) (node_at x id) refl tt h)
  has_effect (requests.NodeCommandWithArg withs.SendSnapshot from to) x ms asks stays may h = sends_snapshot ms x from to (node_at x from) refl h
  has_effect (requests.NodeCommandWithArg withs.Compact id index) x ms asks stays may h = (ms, compacts ms x id index (node_at x id) refl may.1 h)
  has_effect (requests.Restart ids) x ms asks stays may h = (ms, restarts_each ms x ids stays h)
  has_effect (requests.LogLevel level) x ms asks stays may h = (ms, h)
  has_effect (requests.RaftLog id) x ms asks stays may h = (ms, elim (node_at x id) as (λ o. Covers P ms (log_shown_by o x).cluster) [ None ↦ h | Some n ↦ h ])
  has_effect (requests.Status id) x ms asks stays may h = (ms, elim (node_at x id) as (λ o. Covers P ms (status_shown_by o x).cluster) [ None ↦ h | Some n ↦ h ])
  has_effect requests.RaftState x ms asks stays may h = (ms, h)

  pub by_directive : (c : Cluster) (d : PlainDirective) → (steady ≡ true → IsQuietBy (request d)) → (lasting ≡ true → IsLastingBy (request d)) → IsCovered P c → IsCovered P (outcome c d).cluster
  unfolding fault
  by_directive c d asks stays h =
      outcome_has (IsCovered P) c d
      (λ a is none. has_effect a.request c h.0 (λ so. subst IsQuietBy is (asks so)) (λ so. subst IsLastingBy is (stays so)) (neither (missing_node c.nodes a.request) (own_fault a.request c) none) h.1) h
