-- What is observed of a directive that restarts no node goes on: a node that settles has the entries that it knew to be committed when it was
-- written last.
use Rattle.std.proofs.Common.{◌≡◌, ◌∙◌, ℕ, zero, suc, ◌+◌, ◌-◌, Bool, true, false, not, List, [], ◌∷◌, ◌++◌, length, Option, Some, None, Result, Ok, Err, min, refl, ap, sym, subst, arith, inl, inr, if◌then◌else◌}
use Rattle.std.specs.Prelude.{slice_get, slice_set}
use Rattle.std.specs.List.{list_all, range_with_len}
use Rattle.std.specs.Option.{option_or}
use Rattle.std.proofs.lemmas.Bool.{and_parts}
use Rattle.std.proofs.lemmas.List.{length-set}
use Rattle.std.proofs.lemmas.Option.{same_Some}
use Rattle.rb_script.specs.Directive.{PlainDirective}
use Rattle.rb_vocab.specs.declared.directive_error.DirectiveError.{DirectiveError}
use Rattle.rb_directive.specs.declared.node_command.NodeCommand.{NodeCommand}
use Rattle.rb_directive.specs.declared.node_command.NodeCommand.TheVariants as does
use Rattle.rb_directive.specs.declared.node_command_with_arg.NodeCommandWithArg.TheVariants as withs
use Rattle.rb_directive.specs.declared.requests.DeliverMsgs.{DeliverMsgs}
use Rattle.rb_directive.specs.declared.requests.MailChoice.{MailChoice}
use Rattle.rb_directive.specs.declared.requests.Request.{Request}
use Rattle.rb_directive.specs.declared.requests.Request.TheVariants as requests
use Rattle.rb_directive.specs.declared.build.Asked.{Asked}
use Rattle.rb_directive.specs.Changes.{input_words}
use Rattle.rb_directive.specs.Requests.{all_mail, request}
use Rattle.rb_raftlog.specs.declared.entry.Body.TheVariants.{Payload, Change}
use Rattle.rb_raftlog.specs.declared.raft_log.CompactFault.{CompactFault}
use Rattle.rb_raftlog.specs.declared.snapshot.Snapshot.{Snapshot}
use Rattle.rb_raftlog.specs.Log.{compact_fault}
use Rattle.rb_tracker.proofs.SetLaws.{if_both}
use Rattle.rb_message.specs.declared.event.Event.{Event}
use Rattle.rb_message.specs.declared.message.Message.{Message}
use Rattle.rb_node.specs.declared.limits.TheConstants.{ELECTION_TICKS}
use Rattle.rb_node.specs.declared.options.Options.{Options}
use Rattle.rb_node.specs.Node.{PlainNode, NodeStep, node_step}
use Rattle.rb_node.specs.Calls.{node_started}
use Rattle.rb_node.specs.Readying.{has_ready, outgoing}
use Rattle.rb_node.specs.Step.{stepped}
use Rattle.rb_node.specs.Ticking.{ticked}
use Rattle.rb_texts.specs.Items.{PlainItem}
use Rattle.rb_calls.specs.Calling.{Call, Step, Campaign, Propose, Transfer, Tick, Advance, ForgetLeader, ReportUnreachable, SetTimeout, Compact, compacted_unless, after}
use Rattle.rb_calls.specs.Sound.{IsSound}
use Rattle.rb_calls.proofs.CallLaws.{calls}
use Rattle.rb_calls.proofs.ListLaws.{each_set, set_cases}
use Rattle.rb_machine.specs.Acts.{act, ticked_times}
use Rattle.rb_machine.specs.AddNodes.{added_each, node_added, nodes_added, options, start}
use Rattle.rb_machine.specs.Changes.{words_of}
use Rattle.rb_machine.specs.Cluster.{Cluster, node_at, with_node, changed_by}
use Rattle.rb_machine.specs.Deliveries.{left_by, received, all_received, delivered, delivered_each, dropped, dropped_each, chooses_any, msgs_delivered}
use Rattle.rb_machine.specs.Effects.{Effect, quiet, showing, followed_by, each, telling, settled_by, node_settled, moved_by, acted}
use Rattle.rb_machine.specs.Observations.{Observation, Shown, Settled}
use Rattle.rb_machine.specs.Outcome.{Execution, missing_node, own_fault, fault, effect, unless_refused, execution_of, execution, outcome}
use Rattle.rb_machine.specs.Pending.{has_room, mail, sent, all_sent}
use Rattle.rb_machine.specs.Readies.{advanced_by, node_advanced, advanced_and_settled, whole_ready_processed, ready_processed_by, ready_processed, ready_processed_each}
use Rattle.rb_machine.specs.Rounds.{chosen, is_ready, has_work, processed_if_ready, each_ready_processed, round, rounds_run}
use Rattle.rb_machine.specs.Snapshots.{queued, snapshot_sent_by, compact_error_by, compact_error, compact_by}
use Rattle.rb_machine.specs.Views.{log_shown_by, status_shown_by}
use Rattle.rb_machine.proofs.CompactLaws.{may_compact}
use Rattle.rb_view.specs.Committed.{AreKept, AreSound, IsKept, is_restart, is_sound, keeps_commits, restarts, restarts_by}
use Rattle.rb_view.specs.Watching.{rewritten, written_last}
use Rattle.rb_view.proofs.CommittedLaws.{HasGoneOn, IsOf, HaveGoneOn, all_sound, still, further, one_joins}

-- each node that settles has what it knew to be committed when it was written last, where these were written before
abbrev pub GoOn : List PlainNode → List Observation → Type 0
GoOn nodes [] = Unit {0}
GoOn nodes (Shown items ∷ observed) = GoOn nodes observed
GoOn nodes (Settled id n ∷ observed) = ((old : PlainNode) → slice_get nodes (id - 1) ≡ Some old → IsKept old.log n.log old.commit) × GoOn (rewritten nodes id n) observed

both_written : (nodes : List PlainNode) (xs ys : List Observation) → written_last nodes (xs ++ ys) ≡ written_last (written_last nodes xs) ys
both_written nodes [] ys = refl
both_written nodes (Shown items ∷ xs) ys = both_written nodes xs ys
both_written nodes (Settled id n ∷ xs) ys = both_written (rewritten nodes id n) xs ys

both_go_on : (nodes : List PlainNode) (xs ys : List Observation) → GoOn nodes xs → GoOn (written_last nodes xs) ys → GoOn nodes (xs ++ ys)
both_go_on nodes [] ys first second = second
both_go_on nodes (Shown items ∷ xs) ys first second = both_go_on nodes xs ys first second
both_go_on nodes (Settled id n ∷ xs) ys first second = (first.0, both_go_on (rewritten nodes id n) xs ys first.1 second)

-- ---- effects

-- where these were written before
record Goes (nodes : List PlainNode) (e : Effect) : Type 0 where
  observed : GoOn nodes e.observed
  after : HaveGoneOn (written_last nodes e.observed) e.cluster.nodes
  all : HaveGoneOn nodes e.cluster.nodes

abbrev Acts : Cluster → Effect → Type 0
Acts c e = (nodes : List PlainNode) → HaveGoneOn nodes c.nodes → Goes nodes e

quiets : (c : Cluster) → Acts c (quiet c)
quiets c nodes h = record { observed = tt; after = h; all = h }

shows : (c : Cluster) (items : List PlainItem) → Acts c (showing c items)
shows c items nodes h = record { observed = tt; after = h; all = h }

follows : (c : Cluster) (e : Effect) (next : Cluster → Effect) → Acts c e → Acts e.cluster (next e.cluster) → Acts c (followed_by e next)
follows c e next first second nodes h =
    let a = first nodes h in
    let b = second (written_last nodes e.observed) a.after in
    record {
      observed = both_go_on nodes e.observed (next e.cluster).observed a.observed b.observed;
      after = subst (λ (ns : List PlainNode). HaveGoneOn ns (next e.cluster).cluster.nodes) (sym (both_written nodes e.observed (next e.cluster).observed)) b.after;
      all = (second nodes a.all).all;
    }

each_goes : {X : Type 0} (one : Cluster → X → Effect) → ((c : Cluster) (x : X) → Acts c (one c x)) → (c : Cluster) (xs : List X) → Acts c (each one c xs)
each_goes one goes c [] = quiets c
each_goes one goes c (x ∷ xs) = follows c (one c x) (λ after. each one after xs) (goes c x) (each_goes one goes (one c x).cluster xs)

-- ---- nodes

-- a sound node becomes one that is sound, and has gone on
record Moves (n m : PlainNode) : Type 0 where
  sound : IsSound m
  gone : HasGoneOn n m

moved : (olds nodes : List PlainNode) (k : ℕ) (n m : PlainNode) → slice_get nodes k ≡ Some n → (IsSound n → Moves n m) → HaveGoneOn olds nodes → HaveGoneOn olds (slice_set nodes k m)
moved olds nodes k n m at moves h =
    let i = h.each k n at in
    let on = moves i.sound in
    record {
      many = omega (arith, h.many, length-set nodes k m);
      each = each_set (IsOf olds) nodes k n m at (record { sound = on.sound; gone = λ old was. further old n m (i.gone old was) on.gone }) (λ j x _ there. h.each j x there);
    }

-- a node is written as it is
rewrites : (olds nodes : List PlainNode) (k : ℕ) (n : PlainNode) → slice_get nodes k ≡ Some n → HaveGoneOn olds nodes → HaveGoneOn (slice_set olds k n) nodes
rewrites olds nodes k n at h = record {
  many = omega (arith, h.many, length-set olds k n);
  each = λ j m is. record {
    sound = (h.each j m is).sound;
    gone = λ old was. elim (set_cases olds k n j old was) as (λ _. HasGoneOn old m) [
      | inl here ↦
          let same : m ≡ old = same_Some m n (sym is ∙ ap (slice_get nodes) here.0 ∙ at) ∙ sym here.1 in
          subst (λ (x : PlainNode). HasGoneOn x m) same (still m (h.each j m is).sound)
      | inr there ↦ (h.each j m is).gone old there.1
    ];
  };
}

by_call : (call : Call) (t : NodeStep) → IsSound t.node → Moves t.node (after call t).node
by_call call t sound =
    let g = (calls call t).goes sound in
    record { sound = g.ordered; gone = record { commit = g.commit; kept = record { base = g.base; held = sound.is_held; entries = g.kept } } }

by_ticks : (times : ℕ) (t : NodeStep) → IsSound t.node → Moves t.node (ticked_times times t).node
by_ticks zero t sound = record { sound = sound; gone = still t.node sound }
by_ticks (suc times) t sound =
    let first = by_call Tick t sound in
    let rest = by_ticks times (ticked t) first.sound in
    record { sound = rest.sound; gone = further t.node (ticked t).node (ticked_times times (ticked t)).node first.gone rest.gone }

-- ---- acting

settles_by : (c : Cluster) (id : ℕ) (o : Option PlainNode) → node_at c id ≡ o → Acts c (record { cluster = c; observed = settled_by o id })
settles_by c id None at nodes h = record { observed = tt; after = h; all = h }
settles_by c id (Some n) at nodes h =
    record { observed = (λ old was. ((h.each (id - 1) n at).gone old was).kept, tt); after = rewrites nodes c.nodes (id - 1) n at h; all = h }

settles : (c : Cluster) (id : ℕ) → Acts c (node_settled c id)
settles c id = settles_by c id (node_at c id) refl

moves_by : (c : Cluster) (id : ℕ) (does_it : NodeStep → NodeStep) → ((t : NodeStep) → IsSound t.node → Moves t.node (does_it t).node) → (o : Option PlainNode) → node_at c id ≡ o → Acts c (moved_by o c id does_it)
moves_by c id does_it moves None at nodes h = record { observed = tt; after = h; all = h }
moves_by c id does_it moves (Some n) at nodes h =
    let now = moved nodes c.nodes (id - 1) n (does_it (node_step n [])).node at (moves (node_step n [])) h in record { observed = tt; after = now; all = now }

acts : (c : Cluster) (id : ℕ) (does_it : NodeStep → NodeStep) → ((t : NodeStep) → IsSound t.node → Moves t.node (does_it t).node) → Acts c (acted c id does_it)
acts c id does_it moves =
    let e = moved_by (node_at c id) c id does_it in
    follows c e (λ after. node_settled after id) (moves_by c id does_it moves (node_at c id) refl) (settles e.cluster id)

by_act : (what : NodeCommand) (id : ℕ) (c : Cluster) → Acts c (act what id c)
by_act does.Campaign id c = acts c id (after Campaign) (by_call Campaign)
by_act does.TickElection id c = acts c id (ticked_times ELECTION_TICKS) (by_ticks ELECTION_TICKS)
by_act does.TickHeartbeat id c = acts c id ticked (by_call Tick)
by_act does.ForgetLeader id c = acts c id (after ForgetLeader) (by_call ForgetLeader)

-- a change of which nothing is observed
changes : (c : Cluster) (id : ℕ) (call : Call) (o : Option PlainNode) → node_at c id ≡ o → (nodes : List PlainNode) → HaveGoneOn nodes c.nodes → HaveGoneOn nodes (changed_by o c id (λ n. (after call (node_step n [])).node)).nodes
changes c id call None at nodes h = h
changes c id call (Some n) at nodes h = moved nodes c.nodes (id - 1) n (after call (node_step n [])).node at (by_call call (node_step n [])) h

compacts : (c : Cluster) (id index : ℕ) (o : Option PlainNode) → node_at c id ≡ o → compact_error_by o index ≡ None → Acts c (compact_by o id index c)
compacts c id index None at none nodes h = record { observed = tt; after = h; all = h }
compacts c id index (Some n) at none nodes h =
    let upto = min n.applied n.log.durable in
    let may : compact_fault n.log index upto ≡ None = may_compact n.log index upto none in
    let now = moved nodes c.nodes (id - 1) n (after (Compact index) (node_step n [])).node at (by_call (Compact index) (node_step n [])) h in
    let kept = subst (λ (f : Option CompactFault). HaveGoneOn nodes (slice_set c.nodes (id - 1) (compacted_unless f n index))) may now in
    record { observed = tt; after = kept; all = kept }

joins : (from : Snapshot) (given : Options) (c : Cluster) (id : ℕ) → Acts c (node_added c (node_started id from given []))
joins from given c id nodes h = let now = one_joins nodes c.nodes id from given h in record { observed = tt; after = now; all = now }

-- ---- deliveries

receives : (id : ℕ) (c : Cluster) (m : Message) → Acts c (received id c m)
receives id c m nodes h = let g = acts c id (after (Step m)) (by_call (Step m)) nodes h in record { observed = g.observed; after = g.after; all = g.all }

delivers : (choice : MailChoice) (c : Cluster) (id : ℕ) → Acts c (delivered choice c id)
unfolding delivered
delivers choice c id = each_goes (received id) (receives id) (left_by c id choice) (mail c.pending id choice)

drops : (choice : MailChoice) (c : Cluster) (id : ℕ) → Acts c (dropped choice c id)
unfolding dropped
drops choice c id nodes h = record { observed = tt; after = h; all = h }

delivers_msgs : (asked : DeliverMsgs) (c : Cluster) → Acts c (msgs_delivered asked c)
unfolding msgs_delivered
delivers_msgs asked c =
    let choice = asked.choice in
    let e = delivered_each choice c asked.nodes in
    if_both (Acts c) (chooses_any asked c.pending) _ _
    (λ _. follows c e (λ after. dropped_each choice after asked.drop) (each_goes (delivered choice) (delivers choice) c asked.nodes) (each_goes (dropped choice) (drops choice) e.cluster asked.drop))
    (λ _. shows c _)

-- ---- what is ready

sends : (c : Cluster) (m : Message) → Acts c (sent c m)
sends c m = if_both (Acts c) (has_room c.pending) _ _ (λ _ nodes h. record { observed = tt; after = h; all = h }) (λ _. shows c _)

tells : (c : Cluster) (events : List Event) → Acts c (telling c events)
tells c events nodes h = record { observed = tt; after = h; all = h }

advances_by : (c : Cluster) (id : ℕ) (o : Option PlainNode) → node_at c id ≡ o → Acts c (advanced_by o c id)
advances_by c id None at nodes h = record { observed = tt; after = h; all = h }
advances_by c id (Some n) at nodes h =
    let t = after Advance (node_step n []) in
    let x = with_node c id t.node in
    let e = all_sent x (outgoing n) in
    follows x e (λ after. telling after t.events) (each_goes sent sends x (outgoing n)) (tells e.cluster t.events) nodes (moved nodes c.nodes (id - 1) n t.node at (by_call Advance (node_step n [])) h)

advances : (c : Cluster) (id : ℕ) → Acts c (advanced_and_settled c id)
advances c id = follows c (node_advanced c id) (λ after. node_settled after id) (advances_by c id (node_at c id) refl) (settles (node_advanced c id).cluster id)

does_all : (c : Cluster) (id : ℕ) (n : PlainNode) → Acts c (whole_ready_processed c id n)
unfolding whole_ready_processed
does_all c id n nodes h = let g = advances c id nodes h in record { observed = g.observed; after = g.after; all = g.all }

readies_by : (c : Cluster) (id : ℕ) (o : Option PlainNode) → Acts c (ready_processed_by o c id)
readies_by c id None = quiets c
readies_by c id (Some n) = if_both (Acts c) (has_ready n) (whole_ready_processed c id n) _ (λ _. does_all c id n) (λ _. shows c _)

readies : (c : Cluster) (id : ℕ) → Acts c (ready_processed c id)
readies c id = readies_by c id (node_at c id)

-- ---- rounds

readies_if : (c : Cluster) (id : ℕ) → Acts c (processed_if_ready c id)
readies_if c id = if_both (Acts c) (is_ready c id) (ready_processed c id) _ (λ _. readies c id) (λ _. quiets c)

goes_round : (ids : List ℕ) (c : Cluster) → Acts c (round ids c)
unfolding round
goes_round ids c =
    let e = each_ready_processed c ids in
    follows c e (λ after. delivered_each all_mail after ids) (each_goes processed_if_ready readies_if c ids) (each_goes (delivered all_mail) (delivers all_mail) e.cluster ids)

runs : (allowed rounds : ℕ) (ids : List ℕ) (c : Cluster) → Acts c (rounds_run allowed rounds ids c)
unfolding rounds_run
runs allowed zero ids c = if_both (Acts c) (has_work c ids) _ _ (λ _. shows c _) (λ _. quiets c)
runs allowed (suc rounds) ids c =
    if_both (Acts c) (has_work c ids) _ _
    (λ _. follows c (round ids c) (λ after. rounds_run allowed rounds ids after) (goes_round ids c) (runs allowed rounds ids (round ids c).cluster))
    (λ _. quiets c)

-- ---- a snapshot sent by hand, and what is shown

queues : (c : Cluster) (m : Message) → Acts c (queued c m)
unfolding queued
queues c m = if_both (Acts c) (has_room c.pending) _ _ (λ _ nodes h. record { observed = tt; after = h; all = h }) (λ _. shows c _)

sends_snapshot : (c : Cluster) (from to : ℕ) (o : Option PlainNode) → Acts c (snapshot_sent_by o from to c)
sends_snapshot c from to None = quiets c
sends_snapshot c from to (Some n) = queues c _

shows_log : (c : Cluster) (o : Option PlainNode) → Acts c (log_shown_by o c)
shows_log c None = quiets c
shows_log c (Some n) = shows c _

shows_status : (c : Cluster) (o : Option PlainNode) → Acts c (status_shown_by o c)
shows_status c None = quiets c
shows_status c (Some n) = shows c _

-- ---- each request, and each directive

has_effect : (r : Request) (c : Cluster) → own_fault r c ≡ None → is_restart r ≡ false → Acts c (effect r c)
unfolding nodes_added compact_error
has_effect (requests.AddNodes asked) c may steady = each_goes (λ c id. node_added c (node_started id (start asked) (options asked) [])) (joins (start asked) (options asked)) c (range_with_len (length c.nodes + 1) asked.count)
has_effect (requests.ProposeConfChange asked) c may steady = let call = Propose (Change asked.transition (words_of (input_words asked.inputs))) in acts c asked.id (after call) (by_call call)
has_effect (requests.NodeCommand what id) c may steady = by_act what id c
has_effect (requests.Propose id payload) c may steady = acts c id (after (Propose (Payload payload))) (by_call (Propose (Payload payload)))
has_effect (requests.ProcessReady ids) c may steady = each_goes ready_processed readies c ids
has_effect (requests.DeliverMsgs asked) c may steady = delivers_msgs asked c
has_effect (requests.Stabilize ids rounds) c may steady = runs rounds rounds (chosen ids c.nodes) c
has_effect (requests.NodeCommandWithArg withs.SetRandomizedElectionTimeout id timeout) c may steady =
    λ nodes h. (let now = changes c id (SetTimeout timeout) (node_at c id) refl nodes h in record { observed = tt; after = now; all = now })
has_effect (requests.NodeCommandWithArg withs.TransferLeadership from to) c may steady = acts c from (after (Transfer to)) (by_call (Transfer to))
has_effect (requests.NodeCommandWithArg withs.ReportUnreachable id peer) c may steady =
    λ nodes h. (let now = changes c id (ReportUnreachable peer) (node_at c id) refl nodes h in record { observed = tt; after = now; all = now })
has_effect (requests.NodeCommandWithArg withs.SendSnapshot from to) c may steady = sends_snapshot c from to (node_at c from)
has_effect (requests.NodeCommandWithArg withs.Compact id index) c may steady = compacts c id index (node_at c id) refl may
has_effect (requests.Restart ids) c may steady = absurd cc
has_effect (requests.LogLevel level) c may steady = λ nodes h. record { observed = tt; after = h; all = h }
has_effect (requests.RaftLog id) c may steady = shows_log c (node_at c id)
has_effect (requests.Status id) c may steady = shows_status c (node_at c id)
has_effect requests.RaftState c may steady = shows c _

-- of a whole directive
record Lives (nodes : List PlainNode) (x : Execution) : Type 0 where
  observed : GoOn nodes x.observed
  after : HaveGoneOn (written_last nodes x.observed) x.cluster.nodes
  all : HaveGoneOn nodes x.cluster.nodes

second_none : {X : Type 0} → (a b : Option X) → option_or a b ≡ None → b ≡ None
second_none None b none = none
second_none (Some x) b none = absurd cc

unless_lives : (o : Option DirectiveError) (a : Asked) (c : Cluster) → (o ≡ None → Acts c (effect a.request c)) → (nodes : List PlainNode) → HaveGoneOn nodes c.nodes → Lives nodes (unless_refused o a c)
unless_lives (Some e) a c goes nodes h = record { observed = tt; after = h; all = h }
unless_lives None a c goes nodes h = let g = goes refl nodes h in record { observed = g.observed; after = g.after; all = g.all }

request_lives : (r : Result Asked DirectiveError) (c : Cluster) (nodes : List PlainNode) → restarts_by r ≡ false → HaveGoneOn nodes c.nodes → Lives nodes (execution_of r c)
unfolding fault
request_lives (Err e) c nodes steady h = record { observed = tt; after = h; all = h }
request_lives (Ok a) c nodes steady h =
    unless_lives (fault a.request c) a c (λ none. has_effect a.request c (second_none (missing_node c.nodes a.request) (own_fault a.request c) none) steady) nodes h

begin : (nodes : List PlainNode) → AreSound nodes → HaveGoneOn nodes nodes
begin nodes sound = record {
  many = omega arith;
  each = λ k n at. record { sound = sound k n at; gone = λ old was. subst (λ (x : PlainNode). HasGoneOn x n) (same_Some n old (sym at ∙ was)) (still n (sound k n at)) };
}

lives : (c : Cluster) (d : PlainDirective) → restarts d ≡ false → AreSound c.nodes → Lives c.nodes (execution c d)
unfolding execution restarts
lives c d steady sound = request_lives (request d) c c.nodes steady (begin c.nodes sound)

-- ---- where the indexes of each node are in order, and none restarts

pub stay_sound : (c : Cluster) (d : PlainDirective) → restarts d ≡ false → AreSound c.nodes → AreSound (outcome c d).cluster.nodes
unfolding outcome
stay_sound c d steady sound k n is = ((lives c d steady sound).all.each k n is).sound

pub are_kept : (c : Cluster) (d : PlainDirective) → restarts d ≡ false → AreSound c.nodes → AreKept c.nodes (outcome c d).cluster.nodes
unfolding outcome
are_kept c d steady sound k old new was is = (((lives c d steady sound).all.each k new is).gone old was).kept

no_restart : (b : Bool) → not b ≡ true → b ≡ false
no_restart true h = sym h
no_restart false h = refl

kept_lives : (c : Cluster) (d : PlainDirective) → keeps_commits c.nodes d ≡ true → Lives c.nodes (execution c d)
kept_lives c d keeps =
    let parts = and_parts (not (restarts d)) (list_all is_sound c.nodes) keeps in
    lives c d (no_restart (restarts d) parts.0) (all_sound c.nodes parts.1)

-- of a copy of a cluster, and of its nodes
pub goes_on : (c copy : Cluster) (nodes : List PlainNode) (d : PlainDirective) → copy ≡ c → nodes ≡ c.nodes → keeps_commits c.nodes d ≡ true → GoOn nodes (execution copy d).observed
goes_on c copy nodes d same are keeps =
    subst (λ (ns : List PlainNode). GoOn ns (execution copy d).observed) (sym are) (subst (λ (x : Cluster). GoOn c.nodes (execution x d).observed) (sym same) (kept_lives c d keeps).observed)

-- and what wasn't written then
pub kept_after : (c : Cluster) (d : PlainDirective) → keeps_commits c.nodes d ≡ true → AreKept (written_last c.nodes (execution c d).observed) (outcome c d).cluster.nodes
unfolding outcome
kept_after c d keeps k old new was is = (((kept_lives c d keeps).after.each k new is).gone old was).kept
