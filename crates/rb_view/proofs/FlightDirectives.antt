-- What is in flight after a directive, as its items tell it, is what is pending.
use Rattle.std.proofs.Common.{◌≡◌, ◌∙◌, ℕ, zero, suc, Bool, false, if◌then◌else◌, List, [], ◌∷◌, ◌++◌, map, Option, Some, None, Result, Ok, Err, refl, ap}
use Rattle.rb_script.specs.Directive.{PlainDirective}
use Rattle.rb_vocab.specs.declared.directive_error.DirectiveError.{DirectiveError}
use Rattle.rb_directive.specs.declared.build.Asked.{Asked}
use Rattle.rb_directive.specs.declared.node_command_with_arg.NodeCommandWithArg.TheVariants as withs
use Rattle.rb_directive.specs.declared.requests.MailChoice.{MailChoice}
use Rattle.rb_directive.specs.declared.requests.Request.{Request}
use Rattle.rb_directive.specs.declared.requests.Request.TheVariants as requests
use Rattle.rb_directive.specs.Changes.{input_words}
use Rattle.rb_directive.specs.Requests.{all_mail, request}
use Rattle.rb_raftlog.specs.declared.entry.Body.TheVariants as bodies
use Rattle.rb_tracker.proofs.SetLaws.{if_both}
use Rattle.rb_message.specs.declared.kind.MessageKind.TheVariants as kinds
use Rattle.rb_message.specs.declared.message.Message.{Message}
use Rattle.rb_node.specs.Node.{PlainNode, NodeStep, message, with_timeout}
use Rattle.rb_node.specs.Calls.{called, node_started, reported}
use Rattle.rb_node.specs.Restarting.{node_restarted}
use Rattle.rb_node.specs.Sends.{snapshot_of}
use Rattle.rb_texts.specs.Items.{error, event, moved, stopped}
use Rattle.rb_texts.specs.declared.item.Verb.TheVariants as verbs
use Rattle.rb_machine.specs.Acts.{restart, step_by}
use Rattle.rb_machine.specs.AddNodes.{joined, node_added, nodes_added, options, start}
use Rattle.rb_machine.specs.Changes.{words_of}
use Rattle.rb_machine.specs.Cluster.{Cluster, changed_by, node_at, with_node}
use Rattle.rb_machine.specs.Deliveries.{delivered_each}
use Rattle.rb_machine.specs.Effects.{followed_by, quiet, showing}
use Rattle.rb_machine.specs.Outcome.{effect, execution, execution_of, fault, level_set, outcome, shown_items, unless_refused}
use Rattle.rb_machine.specs.Pending.{has_room, pushed}
use Rattle.rb_machine.specs.Readies.{ready_processed}
use Rattle.rb_machine.specs.Rounds.{chosen, each_ready_processed, has_work, is_ready, processed_if_ready, round, rounds_run}
use Rattle.rb_machine.specs.Snapshots.{compact_by, queued, snapshot_sent_by, with_base}
use Rattle.rb_machine.specs.Views.{held_item, log_items, log_shown_by, state_item, status_items, status_shown_by, view_item}
use Rattle.rb_view.specs.declared.chart.css_class.DeliveryState.TheVariants as states
use Rattle.rb_view.specs.declared.chart.in_flight.MessageChange.TheVariants as changes
use Rattle.rb_view.specs.InFlight.{PlainInFlight, arrow, choice_by, choice_of, ended, last_alike, mail_choice, started, taken, taking, with_choice}
use Rattle.rb_view.proofs.FlightLaws.{AllPass, Follows, Leads, Passes, Tells, pass_entries, pass_events, pass_map, tells_acted, tells_both, tells_each, tells_quiet, tells_showing}
use Rattle.rb_view.proofs.FlightMail.{tells_delivered_each, tells_msgs_delivered}
use Rattle.rb_view.proofs.FlightReady.{tells_ready_processed}

-- ---- items of which no message changes

log_pass : (n : PlainNode) → AllPass (log_items n)
unfolding log_items taking
log_pass n = (λ f. (refl, tt), pass_entries (held_item n.log.durable) (λ index e f. (refl, tt)) _ n.log.entries)

status_pass : (n : PlainNode) → AllPass (status_items n)
unfolding status_items taking
status_pass n = (λ f. (refl, tt), pass_map view_item (λ view f. (refl, tt)) n.tracker.views)

states_pass : (ns : List PlainNode) → AllPass (map state_item ns)
unfolding taking
states_pass = pass_map state_item (λ n f. (refl, tt))

stopped_passes : (rounds : ℕ) → Passes (stopped rounds)
unfolding taking
stopped_passes rounds f = (refl, tt)

error_passes : (e : DirectiveError) → Passes (error e)
unfolding taking
error_passes e f = (refl, tt)

-- ---- rounds

tells_if_ready : (choice : MailChoice) (c : Cluster) (id : ℕ) → Tells choice c (processed_if_ready c id)
tells_if_ready choice c id =
    if_both (Tells choice c) (is_ready c id) (ready_processed c id) (quiet c) (λ _. tells_ready_processed choice c id) (λ _. tells_quiet choice c c refl)

tells_round : (ids : List ℕ) (c : Cluster) → Tells all_mail c (round ids c)
unfolding round
tells_round ids c =
    tells_both all_mail c (each_ready_processed c ids) (λ after. delivered_each all_mail after ids) (tells_each all_mail processed_if_ready (tells_if_ready all_mail) c ids)
    (tells_delivered_each all_mail (each_ready_processed c ids).cluster ids)

tells_rounds : (allowed rounds : ℕ) (ids : List ℕ) (c : Cluster) → Tells all_mail c (rounds_run allowed rounds ids c)
unfolding rounds_run
tells_rounds allowed zero ids c =
    if_both (Tells all_mail c) (has_work c ids) (showing c (stopped allowed ∷ [])) (quiet c)
    (λ _. tells_showing all_mail c c (stopped allowed ∷ []) refl (stopped_passes allowed, tt)) (λ _. tells_quiet all_mail c c refl)
tells_rounds allowed (suc rounds) ids c =
    if_both (Tells all_mail c) (has_work c ids) (followed_by (round ids c) (λ after. rounds_run allowed rounds ids after)) (quiet c)
    (λ _. tells_both all_mail c (round ids c) (λ after. rounds_run allowed rounds ids after) (tells_round ids c) (tells_rounds allowed rounds ids (round ids c).cluster))
    (λ _. tells_quiet all_mail c c refl)

-- ---- a snapshot is sent by hand

abbrev given : PlainInFlight → Message → Bool → PlainInFlight
given f m b = (if b then ended f states.Lost (last_alike m 0 f.messages) else taken f (changes.Refused (arrow m states.Lost))).left

queued_leads : (c : Cluster) (m : Message) (f : PlainInFlight) → f.is_ready ≡ false → f.messages ≡ c.pending → Leads f (queued c m)
unfolding queued taking
queued_leads c m f ready flies =
    if_both (Leads f) (has_room c.pending) (showing (pushed c m) (moved verbs.Queue m ∷ [])) (showing c (moved verbs.NoRoomFor m ∷ []))
    (λ _. record { messages = ap (λ (l : List Message). l ++ m ∷ []) flies; meets = (tt, tt) })
    (λ _. record { messages = ap (λ (b : Bool). (given f m b).messages) ready ∙ flies; meets = (tt, tt) })

snapshot_leads : (o : Option PlainNode) (from to : ℕ) (c : Cluster) (f : PlainInFlight) → f.is_ready ≡ false → f.messages ≡ c.pending → Leads f (snapshot_sent_by o from to c)
snapshot_leads None from to c f ready flies = record { messages = flies; meets = tt }
snapshot_leads (Some n) from to c f ready flies = queued_leads c (message from to n.term (kinds.Snapshot (snapshot_of n))) f ready flies

-- ---- each request

changed_pending : (o : Option PlainNode) (c : Cluster) (id : ℕ) (change : PlainNode → PlainNode) → (changed_by o c id change).pending ≡ c.pending
changed_pending None c id change = refl
changed_pending (Some n) c id change = refl

tells_compact : (choice : MailChoice) (o : Option PlainNode) (id index : ℕ) (c : Cluster) → Tells choice c (compact_by o id index c)
tells_compact choice None id index c = tells_quiet choice c c refl
tells_compact choice (Some n) id index c = tells_showing choice c (with_node c id (with_base n index)) (log_items (with_base n index)) refl (log_pass (with_base n index))

tells_log : (choice : MailChoice) (o : Option PlainNode) (c : Cluster) → Tells choice c (log_shown_by o c)
tells_log choice None c = tells_quiet choice c c refl
tells_log choice (Some n) c = tells_showing choice c c (log_items n) refl (log_pass n)

tells_status : (choice : MailChoice) (o : Option PlainNode) (c : Cluster) → Tells choice c (status_shown_by o c)
tells_status choice None c = tells_quiet choice c c refl
tells_status choice (Some n) c = tells_showing choice c c (status_items n) refl (status_pass n)

tells_node_added : (choice : MailChoice) (c : Cluster) (t : NodeStep) → Tells choice c (node_added c t)
tells_node_added choice c t = tells_showing choice c (joined c t.node) (map event t.events) refl (pass_events t.events)

tells_restart : (choice : MailChoice) (c : Cluster) (id : ℕ) → Tells choice c (restart c id)
tells_restart choice c id = tells_acted choice c id node_restarted

effect_leads : (r : Request) (c : Cluster) (f : PlainInFlight) → f.is_ready ≡ false → f.choice ≡ choice_of r → f.messages ≡ c.pending → Leads f (effect r c)
unfolding nodes_added
effect_leads (requests.AddNodes asked) c f ready picks flies =
    tells_each all_mail (λ d id. node_added d (node_started id (start asked) (options asked) [])) (λ d id. tells_node_added all_mail d (node_started id (start asked) (options asked) [])) c _ f picks flies
effect_leads (requests.NodeCommand what id) c f ready picks flies = tells_acted all_mail c id (step_by what) f picks flies
effect_leads (requests.Propose id payload) c f ready picks flies = tells_acted all_mail c id (λ t. called t (kinds.Proposal (bodies.Payload payload))) f picks flies
effect_leads (requests.ProposeConfChange asked) c f ready picks flies =
    tells_acted all_mail c asked.id (λ t. called t (kinds.Proposal (bodies.Change asked.transition (words_of (input_words asked.inputs))))) f picks flies
effect_leads (requests.ProcessReady ids) c f ready picks flies = tells_each all_mail ready_processed (tells_ready_processed all_mail) c ids f picks flies
effect_leads (requests.DeliverMsgs asked) c f ready picks flies = tells_msgs_delivered asked c f picks flies
effect_leads (requests.Stabilize ids rounds) c f ready picks flies = tells_rounds rounds rounds (chosen ids c.nodes) c f picks flies
effect_leads (requests.NodeCommandWithArg withs.SetRandomizedElectionTimeout id timeout) c f ready picks flies =
    tells_quiet all_mail c (changed_by (node_at c id) c id (λ n. with_timeout n timeout)) (changed_pending (node_at c id) c id (λ n. with_timeout n timeout)) f picks flies
effect_leads (requests.NodeCommandWithArg withs.TransferLeadership from to) c f ready picks flies = tells_acted all_mail c from (λ t. called t (kinds.TransferLeader to)) f picks flies
effect_leads (requests.NodeCommandWithArg withs.ReportUnreachable id peer) c f ready picks flies =
    tells_quiet all_mail c (changed_by (node_at c id) c id (λ n. reported n peer)) (changed_pending (node_at c id) c id (λ n. reported n peer)) f picks flies
effect_leads (requests.NodeCommandWithArg withs.SendSnapshot from to) c f ready picks flies = snapshot_leads (node_at c from) from to c f ready flies
effect_leads (requests.NodeCommandWithArg withs.Compact id index) c f ready picks flies = tells_compact all_mail (node_at c id) id index c f picks flies
effect_leads (requests.Restart ids) c f ready picks flies = tells_each all_mail restart (tells_restart all_mail) c ids f picks flies
effect_leads (requests.LogLevel level) c f ready picks flies = tells_quiet all_mail c (level_set level c) refl f picks flies
effect_leads (requests.RaftLog id) c f ready picks flies = tells_log all_mail (node_at c id) c f picks flies
effect_leads (requests.Status id) c f ready picks flies = tells_status all_mail (node_at c id) c f picks flies
effect_leads requests.RaftState c f ready picks flies = tells_showing all_mail c c (map state_item c.nodes) refl (states_pass c.nodes) f picks flies

-- ---- a directive

unless_follows : (o : Option DirectiveError) (a : Asked) (c : Cluster) (f : PlainInFlight) → f.is_ready ≡ false → f.choice ≡ choice_of a.request → f.messages ≡ c.pending
    → Follows f (shown_items (unless_refused o a c)) (unless_refused o a c).cluster.pending
unless_follows (Some e) a c f ready picks flies = tells_showing (choice_of a.request) c c (error e ∷ []) refl (error_passes e, tt) f picks flies
unless_follows None a c f ready picks flies = effect_leads a.request c f ready picks flies

by_request : (r : Result Asked DirectiveError) (c : Cluster) (f : PlainInFlight) → f.is_ready ≡ false → f.choice ≡ choice_by r → f.messages ≡ c.pending
    → Follows f (shown_items (execution_of r c)) (execution_of r c).cluster.pending
by_request (Err e) c f ready picks flies = tells_showing all_mail c c (error e ∷ []) refl (error_passes e, tt) f picks flies
by_request (Ok a) c f ready picks flies = unless_follows (fault a.request c) a c f ready picks flies

pub by_directive : (c : Cluster) (d : PlainDirective) (f : PlainInFlight) → f.messages ≡ c.pending
    → Follows (started (with_choice (mail_choice d) f)) (shown_items (execution c d)) (outcome c d).cluster.pending
unfolding execution outcome mail_choice
by_directive c d f flies = by_request (request d) c (started (with_choice (mail_choice d) f)) refl refl flies
