-- What is in flight after items of which no message changes, and after a directive's items.
use Rattle.std.proofs.Common.{◌≡◌, ◌∙◌, ℕ, ◌+◌, Bool, true, false, if◌then◌else◌, List, [], ◌∷◌, ◌++◌, map, Option, Some, None, refl, ap, sym, subst, append_assoc, append-nil}
use Rattle.std.specs.Prelude.{fold, slice_get}
use Rattle.rb_directive.specs.declared.requests.MailChoice.{MailChoice}
use Rattle.rb_raftlog.specs.declared.entry.Entry.{Entry}
use Rattle.rb_message.specs.declared.event.Event.{Event}
use Rattle.rb_message.specs.declared.message.Message.{Message}
use Rattle.rb_texts.specs.Items.{PlainItem, nothing_else, ready, hard_state, snapshot, save, apply, send, nothing_ready, moved, no_messages, stopped, raft_state, raft_log, entry, config, progress, event, error}
use Rattle.rb_texts.specs.declared.item.Verb.TheVariants as verbs
use Rattle.rb_node.specs.Node.{PlainNode, NodeStep, node_step}
use Rattle.rb_machine.specs.Cluster.{Cluster, node_at, with_node}
use Rattle.rb_machine.specs.Effects.{Effect, acted, acted_by, each, followed_by, node_settled, quiet, settled_by, showing}
use Rattle.rb_machine.specs.Entries.{entry_items}
use Rattle.rb_machine.specs.Observations.{Observation, Shown, Settled, items_of}
use Rattle.rb_view.specs.declared.chart.css_class.DeliveryState.{DeliveryState}
use Rattle.rb_view.specs.declared.chart.css_class.DeliveryState.TheVariants as states
use Rattle.rb_view.specs.declared.chart.in_flight.MessageChange.TheVariants as changes
use Rattle.rb_view.specs.InFlight.{PlainInFlight, arrow, ended, flying, last_alike, next_met, taken, taking}

-- ---- which message is met

abbrev pub message_at : List Message → Option ℕ → Option Message
message_at messages None = None
message_at messages (Some at) = slice_get messages at

-- a message that is delivered or dropped is the one that is taken from those in flight
abbrev pub Meets : PlainInFlight → PlainItem → Type 0
Meets f (moved verbs.Deliver m) = message_at f.messages (next_met f m.to) ≡ Some m
Meets f (moved verbs.Drop m) = message_at f.messages (next_met f m.to) ≡ Some m
Meets f item = Unit {0}

abbrev pub AllMeet : PlainInFlight → List PlainItem → Type 0
AllMeet f [] = Unit {0}
AllMeet f (item ∷ items) = Meets f item × AllMeet (flying f item) items

-- ---- which messages are chosen doesn't change

ended_choice : (f : PlainInFlight) (s : DeliveryState) (o : Option ℕ) → (ended f s o).left.choice ≡ f.choice
ended_choice f s None = refl
ended_choice f s (Some at) = refl

given_choice : (f : PlainInFlight) (m : Message) (b : Bool)
    → (if b then ended f states.Lost (last_alike m 0 f.messages) else taken f (changes.Refused (arrow m states.Lost))).left.choice ≡ f.choice
given_choice f m true = ended_choice f states.Lost (last_alike m 0 f.messages)
given_choice f m false = refl

flying_choice : (f : PlainInFlight) (item : PlainItem) → (flying f item).choice ≡ f.choice
unfolding taking
flying_choice f (moved verbs.Deliver m) = ended_choice f states.Delivered (next_met f m.to)
flying_choice f (moved verbs.Drop m) = ended_choice f states.Lost (next_met f m.to)
flying_choice f (moved verbs.Queue m) = refl
flying_choice f (moved verbs.NoRoomFor m) = given_choice f m f.is_ready
flying_choice f nothing_else = refl
flying_choice f (ready id) = refl
flying_choice f (hard_state hard) = refl
flying_choice f (snapshot term index) = refl
flying_choice f (save index e) = refl
flying_choice f (apply index e) = refl
flying_choice f (send m) = refl
flying_choice f (nothing_ready id) = refl
flying_choice f no_messages = refl
flying_choice f (stopped rounds) = refl
flying_choice f (raft_state node) = refl
flying_choice f (raft_log log) = refl
flying_choice f (entry index e unsaved) = refl
flying_choice f (config c) = refl
flying_choice f (progress id view) = refl
flying_choice f (event e) = refl
flying_choice f (error e) = refl

pub choice_stays : (items : List PlainItem) (f : PlainInFlight) → (fold flying f items).choice ≡ f.choice
choice_stays [] f = refl
choice_stays (item ∷ items) f = choice_stays items (flying f item) ∙ flying_choice f item

-- ---- items, one after another

-- after the items these messages are in flight, and each that was delivered or dropped was the one that was taken
pub record Follows (f : PlainInFlight) (items : List PlainItem) (pending : List Message) : Type 0 where
  pub messages : (fold flying f items).messages ≡ pending
  pub meets : AllMeet f items

pub follows_both : (f : PlainInFlight) (xs ys : List PlainItem) (middle last : List Message) → Follows f xs middle → Follows (fold flying f xs) ys last → Follows f (xs ++ ys) last
follows_both f [] ys middle last first second = second
follows_both f (x ∷ xs) ys middle last first second =
    let rest = follows_both (flying f x) xs ys middle last (record { messages = first.messages; meets = first.meets.1 }) second in
    record { messages = rest.messages; meets = (first.meets.0, rest.meets) }

-- after an item
pub follows_next : (f : PlainInFlight) (item : PlainItem) (items : List PlainItem) (last : List Message) → Meets f item → Follows (flying f item) items last → Follows f (item ∷ items) last
follows_next f item items last met rest = record { messages = rest.messages; meets = (met, rest.meets) }

-- ---- items of which no message changes

abbrev pub Passes : PlainItem → Type 0
Passes item = (f : PlainInFlight) → (flying f item ≡ f) × Meets f item

abbrev pub AllPass : List PlainItem → Type 0
AllPass [] = Unit {0}
AllPass (item ∷ items) = Passes item × AllPass items

pub pass_both : (xs ys : List PlainItem) → AllPass xs → AllPass ys → AllPass (xs ++ ys)
pass_both [] ys first second = second
pass_both (x ∷ xs) ys first second = (first.0, pass_both xs ys first.1 second)

pub pass_map : {X : Type 0} (item : X → PlainItem) → ((x : X) → Passes (item x)) → (xs : List X) → AllPass (map item xs)
pass_map item pass [] = tt
pass_map item pass (x ∷ xs) = (pass x, pass_map item pass xs)

pub pass_entries : (item : ℕ → Entry → PlainItem) → ((index : ℕ) (e : Entry) → Passes (item index e)) → (index : ℕ) (es : List Entry) → AllPass (entry_items item index es)
pass_entries item pass index [] = tt
pass_entries item pass index (e ∷ es) = (pass index e, pass_entries item pass (index + 1) es)

pub event_passes : (e : Event) → Passes (event e)
unfolding taking
event_passes e f = (refl, tt)

pub pass_events : (events : List Event) → AllPass (map event events)
pass_events = pass_map event event_passes

-- before others
pub passed : (xs ys : List PlainItem) (f : PlainInFlight) (last : List Message) → AllPass xs → Follows f ys last → Follows f (xs ++ ys) last
passed [] ys f last pass rest = rest
passed (x ∷ xs) ys f last pass rest =
    follows_next f x (xs ++ ys) last (pass.0 f).1
    (passed xs ys (flying f x) last pass.1 (subst (λ (g : PlainInFlight). Follows g ys last) (sym (pass.0 f).0) rest))

pub all_passed : (xs : List PlainItem) (f : PlainInFlight) → AllPass xs → Follows f xs f.messages
all_passed xs f pass =
    subst (λ (items : List PlainItem). Follows f items f.messages) (append-nil xs) (passed xs [] f f.messages pass (record { messages = refl; meets = tt }))

-- ---- effects

-- the items of an effect, where these messages are in flight, lead to those that are pending after it
abbrev pub Leads : PlainInFlight → Effect → Type 0
Leads f e = Follows f (items_of e.observed) e.cluster.pending

-- the same wherever what is in flight is what is pending, and these messages are chosen
abbrev pub Tells : MailChoice → Cluster → Effect → Type 0
Tells choice c e = (f : PlainInFlight) → f.choice ≡ choice → f.messages ≡ c.pending → Leads f e

items_append : (first second : List Observation) → items_of (first ++ second) ≡ items_of first ++ items_of second
items_append [] second = refl
items_append (Shown items ∷ first) second =
    ap (λ (l : List PlainItem). items ++ l) (items_append first second) ∙ sym (append_assoc items (items_of first) (items_of second))
items_append (Settled id n ∷ first) second = items_append first second

-- one effect after another
pub follows_then : (f : PlainInFlight) (e : Effect) (next : Cluster → Effect) (middle last : List Message) → Follows f (items_of e.observed) middle
    → Follows (fold flying f (items_of e.observed)) (items_of (next e.cluster).observed) last → Follows f (items_of (followed_by e next).observed) last
follows_then f e next middle last first second =
    subst (λ (items : List PlainItem). Follows f items last) (sym (items_append e.observed (next e.cluster).observed))
    (follows_both f (items_of e.observed) (items_of (next e.cluster).observed) middle last first second)

pub leads_both : (f : PlainInFlight) (choice : MailChoice) (e : Effect) (next : Cluster → Effect) → f.choice ≡ choice → Leads f e → Tells choice e.cluster (next e.cluster)
    → Leads f (followed_by e next)
leads_both f choice e next chosen first second =
    let g = fold flying f (items_of e.observed) in
    follows_then f e next e.cluster.pending (next e.cluster).cluster.pending first (second g (choice_stays (items_of e.observed) f ∙ chosen) first.messages)

pub tells_both : (choice : MailChoice) (c : Cluster) (e : Effect) (next : Cluster → Effect) → Tells choice c e → Tells choice e.cluster (next e.cluster) → Tells choice c (followed_by e next)
tells_both choice c e next first second f chosen is = leads_both f choice e next chosen (first f chosen is) second

pub tells_each : {X : Type 0} (choice : MailChoice) (one : Cluster → X → Effect) → ((c : Cluster) (x : X) → Tells choice c (one c x)) → (c : Cluster) (xs : List X)
    → Tells choice c (each one c xs)
tells_each choice one tells c [] f chosen is = record { messages = is; meets = tt }
tells_each choice one tells c (x ∷ xs) f chosen is =
    leads_both f choice (one c x) (λ after. each one after xs) chosen (tells c x f chosen is) (tells_each choice one tells (one c x).cluster xs)

pub tells_quiet : (choice : MailChoice) (c after : Cluster) → after.pending ≡ c.pending → Tells choice c (quiet after)
tells_quiet choice c after same f chosen is = record { messages = is ∙ sym same; meets = tt }

-- items are shown of which no message changes, and none is sent or gone
pub tells_showing : (choice : MailChoice) (c after : Cluster) (items : List PlainItem) → after.pending ≡ c.pending → AllPass items → Tells choice c (showing after items)
tells_showing choice c after items same pass f chosen is =
    let all = all_passed items f pass in
    subst (λ (l : List PlainItem). Follows f l after.pending) (sym (append-nil items)) (record { messages = all.messages ∙ is ∙ sym same; meets = all.meets })

-- ---- a node acts

settled_pass : (o : Option PlainNode) (id : ℕ) → AllPass (items_of (settled_by o id))
settled_pass None id = tt
settled_pass (Some n) id = tt

pub tells_settled : (choice : MailChoice) (c : Cluster) (id : ℕ) → Tells choice c (node_settled c id)
tells_settled choice c id f chosen is =
    let all = all_passed (items_of (settled_by (node_at c id) id)) f (settled_pass (node_at c id) id) in record { messages = all.messages ∙ is; meets = all.meets }

pub acted_pass : (o : Option PlainNode) (c : Cluster) (id : ℕ) (act : NodeStep → NodeStep) → AllPass (items_of (acted_by o c id act).observed)
acted_pass None c id act = settled_pass (node_at c id) id
acted_pass (Some n) c id act =
    let t = act (node_step n []) in
    let settled = settled_by (node_at (with_node c id t.node) id) id in
    pass_both (map event t.events) (items_of settled) (pass_events t.events) (settled_pass (node_at (with_node c id t.node) id) id)

acted_pending : (o : Option PlainNode) (c : Cluster) (id : ℕ) (act : NodeStep → NodeStep) → (acted_by o c id act).cluster.pending ≡ c.pending
acted_pending None c id act = refl
acted_pending (Some n) c id act = refl

pub tells_acted : (choice : MailChoice) (c : Cluster) (id : ℕ) (act : NodeStep → NodeStep) → Tells choice c (acted c id act)
tells_acted choice c id act f chosen is =
    let all = all_passed (items_of (acted c id act).observed) f (acted_pass (node_at c id) c id act) in
    record { messages = all.messages ∙ is ∙ sym (acted_pending (node_at c id) c id act); meets = all.meets }
