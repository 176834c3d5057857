-- What is in flight when a ready is processed: all that it sends is shown before what finds no room.
use Rattle.std.proofs.Common.{◌≡◌, ◌∙◌, ℕ, ◌+◌, Bool, true, false, if◌then◌else◌, List, [], ◌∷◌, ◌++◌, map, Option, Some, None, refl, ap, sym, subst, append_assoc, append-nil, arith}
use Rattle.std.specs.List.{remove}
use Rattle.rb_directive.specs.declared.requests.MailChoice.{MailChoice}
use Rattle.rb_raftlog.specs.declared.entry.Entry.{Entry}
use Rattle.rb_tracker.proofs.SetLaws.{if_both}
use Rattle.rb_message.specs.declared.hard_state.HardState.{HardState}
use Rattle.rb_message.specs.declared.message.Message.{Message}
use Rattle.rb_node.specs.Node.{PlainNode, node_step}
use Rattle.rb_node.specs.Readying.{advanced, has_ready, outgoing, ready}
use Rattle.rb_texts.specs.Items.{PlainItem, event, moved}
use Rattle.rb_texts.specs.Items as items
use Rattle.rb_texts.specs.declared.item.Verb.TheVariants as verbs
use Rattle.rb_machine.specs.Cluster.{Cluster, node_at, with_node}
use Rattle.rb_machine.specs.Effects.{followed_by, node_settled, quiet, showing, telling}
use Rattle.rb_machine.specs.Entries.{entry_items}
use Rattle.rb_machine.specs.Observations.{items_of}
use Rattle.rb_machine.specs.Pending.{all_sent, has_room, pushed}
use Rattle.rb_machine.specs.Readies.{advanced_by, advanced_and_settled, hard_items, node_advanced, ready_entry_items, ready_items, ready_processed, ready_processed_by, snapshot_items, whole_ready_processed}
use Rattle.rb_view.specs.declared.chart.css_class.DeliveryState.{DeliveryState}
use Rattle.rb_view.specs.declared.chart.css_class.DeliveryState.TheVariants as states
use Rattle.rb_view.specs.declared.chart.in_flight.MessageChange.TheVariants as changes
use Rattle.rb_view.specs.InFlight.{PlainInFlight, arrow, ended, flying, last_alike, taken, taking}
use Rattle.rb_view.proofs.FlightLists.{count, count_self, none_left, stripped}
use Rattle.rb_view.proofs.FlightLaws.{AllPass, Follows, Leads, Passes, Tells, follows_next, leads_both, pass_both, pass_entries, pass_events, passed, tells_quiet, tells_settled, tells_showing}

-- ---- a message that finds no room

ended_is : (f : PlainInFlight) (s : DeliveryState) (o : Option ℕ) (at : ℕ) → o ≡ Some at → (ended f s o).left ≡ record f { messages = remove f.messages at }
ended_is f s o at is = ap (λ (p : Option ℕ). (ended f s p).left) is

no_room_is : (f : PlainInFlight) (m : Message) (at : ℕ) → f.is_ready ≡ true → last_alike m 0 f.messages ≡ Some at
    → flying f (moved verbs.NoRoomFor m) ≡ record f { messages = remove f.messages at }
unfolding taking
no_room_is f m at is_ready is =
    ap (λ (b : Bool). (if b then ended f states.Lost (last_alike m 0 f.messages) else taken f (changes.Refused (arrow m states.Lost))).left) is_ready
    ∙ ended_is f states.Lost (last_alike m 0 f.messages) at is

-- Of the messages that find no room as many are in flight, after all that are pending, as many of each type and receiver.
full_follows : (c : Cluster) (ms others : List Message) (f : PlainInFlight) → has_room c.pending ≡ false → f.is_ready ≡ true → f.messages ≡ c.pending ++ others
    → ((z : Message) → count z others ≡ count z ms) → Leads f (all_sent c ms)
full_follows c [] others f full is_ready flies same = record {
  messages = flies ∙ ap (λ (l : List Message). c.pending ++ l) (none_left others same) ∙ append-nil c.pending;
  meets = tt;
}
full_follows c (m ∷ ms) others f full is_ready flies same =
    let strip = stripped m c.pending others (count m ms) (same m ∙ count_self m ms) in
    let is = no_room_is f m strip.at is_ready (ap (last_alike m 0) flies ∙ strip.is) in
    let g = flying f (moved verbs.NoRoomFor m) in
    let left : g.messages ≡ c.pending ++ strip.left = ap (λ (h : PlainInFlight). h.messages) is ∙ ap (λ (l : List Message). remove l strip.at) flies ∙ strip.removed in
    let less : (z : Message) → count z strip.left ≡ count z ms = λ z. (let a = strip.counted z in let b = same z in omega (arith, a, b)) in
    let rest = full_follows c ms strip.left g full (ap (λ (h : PlainInFlight). h.is_ready) is ∙ is_ready) left less in
    subst (λ (b : Bool). Leads f (followed_by (if b then quiet (pushed c m) else showing c (moved verbs.NoRoomFor m ∷ [])) (λ after. all_sent after ms))) (sym full)
    (follows_next f (moved verbs.NoRoomFor m) (items_of (all_sent c ms).observed) (all_sent c ms).cluster.pending tt rest)

-- ---- messages are sent

abbrev SentFollows : List Message → Type 0
SentFollows ms = (c : Cluster) (f : PlainInFlight) → f.is_ready ≡ true → f.messages ≡ c.pending ++ ms → Leads f (all_sent c ms)

sent_by : (c : Cluster) (m : Message) (ms : List Message) (f : PlainInFlight) (b : Bool) → has_room c.pending ≡ b → SentFollows ms → f.is_ready ≡ true
    → f.messages ≡ c.pending ++ m ∷ ms → Leads f (all_sent c (m ∷ ms))
sent_by c m ms f true room rest is_ready flies =
    subst (λ (b : Bool). Leads f (followed_by (if b then quiet (pushed c m) else showing c (moved verbs.NoRoomFor m ∷ [])) (λ after. all_sent after ms))) (sym room)
    (rest (pushed c m) f is_ready (flies ∙ sym (append_assoc c.pending (m ∷ []) ms)))
sent_by c m ms f false room rest is_ready flies = full_follows c (m ∷ ms) (m ∷ ms) f room is_ready flies (λ z. refl)

sent_follows : (ms : List Message) → SentFollows ms
sent_follows [] c f is_ready flies = record { messages = flies ∙ append-nil c.pending; meets = tt }
sent_follows (m ∷ ms) c f is_ready flies = sent_by c m ms f (has_room c.pending) refl (sent_follows ms) is_ready flies

-- ---- what a ready shows

hard_pass : (o : Option HardState) → AllPass (hard_items o)
unfolding taking
hard_pass None = tt
hard_pass (Some hard) = (λ f. (refl, tt), tt)

snapshot_pass : (o : Option (ℕ × ℕ)) → AllPass (snapshot_items o)
unfolding taking
snapshot_pass None = tt
snapshot_pass (Some at) = (λ f. (refl, tt), tt)

save_passes : (index : ℕ) (e : Entry) → Passes (items.save index e)
unfolding taking
save_passes index e f = (refl, tt)

apply_passes : (index : ℕ) (e : Entry) → Passes (items.apply index e)
unfolding taking
apply_passes index e f = (refl, tt)

entries_pass : (n : PlainNode) → AllPass (ready_entry_items n)
entries_pass n =
    pass_both (entry_items items.save (n.log.durable + 1) (ready n).save) (entry_items items.apply (n.applied + 1) (ready n).apply)
    (pass_entries items.save save_passes (n.log.durable + 1) (ready n).save) (pass_entries items.apply apply_passes (n.applied + 1) (ready n).apply)

-- messages are shown as sent, and then others follow
sends_then : (ms : List Message) (f : PlainInFlight) (rest : List PlainItem) (last : List Message) → Follows (record f { messages = f.messages ++ ms }) rest last
    → Follows f (map items.send ms ++ rest) last
unfolding taking
sends_then [] f rest last follows = subst (λ (l : List Message). Follows (record f { messages = l }) rest last) (append-nil f.messages) follows
sends_then (m ∷ ms) f rest last follows =
    follows_next f (items.send m) (map items.send ms ++ rest) last tt
    (sends_then ms (record f { messages = f.messages ++ m ∷ [] }) rest last
    (subst (λ (l : List Message). Follows (record f { messages = l }) rest last) (sym (append_assoc f.messages (m ∷ []) ms)) follows))

ready_then : (id : ℕ) (n : PlainNode) (f : PlainInFlight) (rest : List PlainItem) (last : List Message)
    → Follows (record f { is_ready = true; messages = f.messages ++ outgoing n }) rest last → Follows f (ready_items id n ++ rest) last
unfolding ready_items taking
ready_then id n f rest last follows =
    let hard = hard_items (ready n).hard in
    let snap = snapshot_items (ready n).snapshot in
    let entries = ready_entry_items n in
    let sends = map items.send (outgoing n) in
    let g = record f { is_ready = true } in
    let end = sends_then (outgoing n) g rest last follows in
    let all : Follows g (hard ++ (snap ++ (entries ++ (sends ++ rest)))) last =
    passed hard _ g last (hard_pass (ready n).hard) (passed snap _ g last (snapshot_pass (ready n).snapshot) (passed entries _ g last (entries_pass n) end)) in
    let same : hard ++ (snap ++ (entries ++ (sends ++ rest))) ≡ (hard ++ (snap ++ (entries ++ sends))) ++ rest =
    ap (λ (l : List PlainItem). hard ++ (snap ++ l)) (sym (append_assoc entries sends rest))
    ∙ ap (λ (l : List PlainItem). hard ++ l) (sym (append_assoc snap (entries ++ sends) rest))
    ∙ sym (append_assoc hard (snap ++ (entries ++ sends)) rest) in
    follows_next f (items.ready id) ((hard ++ (snap ++ (entries ++ sends))) ++ rest) last tt (subst (λ (l : List PlainItem). Follows g l last) same all)

-- ---- a ready is processed

advanced_leads : (c : Cluster) (id : ℕ) (n : PlainNode) (f : PlainInFlight) → f.is_ready ≡ true → f.messages ≡ c.pending ++ outgoing n
    → (o : Option PlainNode) → o ≡ Some n → Leads f (advanced_by o c id)
advanced_leads c id n f is_ready flies o is =
    let t = advanced (node_step n []) in
    subst (λ (p : Option PlainNode). Leads f (advanced_by p c id)) (sym is)
    (leads_both f f.choice (all_sent (with_node c id t.node) (outgoing n)) (λ after. telling after t.events) refl (sent_follows (outgoing n) (with_node c id t.node) f is_ready flies)
    (tells_showing f.choice (all_sent (with_node c id t.node) (outgoing n)).cluster (all_sent (with_node c id t.node) (outgoing n)).cluster (map event t.events) refl (pass_events t.events)))

whole_tells : (choice : MailChoice) (c : Cluster) (id : ℕ) (n : PlainNode) → node_at c id ≡ Some n → Tells choice c (whole_ready_processed c id n)
unfolding whole_ready_processed
whole_tells choice c id n there f chosen is =
    let g = record f { is_ready = true; messages = f.messages ++ outgoing n } in
    let flies : g.messages ≡ c.pending ++ outgoing n = ap (λ (l : List Message). l ++ outgoing n) is in
    ready_then id n f (items_of (advanced_and_settled c id).observed) (advanced_and_settled c id).cluster.pending
    (leads_both g choice (node_advanced c id) (λ after. node_settled after id) chosen (advanced_leads c id n g refl flies (node_at c id) there)
    (tells_settled choice (node_advanced c id).cluster id))

nothing_passes : (id : ℕ) → Passes (items.nothing_ready id)
unfolding taking
nothing_passes id f = (refl, tt)

processed_tells : (choice : MailChoice) (c : Cluster) (id : ℕ) (o : Option PlainNode) → node_at c id ≡ o → Tells choice c (ready_processed_by o c id)
processed_tells choice c id None there = tells_quiet choice c c refl
processed_tells choice c id (Some n) there =
    if_both (Tells choice c) (has_ready n) (whole_ready_processed c id n) (showing c (items.nothing_ready id ∷ []))
    (λ _. whole_tells choice c id n there) (λ _. tells_showing choice c c (items.nothing_ready id ∷ []) refl (nothing_passes id, tt))

pub tells_ready_processed : (choice : MailChoice) (c : Cluster) (id : ℕ) → Tells choice c (ready_processed c id)
tells_ready_processed choice c id = processed_tells choice c id (node_at c id) refl
