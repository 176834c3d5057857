-- The arrows are of the messages that were sent, in order.
use Rattle.std.proofs.Common.{◌≡◌, ◌∙◌, ℕ, Bool, true, false, List, [], ◌∷◌, ◌++◌, map, Option, Some, None, refl, ap, sym, append_assoc, append-nil}
use Rattle.std.specs.Prelude.{fold, if◌then◌else◌, slice_get}
use Rattle.std.proofs.lemmas.List.{map-append}
use Rattle.std.proofs.lemmas.Option.{get_or_from_slice_get}
use Rattle.std.proofs.Math.Seq.{map-set_same}
use Rattle.rb_message.specs.declared.message.Message.{Message}
use Rattle.rb_texts.specs.Items.{PlainItem, nothing_else, ready, hard_state, snapshot, save, apply, send, nothing_ready, moved, no_messages, stopped, raft_state, raft_log, entry, config, progress, event, error}
use Rattle.rb_texts.specs.declared.item.Verb.TheVariants as verbs
use Rattle.rb_view.specs.declared.chart.arrow.Arrow.{Arrow}
use Rattle.rb_view.specs.declared.chart.css_class.DeliveryState.{DeliveryState}
use Rattle.rb_view.specs.declared.chart.css_class.DeliveryState.TheVariants as states
use Rattle.rb_view.specs.declared.chart.in_flight.MessageChange.TheVariants as changes
use Rattle.rb_view.specs.InFlight.{PlainInFlight, arrow, ended, last_alike, next_met, taken, taking}
use Rattle.rb_view.specs.Arrows.{PlainArrows, changed, drawing, drawn_as, end_arrow, set_state, set_state_of, with_state}
use Rattle.rb_view.specs.Promises.{Address, all_sent, arrow_address, is_ready_after, message_address, sends}

-- ---- an arrow that ends stays where it is

set_by : (n : ℕ) (s : DeliveryState) (arrows : List Arrow) (o : Option Arrow) → slice_get arrows n ≡ o → map arrow_address (set_state_of o n s arrows) ≡ map arrow_address arrows
set_by n s arrows None got = refl
set_by n s arrows (Some a) got = map-set_same arrow_address arrows n (with_state s a) a (sym (ap arrow_address (get_or_from_slice_get arrows n a a got)))

end_by : (p : Option ℕ) (k : ℕ) (s : DeliveryState) (d : PlainArrows) → map arrow_address (end_arrow p k s d).arrows ≡ map arrow_address d.arrows
end_by None k s d = refl
end_by (Some n) k s d = set_by n s d.arrows (slice_get d.arrows n) refl

ended_same : (d : PlainArrows) (s : DeliveryState) (at : Option ℕ) → map arrow_address (drawn_as d (ended d.in_flight s at)).arrows ≡ map arrow_address d.arrows ++ []
ended_same d s None = sym (append-nil (map arrow_address d.arrows))
ended_same d s (Some k) = end_by (slice_get d.positions k) k s _ ∙ sym (append-nil (map arrow_address d.arrows))

given_same : (d : PlainArrows) (m : Message) (b : Bool)
    → map arrow_address (drawn_as d (if b then ended d.in_flight states.Lost (last_alike m 0 d.in_flight.messages) else taken d.in_flight (changes.Refused (arrow m states.Lost)))).arrows
    ≡ map arrow_address d.arrows ++ map message_address (if b then [] else m ∷ [])
given_same d m true = ended_same d states.Lost (last_alike m 0 d.in_flight.messages)
given_same d m false = map-append arrow_address d.arrows (arrow m states.Lost ∷ [])

-- ---- whether a ready was shown

end_flight : (p : Option ℕ) (k : ℕ) (s : DeliveryState) (d : PlainArrows) → (end_arrow p k s d).in_flight ≡ d.in_flight
end_flight None k s d = refl
end_flight (Some n) k s d = refl

ended_ready : (d : PlainArrows) (s : DeliveryState) (at : Option ℕ) → (drawn_as d (ended d.in_flight s at)).in_flight.is_ready ≡ d.in_flight.is_ready
ended_ready d s None = refl
ended_ready d s (Some k) = ap (λ (f : PlainInFlight). f.is_ready) (end_flight (slice_get d.positions k) k s _)

given_ready : (d : PlainArrows) (m : Message) (b : Bool)
    → (drawn_as d (if b then ended d.in_flight states.Lost (last_alike m 0 d.in_flight.messages) else taken d.in_flight (changes.Refused (arrow m states.Lost)))).in_flight.is_ready ≡ d.in_flight.is_ready
given_ready d m true = ended_ready d states.Lost (last_alike m 0 d.in_flight.messages)
given_ready d m false = refl

-- ---- one thing that happens

step_sent : (d : PlainArrows) (item : PlainItem) → map arrow_address (drawing d item).arrows ≡ map arrow_address d.arrows ++ map message_address (sends d.in_flight.is_ready item)
unfolding drawing taking sends
step_sent d (send m) = map-append arrow_address d.arrows (arrow m states.Waiting ∷ [])
step_sent d (moved verbs.Queue m) = map-append arrow_address d.arrows (arrow m states.Waiting ∷ [])
step_sent d (moved verbs.Deliver m) = ended_same d states.Delivered (next_met d.in_flight m.to)
step_sent d (moved verbs.Drop m) = ended_same d states.Lost (next_met d.in_flight m.to)
step_sent d (moved verbs.NoRoomFor m) = given_same d m d.in_flight.is_ready
step_sent d nothing_else = sym (append-nil (map arrow_address d.arrows))
step_sent d (ready id) = sym (append-nil (map arrow_address d.arrows))
step_sent d (hard_state hard) = sym (append-nil (map arrow_address d.arrows))
step_sent d (snapshot term index) = sym (append-nil (map arrow_address d.arrows))
step_sent d (save index e) = sym (append-nil (map arrow_address d.arrows))
step_sent d (apply index e) = sym (append-nil (map arrow_address d.arrows))
step_sent d (nothing_ready id) = sym (append-nil (map arrow_address d.arrows))
step_sent d no_messages = sym (append-nil (map arrow_address d.arrows))
step_sent d (stopped rounds) = sym (append-nil (map arrow_address d.arrows))
step_sent d (raft_state node) = sym (append-nil (map arrow_address d.arrows))
step_sent d (raft_log log) = sym (append-nil (map arrow_address d.arrows))
step_sent d (entry index e unsaved) = sym (append-nil (map arrow_address d.arrows))
step_sent d (config c) = sym (append-nil (map arrow_address d.arrows))
step_sent d (progress id view) = sym (append-nil (map arrow_address d.arrows))
step_sent d (event e) = sym (append-nil (map arrow_address d.arrows))
step_sent d (error e) = sym (append-nil (map arrow_address d.arrows))

step_ready : (d : PlainArrows) (item : PlainItem) → (drawing d item).in_flight.is_ready ≡ is_ready_after d.in_flight.is_ready item
unfolding drawing taking is_ready_after
step_ready d (send m) = refl
step_ready d (moved verbs.Queue m) = refl
step_ready d (moved verbs.Deliver m) = ended_ready d states.Delivered (next_met d.in_flight m.to)
step_ready d (moved verbs.Drop m) = ended_ready d states.Lost (next_met d.in_flight m.to)
step_ready d (moved verbs.NoRoomFor m) = given_ready d m d.in_flight.is_ready
step_ready d nothing_else = refl
step_ready d (ready id) = refl
step_ready d (hard_state hard) = refl
step_ready d (snapshot term index) = refl
step_ready d (save index e) = refl
step_ready d (apply index e) = refl
step_ready d (nothing_ready id) = refl
step_ready d no_messages = refl
step_ready d (stopped rounds) = refl
step_ready d (raft_state node) = refl
step_ready d (raft_log log) = refl
step_ready d (entry index e unsaved) = refl
step_ready d (config c) = refl
step_ready d (progress id view) = refl
step_ready d (event e) = refl
step_ready d (error e) = refl

-- ---- all of it

pub sent_from : (d : PlainArrows) (items : List PlainItem)
    → map arrow_address (fold drawing d items).arrows ≡ map arrow_address d.arrows ++ map message_address (all_sent d.in_flight.is_ready items)
sent_from d [] = sym (append-nil (map arrow_address d.arrows))
sent_from d (item ∷ items) =
    let ready = d.in_flight.is_ready in
    let before : List Address = map arrow_address d.arrows in
    let first : List Message = sends ready item in
    let rest : List Message = all_sent (is_ready_after ready item) items in
    sent_from (drawing d item) items
    ∙ ap (λ (r : Bool). map arrow_address (drawing d item).arrows ++ map message_address (all_sent r items)) (step_ready d item)
    ∙ ap (λ (l : List Address). l ++ map message_address rest) (step_sent d item)
    ∙ append_assoc before (map message_address first) (map message_address rest)
    ∙ ap (λ (l : List Address). before ++ l) (sym (map-append message_address first rest))
