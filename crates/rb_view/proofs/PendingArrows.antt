-- The arrows that wait are those of the messages in flight, and after a directive those of the pending ones.
use Rattle.std.proofs.Common.{◌≡◌, ◌∙◌, ℕ, zero, suc, ◌+◌, Bool, true, false, cond, if◌then◌else◌, List, [], ◌∷◌, ◌++◌, map, Option, Some, None, refl, ap, sym, subst, append_assoc, append-nil, arith}
use Rattle.std.specs.Prelude.{fold, option_map, slice_get}
use Rattle.std.specs.List.{remove}
use Rattle.std.proofs.lemmas.List.{map-append}
use Rattle.std.proofs.lemmas.List.Elements.{filter-append}
use Rattle.rb_script.specs.Directive.{PlainDirective}
use Rattle.rb_message.specs.declared.message.Message.{Message}
use Rattle.rb_texts.specs.Items.{PlainItem, nothing_else, ready, hard_state, snapshot, save, apply, send, nothing_ready, moved, no_messages, stopped, raft_state, raft_log, entry, config, progress, event, error}
use Rattle.rb_texts.specs.declared.item.Verb.TheVariants as verbs
use Rattle.rb_machine.specs.Cluster.{Cluster, empty}
use Rattle.rb_machine.specs.Outcome.{execution, outcome, shown_items}
use Rattle.rb_view.specs.declared.chart.arrow.Arrow.{Arrow}
use Rattle.rb_view.specs.declared.chart.css_class.DeliveryState.{DeliveryState}
use Rattle.rb_view.specs.declared.chart.css_class.DeliveryState.TheVariants as states
use Rattle.rb_view.specs.declared.chart.in_flight.MessageChange.{MessageChange}
use Rattle.rb_view.specs.declared.chart.in_flight.MessageChange.TheVariants as changes
use Rattle.rb_view.specs.InFlight.{PlainInFlight, arrow, ended, flying, last_alike, next_met, taken, taking}
use Rattle.rb_view.specs.Arrows.{PlainArrows, begun_by, changed, coming_in, drawing, drawn_as, end_arrow, no_arrows, resent, set_state, set_state_of}
use Rattle.rb_view.specs.Promises.{AllEnd, Ends, EndsItsOwn, Shows, waiting_arrow, waiting_arrows, waiting_from, waits}
use Rattle.rb_view.proofs.FlightLaws.{AllMeet, Meets, message_at}
use Rattle.rb_view.proofs.FlightDirectives.{by_directive}
use Rattle.rb_view.proofs.WaitingLaws.{ends, goes_on_waiting}

-- ---- messages in flight, which don't depend on arrows

end_flight : (o : Option ℕ) (k : ℕ) (s : DeliveryState) (d : PlainArrows) → (end_arrow o k s d).in_flight ≡ d.in_flight
end_flight None k s d = refl
end_flight (Some n) k s d = refl

changed_flight : (change : MessageChange) (d : PlainArrows) → (changed change d).in_flight ≡ d.in_flight
changed_flight changes.Nothing d = refl
changed_flight (changes.Sent a) d = refl
changed_flight (changes.Refused a) d = refl
changed_flight (changes.Ended at s) d = end_flight (slice_get d.positions at) at s d

drawing_flight : (d : PlainArrows) (item : PlainItem) → (drawing d item).in_flight ≡ flying d.in_flight item
unfolding drawing
drawing_flight d item = changed_flight (taking d.in_flight item).change (record d { in_flight = (taking d.in_flight item).left })

pub draws_flight : (items : List PlainItem) (d : PlainArrows) → (fold drawing d items).in_flight ≡ fold flying d.in_flight items
draws_flight [] d = refl
draws_flight (item ∷ items) d = draws_flight items (drawing d item) ∙ ap (λ (f : PlainInFlight). fold flying f items) (drawing_flight d item)

-- ---- lists without one

removed_none : {X : Type 0} (xs : List X) (k : ℕ) → slice_get xs k ≡ None → remove xs k ≡ xs
removed_none [] zero none = refl
removed_none [] (suc k) none = refl
removed_none (x ∷ xs) zero none = cc
removed_none (x ∷ xs) (suc k) none = ap (λ (l : List _). x ∷ l) (removed_none xs k none)

map_removed : {X Y : Type 0} (g : X → Y) (xs : List X) (k : ℕ) → map g (remove xs k) ≡ remove (map g xs) k
map_removed g [] zero = refl
map_removed g [] (suc k) = refl
map_removed g (x ∷ xs) zero = refl
map_removed g (x ∷ xs) (suc k) = ap (λ (l : List _). g x ∷ l) (map_removed g xs k)

none_by : (n : ℕ) (x : Arrow) (ns : List ℕ) (others : List Arrow) (k : ℕ) (b : Bool) → ((j : ℕ) → slice_get ns j ≡ None → slice_get others j ≡ None)
    → slice_get (if b then n ∷ ns else ns) k ≡ None → slice_get (cond b (x ∷ others) others) k ≡ None
none_by n x ns others zero true rest none = cc
none_by n x ns others (suc k) true rest none = rest k none
none_by n x ns others k false rest none = rest k none

none_waits : (n : ℕ) (arrows : List Arrow) (k : ℕ) → slice_get (waiting_from n arrows) k ≡ None → slice_get (waiting_arrows arrows) k ≡ None
none_waits n [] k none = refl
none_waits n (x ∷ arrows) k none = none_by n x (waiting_from (n + 1) arrows) (waiting_arrows arrows) k (waits x.state) (none_waits (n + 1) arrows) none

-- ---- what happens

-- the arrows that wait are those of the messages in flight
pub record InStep (d : PlainArrows) : Type 0 where
  pub waiting : waiting_arrows d.arrows ≡ map waiting_arrow d.in_flight.messages
  pub positions : d.positions ≡ waiting_from 0 d.arrows

abbrev Waiting : PlainArrows → Type 0
Waiting d = waiting_arrows d.arrows ≡ map waiting_arrow d.in_flight.messages

-- an arrow that waits ends, and its message is in flight no longer
end_in_step : (o : Option ℕ) (d : PlainArrows) (k : ℕ) (s : DeliveryState) → slice_get d.positions k ≡ o → waits s ≡ false → InStep d
    → Waiting (end_arrow o k s (record d { in_flight = record d.in_flight { messages = remove d.in_flight.messages k } }))
end_in_step None d k s got lost step =
    let none = none_waits 0 d.arrows k (ap (λ (ps : List ℕ). slice_get ps k) (sym step.positions) ∙ got) in
    sym (removed_none (waiting_arrows d.arrows) k none) ∙ ap (λ (l : List Arrow). remove l k) step.waiting ∙ sym (map_removed waiting_arrow d.in_flight.messages k)
end_in_step (Some p) d k s got lost step =
    let one = ends 0 d.arrows k p s lost (ap (λ (ps : List ℕ). slice_get ps k) (sym step.positions) ∙ got) in
    let at = one.is in
    let same : p ≡ one.at = omega (arith, at) in
    ap (λ (i : ℕ). waiting_arrows (set_state i s d.arrows)) same ∙ one.waiting ∙ ap (λ (l : List Arrow). remove l k) step.waiting
    ∙ sym (map_removed waiting_arrow d.in_flight.messages k)

ended_in_step : (d : PlainArrows) (s : DeliveryState) (at : Option ℕ) → waits s ≡ false → InStep d → Waiting (drawn_as d (ended d.in_flight s at))
ended_in_step d s None lost step = step.waiting
ended_in_step d s (Some k) lost step = end_in_step (slice_get d.positions k) d k s refl lost step

waiting_append : (first second : List Arrow) → waiting_arrows (first ++ second) ≡ waiting_arrows first ++ waiting_arrows second
waiting_append = filter-append (λ (a : Arrow). waits a.state)

added_in_step : (d : PlainArrows) (m : Message) → InStep d → waiting_arrows (d.arrows ++ waiting_arrow m ∷ []) ≡ map waiting_arrow (d.in_flight.messages ++ m ∷ [])
added_in_step d m step =
    waiting_append d.arrows (waiting_arrow m ∷ []) ∙ ap (λ (l : List Arrow). l ++ waiting_arrow m ∷ []) step.waiting
    ∙ sym (map-append waiting_arrow d.in_flight.messages (m ∷ []))

given_in_step : (d : PlainArrows) (m : Message) (b : Bool) → InStep d
    → Waiting (drawn_as d (if b then ended d.in_flight states.Lost (last_alike m 0 d.in_flight.messages) else taken d.in_flight (changes.Refused (arrow m states.Lost))))
given_in_step d m true step = ended_in_step d states.Lost (last_alike m 0 d.in_flight.messages) refl step
given_in_step d m false step =
    waiting_append d.arrows (arrow m states.Lost ∷ []) ∙ append-nil (waiting_arrows d.arrows) ∙ step.waiting

waiting_after : (d : PlainArrows) (item : PlainItem) → InStep d → Waiting (drawing d item)
unfolding drawing taking
waiting_after d (send m) step = added_in_step d m step
waiting_after d (moved verbs.Queue m) step = added_in_step d m step
waiting_after d (moved verbs.Deliver m) step = ended_in_step d states.Delivered (next_met d.in_flight m.to) refl step
waiting_after d (moved verbs.Drop m) step = ended_in_step d states.Lost (next_met d.in_flight m.to) refl step
waiting_after d (moved verbs.NoRoomFor m) step = given_in_step d m d.in_flight.is_ready step
waiting_after d nothing_else step = step.waiting
waiting_after d (ready id) step = step.waiting
waiting_after d (hard_state hard) step = step.waiting
waiting_after d (snapshot term index) step = step.waiting
waiting_after d (save index e) step = step.waiting
waiting_after d (apply index e) step = step.waiting
waiting_after d (nothing_ready id) step = step.waiting
waiting_after d no_messages step = step.waiting
waiting_after d (stopped rounds) step = step.waiting
waiting_after d (raft_state node) step = step.waiting
waiting_after d (raft_log log) step = step.waiting
waiting_after d (entry index e unsaved) step = step.waiting
waiting_after d (config c) step = step.waiting
waiting_after d (progress id view) step = step.waiting
waiting_after d (event e) step = step.waiting
waiting_after d (error e) step = step.waiting

step_on : (d : PlainArrows) (item : PlainItem) → InStep d → InStep (drawing d item)
step_on d item step = record { waiting = waiting_after d item step; positions = goes_on_waiting d (item ∷ []) step.positions }

steps_on : (items : List PlainItem) (d : PlainArrows) → InStep d → InStep (fold drawing d items)
steps_on [] d step = step
steps_on (item ∷ items) d step = steps_on items (drawing d item) (step_on d item step)

-- ---- which arrow ends

-- a position among arrows, of one that waits
record WaitsAt (n : ℕ) (arrows : List Arrow) (ws : List ℕ) (k : ℕ) (a : Arrow) : Type 0 where
  pub at : ℕ
  pub is : slice_get ws k ≡ Some (n + at)
  pub got : slice_get arrows at ≡ Some a

waits_by : (n : ℕ) (x : Arrow) (arrows : List Arrow) (k : ℕ) (a : Arrow) (b : Bool) → slice_get (cond b (x ∷ waiting_arrows arrows) (waiting_arrows arrows)) k ≡ Some a
    → ((j : ℕ) → slice_get (waiting_arrows arrows) j ≡ Some a → WaitsAt (n + 1) arrows (waiting_from (n + 1) arrows) j a)
    → WaitsAt n (x ∷ arrows) (if b then n ∷ waiting_from (n + 1) arrows else waiting_from (n + 1) arrows) k a
waits_by n x arrows zero a true got rest = record { at = 0; is = ap Some (omega arith); got = got }
waits_by n x arrows (suc k) a true got rest =
    let later = rest k got in record { at = suc later.at; is = later.is ∙ ap Some (omega arith); got = later.got }
waits_by n x arrows k a false got rest =
    let later = rest k got in record { at = suc later.at; is = later.is ∙ ap Some (omega arith); got = later.got }

waits_at : (n : ℕ) (arrows : List Arrow) (k : ℕ) (a : Arrow) → slice_get (waiting_arrows arrows) k ≡ Some a → WaitsAt n arrows (waiting_from n arrows) k a
waits_at n [] k a got = absurd cc
waits_at n (x ∷ arrows) k a got = waits_by n x arrows k a (waits x.state) got (λ j there. waits_at (n + 1) arrows j a there)

get_mapped : {X Y : Type 0} (g : X → Y) (xs : List X) (k : ℕ) (x : X) → slice_get xs k ≡ Some x → slice_get (map g xs) k ≡ Some (g x)
get_mapped g [] k x got = absurd cc
get_mapped g (y ∷ xs) zero x got = ap (option_map g) got
get_mapped g (y ∷ xs) (suc k) x got = get_mapped g xs k x got

met_ends : (d : PlainArrows) (m : Message) (s : DeliveryState) (o : Option ℕ) → message_at d.in_flight.messages o ≡ Some m → InStep d → EndsItsOwn m s d (drawn_as d (ended d.in_flight s o))
met_ends d m s None met step = absurd cc
met_ends d m s (Some k) met step =
    let got = ap (λ (l : List Arrow). slice_get l k) step.waiting ∙ get_mapped waiting_arrow d.in_flight.messages k m met in
    let there = waits_at 0 d.arrows k (waiting_arrow m) got in
    let position : slice_get d.positions k ≡ Some there.at = ap (λ (ps : List ℕ). slice_get ps k) step.positions ∙ there.is ∙ ap Some (omega arith) in
    let left = record d { in_flight = record d.in_flight { messages = remove d.in_flight.messages k } } in
    record {
      place = k;
      position = there.at;
      is_in_flight = met;
      has_position = position;
      has_waited = there.got;
      has_ended = ap (λ (o : Option ℕ). (end_arrow o k s left).arrows) position ∙ ap (λ (o : Option Arrow). set_state_of o there.at s d.arrows) there.got;
    }

ends_one : (d : PlainArrows) (item : PlainItem) → InStep d → Meets d.in_flight item → Ends item d (drawing d item)
unfolding drawing taking
ends_one d (moved verbs.Deliver m) step met = met_ends d m states.Delivered (next_met d.in_flight m.to) met step
ends_one d (moved verbs.Drop m) step met = met_ends d m states.Lost (next_met d.in_flight m.to) met step
ends_one d (moved verbs.Queue m) step met = tt
ends_one d (moved verbs.NoRoomFor m) step met = tt
ends_one d nothing_else step met = tt
ends_one d (ready id) step met = tt
ends_one d (hard_state hard) step met = tt
ends_one d (snapshot term index) step met = tt
ends_one d (save index e) step met = tt
ends_one d (apply index e) step met = tt
ends_one d (send m) step met = tt
ends_one d (nothing_ready id) step met = tt
ends_one d no_messages step met = tt
ends_one d (stopped rounds) step met = tt
ends_one d (raft_state node) step met = tt
ends_one d (raft_log log) step met = tt
ends_one d (entry index e unsaved) step met = tt
ends_one d (config c) step met = tt
ends_one d (progress id view) step met = tt
ends_one d (event e) step met = tt
ends_one d (error e) step met = tt

ends_all : (items : List PlainItem) (d : PlainArrows) → InStep d → AllMeet d.in_flight items → AllEnd d items
ends_all [] d step met = tt
ends_all (item ∷ items) d step met = (
  ends_one d item step met.0,
  ends_all items (drawing d item) (step_on d item step) (subst (λ (f : PlainInFlight). AllMeet f items) (sym (drawing_flight d item)) met.1),
)

-- ---- directives

shows_from : (c : Cluster) (d : PlainArrows) → InStep d → d.in_flight.messages ≡ c.pending → Shows c d
shows_from c d step is = record { waiting = step.waiting ∙ ap (map waiting_arrow) is; messages = is; positions = step.positions }

begun_step : (c : Cluster) (d : PlainArrows) (directive : PlainDirective) → Shows c d → InStep (begun_by directive d)
begun_step c d directive shows = record { waiting = shows.waiting ∙ ap (map waiting_arrow) (sym shows.messages); positions = shows.positions }

pub ends_its_own : (c : Cluster) (d : PlainArrows) (directive : PlainDirective) → Shows c d → AllEnd (begun_by directive d) (shown_items (execution c directive))
ends_its_own c d directive shows =
    ends_all (shown_items (execution c directive)) (begun_by directive d) (begun_step c d directive shows) (by_directive c directive d.in_flight shows.messages).meets

pub shows_after : (c : Cluster) (d : PlainArrows) (directive : PlainDirective) → Shows c d → Shows (outcome c directive).cluster (fold drawing (begun_by directive d) (shown_items (execution c directive)))
shows_after c d directive shows =
    let items = shown_items (execution c directive) in
    shows_from (outcome c directive).cluster (fold drawing (begun_by directive d) items) (steps_on items (begun_by directive d) (begun_step c d directive shows))
    (ap (λ (f : PlainInFlight). f.messages) (draws_flight items (begun_by directive d)) ∙ (by_directive c directive d.in_flight shows.messages).messages)

-- messages come in from above
resent_is : (ms : List Message) (d : PlainArrows) → fold resent d ms ≡ fold drawing d (map send ms)
resent_is [] d = refl
resent_is (m ∷ ms) d = resent_is ms (drawing d (send m))

sends_flight : (ms : List Message) (f : PlainInFlight) → (fold flying f (map send ms)).messages ≡ f.messages ++ ms
unfolding taking
sends_flight [] f = sym (append-nil f.messages)
sends_flight (m ∷ ms) f = sends_flight ms (record f { messages = f.messages ++ m ∷ [] }) ∙ append_assoc f.messages (m ∷ []) ms

pub shows_coming_in : (c : Cluster) → Shows c (coming_in c.pending)
shows_coming_in c =
    let items = map send c.pending in
    subst (Shows c) (sym (resent_is c.pending no_arrows))
    (shows_from c (fold drawing no_arrows items) (steps_on items no_arrows (record { waiting = refl; positions = refl }))
    (ap (λ (f : PlainInFlight). f.messages) (draws_flight items no_arrows) ∙ sends_flight c.pending no_arrows.in_flight))

pub shows_empty : Shows empty no_arrows
unfolding empty
shows_empty = record { waiting = refl; messages = refl; positions = refl }
