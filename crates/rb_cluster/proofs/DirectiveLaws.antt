-- What directives do: the node that a directive names is called as its name says, messages go in order, and stabilizing leaves nothing to do
use Rattle.std.proofs.Common.{◌≡◌, ◌⊎◌, ℕ, zero, suc, ◌+◌, ◌-◌, Bool, true, false, not, ◌&&◌, ◌||◌, ◌==◌, List, [], ◌∷◌, ◌++◌, length, length-append, Option, Some, None, Result, Ok, Err, refl, ap, sym, subst, ◌∙◌, arith, if◌then◌else◌, inl, inr, append_assoc, append-nil, eq-eqb}
use Rattle.std.specs.Prelude.{Contains, slice_get, slice_set}
use Rattle.std.specs.List.{list_any}
use Rattle.std.proofs.lemmas.Bool.{false≢true, or_parts, lt-ltb}
use Rattle.std.proofs.lemmas.List.{set-set}
use Rattle.std.proofs.lemmas.List.Elements.{Contains-push, Contains-append_right}
use Rattle.std.proofs.lemmas.List.Folds.{list_any_at}
use Rattle.rb_script.specs.Directive.{PlainDirective}
use Rattle.rb_vocab.specs.declared.directive_error.DirectiveError.{DirectiveError}
use Rattle.rb_directive.specs.declared.build.Asked.{Asked}
use Rattle.rb_directive.specs.declared.requests.DeliverMsgs.{DeliverMsgs}
use Rattle.rb_directive.specs.declared.requests.MailChoice.{MailChoice}
use Rattle.rb_directive.specs.declared.requests.Request.{Request}
use Rattle.rb_directive.specs.Requests.{request, all_mail}
use Rattle.rb_tracker.proofs.SetLaws.{if_both}
use Rattle.rb_message.specs.declared.kind.MessageKind.TheVariants as kinds
use Rattle.rb_message.specs.declared.message.Message.{Message}
use Rattle.rb_node.specs.Node.{PlainNode, NodeStep, node_step, message}
use Rattle.rb_node.specs.Readying.{has_ready, ready, outgoing, advanced}
use Rattle.rb_node.specs.Sends.{snapshot_of}
use Rattle.rb_node.specs.Step.{stepped}
use Rattle.rb_texts.specs.Items.{PlainItem, stopped}
use Rattle.rb_machine.specs.declared.limits.TheConstants.{MAX_PENDING}
use Rattle.rb_machine.specs.Cluster.{Cluster, node_at, with_node, changed_by}
use Rattle.rb_machine.specs.Deliveries.{left_by, received, all_received, delivered, dropped, msgs_delivered}
use Rattle.rb_machine.specs.Effects.{Effect, followed_by, acted_by, acted}
use Rattle.rb_machine.specs.Observations.{Observation, Shown, Settled, items_of}
use Rattle.rb_machine.specs.Outcome.{effect, refusal_of, refusal, unless_refused, execution_of, execution, outcome}
use Rattle.rb_machine.specs.Pending.{is_for, is_meant, Quota, quota_of, chooses, after_one, chosen_by, left_over, mail, other_mail, with_pending, has_room, pushed, sent, all_sent}
use Rattle.rb_machine.specs.Readies.{advanced_by, whole_ready_processed, ready_processed_by, ready_processed}
use Rattle.rb_machine.specs.Rounds.{is_ready_by, is_ready, has_mail, is_at_work, has_work, round, rounds_run}
use Rattle.rb_machine.specs.Snapshots.{queued, snapshot_sent_by, snapshot_sent, with_base, compact_by, compact}
use Rattle.rb_cluster.proofs.ChoiceLaws.{not_zero}
use Rattle.rb_cluster.specs.Directives.{Does, addressed, elsewhere, after_all, HasRoom, IsIdle}

-- ---- a directive that isn't refused has its effect

no_error : {X : Type 0} → (x : X) → Some x ≡ None → ⊥
no_error x e = cc

done_by : (q : Result Asked DirectiveError) (c : Cluster) (a : Asked) → q ≡ Ok a → refusal_of q c ≡ None → (execution_of q c).cluster ≡ (effect a.request c).cluster
done_by (Err e) c a is may = absurd (no_error e may)
done_by (Ok b) c a is may =
    let same : b ≡ a = cc in
    ap (λ (o : Option DirectiveError). (unless_refused o b c).cluster) may ∙ ap (λ (x : Asked). (effect x.request c).cluster) same

pub done : (c : Cluster) (d : PlainDirective) (r : Request) → Does c d r → (outcome c d).cluster ≡ (effect r c).cluster
unfolding outcome execution refusal
done c d r does = done_by (request d) c does.asked does.reads does.may ∙ ap (λ (q : Request). (effect q c).cluster) does.is

-- ---- a node acts, or changes

pub acts : (c : Cluster) (id : ℕ) (n : PlainNode) (act : NodeStep → NodeStep) → node_at c id ≡ Some n → (acted c id act).cluster ≡ with_node c id (act (node_step n [])).node
acts c id n act at = ap (λ (o : Option PlainNode). (acted_by o c id act).cluster) at

pub changes : (c : Cluster) (id : ℕ) (n : PlainNode) (change : PlainNode → PlainNode) → node_at c id ≡ Some n → changed_by (node_at c id) c id change ≡ with_node c id (change n)
changes c id n change at = ap (λ (o : Option PlainNode). changed_by o c id change) at

-- ---- messages that are sent

room_for : (c : Cluster) (m : Message) (ms : List Message) → HasRoom c (m ∷ ms) → has_room c.pending ≡ true
room_for c m ms room = lt-ltb (length c.pending) MAX_PENDING (omega (arith, room))

pub all_queued : (c : Cluster) (ms : List Message) → HasRoom c ms → (all_sent c ms).cluster ≡ with_pending c (c.pending ++ ms)
all_queued c [] room = ap (with_pending c) (sym (append-nil c.pending))
all_queued c (m ∷ ms) room =
    let first : (sent c m).cluster ≡ pushed c m = if_both (λ (e : Effect). e.cluster ≡ pushed c m) (has_room c.pending) _ _ (λ _. refl) (λ none. absurd (false≢true (sym none ∙ room_for c m ms room))) in
    let longer : length (c.pending ++ m ∷ []) ≡ length c.pending + 1 = length-append c.pending (m ∷ []) in
    ap (λ (x : Cluster). (all_sent x ms).cluster) first
    ∙ all_queued (pushed c m) ms (omega (arith, room, longer))
    ∙ ap (with_pending c) (append_assoc c.pending (m ∷ []) ms)

-- what is ready goes into flight behind what is there, and the node advances
pub ready_goes_out : (c : Cluster) (id : ℕ) (n : PlainNode) → node_at c id ≡ Some n → has_ready n ≡ true → HasRoom c (ready n).send
    → (ready_processed c id).cluster ≡ with_pending (with_node c id (advanced (node_step n [])).node) (c.pending ++ (ready n).send)
unfolding whole_ready_processed
ready_goes_out c id n at has room =
    ap (λ (o : Option PlainNode). (ready_processed_by o c id).cluster) at
    ∙ if_both (λ (e : Effect). e.cluster ≡ (whole_ready_processed c id n).cluster) (has_ready n) (whole_ready_processed c id n) _ (λ _. refl) (λ none. absurd (false≢true (sym none ∙ has)))
    ∙ ap (λ (o : Option PlainNode). (advanced_by o c id).cluster) at
    ∙ all_queued (with_node c id (advanced (node_step n [])).node) (outgoing n) room

-- ---- messages that are delivered

-- all of a node's are those that are addressed to it
one_for : (b : Bool) (m : Message) (ms : List Message) → (if (b && true) && true then m ∷ ms else ms) ≡ (if b then m ∷ ms else ms)
one_for true m ms = refl
one_for false m ms = refl

mail_is : (id : ℕ) (ms : List Message) → mail ms id all_mail ≡ addressed id ms
mail_is id [] = refl
mail_is id (m ∷ ms) = one_for (m.to == id) m (mail ms id all_mail) ∙ ap (λ (l : List Message). if m.to == id then m ∷ l else l) (mail_is id ms)

one_other : (b : Bool) (m : Message) (ms : List Message) → (if (b && true) && true then ms else m ∷ ms) ≡ (if b then ms else m ∷ ms)
one_other true m ms = refl
one_other false m ms = refl

other_is : (id : ℕ) (ms : List Message) → other_mail ms id all_mail ≡ elsewhere id ms
other_is id [] = refl
other_is id (m ∷ ms) = one_other (m.to == id) m (other_mail ms id all_mail) ∙ ap (λ (l : List Message). if m.to == id then l else m ∷ l) (other_is id ms)

set_at : {X : Type 0} → (xs : List X) (k : ℕ) (x y : X) → slice_get xs k ≡ Some x → slice_get (slice_set xs k y) k ≡ Some y
set_at [] k x y is = cc
set_at (a ∷ xs) zero x y is = refl
set_at (a ∷ xs) (suc k) x y is = set_at xs k x y is

set_itself : {X : Type 0} → (xs : List X) (k : ℕ) (x : X) → slice_get xs k ≡ Some x → slice_set xs k x ≡ xs
set_itself [] k x is = refl
set_itself {X = X} (a ∷ xs) zero x is = (let same : a ≡ x = cc in ap (λ (y : X). y ∷ xs) (sym same))
set_itself {X = X} (a ∷ xs) (suc k) x is = ap (λ (l : List X). a ∷ l) (set_itself xs k x is)

receives : (id : ℕ) (ms : List Message) (c : Cluster) (n : PlainNode) → node_at c id ≡ Some n → (all_received id c ms).cluster ≡ with_node c id (after_all n ms)
receives id [] c n at = ap (λ (nodes : List PlainNode). record c { nodes = nodes }) (sym (set_itself c.nodes (id - 1) n at))
receives id (m ∷ ms) c n at =
    let next : PlainNode = (stepped (node_step n []) m).node in
    let x : Cluster = with_node c id next in
    let first : (received id c m).cluster ≡ x = acts c id n (λ t. stepped t m) at in
    ap (λ (y : Cluster). (all_received id y ms).cluster) first
    ∙ receives id ms x next (set_at c.nodes (id - 1) n next at)
    ∙ ap (λ (nodes : List PlainNode). record c { nodes = nodes }) (set-set c.nodes (id - 1) next (after_all next ms))

pub delivers : (c : Cluster) (choice : MailChoice) (id : ℕ) (n : PlainNode) → node_at c id ≡ Some n
    → (delivered choice c id).cluster ≡ with_pending (with_node c id (after_all n (mail c.pending id choice))) (other_mail c.pending id choice)
unfolding delivered
delivers c choice id n at = receives id (mail c.pending id choice) (left_by c id choice) n at

-- ---- the directive `deliver-msgs`, of one node

-- where no message is chosen, all stay
none_first : (b : Bool) (m : Message) (chosen left ms : List Message) → (chosen ≡ [] → left ≡ ms) → (if b then m ∷ chosen else chosen) ≡ [] → (if b then left else m ∷ left) ≡ m ∷ ms
none_first true m chosen left ms rest none = cc
none_first false m chosen left ms rest none = ap (λ (l : List Message). m ∷ l) (rest none)

none_chosen : (meant : Message → Bool) (q : Quota) (ms : List Message) → chosen_by meant q ms ≡ [] → left_over meant q ms ≡ ms
none_chosen meant q [] = λ none. refl
none_chosen meant q (m ∷ ms) =
    let next = after_one q in
    elim (meant m) as (λ b.
    (if b then (if chooses q then m ∷ chosen_by meant next ms else chosen_by meant next ms) else chosen_by meant q ms) ≡ []
    → (if b then (if chooses q then left_over meant next ms else m ∷ left_over meant next ms) else m ∷ left_over meant q ms) ≡ m ∷ ms) [
      | true ↦ none_first (chooses q) m (chosen_by meant next ms) (left_over meant next ms) ms (none_chosen meant next ms)
      | false ↦ λ none. ap (λ (l : List Message). m ∷ l) (none_chosen meant q ms none)
    ]

empty_if : (ms : List Message) → ((not (length ms == 0) || false) || false) ≡ false → ms ≡ []
empty_if [] none = refl
empty_if (m ∷ ms) none = absurd (false≢true (sym none ∙ ap (λ (b : Bool). (not b || false) || false) (not_zero (length ms))))

empty_then : (ms : List Message) → (false || (not (length ms == 0) || false)) ≡ false → ms ≡ []
empty_then [] none = refl
empty_then (m ∷ ms) none = absurd (false≢true (sym none ∙ ap (λ (b : Bool). false || (not b || false)) (not_zero (length ms))))

pub delivers_msgs : (c : Cluster) (asked : DeliverMsgs) (id : ℕ) (n : PlainNode) → asked.nodes ≡ id ∷ [] → asked.drop ≡ [] → node_at c id ≡ Some n
    → (msgs_delivered asked c).cluster ≡ with_pending (with_node c id (after_all n (mail c.pending id asked.choice))) (other_mail c.pending id asked.choice)
unfolding msgs_delivered
delivers_msgs c asked id n nodes drop at =
    let choice = asked.choice in
    let chosen : List Message = mail c.pending id choice in
    let goal : Cluster = with_pending (with_node c id (after_all n chosen)) (other_mail c.pending id choice) in
    rw (nodes, drop)
    (if_both (λ (e : Effect). e.cluster ≡ goal) ((not (length chosen == 0) || false) || false) _ _
    (λ _. delivers c choice id n at)
    (λ none. (let no = empty_if chosen none in
    sym (ap (λ (ms : List Message). with_pending (with_node c id (after_all n ms)) (other_mail c.pending id choice)) no
    ∙ ap (λ (ms : List Message). with_pending (with_node c id n) ms) (none_chosen (is_meant id choice) (quota_of choice) c.pending no)
    ∙ ap (λ (ns : List PlainNode). record c { nodes = ns }) (set_itself c.nodes (id - 1) n at)))))

pub drops_msgs : (c : Cluster) (asked : DeliverMsgs) (id : ℕ) → asked.nodes ≡ [] → asked.drop ≡ id ∷ [] → (msgs_delivered asked c).cluster ≡ with_pending c (other_mail c.pending id asked.choice)
unfolding msgs_delivered dropped
drops_msgs c asked id nodes drop =
    let choice = asked.choice in
    let chosen : List Message = mail c.pending id choice in
    rw (nodes, drop)
    (if_both (λ (e : Effect). e.cluster ≡ with_pending c (other_mail c.pending id choice)) (false || (not (length chosen == 0) || false)) _ _
    (λ _. refl)
    (λ none. sym (ap (with_pending c) (none_chosen (is_meant id choice) (quota_of choice) c.pending (empty_then chosen none)))))

-- without a choice, all of the node's messages
pub delivers_all_msgs : (c : Cluster) (asked : DeliverMsgs) (id : ℕ) (n : PlainNode) → asked.nodes ≡ id ∷ [] → asked.drop ≡ [] → asked.choice ≡ all_mail → node_at c id ≡ Some n
    → (msgs_delivered asked c).cluster ≡ with_pending (with_node c id (after_all n (addressed id c.pending))) (elsewhere id c.pending)
delivers_all_msgs c asked id n nodes drop choice at =
    delivers_msgs c asked id n nodes drop at
    ∙ ap (λ (x : MailChoice). with_pending (with_node c id (after_all n (mail c.pending id x))) (other_mail c.pending id x)) choice
    ∙ ap (λ (ms : List Message). with_pending (with_node c id (after_all n ms)) (other_mail c.pending id all_mail)) (mail_is id c.pending)
    ∙ ap (λ (ms : List Message). with_pending (with_node c id (after_all n (addressed id c.pending))) ms) (other_is id c.pending)

pub drops_all_msgs : (c : Cluster) (asked : DeliverMsgs) (id : ℕ) → asked.nodes ≡ [] → asked.drop ≡ id ∷ [] → asked.choice ≡ all_mail → (msgs_delivered asked c).cluster ≡ with_pending c (elsewhere id c.pending)
drops_all_msgs c asked id nodes drop choice =
    drops_msgs c asked id nodes drop ∙ ap (λ (x : MailChoice). with_pending c (other_mail c.pending id x)) choice ∙ ap (with_pending c) (other_is id c.pending)

-- ---- snapshots

pub snapshot_goes_out : (c : Cluster) (from to : ℕ) (n : PlainNode) → node_at c from ≡ Some n → HasRoom c (message from to n.term (kinds.Snapshot (snapshot_of n)) ∷ [])
    → (snapshot_sent from to c).cluster ≡ with_pending c (c.pending ++ message from to n.term (kinds.Snapshot (snapshot_of n)) ∷ [])
unfolding queued
snapshot_goes_out c from to n at room =
    let m : Message = message from to n.term (kinds.Snapshot (snapshot_of n)) in
    ap (λ (o : Option PlainNode). (snapshot_sent_by o from to c).cluster) at
    ∙ if_both (λ (e : Effect). e.cluster ≡ pushed c m) (has_room c.pending) _ _ (λ _. refl) (λ none. absurd (false≢true (sym none ∙ room_for c m [] room)))

pub compacts : (c : Cluster) (id index : ℕ) (n : PlainNode) → node_at c id ≡ Some n → (compact id index c).cluster ≡ with_node c id (with_base n index)
compacts c id index n at = ap (λ (o : Option PlainNode). (compact_by o id index c).cluster) at

-- ---- rounds

items_append : (first second : List Observation) → items_of (first ++ second) ≡ items_of first ++ items_of second
items_append [] second = refl
items_append (Shown items ∷ first) second =
    ap (λ (l : List PlainItem). items ++ l) (items_append first second) ∙ sym (append_assoc items (items_of first) (items_of second))
items_append (Settled id n ∷ first) second = items_append first second

-- rounds end with nothing to do, or it is shown how many were run
abbrev Rests : ℕ → List ℕ → Effect → Type 0
Rests allowed ids e = (has_work e.cluster ids ≡ false) ⊎ Contains (items_of e.observed) (stopped allowed)

rests : (allowed rounds : ℕ) (ids : List ℕ) (c : Cluster) → Rests allowed ids (rounds_run allowed rounds ids c)
unfolding rounds_run
rests allowed zero ids c =
    if_both (Rests allowed ids) (has_work c ids) _ _ (λ _. inr (Contains-push [] (stopped allowed))) (λ none. inl none)
rests allowed (suc rounds) ids c =
    if_both (Rests allowed ids) (has_work c ids) _ _
    (λ _. (let first = round ids c in
    let next = rounds_run allowed rounds ids first.cluster in
    elim (rests allowed rounds ids first.cluster) as (λ _. Rests allowed ids (followed_by first (λ after. rounds_run allowed rounds ids after))) [
      | inl none ↦ inl none
      | inr told ↦ inr (subst (λ (l : List PlainItem). Contains l (stopped allowed)) (sym (items_append first.observed next.observed)) (Contains-append_right (items_of first.observed) (items_of next.observed) (stopped allowed) told))
    ]))
    (λ none. inl none)

-- no work is left for any of some nodes
both_ways : (b : Bool) → b ≡ false → b ≡ true → ⊥
both_ways b e f = false≢true (sym e ∙ f)

any_here : {X : Type 0} → (p : X → Bool) (xs : List X) (x : X) → Contains xs x → p x ≡ true → list_any p xs ≡ true
any_here p xs x among is = list_any_at p xs among.0 x among.1 (subst (λ (y : _). p y ≡ true) (sym among.2) is)

false_from : (b : Bool) → (b ≡ true → ⊥) → b ≡ false
false_from true never = absurd (never refl)
false_from false never = refl

and_yes : (a : Bool) → a ≡ true → (a && true) ≡ true
and_yes a e = rw e refl

idle : (c : Cluster) (ids : List ℕ) (id : ℕ) → has_work c ids ≡ false → Contains ids id → IsIdle c id
unfolding has_work
idle c ids id none among =
    let works : is_at_work c id ≡ false = false_from (is_at_work c id) (λ is. both_ways (list_any (is_at_work c) ids) none (any_here (is_at_work c) ids id among is)) in
    let parts = or_parts (is_ready c id) (has_mail c.pending id) works in
    record {
      ready = λ n at. sym (ap is_ready_by at) ∙ parts.0;
      mail = λ m there to. both_ways (has_mail c.pending id) parts.1 (any_here (is_for id None) c.pending m there (and_yes (m.to == id) (eq-eqb m.to id to)));
    }

pub stabilizes : (allowed rounds : ℕ) (ids : List ℕ) (c : Cluster)
    → ((id : ℕ) → Contains ids id → IsIdle (rounds_run allowed rounds ids c).cluster id) ⊎ Contains (items_of (rounds_run allowed rounds ids c).observed) (stopped allowed)
stabilizes allowed rounds ids c =
    let e = rounds_run allowed rounds ids c in
    elim (rests allowed rounds ids c) as (λ _. ((id : ℕ) → Contains ids id → IsIdle e.cluster id) ⊎ Contains (items_of e.observed) (stopped allowed)) [
      | inl none ↦ inl (λ id among. idle e.cluster ids id none among)
      | inr told ↦ inr told
    ]
