-- What is in flight when messages are delivered or dropped: each of a node's chosen messages is the one that is met next.
use Rattle.std.proofs.Common.{◌≡◌, ◌∙◌, ℕ, ◌-◌, Bool, true, false, not, ◌&&◌, ◌==◌, if◌then◌else◌, List, [], ◌∷◌, ◌++◌, map, Option, Some, None, refl, ap, ap₂, sym, subst, subst₂, append_assoc, append-nil, eqb-true}
use Rattle.std.specs.Prelude.{fold}
use Rattle.std.specs.List.{remove}
use Rattle.std.specs.Option.{option_map}
use Rattle.std.proofs.lemmas.Bool.{and_parts}
use Rattle.rb_directive.specs.declared.requests.DeliverMsgs.{DeliverMsgs}
use Rattle.rb_directive.specs.declared.requests.MailChoice.{MailChoice}
use Rattle.rb_tracker.proofs.SetLaws.{if_both}
use Rattle.rb_message.specs.declared.message.Message.{Message}
use Rattle.rb_message.specs.Messages.{type_of}
use Rattle.rb_node.specs.Step.{stepped}
use Rattle.rb_texts.specs.Items.{PlainItem, moved, no_messages}
use Rattle.rb_texts.specs.declared.item.Verb.TheVariants as verbs
use Rattle.rb_machine.specs.Cluster.{Cluster, node_at}
use Rattle.rb_machine.specs.Deliveries.{all_received, chooses_any, delivered, delivered_each, drop_item, dropped, dropped_each, left_by, msgs_delivered, received}
use Rattle.rb_machine.specs.Effects.{acted, followed_by, showing}
use Rattle.rb_machine.specs.Observations.{items_of}
use Rattle.rb_machine.specs.Pending.{Quota, after_one, chooses, chosen_by, is_for, is_from, is_meant, is_selected, is_spent, left_over, mail, other_mail, quota_of}
use Rattle.rb_cluster.proofs.MailLaws.{delivered_pending}
use Rattle.rb_view.specs.declared.chart.css_class.DeliveryState.{DeliveryState}
use Rattle.rb_view.specs.declared.chart.css_class.DeliveryState.TheVariants as states
use Rattle.rb_view.specs.InFlight.{PlainInFlight, ended, flying, met_from, next_met, taking}
use Rattle.rb_view.proofs.FlightLists.{Found, Passed, found, passed_other, passed_skipped}
use Rattle.rb_view.proofs.FlightLaws.{Follows, Meets, Tells, acted_pass, all_passed, choice_stays, follows_next, follows_then, message_at, tells_both, tells_each, tells_showing}

-- ---- a message is met

is_to : (id : ℕ) (choice : MailChoice) (m : Message) → is_meant id choice m ≡ true → m.to ≡ id
is_to id choice m is =
    let parts = and_parts (is_for id choice.types m) (is_from choice.from m) is in
    eqb-true m.to id (and_parts (m.to == id) (is_selected choice.types (type_of m.kind)) parts.0).0

-- it is found among those in flight, of which these are chosen
abbrev IsNext : ℕ → MailChoice → Message → PlainInFlight → List Message → Type 0
IsNext id choice m f left = Found (is_meant id choice) choice.skip m f.messages left

next_is : (id : ℕ) (choice : MailChoice) (m : Message) (f : PlainInFlight) (left : List Message) → is_meant id choice m ≡ true → f.choice ≡ choice
    → (there : IsNext id choice m f left) → next_met f m.to ≡ Some there.at
next_is id choice m f left is picks there =
    ap₂ (λ (c : MailChoice) (to : ℕ). met_from (is_meant to c) c.skip 0 f.messages) picks (is_to id choice m is) ∙ there.is

ended_is : (f : PlainInFlight) (s : DeliveryState) (o : Option ℕ) (at : ℕ) → o ≡ Some at → (ended f s o).left.messages ≡ remove f.messages at
ended_is f s o at is = ap (λ (p : Option ℕ). (ended f s p).left.messages) is

is_met : (id : ℕ) (choice : MailChoice) (m : Message) (f : PlainInFlight) (left : List Message) → is_meant id choice m ≡ true → f.choice ≡ choice → IsNext id choice m f left
    → message_at f.messages (next_met f m.to) ≡ Some m
is_met id choice m f left is picks there = ap (message_at f.messages) (next_is id choice m f left is picks there) ∙ there.got

is_delivered : (id : ℕ) (choice : MailChoice) (m : Message) (f : PlainInFlight) (left : List Message) → is_meant id choice m ≡ true → f.choice ≡ choice → IsNext id choice m f left
    → (flying f (moved verbs.Deliver m)).messages ≡ left
unfolding taking
is_delivered id choice m f left is picks there = ended_is f states.Delivered (next_met f m.to) there.at (next_is id choice m f left is picks there) ∙ there.removed

is_dropped : (id : ℕ) (choice : MailChoice) (m : Message) (f : PlainInFlight) (left : List Message) → is_meant id choice m ≡ true → f.choice ≡ choice → IsNext id choice m f left
    → (flying f (moved verbs.Drop m)).messages ≡ left
unfolding taking
is_dropped id choice m f left is picks there = ended_is f states.Lost (next_met f m.to) there.at (next_is id choice m f left is picks there) ∙ there.removed

-- ---- a quota, from message to message

abbrev next_by : Bool → Quota → Quota
next_by b q = if b then record q { count = option_map (λ left. left - 1) q.count } else record q { skip = q.skip - 1 }

after_skipped : (q : Quota) → (q.skip == 0) ≡ false → (after_one q).skip ≡ q.skip - 1
after_skipped q is = ap (λ (b : Bool). (next_by b q).skip) is

after_chosen : (q : Quota) → (q.skip == 0) ≡ true → (after_one q).skip ≡ q.skip
after_chosen q is = ap (λ (b : Bool). (next_by b q).skip) is

spent_less : (o : Option ℕ) → is_spent o ≡ true → is_spent (option_map (λ left. left - 1) o) ≡ true
spent_less None spent = spent
spent_less (Some left) spent = ap (λ (n : ℕ). (n - 1) == 0) (eqb-true left 0 spent)

spent_by : (b : Bool) (q : Quota) → is_spent q.count ≡ true → is_spent (next_by b q).count ≡ true
spent_by true q spent = spent_less q.count spent
spent_by false q spent = spent

still_spent : (q : Quota) → is_spent q.count ≡ true → is_spent (after_one q).count ≡ true
still_spent q spent = spent_by (q.skip == 0) q spent

and_no : (b : Bool) → (b && false) ≡ false
and_no true = refl
and_no false = refl

chooses_none : (q : Quota) → is_spent q.count ≡ true → chooses q ≡ false
chooses_none q spent = ap (λ (b : Bool). q.skip == 0 && not b) spent ∙ and_no (q.skip == 0)

-- no more are chosen
chosen_none : (meant : Message → Bool) (q : Quota) (ms : List Message) → is_spent q.count ≡ true → chosen_by meant q ms ≡ []
chosen_none meant q [] spent = refl
chosen_none meant q (m ∷ ms) spent =
    let rest = chosen_none meant (after_one q) ms (still_spent q spent) in
    let same = chosen_none meant q ms spent in
    elim (meant m) as (λ b. (if b then (if chooses q then m ∷ chosen_by meant (after_one q) ms else chosen_by meant (after_one q) ms) else chosen_by meant q ms) ≡ []) [
      | true ↦ ap (λ (c : Bool). if c then m ∷ chosen_by meant (after_one q) ms else chosen_by meant (after_one q) ms) (chooses_none q spent) ∙ rest
      | false ↦ same
    ]

left_none : (meant : Message → Bool) (q : Quota) (ms : List Message) → is_spent q.count ≡ true → left_over meant q ms ≡ ms
left_none meant q [] spent = refl
left_none meant q (m ∷ ms) spent =
    let rest = ap (λ (l : List Message). m ∷ l) (left_none meant (after_one q) ms (still_spent q spent)) in
    let same = ap (λ (l : List Message). m ∷ l) (left_none meant q ms spent) in
    elim (meant m) as (λ b. (if b then (if chooses q then left_over meant (after_one q) ms else m ∷ left_over meant (after_one q) ms) else m ∷ left_over meant q ms) ≡ m ∷ ms) [
      | true ↦ ap (λ (c : Bool). if c then left_over meant (after_one q) ms else m ∷ left_over meant (after_one q) ms) (chooses_none q spent) ∙ rest
      | false ↦ same
    ]

-- ---- deliveries

received_follows : (id : ℕ) (choice : MailChoice) (c : Cluster) (m : Message) (f : PlainInFlight) (left : List Message) → is_meant id choice m ≡ true → f.choice ≡ choice
    → IsNext id choice m f left → Follows f (items_of (received id c m).observed) left
received_follows id choice c m f left is picks there =
    let items = items_of (acted c id (λ t. stepped t m)).observed in
    let g = flying f (moved verbs.Deliver m) in
    follows_next f (moved verbs.Deliver m) items left (is_met id choice m f left is picks there)
    (subst (Follows g items) (is_delivered id choice m f left is picks there) (all_passed items g (acted_pass (node_at c id) c id (λ t. stepped t m))))

-- the chosen ones of these, where those before them are left
abbrev MailReceived : ℕ → MailChoice → List Message → Quota → Type 0
MailReceived id choice ms q = (c : Cluster) (before : List Message) (f : PlainInFlight) → Passed (is_meant id choice) choice.skip before q.skip → f.choice ≡ choice
    → f.messages ≡ before ++ ms
    → Follows f (items_of (all_received id c (chosen_by (is_meant id choice) q ms)).observed) (before ++ left_over (is_meant id choice) q ms)

-- the first of them is meant or not, skipped or not, and past the last that is chosen or not
received_by : (id : ℕ) (choice : MailChoice) (m : Message) (ms : List Message) (q : Quota) (b none spent : Bool) → is_meant id choice m ≡ b → (q.skip == 0) ≡ none
    → is_spent q.count ≡ spent → ((p : Quota) → MailReceived id choice ms p)
    → (c : Cluster) (before : List Message) (f : PlainInFlight) → Passed (is_meant id choice) choice.skip before q.skip → f.choice ≡ choice → f.messages ≡ before ++ m ∷ ms
    → Follows f
    (items_of (all_received id c (if b then (if none && not spent then m ∷ chosen_by (is_meant id choice) (after_one q) ms else chosen_by (is_meant id choice) (after_one q) ms)
    else chosen_by (is_meant id choice) q ms)).observed)
    (before ++ (if b then (if none && not spent then left_over (is_meant id choice) (after_one q) ms else m ∷ left_over (is_meant id choice) (after_one q) ms)
    else m ∷ left_over (is_meant id choice) q ms))
received_by id choice m ms q false none spent is skips ends rest c before f passed picks flies =
    let meant = is_meant id choice in
    subst (Follows f (items_of (all_received id c (chosen_by meant q ms)).observed)) (append_assoc before (m ∷ []) (left_over meant q ms))
    (rest q c (before ++ m ∷ []) f (passed_other meant choice.skip before m q.skip is passed) picks (flies ∙ sym (append_assoc before (m ∷ []) ms)))
received_by id choice m ms q true false spent is skips ends rest c before f passed picks flies =
    let meant = is_meant id choice in
    let next = after_one q in
    let later = subst (Passed meant choice.skip (before ++ m ∷ [])) (sym (after_skipped q skips)) (passed_skipped meant choice.skip before m q.skip is skips passed) in
    subst (Follows f (items_of (all_received id c (chosen_by meant next ms)).observed)) (append_assoc before (m ∷ []) (left_over meant next ms))
    (rest next c (before ++ m ∷ []) f later picks (flies ∙ sym (append_assoc before (m ∷ []) ms)))
received_by id choice m ms q true true true is skips ends rest c before f passed picks flies =
    let meant = is_meant id choice in
    let next = after_one q in
    subst₂ (λ (taken left : List Message). Follows f (items_of (all_received id c taken).observed) (before ++ m ∷ left))
    (sym (chosen_none meant next ms (still_spent q ends))) (sym (left_none meant next ms (still_spent q ends))) (record { messages = flies; meets = tt })
received_by id choice m ms q true true false is skips ends rest c before f passed picks flies =
    let meant = is_meant id choice in
    let next = after_one q in
    let there : IsNext id choice m f (before ++ ms) =
    subst (λ (l : List Message). Found meant choice.skip m l (before ++ ms)) (sym flies) (found meant choice.skip m before ms q.skip is skips passed) in
    let first = received_follows id choice c m f (before ++ ms) is picks there in
    let items = items_of (received id c m).observed in
    follows_then f (received id c m) (λ after. all_received id after (chosen_by meant next ms)) (before ++ ms) (before ++ left_over meant next ms) first
    (rest next (received id c m).cluster before (fold flying f items) (subst (Passed meant choice.skip before) (sym (after_chosen q skips)) passed)
    (choice_stays items f ∙ picks) first.messages)

mail_received : (id : ℕ) (choice : MailChoice) (ms : List Message) (q : Quota) → MailReceived id choice ms q
mail_received id choice [] q c before f passed picks flies = record { messages = flies; meets = tt }
mail_received id choice (m ∷ ms) q c before f passed picks flies =
    received_by id choice m ms q (is_meant id choice m) (q.skip == 0) (is_spent q.count) refl refl refl (λ p. mail_received id choice ms p) c before f passed picks flies

tells_delivered : (choice : MailChoice) (c : Cluster) (id : ℕ) → Tells choice c (delivered choice c id)
unfolding delivered
tells_delivered choice c id f picks is =
    subst (Follows f (items_of (all_received id (left_by c id choice) (mail c.pending id choice)).observed)) (sym (delivered_pending c id choice))
    (mail_received id choice c.pending (quota_of choice) (left_by c id choice) [] f (λ _. refl) picks is)

pub tells_delivered_each : (choice : MailChoice) (c : Cluster) (ids : List ℕ) → Tells choice c (delivered_each choice c ids)
tells_delivered_each choice = tells_each choice (delivered choice) (tells_delivered choice)

-- ---- drops

abbrev MailDropped : ℕ → MailChoice → List Message → Quota → Type 0
MailDropped id choice ms q = (before : List Message) (f : PlainInFlight) → Passed (is_meant id choice) choice.skip before q.skip → f.choice ≡ choice → f.messages ≡ before ++ ms
    → Follows f (map drop_item (chosen_by (is_meant id choice) q ms)) (before ++ left_over (is_meant id choice) q ms)

dropped_by : (id : ℕ) (choice : MailChoice) (m : Message) (ms : List Message) (q : Quota) (b none spent : Bool) → is_meant id choice m ≡ b → (q.skip == 0) ≡ none
    → is_spent q.count ≡ spent → ((p : Quota) → MailDropped id choice ms p)
    → (before : List Message) (f : PlainInFlight) → Passed (is_meant id choice) choice.skip before q.skip → f.choice ≡ choice → f.messages ≡ before ++ m ∷ ms
    → Follows f
    (map drop_item (if b then (if none && not spent then m ∷ chosen_by (is_meant id choice) (after_one q) ms else chosen_by (is_meant id choice) (after_one q) ms)
    else chosen_by (is_meant id choice) q ms))
    (before ++ (if b then (if none && not spent then left_over (is_meant id choice) (after_one q) ms else m ∷ left_over (is_meant id choice) (after_one q) ms)
    else m ∷ left_over (is_meant id choice) q ms))
dropped_by id choice m ms q false none spent is skips ends rest before f passed picks flies =
    let meant = is_meant id choice in
    subst (Follows f (map drop_item (chosen_by meant q ms))) (append_assoc before (m ∷ []) (left_over meant q ms))
    (rest q (before ++ m ∷ []) f (passed_other meant choice.skip before m q.skip is passed) picks (flies ∙ sym (append_assoc before (m ∷ []) ms)))
dropped_by id choice m ms q true false spent is skips ends rest before f passed picks flies =
    let meant = is_meant id choice in
    let next = after_one q in
    let later = subst (Passed meant choice.skip (before ++ m ∷ [])) (sym (after_skipped q skips)) (passed_skipped meant choice.skip before m q.skip is skips passed) in
    subst (Follows f (map drop_item (chosen_by meant next ms))) (append_assoc before (m ∷ []) (left_over meant next ms))
    (rest next (before ++ m ∷ []) f later picks (flies ∙ sym (append_assoc before (m ∷ []) ms)))
dropped_by id choice m ms q true true true is skips ends rest before f passed picks flies =
    let meant = is_meant id choice in
    let next = after_one q in
    subst₂ (λ (taken left : List Message). Follows f (map drop_item taken) (before ++ m ∷ left))
    (sym (chosen_none meant next ms (still_spent q ends))) (sym (left_none meant next ms (still_spent q ends))) (record { messages = flies; meets = tt })
dropped_by id choice m ms q true true false is skips ends rest before f passed picks flies =
    let meant = is_meant id choice in
    let next = after_one q in
    let there : IsNext id choice m f (before ++ ms) =
    subst (λ (l : List Message). Found meant choice.skip m l (before ++ ms)) (sym flies) (found meant choice.skip m before ms q.skip is skips passed) in
    let g = flying f (moved verbs.Drop m) in
    follows_next f (moved verbs.Drop m) (map drop_item (chosen_by meant next ms)) (before ++ left_over meant next ms) (is_met id choice m f (before ++ ms) is picks there)
    (rest next before g (subst (Passed meant choice.skip before) (sym (after_chosen q skips)) passed) (choice_stays (moved verbs.Drop m ∷ []) f ∙ picks)
    (is_dropped id choice m f (before ++ ms) is picks there))

mail_dropped : (id : ℕ) (choice : MailChoice) (ms : List Message) (q : Quota) → MailDropped id choice ms q
mail_dropped id choice [] q before f passed picks flies = record { messages = flies; meets = tt }
mail_dropped id choice (m ∷ ms) q before f passed picks flies =
    dropped_by id choice m ms q (is_meant id choice m) (q.skip == 0) (is_spent q.count) refl refl refl (λ p. mail_dropped id choice ms p) before f passed picks flies

tells_dropped : (choice : MailChoice) (c : Cluster) (id : ℕ) → Tells choice c (dropped choice c id)
unfolding dropped
tells_dropped choice c id f picks is =
    subst (λ (l : List PlainItem). Follows f l (other_mail c.pending id choice)) (sym (append-nil (map drop_item (mail c.pending id choice))))
    (mail_dropped id choice c.pending (quota_of choice) [] f (λ _. refl) picks is)

tells_dropped_each : (choice : MailChoice) (c : Cluster) (ids : List ℕ) → Tells choice c (dropped_each choice c ids)
tells_dropped_each choice = tells_each choice (dropped choice) (tells_dropped choice)

-- ---- the directive

none_passes : (f : PlainInFlight) → (flying f no_messages ≡ f) × Meets f no_messages
unfolding taking
none_passes f = (refl, tt)

pub tells_msgs_delivered : (asked : DeliverMsgs) (c : Cluster) → Tells asked.choice c (msgs_delivered asked c)
unfolding msgs_delivered
tells_msgs_delivered asked c =
    let choice = asked.choice in
    let e = delivered_each choice c asked.nodes in
    if_both (Tells choice c) (chooses_any asked c.pending) (followed_by e (λ after. dropped_each choice after asked.drop)) (showing c (no_messages ∷ []))
    (λ _. tells_both choice c e (λ after. dropped_each choice after asked.drop) (tells_delivered_each choice c asked.nodes) (tells_dropped_each choice e.cluster asked.drop))
    (λ _. tells_showing choice c c (no_messages ∷ []) refl (none_passes, tt))
