-- What directives of a script are refused for, and what they tell
use Rattle.std.proofs.Common.{◌≡◌, ℕ, ◌+◌, ◌<◌, Bool, true, false, ◌||◌, nat_lt, nat_le, min, List, [], ◌∷◌, ◌++◌, length, map, Option, Some, None, refl, sym, ap, subst, ◌∙◌, arith, append_assoc, inl, inr}
use Rattle.std.specs.Prelude.{Contains, is_some}
use Rattle.std.proofs.lemmas.Bool.{false≢true, ltb-false, le-leb, cases_lt}
use Rattle.std.proofs.lemmas.List.Elements.{Contains-append_left, Contains-append_right}
use Rattle.std.proofs.lemmas.Option.{none-some}
use Rattle.rb_vocab.specs.declared.directive_error.DirectiveError.{DirectiveError}
use Rattle.rb_vocab.specs.declared.directive_error.DirectiveError.TheVariants as errors
use Rattle.rb_directive.specs.declared.limits.TheConstants.{MAX_NODES}
use Rattle.rb_directive.specs.declared.requests.AddNodes.{AddNodes}
use Rattle.rb_directive.specs.declared.requests.MailChoice.{MailChoice}
use Rattle.rb_directive.specs.declared.node_command_with_arg.NodeCommandWithArg.TheVariants as withs
use Rattle.rb_directive.specs.declared.requests.Request.TheVariants as requests
use Rattle.rb_raftlog.specs.Log.{compact_fault}
use Rattle.rb_raftlog.specs.declared.raft_log.CompactFault.{CompactFault}
use Rattle.rb_tracker.proofs.SetLaws.{if_both}
use Rattle.rb_message.specs.declared.message.Message.{Message}
use Rattle.rb_node.specs.Node.{PlainNode}
use Rattle.rb_texts.specs.Items.{PlainItem, moved}
use Rattle.rb_texts.specs.declared.item.Verb.TheVariants as verbs
use Rattle.rb_machine.specs.AddNodes.{is_low, add_nodes_fault}
use Rattle.rb_machine.specs.Cluster.{Cluster, node_at}
use Rattle.rb_machine.specs.Deliveries.{left_by, received, all_received, delivered, drop_item, dropped}
use Rattle.rb_machine.specs.Observations.{Observation, Shown, Settled, items_of}
use Rattle.rb_machine.specs.Outcome.{own_fault}
use Rattle.rb_machine.specs.Pending.{mail}
use Rattle.rb_machine.specs.Snapshots.{error_of, compact_error_by, compact_error}
use Rattle.rb_calls.proofs.ListLaws.{in_nothing, in_first, in_rest, first_or_rest}
use Rattle.rb_laws.specs.Scripts.{MayBeAdded, MayBeCompacted}

-- ---- what is refused

no_some : {X : Type 0} (o : Option X) → is_some o ≡ false → o ≡ None
no_some None none = refl
no_some (Some x) none = absurd (false≢true (sym none))

first_fails : (a b c : Bool) → (a || b || c) ≡ false → a ≡ false
first_fails true b c none = absurd (false≢true (sym none))
first_fails false b c none = refl

second_fails : (a b c : Bool) → (a || b || c) ≡ false → b ≡ false
second_fails true b c none = absurd (false≢true (sym none))
second_fails false true c none = absurd (false≢true (sym none))
second_fails false false c none = refl

third_fails : (a b c : Bool) → (a || b || c) ≡ false → c ≡ false
third_fails true b c none = absurd (false≢true (sym none))
third_fails false true c none = absurd (false≢true (sym none))
third_fails false false c none = none

pub may_be_added : (asked : AddNodes) (c : Cluster) → own_fault (requests.AddNodes asked) c ≡ None → MayBeAdded asked c.nodes
unfolding add_nodes_fault
may_be_added asked c fine =
    let P : Option DirectiveError → Type 0 = λ o. o ≡ None → MayBeAdded asked c.nodes in
    if_both P (nat_lt MAX_NODES (length c.nodes + asked.count)) (Some errors.TooManyNodes) _ (λ _ refused. absurd (none-some errors.TooManyNodes (sym refused)))
    (λ few. if_both P (is_low asked.index asked) (Some errors.IndexTooLow) None (λ _ refused. absurd (none-some errors.IndexTooLow (sym refused)))
    (λ high _. record {
      few = ltb-false MAX_NODES (length c.nodes + asked.count) few;
      above = λ index is. ltb-false index 2 (ap (λ (o : Option ℕ). is_low o asked) (sym is) ∙ high);
      bare = λ none.
          (let bare : (is_some asked.voters || is_some asked.learners || is_some asked.content) ≡ false = ap (λ (o : Option ℕ). is_low o asked) (sym none) ∙ high in (
            no_some asked.voters (first_fails (is_some asked.voters) (is_some asked.learners) (is_some asked.content) bare),
            no_some asked.learners (second_fails (is_some asked.voters) (is_some asked.learners) (is_some asked.content) bare),
            no_some asked.content (third_fails (is_some asked.voters) (is_some asked.learners) (is_some asked.content) bare),
          ));
    }))
    fine

past : (n : PlainNode) (index : ℕ) → nat_le index n.log.base ≡ false → n.log.base < index
past n index above =
    elim (cases_lt n.log.base index) as (λ _. n.log.base < index) [ inl less ↦ less | inr over ↦ absurd (false≢true (sym above ∙ le-leb index n.log.base over)) ]

pub may_be_compacted : (id index : ℕ) (c : Cluster) (n : PlainNode) → own_fault (requests.NodeCommandWithArg withs.Compact id index) c ≡ None → node_at c id ≡ Some n → MayBeCompacted n index
unfolding compact_error
may_be_compacted id index c n fine at =
    let most = min n.applied n.log.durable in
    let none : error_of (compact_fault n.log index most) ≡ None = ap (λ (o : Option PlainNode). compact_error_by o index) (sym at) ∙ fine in
    let P : Option CompactFault → Type 0 = λ o. error_of o ≡ None → MayBeCompacted n index in
    if_both P (nat_le index n.log.base) _ _ (λ _ refused. absurd (none-some errors.AlreadyCompacted (sym refused)))
    (λ above. if_both P (nat_lt most index) _ _ (λ _ refused. absurd (none-some errors.IndexPastApplied (sym refused)))
    (λ within _.
    (let low = ltb-false most index within in
    record { held = past n index above; applied = omega (arith, low); durable = omega (arith, low) })))
    none

-- ---- what is shown

items_append : (first second : List Observation) → items_of (first ++ second) ≡ items_of first ++ items_of second
items_append [] second = refl
items_append (Shown items ∷ first) second =
    ap (λ (l : List PlainItem). items ++ l) (items_append first second) ∙ sym (append_assoc items (items_of first) (items_of second))
items_append (Settled id n ∷ first) second = items_append first second

all_shown : (id : ℕ) (ms : List Message) (c : Cluster) (m : Message) → Contains ms m → Contains (items_of (all_received id c ms).observed) (moved verbs.Deliver m)
all_shown id [] c m among = absurd (in_nothing [] m refl among)
all_shown id (x ∷ xs) c m among =
    let one = received id c x in
    let rest = all_received id one.cluster xs in
    subst (λ (l : List PlainItem). Contains l (moved verbs.Deliver m)) (sym (items_append one.observed rest.observed))
    (elim (first_or_rest x xs m among) as (λ _. Contains (items_of one.observed ++ items_of rest.observed) (moved verbs.Deliver m)) [
      | inl same ↦ Contains-append_left (items_of one.observed) (items_of rest.observed) (moved verbs.Deliver m)
          (subst (λ (y : Message). Contains (items_of one.observed) (moved verbs.Deliver y)) same (in_first (moved verbs.Deliver x) _))
      | inr later ↦ Contains-append_right (items_of one.observed) (items_of rest.observed) (moved verbs.Deliver m) (all_shown id xs one.cluster m later)
    ])

pub delivered_are_shown : (choice : MailChoice) (c : Cluster) (id : ℕ) (m : Message) → Contains (mail c.pending id choice) m → Contains (items_of (delivered choice c id).observed) (moved verbs.Deliver m)
unfolding delivered
delivered_are_shown choice c id m among = all_shown id (mail c.pending id choice) (left_by c id choice) m among

each_dropped : (ms : List Message) (m : Message) → Contains ms m → Contains (map drop_item ms) (moved verbs.Drop m)
each_dropped [] m among = absurd (in_nothing [] m refl among)
each_dropped (x ∷ xs) m among =
    elim (first_or_rest x xs m among) as (λ _. Contains (map drop_item (x ∷ xs)) (moved verbs.Drop m)) [
      | inl same ↦ subst (λ (y : Message). Contains (map drop_item (x ∷ xs)) (moved verbs.Drop y)) same (in_first (drop_item x) (map drop_item xs))
      | inr later ↦ in_rest (drop_item x) (map drop_item xs) (moved verbs.Drop m) (each_dropped xs m later)
    ]

pub dropped_are_shown : (choice : MailChoice) (c : Cluster) (id : ℕ) (m : Message) → Contains (mail c.pending id choice) m → Contains (items_of (dropped choice c id).observed) (moved verbs.Drop m)
unfolding dropped
dropped_are_shown choice c id m among =
    let ms = mail c.pending id choice in
    Contains-append_left (map drop_item ms) [] (moved verbs.Drop m) (each_dropped ms m among)
