-- What goes to all: each member gets what its view lacks, whatever goes to others before it
use Rattle.std.proofs.Common.{◌≡◌, ℕ, zero, suc, ◌-◌, ◌<◌, ◌≤◌, Bool, true, ◌==◌, List, [], ◌∷◌, ◌++◌, length, get_or, Option, Some, None, refl, sym, ap, subst, ◌∙◌, arith, eqb-true}
use Rattle.std.specs.Prelude.{Contains, position}
use Rattle.std.specs.Map.{keys_of}
use Rattle.std.proofs.lemmas.Bool.{false≢true, eq-eqb}
use Rattle.std.proofs.lemmas.List.Elements.{Contains-append_left, Contains-push}
use Rattle.std.proofs.lemmas.List.Quantifiers.{position-Some}
use Rattle.indexmap.specs.Layout.{set_value_at}
use Rattle.rb_raftlog.specs.Log.{last, entries_after}
use Rattle.rb_tracker.proofs.ChangeLaws.{has_union}
use Rattle.rb_tracker.proofs.SetLaws.{if_both, has_here, also}
use Rattle.rb_tracker.specs.Progresses.{PlainProgress, sent, snapshotting}
use Rattle.rb_tracker.specs.Sets.{has}
use Rattle.rb_tracker.specs.Trackers.{place, view_at, with_view, ids_of}
use Rattle.rb_message.specs.declared.kind.MessageKind.TheVariants as kind
use Rattle.rb_message.specs.declared.message.Message.{Message}
use Rattle.rb_node.specs.Node.{PlainNode, message}
use Rattle.rb_node.specs.Sends.{append_of, snapshot_of, sending_of, snapshot_to, empty_to, entries_to, sends_by, sends_with, sends_at, sends, sent_to_each, append_broadcast}
use Rattle.rb_node.specs.declared.sends.SendReason.TheVariants as mode
use Rattle.rb_node.specs.declared.sends.Sending.{Sending}
use Rattle.rb_node.specs.declared.sends.Sending.TheVariants as sending
use Rattle.rb_calls.proofs.MemberLaws.{ids_set}
use Rattle.rb_laws.specs.Sending.{MaySendTo}
use Rattle.rb_laws.proofs.SendLaws.{telling_as, sends_only}
use Rattle.rb_laws.proofs.SendingLaws.{entries_are_sent}

-- ---- what one sending does: nothing, or one message more, and perhaps another view at its member's place

abbrev with_sent : PlainNode → Message → ℕ → PlainProgress → PlainNode
with_sent n m i view = record n { sent = n.sent ++ m ∷ []; tracker = with_view n.tracker i view }

abbrev with_post : PlainNode → Message → PlainNode
with_post n m = record n { sent = n.sent ++ m ∷ [] }

-- what holds in each case holds of it
record Cases (P : PlainNode → Type 0) (n : PlainNode) (x : ℕ) : Type 0 where
  nothing : P n
  posted : (m : Message) → P (with_post n m)
  wrote : (i : ℕ) (view : PlainProgress) (m : Message) → place n.tracker.views x ≡ Some i → P (with_sent n m i view)

snapshot_case : (P : PlainNode → Type 0) (o : Option PlainProgress) (n : PlainNode) (i x : ℕ) → place n.tracker.views x ≡ Some i → Cases P n x → P (snapshot_to o n i x)
snapshot_case P None n i x at c = c.nothing
snapshot_case P (Some view) n i x at c = c.wrote i (snapshotting view n.applied) (message n.id x n.term (kind.Snapshot (snapshot_of n))) at

empty_case : (P : PlainNode → Type 0) (o : Option PlainProgress) (n : PlainNode) (x : ℕ) → Cases P n x → P (empty_to o n x)
empty_case P None n x c = c.nothing
empty_case P (Some view) n x c = c.posted (message n.id x n.term (append_of n view.next []))

entries_case : (P : PlainNode → Type 0) (o : Option PlainProgress) (n : PlainNode) (i x : ℕ) → place n.tracker.views x ≡ Some i → Cases P n x → P (entries_to o n i x)
entries_case P None n i x at c = c.nothing
entries_case P (Some view) n i x at c = c.wrote i (sent view (last n.log)) (message n.id x n.term (append_of n view.next (entries_after n.log (view.next - 1)))) at

by_case : (P : PlainNode → Type 0) (s : Sending) (n : PlainNode) (i x : ℕ) → place n.tracker.views x ≡ Some i → Cases P n x → P (sends_by s n i x)
by_case P sending.Nothing n i x at c = c.nothing
by_case P sending.Snapshot n i x at c = snapshot_case P (view_at n.tracker.views i) n i x at c
by_case P sending.Empty n i x at c = empty_case P (view_at n.tracker.views i) n x c
by_case P sending.Entries n i x at c = entries_case P (view_at n.tracker.views i) n i x at c

with_case : (P : PlainNode → Type 0) (o : Option PlainProgress) (n : PlainNode) (i x : ℕ) → place n.tracker.views x ≡ Some i → Cases P n x → P (sends_with o n i x mode.Tell)
with_case P None n i x at c = c.nothing
with_case P (Some view) n i x at c = by_case P (sending_of n.log view mode.Tell) n i x at c

at_case : (P : PlainNode → Type 0) (o : Option ℕ) (n : PlainNode) (x : ℕ) → place n.tracker.views x ≡ o → Cases P n x → P (sends_at o n x mode.Tell)
at_case P None n x at c = c.nothing
at_case P (Some i) n x at c = with_case P (view_at n.tracker.views i) n i x at c

by_cases : (P : PlainNode → Type 0) (n : PlainNode) (x : ℕ) → Cases P n x → P (sends n x mode.Tell)
unfolding sends
by_cases P n x c = if_both P (x == n.id) n (sends_at (place n.tracker.views x) n x mode.Tell) (λ _. c.nothing) (λ _. at_case P (place n.tracker.views x) n x refl c)

-- ---- what was sent stays, and so do the views of others

still_sent : (n : PlainNode) (x : ℕ) (m : Message) → Contains n.sent m → Contains (sends n x mode.Tell).sent m
still_sent n x m among =
    by_cases (λ (y : PlainNode). Contains y.sent m) n x (record {
      nothing = among;
      posted = λ more. Contains-append_left n.sent (more ∷ []) m among;
      wrote = λ i view more at. Contains-append_left n.sent (more ∷ []) m among;
    })

all_still : (n : PlainNode) (ids : List ℕ) (m : Message) → Contains n.sent m → Contains (sent_to_each n ids).sent m
all_still n [] m among = among
all_still n (x ∷ xs) m among = all_still (sends n x mode.Tell) xs m (still_sent n x m among)

-- the view of an id is where it was, as it was
record Stays (id : ℕ) (n x : PlainNode) : Type 0 where
  placed : place x.tracker.views id ≡ place n.tracker.views id
  view : (at : ℕ) → place n.tracker.views id ≡ Some at → view_at x.tracker.views at ≡ view_at n.tracker.views at

set_apart : (views : List (ℕ × PlainProgress)) (i j : ℕ) (new : PlainProgress) → (j ≡ i → ⊥) → view_at (set_value_at views i new) j ≡ view_at views j
set_apart [] i j new other = refl
set_apart (e ∷ es) zero zero new other = absurd (other refl)
set_apart (e ∷ es) zero (suc j) new other = refl
set_apart (e ∷ es) (suc i) zero new other = refl
set_apart (e ∷ es) (suc i) (suc j) new other = set_apart es i j new (λ same. other (ap suc same))

-- at one place is the view of one id
one_at : (views : List (ℕ × PlainProgress)) (x id i : ℕ) → place views x ≡ Some i → place views id ≡ Some i → x ≡ id
one_at views x id i first second =
    let a = position-Some (λ (k : ℕ). x == k) (keys_of views) i 0 first in
    let b = position-Some (λ (k : ℕ). id == k) (keys_of views) i 0 second in
    eqb-true x (get_or (keys_of views) i 0) a.1 ∙ sym (eqb-true id (get_or (keys_of views) i 0) b.1)

stays : (n : PlainNode) (x id : ℕ) → (x ≡ id → ⊥) → Stays id n (sends n x mode.Tell)
stays n x id other =
    by_cases (Stays id n) n x (record {
      nothing = record { placed = refl; view = λ at is. refl };
      posted = λ more. record { placed = refl; view = λ at is. refl };
      wrote = λ i view more here.
          record {
            placed = ap (λ (ks : List ℕ). position (λ k. id == k) ks) (ids_set n.tracker.views i view);
            view = λ at is. set_apart n.tracker.views i at view (λ same. other (one_at n.tracker.views x id i here (is ∙ ap (λ (k : ℕ). Some k) same)));
          };
    })

-- ---- each member is told

abbrev told_to : PlainNode → ℕ → PlainProgress → Message
told_to n to view = message n.id to n.term (append_of n view.next (entries_after n.log (view.next - 1)))

all_told : (n : PlainNode) (ids : List ℕ) (to : ℕ) (view : PlainProgress) → MaySendTo n to view → n.log.base ≤ view.next - 1 → has ids to ≡ true → Contains (sent_to_each n ids).sent (told_to n to view)
all_told n [] to view may reached among = absurd (false≢true among)
all_told n (x ∷ xs) to view may reached among =
    let y : PlainNode = sends n x mode.Tell in
    let only : y ≡ telling_as n y = sends_only n x mode.Tell in
    if_both (λ (b : Bool). b ≡ true → Contains (sent_to_each y xs).sent (told_to n to view)) (x == to) true (has xs to)
    (λ here _. all_still y xs (told_to n to view)
    (subst (λ (i : ℕ). Contains (sends n i mode.Tell).sent (told_to n to view)) (sym (eqb-true x to here))
    (subst (λ (l : List Message). Contains l (told_to n to view)) (sym (entries_are_sent n to view may reached)) (Contains-push n.sent (told_to n to view)))))
    (λ apart rest.
    (let kept = stays n x to (λ same. false≢true (sym apart ∙ eq-eqb x to same)) in
    let id : y.id ≡ n.id = ap (λ (z : PlainNode). z.id) only in
    let base : y.log.base ≡ n.log.base = ap (λ (z : PlainNode). z.log.base) only in
    let next : MaySendTo y to view = record {
      at = may.at;
      placed = kept.placed ∙ may.placed;
      is = kept.view may.at may.placed ∙ may.is;
      another = λ own. may.another (own ∙ id);
      free = may.free;
    } in
    let same : told_to y to view ≡ told_to n to view = ap (λ (z : PlainNode). told_to z to view) only in
    subst (λ (m : Message). Contains (sent_to_each y xs).sent m) same (all_told y xs to view next (omega (arith, base, reached)) rest)))
    among

get_has : (xs : List ℕ) (at id : ℕ) → at < length xs → (id == get_or xs at 0) ≡ true → has xs id ≡ true
get_has [] at id low is = absurd (omega (arith, low))
get_has (x ∷ xs) zero id low is = ap (λ (i : ℕ). has (i ∷ xs) id) (sym (eqb-true id x is)) ∙ has_here id xs
get_has (x ∷ xs) (suc at) id low is = also (x == id) (has xs id) (get_has xs at id (omega (arith, low)) is)

pub all_are_told : (n : PlainNode) (to : ℕ) (view : PlainProgress) → MaySendTo n to view → n.log.base ≤ view.next - 1
    → Contains (append_broadcast n).sent (message n.id to n.term (append_of n view.next (entries_after n.log (view.next - 1))))
unfolding append_broadcast
all_are_told n to view may reached =
    let keys = keys_of n.tracker.views in
    let found = position-Some (λ (k : ℕ). to == k) keys may.at 0 may.placed in
    all_told n (ids_of n.tracker.views) to view may reached (has_union [] keys to ∙ get_has keys may.at to found.0 found.1)
