-- Whom a leader has heard of: a member is marked by its answers, and a look at the quorum takes the marks off (Ongaro's thesis, section 6.2)
use Rattle.std.proofs.Common.{◌≡◌, ℕ, zero, suc, ◌<◌, Bool, true, false, not, ◌&&◌, ◌==◌, nat_le, nat_eq, cond, List, [], ◌∷◌, length, get_or, Option, Some, None, refl, ap, sym, subst, ◌∙◌, arith, eqb-true, inl, inr}
use Rattle.std.specs.Map.{keys_of, lookup}
use Rattle.std.proofs.lemmas.Bool.{false≢true, cases_Bool, cond-true, cond-false, eqb-false}
use Rattle.std.proofs.lemmas.Bool.Decides.{nat_tests}
use Rattle.std.proofs.lemmas.List.Quantifiers.{position-Some}
use Rattle.indexmap.specs.Layout.{set_value_at}
use Rattle.rb_raftlog.specs.Log.{last}
use Rattle.rb_tracker.proofs.SetLaws.{if_both, self_id}
use Rattle.rb_tracker.specs.Active.{active_in, is_active, with_active_by, with_active_at}
use Rattle.rb_tracker.specs.Commits.{commit_of}
use Rattle.rb_tracker.specs.Progresses.{PlainProgress, paused, is_news, acked_in, acked, freed_in, freed_through, is_current_reject, refused_in, refused, resumed, snapshotting, replicating, matching, sent_in, sent, sent_up_to, with_active}
use Rattle.rb_tracker.specs.Trackers.{place, view_at, ids_of}
use Rattle.rb_tracker.specs.Windows.{is_full}
use Rattle.rb_tracker.specs.declared.progress.ProgressState.{ProgressState}
use Rattle.rb_tracker.specs.declared.progress.ProgressState.TheVariants as state
use Rattle.rb_node.specs.Node.{PlainNode, NodeStep}
use Rattle.rb_node.specs.Sends.{snapshot_to, empty_to, entries_to, sends_by, sends_with, sends_at, sends, sent_to_each, append_broadcast, sending_of, with_view_at}
use Rattle.rb_node.specs.declared.sends.SendReason.{SendReason}
use Rattle.rb_node.specs.declared.sends.SendReason.TheVariants as mode
use Rattle.rb_node.specs.declared.sends.Sending.{Sending}
use Rattle.rb_node.specs.declared.sends.Sending.TheVariants as sending
use Rattle.rb_node.specs.Acknowledging.{transfer_finished_to, commit_or_sent, reason_after, match_advanced, old_response_handled, append_response_handled_by, append_response_handled_with, marked_active, append_refusal_handled_with, lags, heartbeat_response_handled_with}
use Rattle.rb_node.specs.Leading.{can_commit}
use Rattle.rb_message.specs.declared.message.Message.{Message}

-- ---- marks

abbrev pub marked : PlainNode → ℕ → Bool
marked n id = is_active n.tracker.views id

-- the same members are marked
abbrev pub SameMarks : PlainNode → PlainNode → Type 0
SameMarks a b = (id : ℕ) → marked b id ≡ marked a id

here_same : (b : Bool) (x new : PlainProgress) (rest : Option PlainProgress) → new.active ≡ x.active → active_in (cond b (Some new) rest) ≡ active_in (cond b (Some x) rest)
here_same true x new rest e = e
here_same false x new rest e = refl

there_same : (b : Bool) (x : PlainProgress) (r s : Option PlainProgress) → active_in r ≡ active_in s → active_in (cond b (Some x) r) ≡ active_in (cond b (Some x) s)
there_same true x r s e = refl
there_same false x r s e = e

set_same : (views : List (ℕ × PlainProgress)) (at : ℕ) (view new : PlainProgress) (id : ℕ) → view_at views at ≡ Some view → new.active ≡ view.active
    → is_active (set_value_at views at new) id ≡ is_active views id
set_same [] at view new id is e = refl
set_same (x ∷ xs) zero view new id is e =
    let first : x.1 ≡ view = cc in
    here_same (nat_eq id x.0) x.1 new (lookup (nat_eq id) xs) (e ∙ ap (λ (v : PlainProgress). v.active) (sym first))
set_same (x ∷ xs) (suc at) view new id is e =
    there_same (nat_eq id x.0) x.1 (lookup (nat_eq id) (set_value_at xs at new)) (lookup (nat_eq id) xs) (set_same xs at view new id is e)

-- a view at its place is written
nat_eq_is : (x y : ℕ) → nat_eq x y ≡ true → x ≡ y
nat_eq_is x y h = grind (arith, nat_tests)

nat_eq_not : (x y : ℕ) → (x ≡ y → ⊥) → nat_eq x y ≡ false
nat_eq_not x y h =
    elim (cases_Bool (nat_eq x y)) as (λ _. nat_eq x y ≡ false) [
      | inl same ↦ absurd (h (nat_eq_is x y same))
      | inr other ↦ other
    ]

first_other : (b : Bool) (x new : PlainProgress) (rest : Option PlainProgress) → b ≡ false → active_in (cond b (Some new) rest) ≡ active_in (cond b (Some x) rest)
first_other true x new rest e = absurd (false≢true (sym e))
first_other false x new rest e = refl

set_other : (views : List (ℕ × PlainProgress)) (at from id : ℕ) (new : PlainProgress) → at < length (keys_of views) → from ≡ get_or (keys_of views) at 0 → (id ≡ from → ⊥)
    → is_active (set_value_at views at new) id ≡ is_active views id
set_other [] at from id new low e other = refl
set_other (x ∷ xs) zero from id new low e other = first_other (nat_eq id x.0) x.1 new (lookup (nat_eq id) xs) (nat_eq_not id x.0 (λ same. other (same ∙ sym e)))
set_other (x ∷ xs) (suc at) from id new low e other =
    there_same (nat_eq id x.0) x.1 (lookup (nat_eq id) (set_value_at xs at new)) (lookup (nat_eq id) xs) (set_other xs at from id new (omega (arith, low)) e other)

set_here : (views : List (ℕ × PlainProgress)) (at from : ℕ) (new : PlainProgress) → at < length (keys_of views) → (from == get_or (keys_of views) at 0) ≡ true
    → ((k : ℕ) → k < at → (from == get_or (keys_of views) k 0) ≡ false) → is_active (set_value_at views at new) from ≡ new.active
set_here [] at from new low here before = absurd (omega (arith, low))
set_here (x ∷ xs) zero from new low here before =
    let same : from ≡ x.0 = eqb-true from x.0 here in
    let is : nat_eq from x.0 ≡ true = rw same (self_id x.0) in
    ap active_in (cond-true (nat_eq from x.0) (Some new) (lookup (nat_eq from) xs) is)
set_here (x ∷ xs) (suc at) from new low here before =
    let other : nat_eq from x.0 ≡ false = nat_eq_not from x.0 (eqb-false from x.0 (before zero (omega arith))) in
    ap active_in (cond-false (nat_eq from x.0) (Some x.1) (lookup (nat_eq from) (set_value_at xs at new)) other)
    ∙ set_here xs at from new (omega (arith, low)) here (λ k under. before (suc k) (omega (arith, under)))

-- ---- what a leader sends changes no mark

sent_active : (s : ProgressState) (p : PlainProgress) (last : ℕ) → (sent_in s p last).active ≡ p.active
sent_active state.Probe p last = refl
sent_active state.Replicate p last = if_both (λ (q : PlainProgress). q.active ≡ p.active) (nat_le p.next last && not (is_full p.window)) (sent_up_to p last) p (λ _. refl) (λ _. refl)
sent_active state.Snapshot p last = refl

acked_active : (s : ProgressState) (p : PlainProgress) (i : ℕ) → (acked_in s p i).active ≡ p.active
acked_active state.Probe p i = refl
acked_active state.Replicate p i = refl
acked_active state.Snapshot p i = if_both (λ (q : PlainProgress). q.active ≡ p.active) (nat_le p.pending i) (replicating (matching p i)) (matching p i) (λ _. refl) (λ _. refl)

freed_active : (s : ProgressState) (p : PlainProgress) (i : ℕ) → (freed_in s p i).active ≡ p.active
freed_active state.Probe p i = refl
freed_active state.Replicate p i = refl
freed_active state.Snapshot p i = refl

refused_active : (s : ProgressState) (p : PlainProgress) (i hint : ℕ) → (refused_in s p i hint).active ≡ p.active
refused_active state.Probe p i hint = refl
refused_active state.Replicate p i hint = refl
refused_active state.Snapshot p i hint = refl

written_same : (n : PlainNode) (at : ℕ) (view new : PlainProgress) → view_at n.tracker.views at ≡ Some view → new.active ≡ view.active → SameMarks n (with_view_at n at new)
written_same n at view new is e id = set_same n.tracker.views at view new id is e

by_same : (s : Sending) (n : PlainNode) (at to : ℕ) (view : PlainProgress) → view_at n.tracker.views at ≡ Some view → SameMarks n (sends_by s n at to)
by_same sending.Nothing n at to view is = λ id. refl
by_same sending.Snapshot n at to view is =
    subst (λ (o : Option PlainProgress). SameMarks n (snapshot_to o n at to)) (sym is) (written_same n at view (snapshotting view n.applied) is refl)
by_same sending.Empty n at to view is = subst (λ (o : Option PlainProgress). SameMarks n (empty_to o n to)) (sym is) (λ id. refl)
by_same sending.Entries n at to view is =
    subst (λ (o : Option PlainProgress). SameMarks n (entries_to o n at to)) (sym is) (written_same n at view (sent view (last n.log)) is (sent_active view.state view (last n.log)))

with_same : (o : Option PlainProgress) (n : PlainNode) (at to : ℕ) (how : SendReason) → view_at n.tracker.views at ≡ o → SameMarks n (sends_with o n at to how)
with_same None n at to how is = λ id. refl
with_same (Some view) n at to how is = by_same (sending_of n.log view how) n at to view is

at_same : (o : Option ℕ) (n : PlainNode) (to : ℕ) (how : SendReason) → SameMarks n (sends_at o n to how)
at_same None n to how = λ id. refl
at_same (Some at) n to how = with_same (view_at n.tracker.views at) n at to how refl

pub sends_same : (n : PlainNode) (to : ℕ) (how : SendReason) → SameMarks n (sends n to how)
unfolding sends
sends_same n to how = if_both (SameMarks n) (to == n.id) _ _ (λ _ id. refl) (λ _. at_same (place n.tracker.views to) n to how)

each_same : (n : PlainNode) (ids : List ℕ) → SameMarks n (sent_to_each n ids)
each_same n [] id = refl
each_same n (x ∷ xs) id = each_same (sends n x mode.Tell) xs id ∙ sends_same n x mode.Tell id

pub broadcast_same : (n : PlainNode) → SameMarks n (append_broadcast n)
unfolding append_broadcast
broadcast_same n = each_same n (ids_of n.tracker.views)

-- ---- an answer marks its sender

-- who answers is marked, and nobody else's mark changes
pub record Marks (n : PlainNode) (from : ℕ) (x : PlainNode) : Type 0 where
  pub sender : marked x from ≡ true
  pub others : (id : ℕ) → (id ≡ from → ⊥) → marked x id ≡ marked n id

pub marks_then : (n : PlainNode) (from : ℕ) (x y : PlainNode) → Marks n from x → SameMarks x y → Marks n from y
marks_then n from x y m same = record { sender = same from ∙ m.sender; others = λ id other. same id ∙ m.others id other }

commit_same : (n : PlainNode) (to : ℕ) (how : SendReason) → SameMarks n (commit_or_sent n to how)
unfolding commit_or_sent
commit_same n to how =
    if_both (SameMarks n) (can_commit n (commit_of n.tracker)) _ _ (λ _. broadcast_same (record n { commit = commit_of n.tracker })) (λ _. sends_same n to how)

handed_same : (n : PlainNode) (to i : ℕ) → SameMarks n (transfer_finished_to n to i)
handed_same n to i = if_both (SameMarks n) (to == n.transferee && i == last n.log) _ _ (λ _ id. refl) (λ _ id. refl)

news_same : (o : Option PlainProgress) (n : PlainNode) (at from i : ℕ) → view_at n.tracker.views at ≡ o → SameMarks n (match_advanced o n at from i)
news_same None n at from i is id = refl
news_same (Some view) n at from i is id =
    let x : PlainNode = with_view_at n at (acked view i) in
    let how = reason_after (paused view) in
    handed_same (commit_or_sent x from how) from i id ∙ commit_same x from how id ∙ written_same n at view (acked view i) is (acked_active view.state view i) id

old_same : (o : Option PlainProgress) (n : PlainNode) (at i : ℕ) → view_at n.tracker.views at ≡ o → SameMarks n (old_response_handled o n at i)
old_same None n at i is id = refl
old_same (Some view) n at i is id = written_same n at view (freed_through view i) is (freed_active view.state view i) id

accepted_by_same : (b : Bool) (n : PlainNode) (at from i : ℕ) → SameMarks n (append_response_handled_by b n at from i)
accepted_by_same true n at from i = news_same (view_at n.tracker.views at) n at from i refl
accepted_by_same false n at from i = old_same (view_at n.tracker.views at) n at i refl

pub accepted_same : (o : Option PlainProgress) (n : PlainNode) (at from i : ℕ) → SameMarks n (append_response_handled_with o n at from i)
accepted_same None n at from i id = refl
accepted_same (Some view) n at from i id = accepted_by_same (is_news view i) n at from i id

pub refused_same : (o : Option PlainProgress) (t : NodeStep) (at : ℕ) (m : Message) (i hint : ℕ) → view_at t.node.tracker.views at ≡ o → SameMarks t.node (append_refusal_handled_with o t at m i hint).node
refused_same None t at m i hint is = λ id. refl
refused_same (Some view) t at m i hint is =
    if_both (λ (u : NodeStep). SameMarks t.node u.node) (is_current_reject view i) _ _
    (λ _ id. sends_same (with_view_at t.node at (refused view i hint)) m.from mode.Tell id ∙ written_same t.node at view (refused view i hint) is (refused_active view.state view i hint) id)
    (λ _ id. refl)

pub beat_same : (o : Option PlainProgress) (n : PlainNode) (at from : ℕ) → view_at n.tracker.views at ≡ o → SameMarks n (heartbeat_response_handled_with o n at from)
beat_same None n at from is = λ id. refl
beat_same (Some view) n at from is =
    if_both (SameMarks n) (lags n view) _ _
    (λ _ id. sends_same (with_view_at n at (resumed view)) from mode.Ping id ∙ written_same n at view (resumed view) is refl id) (λ _ id. written_same n at view (resumed view) is refl id)

-- the mark itself
mark_with : (o : Option PlainProgress) (n : PlainNode) (at from : ℕ) → view_at n.tracker.views at ≡ o → place n.tracker.views from ≡ Some at → (o ≡ None → ⊥)
    → Marks n from (record n { tracker = with_active_by o n.tracker at true })
mark_with None n at from is here some = absurd (some refl)
mark_with (Some view) n at from is here some =
    let found = position-Some (λ (k : ℕ). from == k) (keys_of n.tracker.views) at 0 here in
    let new = with_active view true in
    record {
      sender = set_here n.tracker.views at from new found.0 found.1 found.2;
      others = λ id other. set_other n.tracker.views at from id new found.0 (eqb-true from (get_or (keys_of n.tracker.views) at 0) found.1) other;
    }

pub view_there : (views : List (ℕ × PlainProgress)) (at : ℕ) → at < length (keys_of views) → view_at views at ≡ None → ⊥
view_there [] at low none = omega (arith, low)
view_there (x ∷ xs) zero low none = cc
view_there (x ∷ xs) (suc at) low none = view_there xs at (omega (arith, low)) none

pub mark_there : (n : PlainNode) (at from : ℕ) → place n.tracker.views from ≡ Some at → Marks n from (marked_active n at)
unfolding with_active_at
mark_there n at from here =
    mark_with (view_at n.tracker.views at) n at from refl here (view_there n.tracker.views at (position-Some (λ (k : ℕ). from == k) (keys_of n.tracker.views) at 0 here).0)
