-- What sending changes: what is sent, and the views
use Rattle.std.proofs.Common.{◌≡◌, ℕ, List, [], ◌∷◌, Option, Some, None, refl, ap, ◌∙◌, ◌==◌}
use Rattle.rb_tracker.proofs.SetLaws.{if_both}
use Rattle.rb_tracker.specs.Progresses.{PlainProgress}
use Rattle.rb_tracker.specs.Trackers.{place, view_at, ids_of}
use Rattle.rb_node.specs.Node.{PlainNode}
use Rattle.rb_node.specs.Sends.{snapshot_to, empty_to, entries_to, sends_by, sends_with, sends_at, sends, sent_to_each, append_broadcast, sending_of}
use Rattle.rb_node.specs.declared.sends.SendReason.{SendReason}
use Rattle.rb_node.specs.declared.sends.SendReason.TheVariants as mode
use Rattle.rb_node.specs.declared.sends.Sending.{Sending}
use Rattle.rb_node.specs.declared.sends.Sending.TheVariants as sending

-- a node with what another has sent, and its views
abbrev pub telling_as : PlainNode → PlainNode → PlainNode
telling_as n x = record n { sent = x.sent; tracker = x.tracker }

snapshot_only : (o : Option PlainProgress) (n : PlainNode) (at to : ℕ) → snapshot_to o n at to ≡ telling_as n (snapshot_to o n at to)
snapshot_only None n at to = refl
snapshot_only (Some view) n at to = refl

empty_only : (o : Option PlainProgress) (n : PlainNode) (to : ℕ) → empty_to o n to ≡ telling_as n (empty_to o n to)
empty_only None n to = refl
empty_only (Some view) n to = refl

entries_only : (o : Option PlainProgress) (n : PlainNode) (at to : ℕ) → entries_to o n at to ≡ telling_as n (entries_to o n at to)
entries_only None n at to = refl
entries_only (Some view) n at to = refl

by_only : (s : Sending) (n : PlainNode) (at to : ℕ) → sends_by s n at to ≡ telling_as n (sends_by s n at to)
by_only sending.Nothing n at to = refl
by_only sending.Snapshot n at to = snapshot_only (view_at n.tracker.views at) n at to
by_only sending.Empty n at to = empty_only (view_at n.tracker.views at) n to
by_only sending.Entries n at to = entries_only (view_at n.tracker.views at) n at to

with_only : (o : Option PlainProgress) (n : PlainNode) (at to : ℕ) (how : SendReason) → sends_with o n at to how ≡ telling_as n (sends_with o n at to how)
with_only None n at to how = refl
with_only (Some view) n at to how = by_only (sending_of n.log view how) n at to

at_only : (o : Option ℕ) (n : PlainNode) (to : ℕ) (how : SendReason) → sends_at o n to how ≡ telling_as n (sends_at o n to how)
at_only None n to how = refl
at_only (Some at) n to how = with_only (view_at n.tracker.views at) n at to how

pub sends_only : (n : PlainNode) (to : ℕ) (how : SendReason) → sends n to how ≡ telling_as n (sends n to how)
unfolding sends
sends_only n to how = if_both (λ (x : PlainNode). x ≡ telling_as n x) (to == n.id) _ _ (λ _. refl) (λ _. at_only (place n.tracker.views to) n to how)

pub tells_only : (n : PlainNode) (ids : List ℕ) → sent_to_each n ids ≡ telling_as n (sent_to_each n ids)
tells_only n [] = refl
tells_only n (id ∷ ids) =
    let x : PlainNode = sends n id mode.Tell in
    tells_only x ids ∙ ap (λ (y : PlainNode). telling_as y (sent_to_each x ids)) (sends_only n id mode.Tell)

pub append_broadcast_only : (n : PlainNode) → append_broadcast n ≡ telling_as n (append_broadcast n)
unfolding append_broadcast
append_broadcast_only n = tells_only n (ids_of n.tracker.views)
