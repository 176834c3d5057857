-- Applying committed entries: payloads, and changes of the configuration (Ongaro's thesis, sections 4.1 to 4.3)
use Rattle.std.specs.Prelude.{ℕ, ◌+◌, true, Bool, ◌&&◌, not, List, [], ◌∷◌, ◌++◌, Result, Ok, Err, if◌then◌else◌, nat_le, ◌==◌}
use Rattle.rb_raftlog.specs.declared.entry.Body.{Body}
use Rattle.rb_raftlog.specs.declared.entry.Body.TheVariants.{Payload, Change}
use Rattle.rb_raftlog.specs.declared.entry.Entry.{Entry}
use Rattle.rb_vocab.specs.declared.change.Transition.{Transition}
use Rattle.rb_vocab.specs.declared.change.Transition.TheVariants.{Auto}
use Rattle.rb_vocab.specs.declared.change.Word.{Word}
use Rattle.rb_tracker.specs.Changes.{changed}
use Rattle.rb_tracker.specs.Configs.{is_joint, is_voter, members, is_member}
use Rattle.rb_tracker.specs.Progresses.{PlainProgress}
use Rattle.rb_tracker.specs.Trackers.{has_view, ids_of, removed, configured}
use Rattle.rb_tracker.specs.declared.config.Config.{Config}
use Rattle.rb_tracker.specs.declared.changes.ChangeFault.{ChangeFault}
use Rattle.rb_message.specs.declared.event.EventKind.TheVariants as event
use Rattle.rb_message.specs.Events.{event_at}
use Rattle.rb_node.specs.Node.{PlainNode, NodeStep, with_event, with_node, is_leader}
use Rattle.rb_node.specs.Terms.{became_follower}
use Rattle.rb_node.specs.Leading.{with_views, checked_commit, appended_change, all_sent_append}
use Rattle.rb_node.specs.Transferring.{transfer_ended}

-- ---- a leader's views follow the members

abbrev pub without_view : PlainNode → ℕ → PlainNode
without_view n id = if is_member n.tracker.config id then n else record n { tracker = removed n.tracker id }

-- without the views of the ids that are not members
abbrev pub without_views : PlainNode → List ℕ → PlainNode
without_views n [] = n
without_views n (id ∷ ids) = without_views (without_view n id) ids

-- the ids without a view
abbrev pub missing : List (ℕ × PlainProgress) → List ℕ → List ℕ
missing views [] = []
missing views (id ∷ ids) = if has_view views id then missing views ids else id ∷ missing views ids

-- a transfer to a node that is no member any more ends
abbrev pub transfer_to_non_member_cancelled : NodeStep → NodeStep
transfer_to_non_member_cancelled t = if is_member t.node.tracker.config t.node.transferee then t else transfer_ended t

abbrev pub commit_checked : NodeStep → List ℕ → NodeStep
commit_checked t ids = with_node t (checked_commit t.node ids)

-- the members without a view get one that is on; then the new quorum may commit, else those are sent to
abbrev pub new_members_added : NodeStep → List ℕ → NodeStep
new_members_added t added = commit_checked (transfer_to_non_member_cancelled (with_node t (with_views t.node added true))) added

abbrev pub members_added : NodeStep → NodeStep
members_added t = new_members_added t (missing t.node.tracker.views (members t.node.tracker.config))

unfoldable pub views_updated : NodeStep → NodeStep
views_updated t = members_added (with_node t (without_views t.node (ids_of t.node.tracker.views)))

-- ---- changes

-- a leader that votes no more steps down, where it is asked to (etcd raft documentation, "StepDownOnRemoval")
abbrev pub steps_down : PlainNode → Bool
steps_down n = n.options.step_down_on_removal && not (is_voter n.tracker.config n.id)

abbrev pub continued_after_switch : NodeStep → NodeStep
continued_after_switch t =
    if is_leader t.node.role
    then (if steps_down t.node then became_follower t t.node.term 0 else views_updated t)
    else t

-- a change that can't be made is shown and left out (this project's)
abbrev pub switched : Result Config ChangeFault → NodeStep → NodeStep
switched (Ok c) t =
    continued_after_switch (with_event (with_node t (record t.node { tracker = configured t.node.tracker c })) (event_at t.node.id (event.Switched c)))
switched (Err fault) t = with_event t (event_at t.node.id (event.RefusedChange t.node.applied fault))

unfoldable pub change_applied : NodeStep → Transition → List Word → NodeStep
change_applied t transition words = switched (changed t.node.tracker.config transition words) t

-- ---- entries

abbrev pub body_applied : Body → NodeStep → NodeStep
body_applied (Payload bytes) t = with_node t (record t.node { content = t.node.content ++ bytes })
body_applied (Change transition words) t = change_applied t transition words

-- applied rises to an entry before what it brings takes effect
abbrev pub applied_one : NodeStep → ℕ → Entry → NodeStep
applied_one t i e = body_applied e.body (with_node t (record t.node { applied = i }))

-- the entries after an index, in order
abbrev pub applied_all : NodeStep → ℕ → List Entry → NodeStep
applied_all t i [] = t
applied_all t i (e ∷ es) = applied_all (applied_one t (i + 1) e) (i + 1) es

-- ---- leaving a joint configuration by itself

abbrev pub leaves_joint : PlainNode → Bool
leaves_joint n =
    is_leader n.role && is_joint n.tracker.config && n.tracker.config.auto && n.transferee == 0
    && nat_le n.pending_change n.applied

-- a change without words goes into the log, and to all at once
unfoldable pub joint_left : NodeStep → NodeStep
joint_left t = if leaves_joint t.node then all_sent_append (appended_change t (Change Auto [])) else t
