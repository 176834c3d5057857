-- Leading (Ongaro's thesis, sections 3.5 and 3.6): a leader appends to its own log, and commits what a quorum holds
use Rattle.std.specs.Prelude.{ℕ, ◌+◌, Bool, ◌&&◌, not, List, [], ◌∷◌, if◌then◌else◌, nat_lt, nat_le, ◌==◌}
use Rattle.rb_raftlog.specs.declared.limits.TheConstants.{MAX_INDEX}
use Rattle.rb_raftlog.specs.declared.entry.Body.{Body}
use Rattle.rb_raftlog.specs.declared.entry.Body.TheVariants.{Payload}
use Rattle.rb_raftlog.specs.Log.{last, term_at, is_term, own}
use Rattle.rb_tracker.specs.Commits.{commit_of}
use Rattle.rb_tracker.specs.Progresses.{PlainProgress, probing, own_view}
use Rattle.rb_tracker.specs.Configs.{members}
use Rattle.rb_tracker.specs.Trackers.{has_view, with_new}
use Rattle.rb_message.specs.declared.event.EventKind.TheVariants as event
use Rattle.rb_message.specs.Events.{event_at}
use Rattle.rb_message.specs.declared.kind.MessageKind.TheVariants as kind
use Rattle.rb_message.specs.declared.role.Role.TheVariants as role
use Rattle.rb_node.specs.Node.{PlainNode, NodeStep, with_event, with_node, answered_with}
use Rattle.rb_node.specs.Sends.{sent_to_each, append_broadcast}
use Rattle.rb_node.specs.Terms.{reset}

-- an entry of its term is appended; the leader's own response says that it is durable
abbrev pub with_own : PlainNode → Body → PlainNode
with_own n body =
    answered_with (record n { log = own n.log (record { term = n.term; body = body }) }) n.id n.term (kind.AppendResponse (last n.log + 1))

abbrev pub is_log_full : PlainNode → Bool
is_log_full n = nat_le MAX_INDEX (last n.log)

-- at the limit of indexes nothing is appended (this project's)
abbrev pub appended : NodeStep → Body → NodeStep
appended t body = if is_log_full t.node then with_event t (event_at t.node.id event.AppendsNothing) else with_node t (with_own t.node body)

-- a change, which is then the pending one
abbrev pub appended_change : NodeStep → Body → NodeStep
appended_change t body =
    if is_log_full t.node then with_event t (event_at t.node.id event.AppendsNothing)
    else with_node t (record (with_own t.node body) { pending_change = last t.node.log + 1 })

-- the first view of a member, and of the leader itself
abbrev pub new_view : PlainNode → ℕ → Bool → PlainProgress
new_view n id active =
    if id == n.id then own_view n.options.inflight n.log.durable (last n.log + 1)
    else probing n.options.inflight (last n.log + 1) active

abbrev pub with_view_of : PlainNode → ℕ → Bool → PlainNode
with_view_of n id active =
    if has_view n.tracker.views id then n else record n { tracker = with_new n.tracker id (new_view n id active) }

abbrev pub with_views : PlainNode → List ℕ → Bool → PlainNode
with_views n [] active = n
with_views n (id ∷ ids) active = with_views (with_view_of n id active) ids active

-- the leader of its term
abbrev pub in_lead : PlainNode → PlainNode
in_lead n = record (reset n n.term) { lead = n.id; role = role.Leader }

-- It has a view of each member. If it checks its quorum, no member is active yet. Any change in its log may be pending.
abbrev pub leading : PlainNode → PlainNode
leading n =
    record (with_views (in_lead n) (members n.tracker.config) (not n.options.check_quorum)) { pending_change = last n.log }

abbrev pub all_sent_append : NodeStep → NodeStep
all_sent_append t = with_node t (append_broadcast t.node)

-- a new leader appends an empty entry of its term, since it commits entries of earlier terms by one of its own alone
unfoldable pub became_leader : NodeStep → NodeStep
became_leader t = all_sent_append (appended (with_event (with_node t (leading t.node)) (event_at t.node.id (event.Became role.Leader t.node.term))) (Payload []))

-- an index that the quorum holds is committed if the entry there is of the leader's own term (section 3.6.2)
abbrev pub can_commit : PlainNode → ℕ → Bool
can_commit n i = nat_lt n.commit i && is_term (term_at n.log i) n.term

-- if the commit moves it is broadcast, else these nodes get an append
unfoldable pub checked_commit : PlainNode → List ℕ → PlainNode
checked_commit n ids =
    let i = commit_of n.tracker in
    if can_commit n i then append_broadcast (record n { commit = i }) else sent_to_each n ids
