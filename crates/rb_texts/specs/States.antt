-- Nodes, their logs, and a leader's views as a line shows them. (The roles are after Ongaro's thesis, section 3.3, the states of a
-- view after etcd raft's documentation, "Progress"; the texts are this project's.)
use Rattle.std.specs.Prelude.{ℕ, Bool, not, if◌then◌else◌, codes, decimal, List, [], ◌++◌, length}
use Rattle.rb_message.specs.declared.hard_state.HardState.{HardState}
use Rattle.rb_message.specs.declared.role.Role.{Role}
use Rattle.rb_message.specs.declared.role.Role.TheVariants as roles
use Rattle.rb_tracker.specs.declared.progress.ProgressState.{ProgressState}
use Rattle.rb_tracker.specs.declared.progress.ProgressState.TheVariants as states
use Rattle.rb_tracker.specs.Progresses.{PlainProgress}
use Rattle.rb_texts.specs.declared.item.LogLine.{LogLine}
use Rattle.rb_texts.specs.Entries.{place_text}
use Rattle.rb_texts.specs.Items.{PlainNodeLine}
use Rattle.rb_texts.specs.Quoted.{quoted}

abbrev pub role_text : Role → List ℕ
role_text roles.Follower = codes "follower"
role_text roles.Precandidate = codes "precandidate"
role_text roles.Candidate = codes "candidate"
role_text roles.Leader = codes "leader"

unfoldable pub node_text : PlainNodeLine → List ℕ
node_text n =
    decimal n.id ++ codes " " ++ role_text n.role
    ++ codes " term=" ++ decimal n.term ++ codes " vote=" ++ decimal n.vote ++ codes " lead=" ++ decimal n.lead
    ++ codes " commit=" ++ decimal n.commit ++ codes " applied=" ++ decimal n.applied
    ++ codes " content=" ++ decimal n.content_len ++ codes ":" ++ quoted n.content_end

unfoldable pub hard_state_text : HardState → List ℕ
hard_state_text h = codes "  hard term=" ++ decimal h.term ++ codes " vote=" ++ decimal h.vote ++ codes " commit=" ++ decimal h.commit

unfoldable pub log_text : LogLine → List ℕ
log_text l =
    codes "base=" ++ place_text l.base_term l.base
    ++ codes " durable=" ++ decimal l.durable ++ codes " commit=" ++ decimal l.commit ++ codes " applied=" ++ decimal l.applied

abbrev pub progress_state_text : ProgressState → List ℕ
progress_state_text states.Probe = codes "probe"
progress_state_text states.Replicate = codes "replicate"
progress_state_text states.Snapshot = codes "snapshot"

-- what a state alone has: a probe in flight, or the index of the snapshot in flight
abbrev pub under_way_text : ProgressState → Bool → ℕ → List ℕ
under_way_text states.Probe waiting pending = if waiting then codes " waiting" else []
under_way_text states.Replicate waiting pending = []
under_way_text states.Snapshot waiting pending = codes " snapshot=" ++ decimal pending

-- the mark of a member that wasn't heard of
abbrev pub mark_text : Bool → List ℕ
mark_text active = if not active then codes " inactive" else []

unfoldable pub progress_text : ℕ → PlainProgress → List ℕ
progress_text id p =
    decimal id ++ codes " " ++ progress_state_text p.state
    ++ codes " match=" ++ decimal p.matched ++ codes " next=" ++ decimal p.next
    ++ codes " inflight=" ++ decimal (length p.window.in_flight)
    ++ under_way_text p.state p.waiting p.pending ++ mark_text p.active
