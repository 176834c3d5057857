-- How nodes stand, as rows, and what of that is not as it was. (docs/FORMATS.md; the state of a node is that of Ongaro's thesis, figure 3.1,
-- with what etcd's raft adds.)
use Rattle.std.specs.Prelude.{ℕ, Bool, codes, if◌then◌else◌, List, [], ◌∷◌, ◌++◌, length, map, Option, Some, None}
use Rattle.std.specs.List.{flat_map}
use Rattle.rb_raftlog.specs.Content.{content_end}
use Rattle.rb_node.specs.Node.{PlainNode}
use Rattle.rb_tracker.specs.Progresses.{PlainProgress}
use Rattle.rb_tracker.specs.Trackers.{has_view}
use Rattle.rb_texts.specs.Configs.{config_text}
use Rattle.rb_texts.specs.States.{role_text, progress_state_text}
use Rattle.rb_view.specs.Committed.{known}
use Rattle.rb_view.specs.MessageRows.{flag}
use Rattle.rb_view.specs.Rows.{Row, row, number, text}
use Rattle.rb_view.specs.NewRows.{new_rows}
use Rattle.rb_view.specs.Logs.{log_from, log_changes_to, stays, stays_since}

-- ---- what stands

-- a node's numbers, and the last bytes of its content
abbrev pub node_row : PlainNode → Row
node_row n = row (codes "node")
    (number n.id ∷ text (role_text n.role) ∷ number n.term ∷ number n.vote ∷ number n.lead ∷ number n.commit ∷ number n.applied
    ∷ number n.log.durable ∷ number (length n.content) ∷ text (content_end n.content) ∷ [])

abbrev pub config_row : PlainNode → Row
config_row n = row (codes "config") (number n.id ∷ text (config_text n.tracker.config) ∷ [])

-- a leader's view of a member
abbrev pub view_row : ℕ → ℕ × PlainProgress → Row
view_row id view = row (codes "view")
    (number id ∷ number view.0 ∷ text (progress_state_text view.1.state) ∷ number view.1.matched ∷ number view.1.next
    ∷ number (length view.1.window.in_flight) ∷ number (flag view.1.waiting) ∷ number view.1.pending ∷ number (flag view.1.active) ∷ [])

abbrev pub view_rows : ℕ → List (ℕ × PlainProgress) → List Row
view_rows id views = map (view_row id) views

-- all of a node but its log
abbrev pub standing : PlainNode → List Row
standing n = node_row n ∷ config_row n ∷ view_rows n.id n.tracker.views

-- ---- what is not as it was

abbrev pub no_view_row : ℕ → ℕ → Row
no_view_row id member = row (codes "no-view") (number id ∷ number member ∷ [])

-- a member of which there is no view any more
abbrev pub gone_of : ℕ → List (ℕ × PlainProgress) → ℕ → List Row
gone_of id news member = if has_view news member then [] else no_view_row id member ∷ []

-- those of the views of before
abbrev pub gone_rows : ℕ → List (ℕ × PlainProgress) → List (ℕ × PlainProgress) → List Row
gone_rows id olds news = flat_map (λ (view : ℕ × PlainProgress). gone_of id news view.0) olds

-- a node that wasn't there
abbrev pub added_rows : PlainNode → List Row
added_rows n = standing n ++ log_from n.id n.log n.log.base

-- a node that was, whose log has the entries of before up to an index
abbrev pub changed_to : PlainNode → PlainNode → ℕ → List Row
changed_to old new kept =
    new_rows (standing old) (standing new) ++ (gone_rows new.id old.tracker.views new.tracker.views ++ log_changes_to new.id old.log new.log kept)

abbrev pub changed_rows : PlainNode → PlainNode → List Row
changed_rows old new = changed_to old new (stays old.log new.log)

abbrev pub node_rows : Option PlainNode → PlainNode → List Row
node_rows None n = added_rows n
node_rows (Some old) n = changed_rows old n

-- all nodes, where these were before
abbrev pub state_rows : List PlainNode → List PlainNode → List Row
state_rows olds [] = []
state_rows [] (n ∷ ns) = node_rows None n ++ state_rows [] ns
state_rows (old ∷ olds) (n ∷ ns) = node_rows (Some old) n ++ state_rows olds ns

-- ---- the same, where entries up to an index are known to stay

abbrev pub changed_since : ℕ → PlainNode → PlainNode → List Row
changed_since index old new = changed_to old new (stays_since old.log new.log index)

-- what a node knew to be committed is known to stay, or nothing is
abbrev pub node_since : Bool → Option PlainNode → PlainNode → List Row
node_since keeps None n = added_rows n
node_since keeps (Some old) n = changed_since (known keeps old) old n
