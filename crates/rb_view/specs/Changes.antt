-- How much of nodes is not as it was, counted by its parts: what is as it was counts nothing. (This project's.)
use Rattle.std.specs.Prelude.{ℕ, ◌+◌, Bool, ◌&&◌, ◌==◌, if◌then◌else◌, List, [], ◌∷◌, length}
use Rattle.std.specs.List.{list_any, sum_by}
use Rattle.std.specs.Str.{bytes_eq}
use Rattle.rb_raftlog.specs.Log.{LogValue, entries_after}
use Rattle.rb_node.specs.Node.{PlainNode}
use Rattle.rb_tracker.specs.Progresses.{PlainProgress}
use Rattle.rb_tracker.specs.Trackers.{has_view}
use Rattle.rb_texts.specs.Configs.{config_text}
use Rattle.rb_texts.specs.States.{progress_state_text}
use Rattle.rb_view.specs.MessageRows.{flag}
use Rattle.rb_view.specs.Rows.{next_text}
use Rattle.rb_view.specs.Logs.{is_same_log, stays}
use Rattle.rb_view.specs.States.{node_row}

-- nothing for what is as it was
abbrev pub one_unless : Bool → ℕ
one_unless same = if same then 0 else 1

-- ---- a node's numbers, and its configuration

-- the same numbers and role, and as much content with the same end: the same row
abbrev pub has_same_numbers : PlainNode → PlainNode → Bool
has_same_numbers a b = bytes_eq (next_text (node_row a)) (next_text (node_row b))

-- the same configuration, as it is shown
abbrev pub has_same_config : PlainNode → PlainNode → Bool
has_same_config a b = bytes_eq (config_text a.tracker.config) (config_text b.tracker.config)

-- ---- a leader's views

abbrev pub view_numbers : ℕ × PlainProgress → List ℕ
view_numbers v = v.0 ∷ v.1.matched ∷ v.1.next ∷ length v.1.window.in_flight ∷ flag v.1.waiting ∷ v.1.pending ∷ flag v.1.active ∷ []

-- of the same member the same is known
abbrev pub is_same_view : ℕ × PlainProgress → ℕ × PlainProgress → Bool
is_same_view a b = bytes_eq (view_numbers a) (view_numbers b) && bytes_eq (progress_state_text a.1.state) (progress_state_text b.1.state)

-- how many views are not as one of before
abbrev pub views_changed : List (ℕ × PlainProgress) → List (ℕ × PlainProgress) → ℕ
views_changed olds news = sum_by (λ (v : ℕ × PlainProgress). one_unless (list_any (is_same_view v) olds)) news

-- of how many members there is no view any more
abbrev pub views_gone : List (ℕ × PlainProgress) → List (ℕ × PlainProgress) → ℕ
views_gone olds news = sum_by (λ (v : ℕ × PlainProgress). one_unless (has_view news v.0)) olds

-- ---- a log

-- a log that is not as it was, and the entries that it didn't have
abbrev pub log_change : LogValue → LogValue → ℕ
log_change old new = if is_same_log old new then 0 else 1 + length (entries_after new (stays old new))

-- ---- nodes

abbrev pub parts_changed : PlainNode → PlainNode → ℕ
parts_changed old new =
    one_unless (has_same_numbers old new) + one_unless (has_same_config old new)
    + views_changed old.tracker.views new.tracker.views + views_gone old.tracker.views new.tracker.views + log_change old.log new.log

-- all of a node: its numbers, its configuration, its log, its views and its entries
abbrev pub whole : PlainNode → ℕ
whole n = 3 + length n.tracker.views + length n.log.entries

-- a node in another's place is all of it, and the other's views are gone
abbrev pub node_change : PlainNode → PlainNode → ℕ
node_change old new = if old.id == new.id then parts_changed old new else whole new + length old.tracker.views

-- all nodes, where these were before: those that have come are all of them
abbrev pub state_change : List PlainNode → List PlainNode → ℕ
state_change olds [] = 0
state_change [] (n ∷ ns) = whole n + state_change [] ns
state_change (old ∷ olds) (n ∷ ns) = node_change old n + state_change olds ns
