-- What of a node's log is not as it was, as rows. (docs/FORMATS.md.)
use Rattle.std.specs.Prelude.{ℕ, ◌+◌, ◌-◌, Bool, false, ◌&&◌, ◌==◌, max, min, nat_le, if◌then◌else◌, codes, List, [], ◌∷◌, ◌++◌, take}
use Rattle.std.specs.Cmp.Lexicographic.{pointwise}
use Rattle.std.specs.List.{common_prefix_len}
use Rattle.std.specs.Str.{bytes_eq}
use Rattle.rb_raftlog.specs.declared.entry.Body.{Body}
use Rattle.rb_raftlog.specs.declared.entry.Body.TheVariants as bodies
use Rattle.rb_raftlog.specs.declared.entry.Entry.{Entry}
use Rattle.rb_vocab.specs.declared.change.Word.{Word}
use Rattle.rb_raftlog.specs.Log.{LogValue, last, entries_after}
use Rattle.rb_texts.specs.Entries.{transition_text, letter}
use Rattle.rb_view.specs.ItemRows.{entry_row}
use Rattle.rb_view.specs.Rows.{Row, row, number}

-- ---- which entries are the same

abbrev pub same_word : Word → Word → Bool
same_word a b = bytes_eq (letter a.kind) (letter b.kind) && a.id == b.id

abbrev pub same_body : Body → Body → Bool
same_body (bodies.Payload a) (bodies.Payload b) = bytes_eq a b
same_body (bodies.Payload a) (bodies.Change transition words) = false
same_body (bodies.Change transition words) (bodies.Payload b) = false
same_body (bodies.Change transition words) (bodies.Change other others) = bytes_eq (transition_text transition) (transition_text other) && pointwise same_word words others

abbrev pub same_entry : Entry → Entry → Bool
same_entry a b = a.term == b.term && same_body a.body b.body

-- ---- rows

-- the entries of a log past an index; none where that is below its base
abbrev pub held_after : LogValue → ℕ → List Entry
held_after v index = if nat_le v.base index then entries_after v index else []

-- how many entries are the same, one by one from the first on
abbrev pub common : List Entry → List Entry → ℕ
common olds news = common_prefix_len same_entry olds news

-- up to which index the entries of a log are those of before
abbrev pub stays : LogValue → LogValue → ℕ
stays old new = new.base + common (held_after old new.base) new.entries

-- a log's base, and up to which index its entries are those of before
abbrev pub log_row : ℕ → LogValue → ℕ → Row
log_row id v index = row (codes "log") (number id ∷ number v.base_term ∷ number v.base ∷ number index ∷ [])

-- entries, the first of which has this index
abbrev pub entry_rows : ℕ → List Entry → List Row
entry_rows index [] = []
entry_rows index (e ∷ es) = entry_row (codes "entry") index e ∷ entry_rows (index + 1) es

-- a log whose entries up to an index are those of before
abbrev pub log_from : ℕ → LogValue → ℕ → List Row
log_from id v index = log_row id v index ∷ entry_rows (index + 1) (entries_after v index)

-- nothing was dropped and nothing came, where the entries up to an index are those of before
abbrev pub is_same_to : LogValue → LogValue → ℕ → Bool
is_same_to old new kept = old.base == new.base && old.base_term == new.base_term && kept == last old && kept == last new

abbrev pub is_same_log : LogValue → LogValue → Bool
is_same_log old new = is_same_to old new (stays old new)

-- what is not as it was
abbrev pub log_changes_to : ℕ → LogValue → LogValue → ℕ → List Row
log_changes_to id old new kept = if is_same_to old new kept then [] else log_from id new kept

abbrev pub log_changes : ℕ → LogValue → LogValue → List Row
log_changes id old new = log_changes_to id old new (stays old new)

-- ---- where the first entries are known to be the same

-- the index, or the nearest one that the log has
abbrev pub nearest : LogValue → ℕ → ℕ
nearest v index = max v.base (min index (last v))

-- up to which index the entries past an index are those of before
abbrev pub same_up_to : LogValue → LogValue → ℕ → ℕ
same_up_to old new index = index + common (held_after old index) (entries_after new index)

-- up to which index the entries are those of before, where those up to an index are known to be
abbrev pub stays_since : LogValue → LogValue → ℕ → ℕ
stays_since old new known = same_up_to old new (nearest new known)

-- ---- as it is read

-- the entries of a log with this base: those of before up to an index, and these after them
abbrev pub entries_read : LogValue → ℕ → ℕ → List Entry → List Entry
entries_read old base index es = take (index - base) (held_after old base) ++ es
