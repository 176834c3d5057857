-- No line of an item is blank or ----, and each is one line.
use Rattle.std.proofs.Common.{◌≡◌, ℕ, Bool, true, false, List, [], ◌∷◌, ◌++◌, decimal, codes, refl, ap, sym, ◌∙◌, inl, inr}
use Rattle.std.specs.Prelude.{not, ◌&&◌, ◌||◌, ◌==◌, if◌then◌else◌}
use Rattle.std.specs.List.{flat_map, list_all, list_any}
use Rattle.std.proofs.lemmas.Bool.{and_from, cases_Bool, false≢true}
use Rattle.std.proofs.Math.Bool.{or-true}
use Rattle.std.proofs.lemmas.List.Folds.{list_any-append}
use Rattle.std.proofs.lemmas.Slice.Eq.{bytes_eq-Decides}
use Rattle.rb_vocab.specs.declared.directive_error.DirectiveError.{DirectiveError}
use Rattle.rb_vocab.specs.declared.directive_error.DirectiveError.TheVariants as errors
use Rattle.rb_vocab.specs.declared.level.Level.{Level}
use Rattle.rb_vocab.specs.declared.level.Level.TheVariants as levels
use Rattle.rb_message.specs.declared.event.Event.{Event}
use Rattle.rb_raftlog.specs.declared.entry.Entry.{Entry}
use Rattle.rb_tracker.specs.Progresses.{PlainProgress}
use Rattle.rb_script.specs.Marks.{is_space, is_blank, rule, is_rule}
use Rattle.rb_texts.specs.declared.item.Verb.{Verb}
use Rattle.rb_texts.specs.declared.item.Verb.TheVariants as verbs
use Rattle.rb_texts.specs.Configs.{config_text}
use Rattle.rb_texts.specs.Entries.{entry_text}
use Rattle.rb_texts.specs.Errors.{error_text}
use Rattle.rb_texts.specs.EventForms.{event_form}
use Rattle.rb_texts.specs.Events.{level_text, event_piece_text, event_text}
use Rattle.rb_texts.specs.Items.{PlainNodeLine, PlainItem, nothing_else, ready, hard_state, snapshot, save, apply, send, nothing_ready, moved, no_messages, stopped, raft_state, raft_log, entry, config, progress, event, error}
use Rattle.rb_texts.specs.Messages.{message_text, verb_text}
use Rattle.rb_texts.specs.Shapes.{is_one_line, is_solid}
use Rattle.rb_texts.specs.States.{node_text, hard_state_text, log_text, progress_text}
use Rattle.rb_texts.specs.Texts.{item_text, is_shown, line_of, unsaved_text}
use Rattle.rb_texts.proofs.OneLineLaws.{joined, decimal_one_line, shown_one_line, place_one_line, config_one_line, entry_one_line, message_one_line, verb_one_line, node_one_line, hard_state_one_line, log_one_line, progress_one_line, event_one_line, error_one_line}

-- a byte that neither a blank line nor the line ---- has
abbrev pub is_ink : ℕ → Bool
is_ink b = not (is_space b) && not (b == 45)

-- where the first byte is a space, the ink is in the rest
no_ink : (s d r : Bool) → s ≡ true → (not s && not d || r) ≡ true → r ≡ true
no_ink true d r p h = h
no_ink false d r p h = absurd cc

-- a blank line has no ink
not_blank : (line : List ℕ) → list_any is_ink line ≡ true → is_blank line ≡ false
not_blank [] h = absurd cc
not_blank (b ∷ line) h = elim (cases_Bool (is_space b)) [
  | inl space ↦ ap (λ (t : Bool). t && is_blank line) space ∙ not_blank line (no_ink (is_space b) (b == 45) (list_any is_ink line) space h)
  | inr other ↦ ap (λ (t : Bool). t && is_blank line) other
]

-- nor has the line ----
not_rule : (line : List ℕ) → list_any is_ink line ≡ true → is_rule line ≡ false
unfolding is_rule
not_rule line h = elim (cases_Bool (is_rule line)) [
  | inl same ↦ let e : line ≡ rule = (bytes_eq-Decides line rule).0 same in absurd (false≢true (ap (list_any is_ink) (sym e) ∙ h))
  | inr other ↦ other
]

-- a text in one line that has ink is solid
solid : (line : List ℕ) → list_any is_ink line ≡ true → is_one_line line ≡ true → is_solid line ≡ true
solid line ink one =
    and_from (not (is_blank line) && not (is_rule line)) (is_one_line line)
    (and_from (not (is_blank line)) (not (is_rule line)) (ap not (not_blank line ink)) (ap not (not_rule line ink))) one

-- ---- items

-- a node's text has letters of its own
node_ink : (n : PlainNodeLine) → list_any is_ink (node_text n) ≡ true
unfolding node_text
node_ink n = simp (list_any-append, or-true)

-- so has a view's
progress_ink : (id : ℕ) (p : PlainProgress) → list_any is_ink (progress_text id p) ≡ true
unfolding progress_text
progress_ink id p = simp (list_any-append, or-true)

-- the slash of an entry is ink
entry_ink : (index : ℕ) (e : Entry) → list_any is_ink (entry_text index e) ≡ true
unfolding entry_text
entry_ink index e = simp (list_any-append, or-true)

-- a verb has letters
verb_ink : (verb : Verb) (rest : List ℕ) → list_any is_ink (verb_text verb ++ rest) ≡ true
verb_ink verbs.Deliver rest = refl
verb_ink verb rest = refl

-- so has a level
level_ink : (level : Level) (rest : List ℕ) → list_any is_ink (level_text level ++ rest) ≡ true
level_ink levels.Debug rest = refl
level_ink level rest = refl

-- the level of an event is ink
event_ink : (e : Event) → list_any is_ink (event_text e) ≡ true
unfolding event_text
event_ink e = level_ink (event_form e).level (decimal e.id ++ flat_map event_piece_text (event_form e).pieces)

-- an error's first letter is ink
error_ink : (e : DirectiveError) → list_any is_ink (error_text e) ≡ true
unfolding error_text
error_ink (errors.UnknownDirective name) = refl
error_ink e = refl

-- an entry of a log, with its mark, has ink and is in one line
log_entry_ink : (index : ℕ) (e : Entry) (mark : List ℕ) → list_any is_ink (entry_text index e ++ mark) ≡ true
log_entry_ink index e mark = simp (list_any-append, entry_ink)

log_entry_one_line : (index : ℕ) (e : Entry) (unsaved : Bool) → is_one_line (entry_text index e ++ unsaved_text unsaved) ≡ true
log_entry_one_line index e unsaved = joined (entry_text index e) (unsaved_text unsaved) (entry_one_line index e) (shown_one_line unsaved (codes " unsaved") refl)

-- the text of each item has ink
ink : (item : PlainItem) → list_any is_ink (item_text item) ≡ true
unfolding item_text config_text hard_state_text log_text
ink nothing_else = refl
ink (ready id) = simp (list_any-append, or-true)
ink (nothing_ready id) = simp (list_any-append, or-true)
ink (moved verb message) = verb_ink verb (message_text message)
ink (raft_state node) = node_ink node
ink (entry index e unsaved) = log_entry_ink index e (unsaved_text unsaved)
ink (progress id view) = progress_ink id view
ink (event e) = event_ink e
ink (error e) = error_ink e
ink item = refl

-- and is in one line
one_line : (item : PlainItem) → is_one_line (item_text item) ≡ true
unfolding item_text
one_line nothing_else = refl
one_line (ready id) = joined (decimal id) (codes " ready") (decimal_one_line id) refl
one_line (hard_state hard) = hard_state_one_line hard
one_line (snapshot term index) = place_one_line term index
one_line (save index e) = entry_one_line index e
one_line (apply index e) = entry_one_line index e
one_line (send message) = message_one_line message
one_line (nothing_ready id) = joined (decimal id) (codes " has nothing ready") (decimal_one_line id) refl
one_line (moved verb message) = joined (verb_text verb) (message_text message) (verb_one_line verb) (message_one_line message)
one_line no_messages = refl
one_line (stopped rounds) = joined (decimal rounds) (codes " rounds") (decimal_one_line rounds) refl
one_line (raft_state node) = node_one_line node
one_line (raft_log log) = log_one_line log
one_line (entry index e unsaved) = log_entry_one_line index e unsaved
one_line (config c) = config_one_line c
one_line (progress id view) = progress_one_line id view
one_line (event e) = event_one_line e
one_line (error e) = error_one_line e

-- so it is solid
pub is_solid-item_text : (item : PlainItem) → is_solid (item_text item) ≡ true
is_solid-item_text item = solid (item_text item) (ink item) (one_line item)

-- so is each line that a level shows
pub all_solid : (level : Level) (item : PlainItem) → list_all is_solid (line_of level item) ≡ true
all_solid level item =
    elim (is_shown level item) as (λ b. list_all is_solid (if b then item_text item ∷ [] else []) ≡ true)
    [ true ↦ and_from (is_solid (item_text item)) true (is_solid-item_text item) refl | false ↦ refl ]
