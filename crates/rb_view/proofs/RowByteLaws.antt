-- The rows of steps are of bytes.
use Rattle.std.proofs.Common.{◌≡◌, ◌∙◌, ℕ, zero, suc, ◌+◌, Bool, true, false, List, [], ◌∷◌, ◌++◌, Option, Some, None, drop, length, refl, ap, sym, arith, codes}
use Rattle.std.specs.Prelude.{◌&&◌, ◌==◌, not, nat_le, if◌then◌else◌}
use Rattle.std.specs.List.{flat_map, list_all}
use Rattle.std.proofs.lemmas.Bool.{and_from, and_parts, leb-true, lt-ltb}
use Rattle.std.proofs.lemmas.List.Folds.{list_all-append, list_all-map}
use Rattle.rb_vocab.specs.declared.directive_error.DirectiveError.{DirectiveError}
use Rattle.rb_vocab.specs.MessageTypes.{type_text}
use Rattle.rb_message.specs.declared.event.Event.{Event}
use Rattle.rb_message.specs.declared.event.EventKind.{EventKind}
use Rattle.rb_message.specs.declared.event.EventKind.TheVariants as events
use Rattle.rb_message.specs.declared.kind.MessageKind.{MessageKind}
use Rattle.rb_message.specs.declared.kind.MessageKind.TheVariants as kinds
use Rattle.rb_message.specs.declared.message.Message.{Message}
use Rattle.rb_message.specs.Messages.{type_of}
use Rattle.rb_raftlog.specs.declared.entry.Entry.{Entry}
use Rattle.rb_raftlog.specs.Content.{content_end}
use Rattle.rb_raftlog.specs.Log.{LogValue, entries_after}
use Rattle.rb_tracker.specs.Progresses.{PlainProgress}
use Rattle.rb_tracker.specs.Trackers.{has_view}
use Rattle.rb_node.specs.Node.{PlainNode}
use Rattle.rb_script.specs.Lines.{Line}
use Rattle.rb_script.specs.Marks.{is_blank, is_rule}
use Rattle.rb_texts.specs.declared.item.Verb.{Verb}
use Rattle.rb_texts.specs.declared.item.Verb.TheVariants as verbs
use Rattle.rb_texts.specs.declared.reason.Reason.{Reason}
use Rattle.rb_texts.specs.Reasons.{reason_of, reason_text}
use Rattle.rb_texts.specs.Configs.{config_text}
use Rattle.rb_texts.specs.Entries.{body_text}
use Rattle.rb_texts.specs.Errors.{error_text}
use Rattle.rb_texts.specs.EventForms.{kind_form, fault_text, no_campaign_text, replaced_text, votes_text}
use Rattle.rb_texts.specs.Items.{PlainItem}
use Rattle.rb_texts.specs.Items as items
use Rattle.rb_texts.specs.Quoted.{is_printable}
use Rattle.rb_texts.specs.Shapes.{is_one_line, is_solid}
use Rattle.rb_texts.specs.States.{role_text, progress_state_text}
use Rattle.rb_texts.proofs.KindLaws.{flat_of, joined_of, wider}
use Rattle.rb_texts.specs.Messages.{fields_of}
use Rattle.rb_texts.proofs.OneLineLaws.{body_one_line, config_one_line, error_one_line, fault_one_line, no_campaign_one_line, progress_state_one_line, replaced_one_line, role_one_line, type_one_line, votes_one_line}
use Rattle.rb_machine.specs.Outcome.{is_output}
use Rattle.rb_replay.specs.Report.{same_lines}
use Rattle.rb_view.specs.EventRows.{event_rows, form_rows}
use Rattle.rb_view.specs.ItemRows.{entry_row, error_row, item_rows}
use Rattle.rb_view.specs.Json.{cell_has_bytes, has_bytes, is_byte}
use Rattle.rb_view.specs.Kept.{line_row, line_rows, texts_of}
use Rattle.rb_view.specs.MessageRows.{message_row, said, verb_name}
use Rattle.rb_view.specs.Rows.{Row, number, row, next_text}
use Rattle.rb_view.specs.Logs.{entry_rows, is_same_log, log_changes, log_from, stays}
use Rattle.rb_view.specs.NewRows.{has_text, new_row, new_rows}
use Rattle.rb_view.specs.States.{added_rows, changed_rows, config_row, gone_of, gone_rows, no_view_row, node_row, standing, state_rows, view_row, view_rows}
use Rattle.rb_report.specs.Diffs.{Stretch, parts_within}
use Rattle.rb_view.specs.Steps.{count_rows, mismatch_rows, script_rows, stretch_rows}
use Rattle.rb_view.specs.Values.{ShowBytes}
use Rattle.rb_view.specs.Watching.{reason_row, reason_rows, shown_rows}
use Rattle.rb_report.proofs.StretchLaws.{expected_in}
use Rattle.rb_report.proofs.DiffLaws.{parts-expected}
use Rattle.rb_view.proofs.LineByteLaws.{of_bytes}
use Rattle.rb_view.proofs.ReasonLaws.{reason_one_line}

-- ---- texts

printable_byte : (b : ℕ) → is_printable b ≡ true → is_byte b ≡ true
printable_byte b h = lt-ltb b 256 (omega (arith, leb-true b 126 (and_parts (nat_le 32 b) (nat_le b 126) h).1))

line_bytes : (line : List ℕ) → is_one_line line ≡ true → of_bytes line ≡ true
line_bytes line h = wider is_printable is_byte printable_byte line h

dropped_bytes : (k : ℕ) (text : List ℕ) → of_bytes text ≡ true → of_bytes (drop k text) ≡ true
dropped_bytes zero text h = h
dropped_bytes (suc k) [] h = refl
dropped_bytes (suc k) (b ∷ text) h = dropped_bytes k text (and_parts (is_byte b) (of_bytes text) h).1

verb_bytes : (x : Verb) → of_bytes (verb_name x) ≡ true
verb_bytes verbs.Deliver = refl
verb_bytes verbs.Drop = refl
verb_bytes verbs.Queue = refl
verb_bytes verbs.NoRoomFor = refl

-- one text, where the others are constants
alone : (t : List ℕ) → of_bytes t ≡ true → (of_bytes t && true) ≡ true
alone t h = and_from (of_bytes t) true h refl

-- one that stands in a line
told : (t : List ℕ) → is_one_line t ≡ true → (of_bytes t && true) ≡ true
told t h = alone t (line_bytes t h)

-- ---- what happened

-- a row alone, with one text
told_row : (t : List ℕ) → is_one_line t ≡ true → ((of_bytes t && true) && true) ≡ true
told_row t h = and_from (of_bytes t && true) true (told t h) refl

kind_bytes : (id : ℕ) (what : EventKind) → list_all has_bytes (form_rows id (kind_form id what)) ≡ true
unfolding kind_form
kind_bytes id (events.Became role term) = told_row (role_text role) (role_one_line role)
kind_bytes id (events.CannotCampaign why) = told_row (no_campaign_text why) (no_campaign_one_line why)
kind_bytes id (events.VoteCounted type granted from result) =
    and_from (of_bytes (type_text type) && (of_bytes (votes_text result) && true)) true
    (and_from (of_bytes (type_text type)) (of_bytes (votes_text result) && true) (line_bytes (type_text type) (type_one_line type)) (told (votes_text result) (votes_one_line result))) refl
kind_bytes id (events.Ignored type from why) = told_row (type_text type) (type_one_line type)
kind_bytes id (events.ReplacedChange index why) = told_row (replaced_text why) (replaced_one_line why)
kind_bytes id (events.Switched config) = told_row (config_text config) (config_one_line config)
kind_bytes id (events.RefusedChange index fault) = told_row (fault_text fault) (fault_one_line fault)
kind_bytes id what = refl

event_bytes : (e : Event) → list_all has_bytes (event_rows e) ≡ true
unfolding event_rows
event_bytes e = kind_bytes e.id e.kind

said_bytes : (k : MessageKind) → list_all cell_has_bytes (said k) ≡ true
unfolding said fields_of
said_bytes (kinds.Proposal body) = told (body_text body) (body_one_line body)
said_bytes _ = refl

message_bytes : (name : List ℕ) (m : Message) → of_bytes name ≡ true → has_bytes (message_row name m) ≡ true
message_bytes name m h =
    let type = type_of m.kind in
    and_from (of_bytes name) (of_bytes (type_text type) && list_all cell_has_bytes (said m.kind)) h
    (and_from (of_bytes (type_text type)) (list_all cell_has_bytes (said m.kind)) (line_bytes (type_text type) (type_one_line type)) (said_bytes m.kind))

error_bytes : (e : DirectiveError) → of_bytes (drop 7 (error_text e)) ≡ true
error_bytes e = dropped_bytes 7 (error_text e) (line_bytes (error_text e) (error_one_line e))

-- a row alone
one_row : (r : Row) → has_bytes r ≡ true → list_all has_bytes (r ∷ []) ≡ true
one_row r h = and_from (has_bytes r) true h refl

item_bytes : (item : PlainItem) → list_all has_bytes (item_rows item) ≡ true
unfolding item_rows
item_bytes (items.save index e) = one_row (entry_row (codes "save") index e) (told (body_text e.body) (body_one_line e.body))
item_bytes (items.apply index e) = one_row (entry_row (codes "apply") index e) (told (body_text e.body) (body_one_line e.body))
item_bytes (items.send message) = one_row (message_row (codes "send") message) (message_bytes (codes "send") message refl)
item_bytes (items.moved verb message) = one_row (message_row (verb_name verb) message) (message_bytes (verb_name verb) message (verb_bytes verb))
item_bytes (items.event e) = event_bytes e
item_bytes (items.error e) = one_row (error_row e) (alone (drop 7 (error_text e)) (error_bytes e))
item_bytes _ = refl

pub all_both : (a b : List Row) → list_all has_bytes a ≡ true → list_all has_bytes b ≡ true → list_all has_bytes (a ++ b) ≡ true
all_both a b p q = joined_of has_bytes a b p q

reason_bytes : (reason : Option Reason) → list_all has_bytes (reason_rows reason) ≡ true
reason_bytes None = refl
reason_bytes (Some reason) =
    let line = line_bytes (reason_text reason) (reason_one_line reason) in
    one_row (reason_row reason) (alone (drop 2 (reason_text reason)) (dropped_bytes 2 (reason_text reason) line))

shown_bytes : (item : PlainItem) → list_all has_bytes (shown_rows item) ≡ true
shown_bytes item = all_both (item_rows item) (reason_rows (reason_of item)) (item_bytes item) (reason_bytes (reason_of item))

pub items_bytes : (is : List PlainItem) → list_all has_bytes (flat_map shown_rows is) ≡ true
items_bytes is = flat_of has_bytes shown_rows shown_bytes is

-- ---- where a directive stands, and what it printed

solid_bytes : (ls : List Line) → list_all is_solid ls ≡ true → list_all of_bytes ls ≡ true
solid_bytes ls h = wider is_solid of_bytes (λ line p. line_bytes line (and_parts (not (is_blank line) && not (is_rule line)) (is_one_line line) p).1) ls h

output_bytes : (ls : List Line) → is_output ls ≡ true → list_all of_bytes ls ≡ true
unfolding is_output
output_bytes [] h = refl
output_bytes (line ∷ ls) h = solid_bytes (line ∷ ls) h

lines_bytes : (name : List ℕ) (ls : List Line) → of_bytes name ≡ true → list_all of_bytes ls ≡ true → list_all has_bytes (line_rows name ls) ≡ true
lines_bytes name ls named h =
    list_all-map has_bytes (line_row name) ls
    ∙ wider of_bytes (λ line. has_bytes (line_row name line)) (λ line p. and_from (of_bytes name) (of_bytes line && true) named (alone line p)) ls h

-- rows that stand only where a test fails
if_rows : (t : Bool) (rs : List Row) → list_all has_bytes rs ≡ true → list_all has_bytes (if t then [] else rs) ≡ true
if_rows true rs h = refl
if_rows false rs h = h

count_bytes : (name : List ℕ) (n : ℕ) → of_bytes name ≡ true → list_all has_bytes (count_rows name n) ≡ true
count_bytes name n named = if_rows (n == 0) (row name (number n ∷ []) ∷ []) (one_row (row name (number n ∷ [])) (and_from (of_bytes name) true named refl))

-- the expected lines of stretches are of bytes where all that they come from are
stretches_bytes : (ss : List Stretch) → list_all of_bytes (flat_map expected_in ss) ≡ true → list_all has_bytes (flat_map stretch_rows ss) ≡ true
stretches_bytes [] h = refl
stretches_bytes (s ∷ ss) h =
    let here = both_parts (expected_in s) (flat_map expected_in ss) h in
    let own = both_parts s.same s.expected here.0 in
    all_both (stretch_rows s) (flat_map stretch_rows ss)
    (all_both (count_rows (codes "same") (length s.same)) (line_rows (codes "expected") s.expected ++ count_rows (codes "actual") (length s.output)) (count_bytes (codes "same") (length s.same) refl)
    (all_both (line_rows (codes "expected") s.expected) (count_rows (codes "actual") (length s.output)) (lines_bytes (codes "expected") s.expected refl own.1) (count_bytes (codes "actual") (length s.output) refl)))
    (stretches_bytes ss here.1)
  where
    both_parts : (a b : List Line) → list_all of_bytes (a ++ b) ≡ true → (list_all of_bytes a ≡ true) × (list_all of_bytes b ≡ true)
    both_parts a b h = and_parts (list_all of_bytes a) (list_all of_bytes b) (sym (list_all-append of_bytes a b) ∙ h)

pub script_bytes : (left line : ℕ) (expected output : List Line) → list_all of_bytes expected ≡ true → is_output output ≡ true → list_all has_bytes (script_rows left line expected output) ≡ true
script_bytes left line expected output h printed =
    let ss = parts_within left expected output in
    all_both (line_rows (codes "output") output) (mismatch_rows left expected output) (lines_bytes (codes "output") output refl (output_bytes output printed))
    (if_rows (same_lines expected output) (row (codes "mismatch") [] ∷ flat_map stretch_rows ss) (stretches_bytes ss (ap (list_all of_bytes) (parts-expected left expected output) ∙ h)))

-- ---- what changed

views_bytes : (id : ℕ) (vs : List (ℕ × PlainProgress)) → list_all has_bytes (view_rows id vs) ≡ true
views_bytes id [] = refl
views_bytes id (v ∷ vs) =
    and_from (has_bytes (view_row id v)) (list_all has_bytes (view_rows id vs)) (told (progress_state_text v.1.state) (progress_state_one_line v.1.state)) (views_bytes id vs)

standing_bytes : (n : PlainNode) → of_bytes (content_end n.content) ≡ true → list_all has_bytes (standing n) ≡ true
standing_bytes n h =
    and_from (has_bytes (node_row n)) (list_all has_bytes (config_row n ∷ view_rows n.id n.tracker.views))
    (and_from (of_bytes (role_text n.role)) (of_bytes (content_end n.content) && true) (line_bytes (role_text n.role) (role_one_line n.role)) (alone (content_end n.content) h))
    (and_from (has_bytes (config_row n)) (list_all has_bytes (view_rows n.id n.tracker.views)) (told (config_text n.tracker.config) (config_one_line n.tracker.config)) (views_bytes n.id n.tracker.views))

new_bytes : (olds : List Line) (rs : List Row) → list_all has_bytes rs ≡ true → list_all has_bytes (flat_map (new_row olds) rs) ≡ true
new_bytes olds [] h = refl
new_bytes olds (r ∷ rs) h =
    let p = and_parts (has_bytes r) (list_all has_bytes rs) h in
    all_both (new_row olds r) (flat_map (new_row olds) rs) (if_rows (has_text olds (next_text r)) (r ∷ []) (one_row r p.0)) (new_bytes olds rs p.1)

gone_bytes : (id : ℕ) (vs news : List (ℕ × PlainProgress)) → list_all has_bytes (gone_rows id vs news) ≡ true
gone_bytes id vs news =
    flat_of has_bytes (λ (v : ℕ × PlainProgress). gone_of id news v.0) (λ v. if_rows (has_view news v.0) (no_view_row id v.0 ∷ []) refl) vs

entries_bytes : (index : ℕ) (es : List Entry) → list_all has_bytes (entry_rows index es) ≡ true
entries_bytes index [] = refl
entries_bytes index (e ∷ es) =
    and_from (has_bytes (entry_row (codes "entry") index e)) (list_all has_bytes (entry_rows (index + 1) es)) (told (body_text e.body) (body_one_line e.body)) (entries_bytes (index + 1) es)

log_bytes : (id : ℕ) (v : LogValue) (index : ℕ) → list_all has_bytes (log_from id v index) ≡ true
log_bytes id v index = entries_bytes (index + 1) (entries_after v index)

pub added_bytes : (n : PlainNode) → of_bytes (content_end n.content) ≡ true → list_all has_bytes (added_rows n) ≡ true
added_bytes n h = all_both (standing n) (log_from n.id n.log n.log.base) (standing_bytes n h) (log_bytes n.id n.log n.log.base)

pub changed_bytes : (old new : PlainNode) → of_bytes (content_end new.content) ≡ true → list_all has_bytes (changed_rows old new) ≡ true
changed_bytes old new h =
    let gone = gone_rows new.id old.tracker.views new.tracker.views in
    let log = log_changes new.id old.log new.log in
    all_both (new_rows (standing old) (standing new)) (gone ++ log) (new_bytes (texts_of (standing old)) (standing new) (standing_bytes new h))
    (all_both gone log (gone_bytes new.id old.tracker.views new.tracker.views)
    (if_rows (is_same_log old.log new.log) (log_from new.id new.log (stays old.log new.log)) (log_bytes new.id new.log (stays old.log new.log))))

pub changes_bytes : (olds news : List PlainNode) → ShowBytes news → list_all has_bytes (state_rows olds news) ≡ true
changes_bytes [] [] h = refl
changes_bytes (old ∷ olds) [] h = refl
changes_bytes [] (n ∷ ns) h = all_both (added_rows n) (state_rows [] ns) (added_bytes n h.0) (changes_bytes [] ns h.1)
changes_bytes (old ∷ olds) (n ∷ ns) h = all_both (changed_rows old n) (state_rows olds ns) (changed_bytes old n h.0) (changes_bytes olds ns h.1)
