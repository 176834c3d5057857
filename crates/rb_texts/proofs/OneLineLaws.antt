-- Each text is in one line: each of its bytes is from 32 to 126.
use Rattle.std.proofs.Common.{◌≡◌, ℕ, ◌+◌, ◌%◌, ◌/◌, ◌<◌, ◌≤◌, Bool, true, false, List, [], ◌∷◌, ◌++◌, take, decimal, codes, refl, arith}
use Rattle.std.specs.Prelude.{not, ◌&&◌, ◌==◌, nat_le, nat_lt, if◌then◌else◌}
use Rattle.std.specs.List.{flat_map, list_all}
use Rattle.std.proofs.lemmas.Bool.{and_from, and_parts, le-leb}
use Rattle.std.proofs.lemmas.List.Folds.{list_all-append}
use Rattle.rb_vocab.specs.declared.directive_error.DirectiveError.{DirectiveError}
use Rattle.rb_vocab.specs.declared.directive_error.DirectiveError.TheVariants as errors
use Rattle.rb_vocab.specs.declared.level.Level.{Level}
use Rattle.rb_vocab.specs.declared.level.Level.TheVariants as levels
use Rattle.rb_vocab.specs.declared.message_type.MessageType.{MessageType}
use Rattle.rb_vocab.specs.declared.message_type.MessageType.TheVariants as types
use Rattle.rb_vocab.specs.MessageTypes.{type_text}
use Rattle.rb_message.specs.declared.event.Event.{Event}
use Rattle.rb_message.specs.declared.event.EventKind.{EventKind}
use Rattle.rb_message.specs.declared.event.EventKind.TheVariants as events
use Rattle.rb_message.specs.declared.event.WhyNoCampaign.{WhyNoCampaign}
use Rattle.rb_message.specs.declared.event.WhyNoCampaign.TheVariants as no_campaign
use Rattle.rb_message.specs.declared.event.WhyReplaced.{WhyReplaced}
use Rattle.rb_message.specs.declared.event.WhyReplaced.TheVariants as replaced
use Rattle.rb_message.specs.declared.hard_state.HardState.{HardState}
use Rattle.rb_message.specs.declared.kind.MessageKind.{MessageKind}
use Rattle.rb_message.specs.declared.kind.MessageKind.TheVariants as kinds
use Rattle.rb_message.specs.declared.message.Message.{Message}
use Rattle.rb_message.specs.declared.role.Role.{Role}
use Rattle.rb_message.specs.declared.role.Role.TheVariants as roles
use Rattle.rb_message.specs.Messages.{has_term}
use Rattle.rb_raftlog.specs.declared.entry.Body.{Body}
use Rattle.rb_raftlog.specs.declared.entry.Body.TheVariants as bodies
use Rattle.rb_raftlog.specs.declared.entry.Entry.{Entry}
use Rattle.rb_vocab.specs.declared.change.Transition.{Transition}
use Rattle.rb_vocab.specs.declared.change.Transition.TheVariants as transitions
use Rattle.rb_vocab.specs.declared.change.Word.{Word}
use Rattle.rb_vocab.specs.declared.change.WordKind.{WordKind}
use Rattle.rb_vocab.specs.declared.change.WordKind.TheVariants as words
use Rattle.rb_tracker.specs.declared.changes.ChangeFault.{ChangeFault}
use Rattle.rb_tracker.specs.declared.changes.ChangeFault.TheVariants as faults
use Rattle.rb_tracker.specs.declared.config.Config.{Config}
use Rattle.rb_tracker.specs.declared.progress.ProgressState.{ProgressState}
use Rattle.rb_tracker.specs.declared.progress.ProgressState.TheVariants as states
use Rattle.rb_tracker.specs.declared.votes.VoteResult.{VoteResult}
use Rattle.rb_tracker.specs.declared.votes.VoteResult.TheVariants as votes
use Rattle.rb_tracker.specs.Progresses.{PlainProgress}
use Rattle.rb_texts.specs.declared.item.LogLine.{LogLine}
use Rattle.rb_texts.specs.declared.item.Verb.{Verb}
use Rattle.rb_texts.specs.declared.item.Verb.TheVariants as verbs
use Rattle.rb_texts.specs.Configs.{ids_text, part_text, config_text}
use Rattle.rb_texts.specs.Entries.{place_text, transition_text, letter, change_word, body_text, entry_text}
use Rattle.rb_texts.specs.Errors.{error_text, WORD_SHOWN}
use Rattle.rb_texts.specs.EventForms.{no_campaign_text, replaced_text, votes_text, fault_text, kind_form, event_form}
use Rattle.rb_texts.specs.Events.{level_text, event_piece_text, event_text}
use Rattle.rb_texts.specs.Items.{PlainNodeLine}
use Rattle.rb_texts.specs.Messages.{PlainField, named, place, answer, mark, refused, body, field_text, fields_of, fields_text, answer_text, kind_text, term_text, message_text, verb_text}
use Rattle.rb_texts.specs.Quoted.{is_printable, is_plain, numbered, escaped, quoted}
use Rattle.rb_texts.specs.Shapes.{is_one_line}
use Rattle.rb_texts.specs.States.{role_text, node_text, hard_state_text, log_text, progress_state_text, under_way_text, mark_text, progress_text}
use Rattle.rb_texts.proofs.KindLaws.{decimal_of, flat_of, joined_of}

-- the first of three tests that all pass
first_of_three : (a b c : Bool) → (a && b && c) ≡ true → a ≡ true
first_of_three true b c h = refl
first_of_three false b c h = h

-- a byte from 32 to 126 is printable
printable : (b : ℕ) → 32 ≤ b → b ≤ 126 → is_printable b ≡ true
printable b low high = and_from (nat_le 32 b) (nat_le b 126) (le-leb 32 b low) (le-leb b 126 high)

-- two texts in one line make one line
pub joined : (a b : List ℕ) → is_one_line a ≡ true → is_one_line b ≡ true → is_one_line (a ++ b) ≡ true
joined a b p q = joined_of is_printable a b p q

-- ---- numbers

-- a figure is printable
figure : (d : ℕ) → d < 10 → is_printable (48 + d) ≡ true
figure d lt = printable (48 + d) (omega arith) (omega arith)

-- a number is in one line
pub decimal_one_line : (n : ℕ) → is_one_line (decimal n) ≡ true
decimal_one_line n = decimal_of is_printable figure n

-- so are ids
ids_one_line : (ids : List ℕ) → is_one_line (ids_text ids) ≡ true
unfolding ids_text
ids_one_line [] = refl
ids_one_line (id ∷ []) = decimal_one_line id
ids_one_line (id ∷ other ∷ ids) = joined (decimal id) (44 ∷ ids_text (other ∷ ids)) (decimal_one_line id) (ids_one_line (other ∷ ids))

-- ---- quoted bytes

-- a hexadecimal digit, by the test that tells a figure from a letter
hex_one_line : (t : Bool) (n : ℕ) → n < 16 → is_printable (if t then n + 48 else n + 87) ≡ true
hex_one_line true n lt = printable (n + 48) (omega arith) (omega arith)
hex_one_line false n lt = printable (n + 87) (omega arith) (omega arith)

-- a byte between quotes, by the test whether it stands for itself
escaped_one_line : (t : Bool) (b : ℕ) → (t ≡ true → is_printable b ≡ true) → is_one_line (if t then b ∷ [] else numbered b) ≡ true
escaped_one_line true b h = and_from (is_printable b) true (h refl) refl
escaped_one_line false b h = and_from _ _ (hex_one_line (nat_lt (b / 16 % 16) 10) (b / 16 % 16) (omega arith)) (and_from _ true (hex_one_line (nat_lt (b % 16) 10) (b % 16) (omega arith)) refl)

-- all bytes between quotes are in one line
all_escaped_one_line : (bytes : List ℕ) → is_one_line (flat_map escaped bytes) ≡ true
all_escaped_one_line bytes = flat_of is_printable escaped (λ b. escaped_one_line (is_plain b) b (first_of_three (is_printable b) (not (b == 34)) (not (b == 92)))) bytes

-- so are they with their quotes
quoted_one_line : (bytes : List ℕ) → is_one_line (quoted bytes) ≡ true
unfolding quoted
quoted_one_line bytes = joined (34 ∷ flat_map escaped bytes) (34 ∷ []) (all_escaped_one_line bytes) refl

-- ---- texts

-- a part of a configuration is in one line
part_one_line : (name ids : List ℕ) → is_one_line name ≡ true → is_one_line (part_text name ids) ≡ true
part_one_line name [] h = refl
part_one_line name (id ∷ ids) h = joined (name ++ ids_text (id ∷ ids)) (codes ")") (joined name (ids_text (id ∷ ids)) h (ids_one_line (id ∷ ids))) refl

-- a configuration is in one line
pub config_one_line : (c : Config) → is_one_line (config_text c) ≡ true
unfolding config_text
config_one_line c =
    let voters = codes "voters=(" ++ ids_text c.incoming ++ codes ")" in
    let outgoing = part_text (codes " outgoing=(") c.outgoing in
    let learners = part_text (codes " learners=(") c.learners in
    let next = part_text (codes " next=(") c.next in
    let four = joined (voters ++ outgoing ++ learners) next
    (joined (voters ++ outgoing) learners
    (joined voters outgoing (joined (codes "voters=(" ++ ids_text c.incoming) (codes ")") (ids_one_line c.incoming) refl) (part_one_line (codes " outgoing=(") c.outgoing refl))
    (part_one_line (codes " learners=(") c.learners refl)) (part_one_line (codes " next=(") c.next refl) in
    joined (voters ++ outgoing ++ learners ++ next) (if c.auto then codes " auto" else []) four
    (elim c.auto as (λ b. is_one_line (if b then codes " auto" else []) ≡ true) [ true ↦ refl | false ↦ refl ])

-- a text that stands only where it is to be shown
pub shown_one_line : (shown : Bool) (text : List ℕ) → is_one_line text ≡ true → is_one_line (if shown then text else []) ≡ true
shown_one_line true text h = h
shown_one_line false text h = refl

-- a role is in one line
pub role_one_line : (x : Role) → is_one_line (role_text x) ≡ true
role_one_line roles.Follower = refl
role_one_line x = refl

-- a node is in one line
pub node_one_line : (n : PlainNodeLine) → is_one_line (node_text n) ≡ true
unfolding node_text
node_one_line n = simp (list_all-append, decimal_one_line, role_one_line, quoted_one_line)

-- a hard state is in one line
pub hard_state_one_line : (h : HardState) → is_one_line (hard_state_text h) ≡ true
unfolding hard_state_text
hard_state_one_line h = simp (list_all-append, decimal_one_line)

-- a log's numbers are in one line
pub log_one_line : (l : LogLine) → is_one_line (log_text l) ≡ true
unfolding log_text
log_one_line l = simp (list_all-append, decimal_one_line)

-- the state of a view is in one line
pub progress_state_one_line : (x : ProgressState) → is_one_line (progress_state_text x) ≡ true
progress_state_one_line states.Probe = refl
progress_state_one_line x = refl

-- what it has in its state alone is
under_way_one_line : (state : ProgressState) (waiting : Bool) (pending : ℕ) → is_one_line (under_way_text state waiting pending) ≡ true
under_way_one_line states.Probe waiting pending = shown_one_line waiting (codes " waiting") refl
under_way_one_line states.Replicate waiting pending = refl
under_way_one_line states.Snapshot waiting pending = decimal_one_line pending

-- its mark is
mark_one_line : (active : Bool) → is_one_line (mark_text active) ≡ true
mark_one_line true = refl
mark_one_line false = refl

-- so a view is in one line
pub progress_one_line : (id : ℕ) (p : PlainProgress) → is_one_line (progress_text id p) ≡ true
unfolding progress_text
progress_one_line id p = simp (list_all-append, decimal_one_line, progress_state_one_line, under_way_one_line, mark_one_line)

-- a place is in one line
pub place_one_line : (term index : ℕ) → is_one_line (place_text term index) ≡ true
place_one_line term index = simp (list_all-append, decimal_one_line)

-- a transition is in one line
transition_one_line : (x : Transition) → is_one_line (transition_text x) ≡ true
transition_one_line transitions.Auto = refl
transition_one_line x = refl

-- so is a word's letter
letter_one_line : (x : WordKind) → is_one_line (letter x) ≡ true
letter_one_line words.Voter = refl
letter_one_line x = refl

-- a word of a change is in one line
change_word_one_line : (w : Word) → is_one_line (change_word w) ≡ true
change_word_one_line w = simp (list_all-append, decimal_one_line, letter_one_line)

-- so are its words
change_words_one_line : (ws : List Word) → is_one_line (flat_map change_word ws) ≡ true
change_words_one_line ws = flat_of is_printable change_word change_word_one_line ws

-- what an entry brings is in one line
pub body_one_line : (body : Body) → is_one_line (body_text body) ≡ true
unfolding body_text
body_one_line (bodies.Payload bytes) = quoted_one_line bytes
body_one_line (bodies.Change transition words) = simp (list_all-append, transition_one_line, change_words_one_line)

-- an entry is in one line
pub entry_one_line : (index : ℕ) (e : Entry) → is_one_line (entry_text index e) ≡ true
unfolding entry_text
entry_one_line index e = simp (list_all-append, decimal_one_line, body_one_line)

-- the type of a message is in one line
pub type_one_line : (x : MessageType) → is_one_line (type_text x) ≡ true
type_one_line types.Vote = refl
type_one_line type = refl

-- an answer is in one line
answer_one_line : (granted : Bool) → is_one_line (answer_text granted) ≡ true
answer_one_line true = refl
answer_one_line false = refl

-- so is a field whose name is
has_name_in_line : PlainField → Bool
has_name_in_line (named name n) = is_one_line name
has_name_in_line (place name term index) = is_one_line name
has_name_in_line (mark text applies) = is_one_line text
has_name_in_line f = true

field_one_line : (f : PlainField) → has_name_in_line f ≡ true → is_one_line (field_text f) ≡ true
unfolding has_name_in_line
field_one_line (named name n) h = joined name (decimal n) h (decimal_one_line n)
field_one_line (place name term index) h = joined name (place_text term index) h (place_one_line term index)
field_one_line (answer granted) h = answer_one_line granted
field_one_line (mark text applies) h = shown_one_line applies text h
field_one_line (refused is) h = refl
field_one_line (body b) h = body_one_line b

fields_one_line : (fs : List PlainField) → list_all has_name_in_line fs ≡ true → is_one_line (fields_text fs) ≡ true
fields_one_line [] h = refl
fields_one_line (f ∷ fs) h =
    let parts = and_parts (has_name_in_line f) (list_all has_name_in_line fs) h in
    joined (field_text f) (fields_text fs) (field_one_line f parts.0) (fields_one_line fs parts.1)

-- the fields of each kind have such names
names_in_line : (kind : MessageKind) → list_all has_name_in_line (fields_of kind) ≡ true
unfolding fields_of has_name_in_line
names_in_line (kinds.Vote term index transfer) = refl
names_in_line kind = refl

-- what a message says is in one line
kind_one_line : (kind : MessageKind) → is_one_line (kind_text kind) ≡ true
unfolding kind_text
kind_one_line kind = fields_one_line (fields_of kind) (names_in_line kind)

-- a message's term is in one line
term_one_line : (m : Message) → is_one_line (term_text m) ≡ true
term_one_line m = shown_one_line (has_term m.kind) (codes " term=" ++ decimal m.term) (decimal_one_line m.term)

-- a message is in one line
pub message_one_line : (m : Message) → is_one_line (message_text m) ≡ true
unfolding message_text
message_one_line m = simp (list_all-append, decimal_one_line, type_one_line, term_one_line, kind_one_line)

-- how a message moves is in one line
pub verb_one_line : (x : Verb) → is_one_line (verb_text x) ≡ true
verb_one_line verbs.Deliver = refl
verb_one_line x = refl

-- a level is in one line
level_one_line : (x : Level) → is_one_line (level_text x) ≡ true
level_one_line levels.Debug = refl
level_one_line x = refl

-- why a node can't campaign is in one line
pub no_campaign_one_line : (x : WhyNoCampaign) → is_one_line (no_campaign_text x) ≡ true
no_campaign_one_line no_campaign.Leader = refl
no_campaign_one_line x = refl

-- why a change is replaced is in one line
pub replaced_one_line : (x : WhyReplaced) → is_one_line (replaced_text x) ≡ true
replaced_one_line replaced.Unapplied = refl
replaced_one_line x = refl

-- what votes come to is in one line
pub votes_one_line : (x : VoteResult) → is_one_line (votes_text x) ≡ true
votes_one_line votes.Won = refl
votes_one_line x = refl

-- the name of a fault is in one line
pub fault_one_line : (x : ChangeFault) → is_one_line (fault_text x) ≡ true
fault_one_line faults.AlreadyJoint = refl
fault_one_line x = refl

-- what is said of what happened
ruleset one_lines = (list_all-append, decimal_one_line, config_one_line, role_one_line, no_campaign_one_line, type_one_line, answer_one_line, votes_one_line, replaced_one_line, fault_one_line)

-- what happened is in one line
happening_one_line : (id : ℕ) (what : EventKind) → is_one_line (flat_map event_piece_text (kind_form id what).pieces) ≡ true
unfolding kind_form
happening_one_line id (events.Started term index c) = simp one_lines
happening_one_line id what = simp one_lines

-- an event is in one line
pub event_one_line : (e : Event) → is_one_line (event_text e) ≡ true
unfolding event_text
event_one_line e =
    let said = flat_map event_piece_text (event_form e).pieces in
    joined (level_text (event_form e).level) (decimal e.id ++ said) (level_one_line (event_form e).level) (joined (decimal e.id) said (decimal_one_line e.id) (happening_one_line e.id e.kind))

-- an error is in one line
pub error_one_line : (e : DirectiveError) → is_one_line (error_text e) ≡ true
unfolding error_text
error_one_line (errors.UnknownDirective name) = quoted_one_line (take WORD_SHOWN name)
error_one_line (errors.UnsupportedOption key) = quoted_one_line (take WORD_SHOWN key)
error_one_line (errors.BadArgument word) = quoted_one_line (take WORD_SHOWN word)
error_one_line (errors.MissingArgument name) = quoted_one_line (take WORD_SHOWN name)
error_one_line (errors.NoSuchNode id) = decimal_one_line id
error_one_line (errors.BadChange word) = quoted_one_line (take WORD_SHOWN word)
error_one_line e = refl
