-- Everything that is shown of an event: its level, its row's name, its words and values, and the few words that mark it in a picture. Lines, rows and
-- pictures are made of it. (The events are this project's, and so are their levels and texts.)
use Rattle.std.specs.Prelude.{ℕ, Bool, true, false, ◌==◌, if◌then◌else◌, codes, drop, List, [], ◌∷◌, map}
use Rattle.rb_vocab.specs.declared.level.Level.{Level}
use Rattle.rb_vocab.specs.declared.level.Level.TheVariants as levels
use Rattle.rb_vocab.specs.declared.message_type.MessageType.{MessageType}
use Rattle.rb_vocab.specs.MessageTypes.{type_text}
use Rattle.rb_message.specs.declared.event.Event.{Event}
use Rattle.rb_message.specs.declared.event.EventKind.{EventKind}
use Rattle.rb_message.specs.declared.event.EventKind.TheVariants as events
use Rattle.rb_message.specs.declared.event.WhyNoCampaign.{WhyNoCampaign}
use Rattle.rb_message.specs.declared.event.WhyNoCampaign.TheVariants as no_campaign
use Rattle.rb_message.specs.declared.event.WhyReplaced.{WhyReplaced}
use Rattle.rb_message.specs.declared.event.WhyReplaced.TheVariants as replaced
use Rattle.rb_message.specs.declared.hard_state.HardState.{HardState}
use Rattle.rb_message.specs.declared.role.Role.{Role}
use Rattle.rb_message.specs.declared.role.Role.TheVariants as roles
use Rattle.rb_tracker.specs.declared.changes.ChangeFault.{ChangeFault}
use Rattle.rb_tracker.specs.declared.changes.ChangeFault.TheVariants as faults
use Rattle.rb_tracker.specs.declared.config.Config.{Config}
use Rattle.rb_tracker.specs.declared.votes.VoteResult.{VoteResult}
use Rattle.rb_tracker.specs.declared.votes.VoteResult.TheVariants as votes
use Rattle.rb_texts.specs.declared.form.EventPiece.{EventPiece}
use Rattle.rb_texts.specs.declared.form.EventPiece.TheVariants as given
use Rattle.rb_texts.specs.declared.form.EventPieces.{EventPieces}
use Rattle.rb_texts.specs.declared.form.EventShown.{EventShown}
use Rattle.rb_texts.specs.declared.form.EventShown.TheVariants as shown
use Rattle.rb_texts.specs.declared.form.EventMark.{EventMark}
use Rattle.rb_texts.specs.declared.form.EventMark.TheVariants as mark
use Rattle.rb_texts.specs.declared.form.EventForm.{EventForm}
use Rattle.rb_texts.specs.States.{role_text}

-- ---- the names of values

abbrev pub no_campaign_text : WhyNoCampaign → List ℕ
no_campaign_text no_campaign.Leader = codes "leader"
no_campaign_text no_campaign.NotAVoter = codes "not a voter"
no_campaign_text no_campaign.SnapshotPending = codes "snapshot pending"
no_campaign_text no_campaign.ChangePending = codes "change pending"
no_campaign_text no_campaign.TermLimit = codes "term limit"

abbrev pub replaced_text : WhyReplaced → List ℕ
replaced_text replaced.Unapplied = codes "unapplied"
replaced_text replaced.Joint = codes "joint"
replaced_text replaced.NotJoint = codes "not joint"

abbrev pub votes_text : VoteResult → List ℕ
votes_text votes.Won = codes "won"
votes_text votes.Lost = codes "lost"
votes_text votes.Pending = codes "pending"

abbrev pub fault_text : ChangeFault → List ℕ
fault_text faults.AlreadyJoint = codes "AlreadyJoint"
fault_text faults.NotJoint = codes "NotJoint"
fault_text faults.SimpleWhileJoint = codes "SimpleWhileJoint"
fault_text faults.MoreThanOneVoter = codes "MoreThanOneVoter"
fault_text faults.NoVoters = codes "NoVoters"
fault_text faults.OutOfMemory = codes "OutOfMemory"

-- a type without the `Msg` before it
abbrev pub short_text : MessageType → List ℕ
short_text type = drop 3 (type_text type)

-- ---- forms

-- words, and the value after them: none, a number, a term and an index, two indexes, a name, an answer, or a configuration
pub data PlainPiece : Type 0 where
  words : (before : List ℕ) → PlainPiece
  numbered : (before : List ℕ) → ℕ → PlainPiece
  placed : (before : List ℕ) → (term index : ℕ) → PlainPiece
  ranged : (before : List ℕ) → (first last : ℕ) → PlainPiece
  named : (before name : List ℕ) → PlainPiece
  answered : (before : List ℕ) → (granted : Bool) → PlainPiece
  configured : (before : List ℕ) → Config → PlainPiece

abbrev pub plain_piece : EventPiece → PlainPiece
plain_piece (given.Words before) = words before.now
plain_piece (given.Number before n) = numbered before.now n
plain_piece (given.Place before term index) = placed before.now term index
plain_piece (given.Range before first last) = ranged before.now first last
plain_piece (given.Name before name) = named before.now name.now
plain_piece (given.Answer before granted) = answered before.now granted
plain_piece (given.Config before c) = configured before.now c.now

abbrev pub plain_pieces : EventPieces → List PlainPiece
plain_pieces ps = map plain_piece ps.list

-- up to four pieces; the others are blank
abbrev pub blank : PlainPiece
blank = words []

abbrev pub none : List PlainPiece
none = blank ∷ blank ∷ blank ∷ blank ∷ []

abbrev pub one : PlainPiece → List PlainPiece
one piece = piece ∷ blank ∷ blank ∷ blank ∷ []

abbrev pub two : PlainPiece → PlainPiece → List PlainPiece
two first second = first ∷ second ∷ blank ∷ blank ∷ []

pub record PlainForm : Type 0 where
  pub level : Level
  pub shown : EventShown
  -- the name of its row
  pub name : List ℕ
  pub pieces : List PlainPiece
  pub mark : EventMark
  -- its words in a picture
  pub few : List PlainPiece

abbrev pub plain_form : EventForm → PlainForm
plain_form f = record {
  level = f.level;
  shown = f.shown;
  name = f.name.now;
  pieces = plain_pieces f.pieces;
  mark = f.mark;
  few = plain_pieces f.few;
}

abbrev pub is_hidden : EventShown → Bool
is_hidden shown.Nothing = true
is_hidden shown.Node = false
is_hidden shown.Values = false

-- one with a line, a row and a mark
abbrev pub told : Level → List ℕ → List PlainPiece → EventMark → List PlainPiece → PlainForm
told level name pieces mark few = record { level = level; shown = shown.Values; name = name; pieces = pieces; mark = mark; few = few }

-- one that reports trouble, which a picture shows in the same words
abbrev pub trouble : Level → List ℕ → List PlainPiece → PlainForm
trouble level name pieces = told level name pieces mark.Trouble pieces

-- a warning without a value
abbrev pub warned : List ℕ → List ℕ → PlainForm
warned name text = trouble levels.Warn name (one (words text))

-- one that has neither line nor row, since an answer or a reason shows it
abbrev pub hidden : List PlainPiece → PlainForm
hidden pieces = record { level = levels.Debug; shown = shown.Nothing; name = []; pieces = pieces; mark = mark.Quiet; few = none }

-- ---- the form of each event

-- the row has the node alone
abbrev pub started : ℕ → ℕ → Config → PlainForm
started term index c =
    record (told levels.Info (codes "started") (two (placed (codes " started at ") term index) (configured (codes " with ") c)) mark.Quiet none) { shown = shown.Node }

-- what it begins with: the saved hard state, and its log from the base to the last index
abbrev pub restarted : HardState → ℕ → ℕ → PlainForm
restarted saved base last =
    told levels.Info (codes "restarted")
    (numbered (codes " restarted at term=") saved.term ∷ numbered (codes " vote=") saved.vote ∷ ranged (codes " log=") base last ∷ numbered (codes " commit=") saved.commit ∷ [])
    mark.Restart (one (numbered (codes "restarted, t") saved.term))

abbrev pub role_mark : Role → EventMark
role_mark roles.Leader = mark.Leads
role_mark _ = mark.Role

abbrev pub role_words : Role → List ℕ
role_words roles.Leader = codes "leader, t"
role_words roles.Candidate = codes "candidate, t"
role_words roles.Precandidate = codes "precandidate, t"
role_words roles.Follower = codes "follower, t"

abbrev pub became : Role → ℕ → PlainForm
became role term =
    told levels.Info (codes "became") (two (named (codes " became ") (role_text role)) (numbered (codes " at term ") term)) (role_mark role)
    (one (numbered (role_words role) term))

-- an answer to a campaign, and the result so far
abbrev pub few_of_vote : Bool → Bool → ℕ → VoteResult → List PlainPiece
few_of_vote own granted from result =
    if own then one (named (codes "own vote: ") (votes_text result))
    else two (numbered (if granted then codes "vote of " else codes "no vote of ") from) (named (codes ": ") (votes_text result))

abbrev pub vote_counted : Bool → MessageType → Bool → ℕ → VoteResult → PlainForm
vote_counted own type granted from result =
    told levels.Info (codes "vote")
    (named (codes " has ") (type_text type) ∷ answered (codes " ") granted ∷ numbered (codes " from ") from ∷ named (codes ": ") (votes_text result) ∷ [])
    mark.Quiet (few_of_vote own granted from result)

-- what a node did with a message that it doesn't use
abbrev pub turned_down : List ℕ → MessageType → ℕ → List PlainPiece
turned_down verb type from = two (named verb (type_text type)) (numbered (codes " from ") from)

abbrev pub cannot_campaign : WhyNoCampaign → PlainForm
cannot_campaign why = trouble levels.Warn (codes "cannot-campaign") (one (named (codes " can't campaign: ") (no_campaign_text why)))

abbrev pub ignored : MessageType → ℕ → PlainForm
ignored type from =
    told levels.Debug (codes "ignored") (turned_down (codes " ignored ") type from) mark.Quiet (one (named (codes "ignores ") (short_text type)))

abbrev pub dropped_proposal : PlainForm
dropped_proposal =
    told levels.Warn (codes "dropped-proposal") (one (words (codes " dropped a proposal"))) mark.Trouble (one (words (codes " proposal dropped")))

abbrev pub conflict : ℕ → ℕ → PlainForm
conflict index commit =
    trouble levels.Error (codes "conflict") (two (numbered (codes " conflict at ") index) (numbered (codes ", commit ") commit))

abbrev pub replaced_change : ℕ → WhyReplaced → PlainForm
replaced_change index why =
    told levels.Info (codes "replaced-change") (two (numbered (codes " replaced change at ") index) (named (codes " by an empty entry: ") (replaced_text why)))
    mark.Trouble (two (numbered (codes " change ") index) (named (codes " made empty: ") (replaced_text why)))

abbrev pub switched : Config → PlainForm
switched c = told levels.Info (codes "switched") (one (configured (codes " switched to ") c)) mark.Config (one (configured [] c))

abbrev pub refused_change : ℕ → ChangeFault → PlainForm
refused_change index fault =
    told levels.Error (codes "refused-change") (two (numbered (codes " refused change at ") index) (named (codes ": ") (fault_text fault)))
    mark.Trouble (two (numbered (codes " change ") index) (named (codes " refused: ") (fault_text fault)))

abbrev pub restored : ℕ → ℕ → PlainForm
restored term index =
    told levels.Info (codes "restored") (one (placed (codes " restored snapshot ") term index)) mark.Snapshot (one (placed (codes "snapshot ") term index))

abbrev pub transfer_starts : ℕ → PlainForm
transfer_starts to =
    told levels.Info (codes "transfer-starts") (one (numbered (codes " starts transfer to ") to)) mark.Change (one (numbered (codes "hands over to ") to))

abbrev pub transfer_ends : ℕ → PlainForm
transfer_ends to =
    told levels.Info (codes "transfer-ends") (one (numbered (codes " ends transfer to ") to)) mark.Quiet
    (two (numbered (codes "hand-over to ") to) (words (codes " ends")))

-- by the node's id and what happened there
unfoldable pub kind_form : ℕ → EventKind → PlainForm
kind_form id (events.Started term index c) = started term index c
kind_form id (events.Restarted saved base last lost) = restarted saved base last
kind_form id (events.Became role term) = became role term
kind_form id (events.CannotCampaign why) = cannot_campaign why
kind_form id (events.VoteCounted type granted from result) = vote_counted (from == id) type granted from result
kind_form id (events.Ignored type from why) = ignored type from
kind_form id (events.RefusedVote type from why) = hidden (turned_down (codes " refused ") type from)
kind_form id events.DroppedProposal = dropped_proposal
kind_form id (events.RemovedEntries last es) = hidden (one (numbered (codes " removed entries up to ") last))
kind_form id (events.Conflict index commit) = conflict index commit
kind_form id events.AppendsNothing = warned (codes "appends-nothing") (codes " appends nothing: index limit")
kind_form id (events.ReplacedChange index why) = replaced_change index why
kind_form id (events.Switched c) = switched c
kind_form id (events.RefusedChange index fault) = refused_change index fault
kind_form id (events.Restored term index) = restored term index
kind_form id (events.TransferStarts to) = transfer_starts to
kind_form id (events.TransferEnds to) = transfer_ends to
kind_form id events.LostQuorum = warned (codes "lost-quorum") (codes " lost its quorum")

abbrev pub event_form : Event → PlainForm
event_form e = kind_form e.id e.kind
