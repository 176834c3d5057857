-- The line of a reason: why a node does nothing with a message, or refuses a vote, which entries of its log give way, or what its restart loses.
-- (This project's texts.)
use Rattle.std.specs.Prelude.{ℕ, zero, suc, ◌-◌, ◌==◌, length, Bool, nat_le, if◌then◌else◌, codes, decimal, List, [], ◌∷◌, ◌++◌, Option, Some, None}
use Rattle.rb_vocab.specs.declared.level.Level.{Level}
use Rattle.rb_vocab.specs.declared.level.Level.TheVariants as levels
use Rattle.rb_vocab.specs.Levels.{rank}
use Rattle.rb_message.specs.declared.event.Event.{Event}
use Rattle.rb_message.specs.declared.event.EventKind.{EventKind}
use Rattle.rb_message.specs.declared.event.EventKind.TheVariants as events
use Rattle.rb_message.specs.declared.event.WhyIgnored.{WhyIgnored}
use Rattle.rb_message.specs.declared.event.WhyIgnored.TheVariants as ignored
use Rattle.rb_message.specs.declared.event.WhyRefused.{WhyRefused}
use Rattle.rb_message.specs.declared.event.WhyRefused.TheVariants as refused
use Rattle.rb_message.specs.declared.hard_state.HardState.{HardState}
use Rattle.rb_message.specs.declared.unsaved.Unsaved.{Unsaved}
use Rattle.rb_raftlog.specs.declared.entry.Entry.{Entry}
use Rattle.rb_script.specs.Lines.{Line}
use Rattle.rb_texts.specs.declared.reason.Reason.{Reason}
use Rattle.rb_texts.specs.declared.reason.Reason.TheVariants.{Ignored, Refused, GivesWay, Lost}
use Rattle.rb_texts.specs.declared.reason.TheConstants.{MAX_ENTRIES}
use Rattle.rb_texts.specs.Entries.{place_text, entry_text}
use Rattle.rb_texts.specs.Items.{PlainItem, event}
use Rattle.rb_texts.specs.Lost.{loses, lost_text}
use Rattle.rb_texts.specs.States.{role_text}

-- ---- which item has one

abbrev pub lost_reason : HardState → Unsaved → Option Reason
lost_reason saved unsaved = if loses saved unsaved then Some (Lost saved unsaved) else None

abbrev pub kind_reason : EventKind → Option Reason
kind_reason (events.Ignored type from why) = Some (Ignored why)
kind_reason (events.RefusedVote type from why) = Some (Refused why)
kind_reason (events.RemovedEntries last es) = Some (GivesWay last es)
kind_reason (events.Restarted saved base last unsaved) = lost_reason saved unsaved
kind_reason what = None

abbrev pub event_reason : Event → Option Reason
event_reason e = kind_reason e.kind

abbrev pub reason_of : PlainItem → Option Reason
reason_of (event e) = event_reason e
reason_of item = None

-- ---- its text

abbrev pub earlier_text : ℕ → ℕ → List ℕ
earlier_text term own = codes "its term " ++ decimal term ++ codes " is earlier than " ++ decimal own

-- an answer of a node that is done with, since more is known of the node by now
abbrev pub outdated_text : ℕ → ℕ → List ℕ → ℕ → List ℕ
outdated_text from index known at = decimal from ++ codes " refused " ++ decimal index ++ known ++ decimal at ++ codes " by now"

unfoldable pub why_ignored_text : WhyIgnored → List ℕ
why_ignored_text (ignored.EarlierTerm term own) = earlier_text term own
why_ignored_text (ignored.HearsLeader lead) = codes "leader " ++ decimal lead ++ codes " was heard of within an election timeout"
why_ignored_text (ignored.NoUse role) = codes "a " ++ role_text role ++ codes " has no use for it"
why_ignored_text ignored.NoLeader = codes "no leader is known to pass it on to"
why_ignored_text (ignored.NoView from) = codes "the leader has no view of " ++ decimal from
why_ignored_text (ignored.HoldsMore from index matched) = outdated_text from index (codes ", and holds ") matched
why_ignored_text (ignored.ProbesElsewhere from index probed) = outdated_text from index (codes ", and is probed at ") probed
why_ignored_text (ignored.AwaitsSnapshot from) = codes "a snapshot is on its way to " ++ decimal from
why_ignored_text (ignored.NotAVoter target) = decimal target ++ codes " is no voter"
why_ignored_text (ignored.LeadsAlready target) = decimal target ++ codes " leads already"
why_ignored_text (ignored.IsUnderWay target) = codes "the lead is on its way to " ++ decimal target

-- what is said of a log, and the term and index that it ends with
abbrev pub end_text : List ℕ → ℕ → ℕ → List ℕ
end_text before term index = before ++ place_text term index

abbrev pub older_text : ℕ → ℕ → ℕ → ℕ → List ℕ
older_text term index own_term own_index = end_text (codes "its log ends at ") term index ++ end_text (codes ", the voter's at ") own_term own_index

unfoldable pub why_refused_text : WhyRefused → List ℕ
why_refused_text (refused.EarlierTerm term own) = earlier_text term own
why_refused_text (refused.Voted term vote) = codes "the vote of term " ++ decimal term ++ codes " is given to " ++ decimal vote
why_refused_text (refused.KnowsLeader term lead) = decimal lead ++ codes " leads term " ++ decimal term
why_refused_text (refused.OlderLog term index own_term own_index) = older_text term index own_term own_index

-- the first few of the entries, the last of which has an index: one text before the first, and a comma before each other
abbrev pub few_entries_text : ℕ → List ℕ → ℕ → List Entry → List ℕ
few_entries_text zero before last es = []
few_entries_text (suc n) before last [] = []
few_entries_text (suc n) before last (e ∷ es) = before ++ entry_text (last - length es) e ++ few_entries_text n (codes ", ") last es

-- how many more there are
abbrev pub more_text : ℕ → List ℕ
more_text n = if n == 0 then [] else codes " and " ++ decimal n ++ codes " more"

abbrev pub give_way_text : ℕ → List ℕ
give_way_text n = if n == 1 then codes " gives way" else codes " give way"

abbrev pub gives_way_text : ℕ → List Entry → List ℕ
gives_way_text last es =
    few_entries_text MAX_ENTRIES (codes "  ") last es ++ more_text (length es - MAX_ENTRIES) ++ give_way_text (length es)

unfoldable pub reason_text : Reason → List ℕ
reason_text (Ignored why) = codes "  ignored: " ++ why_ignored_text why
reason_text (Refused why) = codes "  refused: " ++ why_refused_text why
reason_text (GivesWay last es) = gives_way_text last es
reason_text (Lost saved unsaved) = codes "  lost: " ++ lost_text saved unsaved

-- the number of its bytes before what it says: blanks, and whether the message is ignored, a vote refused or something lost
abbrev pub reason_front : Reason → ℕ
reason_front (Ignored why) = 11
reason_front (Refused why) = 11
reason_front (GivesWay last es) = 2
reason_front (Lost saved unsaved) = 8

-- ---- its line

-- at each level but none, as messages that move are
abbrev pub shows_reasons : Level → Bool
shows_reasons level = nat_le (rank level) (rank levels.Fatal)

abbrev pub reason_line : Level → Reason → List Line
reason_line level reason = if shows_reasons level then reason_text reason ∷ [] else []
