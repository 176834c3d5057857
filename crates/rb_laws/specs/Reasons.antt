-- What the line of a reason has to say: on what it rests. (The words are this project's.)
use Rattle.std.specs.Prelude.{ℕ, zero, suc, ◌≡◌, List, ◌++◌, codes, decimal, Option, Some}
use Rattle.rb_message.specs.declared.event.EventKind.{EventKind}
use Rattle.rb_message.specs.declared.event.EventKind.TheVariants as events
use Rattle.rb_message.specs.declared.event.WhyIgnored.{WhyIgnored}
use Rattle.rb_message.specs.declared.event.WhyIgnored.TheVariants as ignored
use Rattle.rb_message.specs.declared.event.WhyRefused.{WhyRefused}
use Rattle.rb_message.specs.declared.event.WhyRefused.TheVariants as refused
use Rattle.rb_texts.specs.declared.reason.Reason.{Reason}
use Rattle.rb_texts.specs.declared.reason.Reason.TheVariants as reasons
use Rattle.rb_texts.specs.Entries.{place_text}
use Rattle.rb_texts.specs.States.{role_text}
use Rattle.rb_laws.specs.Lines.{Has, Names}

-- the reason of what happened: of a message that is ignored, a vote that is refused, and entries that give way
abbrev pub HasReason : EventKind → Option Reason → Type 0
HasReason (events.Ignored type from why) reason = reason ≡ Some (reasons.Ignored why)
HasReason (events.RefusedVote type from why) reason = reason ≡ Some (reasons.Refused why)
HasReason (events.RemovedEntries last es) reason = reason ≡ Some (reasons.GivesWay last es)
HasReason _ reason = Unit {0}

-- an answer is done with, since more is known by now
abbrev pub SaysWhatIsKnown : List ℕ → ℕ → ℕ → List ℕ → ℕ → Type 0
SaysWhatIsKnown l from index known at = Has l (decimal from ++ codes " refused " ++ decimal index) × Names l known at

abbrev pub SaysIgnored : List ℕ → WhyIgnored → Type 0
SaysIgnored l (ignored.EarlierTerm term own) = Names l (codes "its term ") term × Names l (codes " is earlier than ") own
SaysIgnored l (ignored.HearsLeader lead) = Names l (codes "leader ") lead
SaysIgnored l (ignored.NoUse role) = Has l (codes "a " ++ role_text role ++ codes " has no use for it")
SaysIgnored l ignored.NoLeader = Has l (codes "no leader is known")
SaysIgnored l (ignored.NoView from) = Names l (codes "no view of ") from
SaysIgnored l (ignored.HoldsMore from index matched) = SaysWhatIsKnown l from index (codes ", and holds ") matched
SaysIgnored l (ignored.ProbesElsewhere from index probed) = SaysWhatIsKnown l from index (codes ", and is probed at ") probed
SaysIgnored l (ignored.AwaitsSnapshot from) = Names l (codes "a snapshot is on its way to ") from
SaysIgnored l (ignored.NotAVoter target) = Has l (decimal target ++ codes " is no voter")
SaysIgnored l (ignored.LeadsAlready target) = Has l (decimal target ++ codes " leads already")
SaysIgnored l (ignored.IsUnderWay target) = Names l (codes "the lead is on its way to ") target

abbrev pub SaysRefused : List ℕ → WhyRefused → Type 0
SaysRefused l (refused.EarlierTerm term own) = Names l (codes "its term ") term × Names l (codes " is earlier than ") own
SaysRefused l (refused.Voted term vote) = Names l (codes "the vote of term ") term × Names l (codes " is given to ") vote
SaysRefused l (refused.KnowsLeader term lead) = Has l (decimal lead ++ codes " leads term " ++ decimal term)
SaysRefused l (refused.OlderLog term index own_term own_index) =
    Has l (codes "its log ends at " ++ place_text term index) × Has l (codes ", the voter's at " ++ place_text own_term own_index)

-- one entry gives way, and more give way
abbrev pub SaysThatTheyGiveWay : List ℕ → ℕ → Type 0
SaysThatTheyGiveWay l zero = Unit {0}
SaysThatTheyGiveWay l (suc zero) = Has l (codes " gives way")
SaysThatTheyGiveWay l (suc (suc n)) = Has l (codes " give way")
