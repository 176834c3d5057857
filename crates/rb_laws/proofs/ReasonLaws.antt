-- Each reason's line says on what it rests
use Rattle.std.proofs.Common.{◌≡◌, ℕ, ◌-◌, Bool, false, ◌==◌, if◌then◌else◌, List, [], ◌∷◌, ◌++◌, length, codes, decimal, refl, sym, subst, arith}
use Rattle.std.proofs.lemmas.Bool.{ne_eqb}
use Rattle.rb_raftlog.specs.declared.entry.Entry.{Entry}
use Rattle.rb_message.specs.declared.event.EventKind.{EventKind}
use Rattle.rb_message.specs.declared.event.EventKind.TheVariants as events
use Rattle.rb_message.specs.declared.event.WhyIgnored.{WhyIgnored}
use Rattle.rb_message.specs.declared.event.WhyIgnored.TheVariants as ignored
use Rattle.rb_message.specs.declared.event.WhyRefused.{WhyRefused}
use Rattle.rb_message.specs.declared.event.WhyRefused.TheVariants as refused
use Rattle.rb_texts.specs.Entries.{place_text}
use Rattle.rb_texts.specs.Reasons.{kind_reason, why_ignored_text, why_refused_text, reason_text, few_entries_text, more_text, give_way_text}
use Rattle.rb_texts.specs.States.{role_text}
use Rattle.rb_texts.specs.declared.reason.Reason.TheVariants as reasons
use Rattle.rb_laws.specs.Lines.{Has}
use Rattle.rb_laws.specs.Reasons.{HasReason, SaysWhatIsKnown, SaysIgnored, SaysRefused, SaysThatTheyGiveWay}
use Rattle.rb_laws.proofs.LineLaws.{whole, past, more, more_two, end, last}

pub reason_there : (k : EventKind) → HasReason k (kind_reason k)
reason_there (events.Ignored type from why) = refl
reason_there (events.RefusedVote type from why) = refl
reason_there (events.RemovedEntries last es) = refl
reason_there _ = tt

-- ---- two values by their words

two_named : (a b c d : List ℕ) → Has (((a ++ b) ++ c) ++ d) (a ++ b) × Has (((a ++ b) ++ c) ++ d) (c ++ d)
two_named a b c d = (more_two c d (whole (a ++ b)), last (a ++ b) c d)

-- what is known by now: ((((from ++ refused) ++ index) ++ known) ++ at) ++ by now
known_now : (from index : ℕ) (known : List ℕ) (at : ℕ) → SaysWhatIsKnown (decimal from ++ codes " refused " ++ decimal index ++ known ++ decimal at ++ codes " by now") from index known at
known_now from index known at =
    let front = decimal from ++ codes " refused " ++ decimal index in
    (more (codes " by now") (more_two known (decimal at) (whole front)), more (codes " by now") (last front known (decimal at)))

pub ignored_said : (why : WhyIgnored) → SaysIgnored (why_ignored_text why) why
unfolding why_ignored_text
ignored_said (ignored.EarlierTerm term own) = two_named (codes "its term ") (decimal term) (codes " is earlier than ") (decimal own)
ignored_said (ignored.HearsLeader lead) = more (codes " was heard of within an election timeout") (whole (codes "leader " ++ decimal lead))
ignored_said (ignored.NoUse role) = whole (codes "a " ++ role_text role ++ codes " has no use for it")
ignored_said ignored.NoLeader = more (codes " to pass it on to") (whole (codes "no leader is known"))
ignored_said (ignored.NoView from) = last (codes "the leader has ") (codes "no view of ") (decimal from)
ignored_said (ignored.HoldsMore from index matched) = known_now from index (codes ", and holds ") matched
ignored_said (ignored.ProbesElsewhere from index probed) = known_now from index (codes ", and is probed at ") probed
ignored_said (ignored.AwaitsSnapshot from) = whole (codes "a snapshot is on its way to " ++ decimal from)
ignored_said (ignored.NotAVoter target) = whole (decimal target ++ codes " is no voter")
ignored_said (ignored.LeadsAlready target) = whole (decimal target ++ codes " leads already")
ignored_said (ignored.IsUnderWay target) = whole (codes "the lead is on its way to " ++ decimal target)

pub ignored_told : (why : WhyIgnored) → Has (reason_text (reasons.Ignored why)) (codes "ignored: " ++ why_ignored_text why)
unfolding reason_text
ignored_told why = past (codes "  ") (whole (codes "ignored: " ++ why_ignored_text why))

pub refused_said : (why : WhyRefused) → SaysRefused (why_refused_text why) why
unfolding why_refused_text
refused_said (refused.EarlierTerm term own) = two_named (codes "its term ") (decimal term) (codes " is earlier than ") (decimal own)
refused_said (refused.Voted term vote) = two_named (codes "the vote of term ") (decimal term) (codes " is given to ") (decimal vote)
refused_said (refused.KnowsLeader term lead) = whole (decimal lead ++ codes " leads term " ++ decimal term)
refused_said (refused.OlderLog term index own_term own_index) =
    let a = codes "its log ends at " ++ place_text term index in
    let b = codes ", the voter's at " ++ place_text own_term own_index in
    (more b (whole a), end a b)

pub refused_told : (why : WhyRefused) → Has (reason_text (reasons.Refused why)) (codes "refused: " ++ why_refused_text why)
unfolding reason_text
refused_told why = past (codes "  ") (whole (codes "refused: " ++ why_refused_text why))

-- ---- entries that give way

many_give_way : (front : List ℕ) (n : ℕ) → (n == 1) ≡ false → Has (front ++ give_way_text n) (codes " give way")
many_give_way front n many = subst (λ (b : Bool). Has (front ++ (if b then codes " gives way" else codes " give way")) (codes " give way")) (sym many) (end front (codes " give way"))

-- the first three entries, and how many more there are
abbrev before_end : ℕ → List Entry → List ℕ
before_end last es = few_entries_text 3 (codes "  ") last es ++ more_text (length es - 3)

pub they_give_way : (last : ℕ) (es : List Entry) → SaysThatTheyGiveWay (reason_text (reasons.GivesWay last es)) (length es)
unfolding reason_text
they_give_way last [] = tt
they_give_way last (e ∷ []) = end (before_end last (e ∷ [])) (codes " gives way")
they_give_way last (e ∷ f ∷ es) = many_give_way (before_end last (e ∷ f ∷ es)) (length (e ∷ f ∷ es)) (ne_eqb (length (e ∷ f ∷ es)) 1 (λ same. absurd (omega (arith, same))))
