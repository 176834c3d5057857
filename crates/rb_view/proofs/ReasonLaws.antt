-- The text of a reason is one line.
use Rattle.std.proofs.Common.{◌≡◌, ℕ, zero, suc, ◌-◌, true, false, List, [], ◌∷◌, ◌++◌, length, refl, codes, decimal}
use Rattle.std.specs.Prelude.{◌==◌, if◌then◌else◌}
use Rattle.rb_raftlog.specs.declared.entry.Entry.{Entry}
use Rattle.rb_message.specs.declared.event.WhyIgnored.{WhyIgnored}
use Rattle.rb_message.specs.declared.event.WhyIgnored.TheVariants as ignored
use Rattle.rb_message.specs.declared.event.WhyRefused.{WhyRefused}
use Rattle.rb_message.specs.declared.event.WhyRefused.TheVariants as refused
use Rattle.rb_texts.specs.declared.reason.Reason.{Reason}
use Rattle.rb_texts.specs.declared.reason.Reason.TheVariants.{Ignored, Refused, GivesWay, Lost}
use Rattle.rb_texts.specs.Entries.{entry_text, place_text}
use Rattle.rb_texts.specs.Lost.{lost_text}
use Rattle.rb_texts.specs.Reasons.{earlier_text, end_text, few_entries_text, give_way_text, gives_way_text, more_text, outdated_text, reason_text, why_ignored_text, why_refused_text}
use Rattle.rb_texts.specs.Shapes.{is_one_line}
use Rattle.rb_texts.specs.States.{role_text}
use Rattle.rb_texts.proofs.LostLaws.{lost_one_line}
use Rattle.rb_texts.proofs.OneLineLaws.{decimal_one_line, entry_one_line, joined, place_one_line, role_one_line}

-- a number behind a text
numbered : (before : List ℕ) (n : ℕ) → is_one_line before ≡ true → is_one_line (before ++ decimal n) ≡ true
numbered before n h = joined before (decimal n) h (decimal_one_line n)

-- a number between texts
between : (before after : List ℕ) (n : ℕ) → is_one_line before ≡ true → is_one_line after ≡ true → is_one_line ((before ++ decimal n) ++ after) ≡ true
between before after n h k = joined (before ++ decimal n) after (numbered before n h) k

-- a number before a text
before_text : (n : ℕ) (after : List ℕ) → is_one_line after ≡ true → is_one_line (decimal n ++ after) ≡ true
before_text n after h = joined (decimal n) after (decimal_one_line n) h

-- two numbers, each behind a text
two_numbered : (first second : List ℕ) (n m : ℕ) → is_one_line first ≡ true → is_one_line second ≡ true → is_one_line (((first ++ decimal n) ++ second) ++ decimal m) ≡ true
two_numbered first second n m h k = numbered ((first ++ decimal n) ++ second) m (between first second n h k)

earlier_one_line : (term own : ℕ) → is_one_line (earlier_text term own) ≡ true
earlier_one_line term own = two_numbered (codes "its term ") (codes " is earlier than ") term own refl refl

outdated_one_line : (from index : ℕ) (known : List ℕ) (at : ℕ) → is_one_line known ≡ true → is_one_line (outdated_text from index known at) ≡ true
outdated_one_line from index known at h =
    let refused = numbered (decimal from ++ codes " refused ") index (before_text from (codes " refused ") refl) in
    between (((decimal from ++ codes " refused ") ++ decimal index) ++ known) (codes " by now") at
    (joined ((decimal from ++ codes " refused ") ++ decimal index) known refused h) refl

ignored_one_line : (why : WhyIgnored) → is_one_line (why_ignored_text why) ≡ true
unfolding why_ignored_text
ignored_one_line (ignored.EarlierTerm term own) = earlier_one_line term own
ignored_one_line (ignored.HearsLeader lead) = between (codes "leader ") (codes " was heard of within an election timeout") lead refl refl
ignored_one_line (ignored.NoUse role) =
    joined (codes "a " ++ role_text role) (codes " has no use for it") (joined (codes "a ") (role_text role) refl (role_one_line role)) refl
ignored_one_line ignored.NoLeader = refl
ignored_one_line (ignored.NoView from) = numbered (codes "the leader has no view of ") from refl
ignored_one_line (ignored.HoldsMore from index matched) = outdated_one_line from index (codes ", and holds ") matched refl
ignored_one_line (ignored.ProbesElsewhere from index probed) = outdated_one_line from index (codes ", and is probed at ") probed refl
ignored_one_line (ignored.AwaitsSnapshot from) = numbered (codes "a snapshot is on its way to ") from refl
ignored_one_line (ignored.NotAVoter target) = before_text target (codes " is no voter") refl
ignored_one_line (ignored.LeadsAlready target) = before_text target (codes " leads already") refl
ignored_one_line (ignored.IsUnderWay target) = numbered (codes "the lead is on its way to ") target refl

end_one_line : (before : List ℕ) (term index : ℕ) → is_one_line before ≡ true → is_one_line (end_text before term index) ≡ true
end_one_line before term index h = joined before (place_text term index) h (place_one_line term index)

refused_one_line : (why : WhyRefused) → is_one_line (why_refused_text why) ≡ true
unfolding why_refused_text
refused_one_line (refused.EarlierTerm term own) = earlier_one_line term own
refused_one_line (refused.Voted term vote) = two_numbered (codes "the vote of term ") (codes " is given to ") term vote refl refl
refused_one_line (refused.KnowsLeader term lead) = numbered (decimal lead ++ codes " leads term ") term (before_text lead (codes " leads term ") refl)
refused_one_line (refused.OlderLog term index own_term own_index) =
    joined (end_text (codes "its log ends at ") term index) (end_text (codes ", the voter's at ") own_term own_index)
    (end_one_line (codes "its log ends at ") term index refl) (end_one_line (codes ", the voter's at ") own_term own_index refl)

few_one_line : (n : ℕ) (before : List ℕ) (last : ℕ) (es : List Entry) → is_one_line before ≡ true → is_one_line (few_entries_text n before last es) ≡ true
few_one_line zero before last es h = refl
few_one_line (suc n) before last [] h = refl
few_one_line (suc n) before last (e ∷ es) h =
    let text = entry_text (last - length es) e in
    joined (before ++ text) (few_entries_text n (codes ", ") last es) (joined before text h (entry_one_line (last - length es) e)) (few_one_line n (codes ", ") last es refl)

more_one_line : (n : ℕ) → is_one_line (more_text n) ≡ true
more_one_line n =
    elim (n == 0) as (λ b. is_one_line (if b then [] else codes " and " ++ decimal n ++ codes " more") ≡ true)
    [ true ↦ refl | false ↦ between (codes " and ") (codes " more") n refl refl ]

give_way_one_line : (n : ℕ) → is_one_line (give_way_text n) ≡ true
give_way_one_line n = elim (n == 1) as (λ b. is_one_line (if b then codes " gives way" else codes " give way") ≡ true) [ true ↦ refl | false ↦ refl ]

-- the line lists the first entries that are overwritten, and counts the others
parts_one_line : (n last : ℕ) (es : List Entry) → is_one_line ((few_entries_text n (codes "  ") last es ++ more_text (length es - n)) ++ give_way_text (length es)) ≡ true
parts_one_line n last es =
    let few = few_entries_text n (codes "  ") last es in
    let more = more_text (length es - n) in
    joined (few ++ more) (give_way_text (length es)) (joined few more (few_one_line n (codes "  ") last es refl) (more_one_line (length es - n)))
    (give_way_one_line (length es))

gives_way_one_line : (last : ℕ) (es : List Entry) → is_one_line (gives_way_text last es) ≡ true
gives_way_one_line last es = search parts_one_line

pub reason_one_line : (reason : Reason) → is_one_line (reason_text reason) ≡ true
unfolding reason_text
reason_one_line (Ignored why) = joined (codes "  ignored: ") (why_ignored_text why) refl (ignored_one_line why)
reason_one_line (Refused why) = joined (codes "  refused: ") (why_refused_text why) refl (refused_one_line why)
reason_one_line (GivesWay last es) = gives_way_one_line last es
reason_one_line (Lost saved unsaved) = joined (codes "  lost: ") (lost_text saved unsaved) refl (lost_one_line saved unsaved)
