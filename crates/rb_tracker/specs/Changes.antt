-- Changes of a configuration: one voter at a time, or over a joint configuration (Ongaro's thesis, sections 4.1 and 4.3; etcd
-- raft documentation, "Configuration changes")
use Rattle.std.specs.Prelude.{ℕ, ◌≡◌, ◌+◌, Bool, true, false, ◌&&◌, ◌||◌, not, List, [], ◌∷◌, length, count_by, Result, Ok, Err, if◌then◌else◌, nat_lt, ◌==◌}
use Rattle.rb_tracker.specs.Sets.{has, with_id, without, union, IsAscending}
use Rattle.rb_tracker.specs.Configs.{is_joint}
use Rattle.rb_tracker.specs.declared.config.Config.{Config}
use Rattle.rb_tracker.specs.declared.changes.ChangeFault.{ChangeFault}
use Rattle.rb_tracker.specs.declared.changes.ChangeFault.TheVariants as fault
use Rattle.rb_vocab.specs.declared.change.Transition.{Transition}
use Rattle.rb_vocab.specs.declared.change.Transition.TheVariants.{Auto, Explicit, Implicit}
use Rattle.rb_vocab.specs.Transitions.{is_auto}
use Rattle.rb_vocab.specs.declared.change.Word.{Word}
use Rattle.rb_vocab.specs.declared.change.WordKind.{WordKind}
use Rattle.rb_vocab.specs.declared.change.WordKind.TheVariants as kind

abbrev pub with_voter : Config → ℕ → Config
with_voter c id = record c { incoming = with_id c.incoming id; learners = without c.learners id; next = without c.next id }

-- an incoming voter becomes a learner at once or, if it is an outgoing voter, when the joint configuration is left
abbrev pub as_learner : Config → ℕ → Config
as_learner c id =
    if has c.outgoing id
    then record c { incoming = without c.incoming id; next = with_id (without c.next id) id }
    else record c { incoming = without c.incoming id; next = without c.next id; learners = with_id c.learners id }

abbrev pub with_learner : Config → ℕ → Config
with_learner c id = if has c.learners id then c else as_learner c id

abbrev pub without_member : Config → ℕ → Config
without_member c id = record c { incoming = without c.incoming id; learners = without c.learners id; next = without c.next id }

abbrev pub word_applied : WordKind → Config → ℕ → Config
word_applied kind.Voter c id = with_voter c id
word_applied kind.Learner c id = with_learner c id
word_applied kind.Remove c id = without_member c id
word_applied kind.Update c id = c

-- the words, in order
abbrev pub words_applied : Config → List Word → Config
words_applied c [] = c
words_applied c (w ∷ ws) = words_applied (word_applied w.kind c w.id) ws

-- the number of ids that are in only one of two sets
abbrev pub differing : List ℕ → List ℕ → ℕ
differing a b = count_by (λ id. not (has b id)) a + count_by (λ id. not (has a id)) b

abbrev pub checked_simple : Config → Config → Result Config ChangeFault
checked_simple old new =
    if length new.incoming == 0 then Err fault.NoVoters
    else (if nat_lt 1 (differing old.incoming new.incoming) then Err fault.MoreThanOneVoter else Ok new)

-- a change of at most one voter, at once
abbrev pub simple : Config → List Word → Result Config ChangeFault
simple c words = if is_joint c then Err fault.SimpleWhileJoint else checked_simple c (words_applied c words)

abbrev pub entering : Config → Bool → Config
entering c auto = record c { outgoing = c.incoming; auto = auto }

abbrev pub checked_joint : Config → Result Config ChangeFault
checked_joint new = if length new.outgoing == 0 || length new.incoming == 0 then Err fault.NoVoters else Ok new

-- the present voters become the outgoing ones; the words make the incoming ones
abbrev pub enter_joint : Config → Bool → List Word → Result Config ChangeFault
enter_joint c auto words = if is_joint c then Err fault.AlreadyJoint else checked_joint (words_applied (entering c auto) words)

abbrev pub left : Config → Config
left c = record c { learners = union c.learners c.next; next = []; outgoing = []; auto = false }

-- only the incoming voters decide
abbrev pub leave_joint : Config → Result Config ChangeFault
leave_joint c = if is_joint c then Ok (left c) else Err fault.NotJoint

abbrev pub is_explicit : Transition → Bool
is_explicit Auto = false
is_explicit Explicit = true
is_explicit Implicit = false

-- no words leave; several, or a stated transition, enter a joint configuration; one word is simple
unfoldable pub changed : Config → Transition → List Word → Result Config ChangeFault
changed c transition words =
    if length words == 0 then leave_joint c
    else (if is_auto transition && length words == 1 then simple c words
    else enter_joint c (not (is_explicit transition)) words)

-- faults that are found before memory is requested
abbrev pub is_early : Result Config ChangeFault → Bool
is_early (Ok c) = false
is_early (Err fault.AlreadyJoint) = true
is_early (Err fault.NotJoint) = true
is_early (Err fault.SimpleWhileJoint) = true
is_early (Err fault.MoreThanOneVoter) = false
is_early (Err fault.NoVoters) = false
is_early (Err fault.OutOfMemory) = false

-- the result of a call: `OutOfMemory` may replace another fault, unless that is found before memory is requested
abbrev pub Gives : Result Config ChangeFault → Result Config ChangeFault → Type 0
Gives (Ok c) is = is ≡ Ok c
Gives (Err fault.AlreadyJoint) is = is ≡ Err fault.AlreadyJoint
Gives (Err fault.NotJoint) is = is ≡ Err fault.NotJoint
Gives (Err fault.SimpleWhileJoint) is = is ≡ Err fault.SimpleWhileJoint
Gives (Err fault.MoreThanOneVoter) is = is ≡ Err fault.MoreThanOneVoter
Gives (Err fault.NoVoters) is = is ≡ Err fault.NoVoters
Gives (Err fault.OutOfMemory) is = is_early is ≡ false

-- the invariant of a configuration: its lists are sets, no voter is a learner, and one that becomes a learner later is an outgoing voter
-- and not an incoming one
pub record IsConfig (c : Config) : Type 0 where
  pub incoming : IsAscending c.incoming
  pub outgoing : IsAscending c.outgoing
  pub learners : IsAscending c.learners
  pub next : IsAscending c.next
  pub apart : (id : ℕ) → has c.learners id ≡ true → (has c.incoming id || has c.outgoing id) ≡ false
  pub staged : (id : ℕ) → has c.next id ≡ true → (has c.outgoing id && not (has c.incoming id)) ≡ true
