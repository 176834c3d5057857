-- A log: entries after a base, and the last index that is durable.
--
-- What is saved is not always the log up to there: an append or a snapshot may have replaced durable entries since the last save. They stay in
-- stable storage until the next one, so a restart brings them back.
--
-- The entry at index i is the one at place i - base - 1 of the list. At the base there is no entry any more, but its term is known.
-- (Logs and their matching: Ongaro's thesis, sections 3.5 and 3.6; compacting: chapter 5.)
use Rattle.std.specs.Prelude.{◌≡◌, ℕ, zero, suc, ◌+◌, ◌-◌, ◌≤◌, Bool, false, ◌&&◌, ◌||◌, not, List, [], ◌∷◌, ◌++◌, length, take, drop, Option, Some, None, Result, Ok, Err, if◌then◌else◌, nat_lt, nat_le, ◌==◌, min, slice_get}
use Rattle.std.specs.Result.{result_unwrap_or}
use Rattle.std.specs.Option.{option_map}
use Rattle.std.specs.List.{list_any}
use Rattle.rb_raftlog.specs.declared.entry.Entry.{Entry}
use Rattle.rb_raftlog.specs.Bodies.{is_change}
use Rattle.rb_raftlog.specs.declared.snapshot.Snapshot.{Snapshot}
use Rattle.rb_raftlog.specs.declared.limits.TheConstants.{MAX_INDEX}
use Rattle.rb_raftlog.specs.declared.raft_log.LogFault.{LogFault}
use Rattle.rb_raftlog.specs.declared.raft_log.LogFault.TheVariants.{Compacted, Unavailable}
use Rattle.rb_raftlog.specs.declared.raft_log.CompactFault.{CompactFault}
use Rattle.rb_raftlog.specs.declared.raft_log.CompactFault.TheVariants.{AlreadyCompacted, PastApplied, OutOfMemory}
use Rattle.rb_raftlog.specs.declared.raft_log.Appended.{Appended}
use Rattle.rb_raftlog.specs.declared.raft_log.Appended.TheVariants.{Matched, Refused, BelowCommit}

pub record LogValue : Type 0 where
  pub base : ℕ
  pub base_term : ℕ
  pub entries : List Entry
  pub durable : ℕ
  -- the durable entries that were replaced since the last save
  pub overwritten : List Entry

abbrev pub first : LogValue → ℕ
first v = v.base + 1

abbrev pub last : LogValue → ℕ
last v = v.base + length v.entries

-- the invariant of a log
pub record IsLog (v : LogValue) : Type 0 where
  pub above_base : v.base ≤ v.durable
  pub within : v.durable ≤ last v
  pub fits : last v ≤ MAX_INDEX

-- a log with only a base
abbrev pub fresh : ℕ → ℕ → LogValue
fresh index term = record { base = index; base_term = term; entries = []; durable = index; overwritten = [] }

-- the durable entries from place n on, and those that were replaced
abbrev pub durable_from : LogValue → ℕ → List Entry
durable_from v n = drop n (take (v.durable - v.base) v.entries) ++ v.overwritten

-- the saved entries: those that a restart finds
abbrev pub saved_entries : LogValue → List Entry
saved_entries v = durable_from v 0

-- ---- what is held at an index

abbrev pub found : Option Entry → Result Entry LogFault
found None = Err Unavailable
found (Some entry) = Ok entry

abbrev pub entry_at : LogValue → ℕ → Result Entry LogFault
entry_at v i = if nat_le i v.base then Err Compacted else found (slice_get v.entries (i - v.base - 1))

abbrev pub term_of : Option Entry → Result ℕ LogFault
term_of None = Err Unavailable
term_of (Some entry) = Ok entry.term

abbrev pub term_at : LogValue → ℕ → Result ℕ LogFault
term_at v i =
    if nat_lt i v.base then Err Compacted
    else (if i == v.base then Ok v.base_term else term_of (slice_get v.entries (i - v.base - 1)))

abbrev pub is_term : Result ℕ LogFault → ℕ → Bool
is_term (Ok held) term = held == term
is_term (Err _) term = false

-- whether there is a term, and it is another one
abbrev pub is_other_term : Result ℕ LogFault → ℕ → Bool
is_other_term (Ok held) term = not (held == term)
is_other_term (Err _) term = false

-- whether there is a term, and it is at most this one
abbrev pub is_term_up_to : Result ℕ LogFault → ℕ → Bool
is_term_up_to (Ok held) term = nat_le held term
is_term_up_to (Err _) term = false

-- the last entry's term, or the base's
abbrev pub last_term : LogValue → ℕ
last_term v = result_unwrap_or (term_at v (last v)) v.base_term

-- the term of the last of some entries
abbrev pub last_of : List Entry → Option ℕ
last_of es = option_map (λ e. e.term) (slice_get es (length es - 1))

-- whether a log that ends at this index with this term is at least as new as this one
abbrev pub is_up_to_date : LogValue → ℕ → ℕ → Bool
is_up_to_date v i term = nat_lt (last_term v) term || (term == last_term v && nat_le (last v) i)

-- the greatest of the indexes from the base to n past it whose term is at most the one given; 0 if none
abbrev pub hint_from : LogValue → ℕ → ℕ → ℕ
hint_from v zero term = if nat_le v.base_term term then v.base else 0
hint_from v (suc n) term = if is_term_up_to (term_at v (v.base + n + 1)) term then v.base + n + 1 else hint_from v n term

abbrev pub hint : LogValue → ℕ → ℕ → ℕ
hint v i term = if nat_lt i v.base then 0 else hint_from v (min i (last v) - v.base) term

-- ---- entries

-- the entries past an index, or all of them where it is below the base
abbrev pub entries_after : LogValue → ℕ → List Entry
entries_after v i = drop (i - v.base) v.entries

-- the entries from an index on
abbrev pub entries_from : LogValue → ℕ → Result (List Entry) LogFault
entries_from v from =
    if nat_le from v.base then Err Compacted
    else (if nat_lt (last v + 1) from then Err Unavailable else Ok (entries_after v (from - 1)))

-- the entries past one index and up to another
abbrev pub between : LogValue → ℕ → ℕ → List Entry
between v after upto = drop (after - v.base) (take (upto - v.base) v.entries)

-- whether one of the entries past one index and up to another changes the configuration
abbrev pub has_change : LogValue → ℕ → ℕ → Bool
has_change v after upto = list_any (λ e. is_change e.body) (between v after upto)

abbrev pub not_durable : LogValue → List Entry
not_durable v = drop (v.durable - v.base) v.entries

abbrev pub made_durable : LogValue → LogValue
made_durable v = record v { durable = last v; overwritten = [] }

-- a leader's own entry at the end
abbrev pub own : LogValue → Entry → LogValue
own v entry = record v { entries = v.entries ++ entry ∷ [] }

-- ---- appending after an entry

-- the first index, from i on, at which these entries differ in term from the log's, or go past its end
abbrev pub first_new : LogValue → ℕ → List Entry → Option ℕ
first_new v i [] = None
first_new v i (e ∷ es) = if is_term (term_at v i) e.term then first_new v (i + 1) es else Some i

-- the log below c, followed by the entries from c on, which go to index prev + 1 and on
abbrev pub replaced : LogValue → ℕ → List Entry → Option ℕ → LogValue
replaced v prev es None = v
replaced v prev es (Some c) = record v {
  entries = take (c - 1 - v.base) v.entries ++ drop (c - 1 - prev) es;
  durable = min v.durable (c - 1);
  overwritten = durable_from v (c - 1 - v.base);
}

abbrev pub appended : LogValue → ℕ → ℕ → List Entry → ℕ → LogValue
appended v prev term es commit =
    if nat_lt prev commit then v
    else (if is_term (term_at v prev) term then replaced v prev es (first_new v (prev + 1) es) else v)

-- the log's entries from the first index at which those sent are new on
abbrev pub replaced_entries : LogValue → Option ℕ → List Entry
replaced_entries v None = []
replaced_entries v (Some c) = entries_after v (c - 1)

-- the entries that an append removes, in order: they give way to those sent
abbrev pub given_way : LogValue → ℕ → ℕ → List Entry → ℕ → List Entry
given_way v prev term es commit =
    if nat_lt prev commit then []
    else (if is_term (term_at v prev) term then replaced_entries v (first_new v (prev + 1) es) else [])

-- whether an entry of this term conflicts with a committed one: index i is above the base, at most commit, and the log has another term
-- there
abbrev pub is_conflict : LogValue → ℕ → ℕ → ℕ → Bool
is_conflict v i term commit = nat_lt v.base i && nat_le i commit && is_other_term (term_at v i) term

-- the index of the first entry that conflicts with a committed one; the entries go to index i and on
abbrev pub conflict : LogValue → ℕ → List Entry → ℕ → Option ℕ
conflict v i [] commit = None
conflict v i (e ∷ es) commit = if is_conflict v i e.term commit then Some i else conflict v (i + 1) es commit

abbrev pub answer_below : Option ℕ → ℕ → Appended
answer_below (Some i) commit = BelowCommit i
answer_below None commit = Matched commit

abbrev pub answer : LogValue → ℕ → ℕ → List Entry → ℕ → Appended
answer v prev term es commit =
    if nat_lt prev commit then answer_below (conflict v (prev + 1) es commit) commit
    else (if is_term (term_at v prev) term then Matched (prev + length es) else Refused (hint v prev term))

-- ---- compacting, and snapshots

abbrev pub compact_fault : LogValue → ℕ → ℕ → Option CompactFault
compact_fault v i applied =
    if nat_le i v.base then Some AlreadyCompacted else (if nat_lt applied i then Some PastApplied else None)

-- base i with its term, and the entries after i
abbrev pub compacted : LogValue → ℕ → Result ℕ LogFault → LogValue
compacted v i (Ok term) = record v { base = i; base_term = term; entries = drop (i - v.base) v.entries }
compacted v i (Err _) = v

-- the result of compacting
abbrev pub IsCompacted : LogValue → ℕ → ℕ → Result (Unit {0}) CompactFault → LogValue → Type 0
IsCompacted v i applied (Ok _) w = (compact_fault v i applied ≡ None) × (w ≡ compacted v i (term_at v i))
IsCompacted v i applied (Err OutOfMemory) w = (compact_fault v i applied ≡ None) × (w ≡ v)
IsCompacted v i applied (Err AlreadyCompacted) w = (compact_fault v i applied ≡ Some AlreadyCompacted) × (w ≡ v)
IsCompacted v i applied (Err PastApplied) w = (compact_fault v i applied ≡ Some PastApplied) × (w ≡ v)

-- a snapshot replaces the log; until the next save, what was saved stays in stable storage
abbrev pub restored : LogValue → Snapshot → LogValue
restored v snapshot = record (fresh snapshot.index snapshot.term) { overwritten = saved_entries v }

-- the log of a restart: the saved entries, after the snapshot that was saved with them (Ongaro's thesis, section 3.8)
abbrev pub restarted : LogValue → Snapshot → LogValue
restarted v start = record {
  base = start.index;
  base_term = start.term;
  entries = saved_entries v;
  durable = start.index + length (saved_entries v);
  overwritten = [];
}
