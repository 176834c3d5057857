-- Definitions of the laws of logs.
use Rattle.std.specs.Prelude.{◌≡◌, ℕ, ◌+◌, ◌-◌, ◌<◌, ◌≤◌, Bool, IsTrue, ◌⊎◌, List, Some, Ok, length, slice_get}
use Rattle.rb_raftlog.specs.declared.entry.Entry.{Entry}
use Rattle.rb_raftlog.specs.Log.{LogValue, last, last_term, term_at, entry_at, is_term_up_to, is_up_to_date}

-- the second log is at least as new as the first
abbrev pub log_is_up_to_date : LogValue → LogValue → Bool
log_is_up_to_date v w = is_up_to_date v (last w) (last_term w)

-- whether there is a term at an index, and it is at most this one
abbrev pub IsTermUpTo : LogValue → ℕ → ℕ → Type 0
IsTermUpTo v i term = IsTrue (is_term_up_to (term_at v i) term)

-- h is the greatest of the indexes up to i whose term is at most the one given; 0 if there is none
pub record IsHint (v : LogValue) (i term h : ℕ) : Type 0 where
  pub greatest : (j : ℕ) → v.base ≤ j → j ≤ i → IsTermUpTo v j term → j ≤ h
  pub held : (h ≡ 0) ⊎ ((v.base ≤ h) × (h ≤ i) × IsTermUpTo v h term)

-- one log is newer than another, or as new: its last term is later, or the same and it is at least as long (Ongaro's thesis, section 3.6.1)
abbrev pub IsAsNew : LogValue → ℕ → ℕ → Type 0
IsAsNew v i term = (last_term v < term) ⊎ ((term ≡ last_term v) × (last v ≤ i))

-- the entry at a place of those sent after prev is held with another term, above the base, where all is committed
pub record IsConflicting (v : LogValue) (prev : ℕ) (es : List Entry) (commit k : ℕ) : Type 0 where
  pub sent : Entry
  pub is_sent : slice_get es k ≡ Some sent
  pub held : ℕ
  pub is_held : term_at v (prev + 1 + k) ≡ Ok held
  pub differs : held ≡ sent.term → ⊥
  pub above_base : v.base < prev + 1 + k
  pub committed : prev + 1 + k ≤ commit

-- the least index at which that is so
pub record IsFirstConflict (v : LogValue) (prev : ℕ) (es : List Entry) (commit i : ℕ) : Type 0 where
  pub place : ℕ
  pub at : i ≡ prev + 1 + place
  pub here : IsConflicting v prev es commit place
  pub first : (k : ℕ) → k < place → IsConflicting v prev es commit k → ⊥

-- the first log ends with these entries, in order; the second has all entries before them, and not the first of them
pub record HasLost (v w : LogValue) (gone : List Entry) : Type 0 where
  pub were_last : (k : ℕ) (e : Entry) → slice_get gone k ≡ Some e → entry_at v (last v - length gone + 1 + k) ≡ Ok e
  pub others_stay : (i : ℕ) → i + length gone ≤ last v → entry_at w i ≡ entry_at v i
  pub first_goes : (e : Entry) → slice_get gone 0 ≡ Some e → term_at w (last v - length gone + 1) ≡ Ok e.term → ⊥

-- Where two logs have the same term at an index, they are the same up to it, as far as both still have it: the Log Matching Property
-- (Ongaro's thesis, section 3.5).
pub record AreMatching (v w : LogValue) : Type 0 where
  pub terms : (i j t : ℕ) → term_at v i ≡ Ok t → term_at w i ≡ Ok t → j ≤ i → v.base ≤ j → w.base ≤ j → term_at v j ≡ term_at w j
  pub entries : (i j t : ℕ) → term_at v i ≡ Ok t → term_at w i ≡ Ok t → j ≤ i → v.base < j → w.base < j → entry_at v j ≡ entry_at w j

-- entries that a log has after an index
abbrev pub AreOfLog : LogValue → ℕ → List Entry → Type 0
AreOfLog w prev es = (k : ℕ) (e : Entry) → slice_get es k ≡ Some e → entry_at w (prev + 1 + k) ≡ Ok e
