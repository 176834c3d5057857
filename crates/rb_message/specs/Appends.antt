-- An append, as a plain value (AppendEntries in Ongaro's thesis, section 3.5)
use Rattle.std.specs.Prelude.{ℕ, Bool, ◌&&◌, ◌==◌, List}
use Rattle.std.specs.Cmp.{IsPartialEquivalence, partial_equiv_from_equiv, nat_eq_equiv, and_per, on_per}
use Rattle.rb_raftlog.specs.Equals.{same_lists, lists_per_entry}
use Rattle.rb_raftlog.specs.declared.entry.Entry.{Entry}

pub record PlainAppend : Type 0 where
  -- the entry before the first: its term and its index
  pub prev_term : ℕ
  pub prev : ℕ
  -- the sender's commit
  pub commit : ℕ
  -- the entries after it, in order
  pub entries : List Entry

-- whether two are the same, as `==` finds out: numbers first
abbrev pub same_appends : PlainAppend → PlainAppend → Bool
same_appends a b = a.prev == b.prev && (a.prev_term == b.prev_term && (a.commit == b.commit && same_lists a.entries b.entries))

numbers_per : IsPartialEquivalence ◌==◌
numbers_per = partial_equiv_from_equiv nat_eq_equiv

pub appends_per : IsPartialEquivalence same_appends
appends_per =
    and_per (on_per (λ (a : PlainAppend). a.prev) numbers_per) (and_per (on_per (λ (a : PlainAppend). a.prev_term) numbers_per)
    (and_per (on_per (λ (a : PlainAppend). a.commit) numbers_per) (on_per (λ (a : PlainAppend). a.entries) lists_per_entry)))
