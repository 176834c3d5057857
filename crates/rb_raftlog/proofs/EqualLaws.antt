-- `==`, as it is derived or written here, decides equality.
use Rattle.std.specs.Prelude.{◌≡◌, ◌↔◌, ℕ, Bool, List, IsTrue, nat_eq}
use Rattle.std.specs.Bool.{Decides, one_answer}
use Rattle.std.specs.Cmp.{unsigned_Decides}
use Rattle.std.specs.Cmp.Lexicographic.{pointwise, pointwise_decides}
use Rattle.std.proofs.Common.{rules}
use Rattle.rb_vocab.proofs.DeriveLaws.{values_decide, one, next}
use Rattle.rb_vocab.proofs.EqualLaws.{transitions_decide, words_decide, numbers_decide, conf_states_decide}
use Rattle.rb_raftlog.specs.declared.entry.Body.{Body}
use Rattle.rb_raftlog.specs.declared.entry.Entry.{Entry}
use Rattle.rb_raftlog.specs.declared.snapshot.Snapshot.{Snapshot}
use Rattle.rb_raftlog.specs.contracts.entry.Body.{enum}
use Rattle.rb_raftlog.specs.contracts.entry.BodyPartialEq.TheImpl as body
use Rattle.rb_raftlog.specs.contracts.entry.EntryPartialEq.TheImpl as entry
use Rattle.rb_raftlog.specs.Equals.{same_lists, same_snapshots}

pub bodies_decide : (x y : Body) → Decides (body.eq-value.it x y) (x ≡ y)
bodies_decide = values_decide enum _ (one numbers_decide, (next transitions_decide (one (pointwise_decides words_decide)), tt))

pub entries_decide : (x y : Entry) → Decides (entry.eq-value.it x y) (x ≡ y)
entries_decide x y = search (rules, bodies_decide)

pub lists_decide : (xs ys : List Entry) → Decides (same_lists xs ys) (xs ≡ ys)
lists_decide = pointwise_decides entries_decide

-- a call that decides equality answers as `==` does
pub lists_answer : (xs ys : List Entry) (r : Bool) → IsTrue r ↔ (xs ≡ ys) → r ≡ same_lists xs ys
lists_answer xs ys r same = one_answer r (same_lists xs ys) same (lists_decide xs ys)

pub bytes_answer : (xs ys : List ℕ) (r : Bool) → IsTrue r ↔ (xs ≡ ys) → r ≡ pointwise nat_eq xs ys
bytes_answer xs ys r same = one_answer r (pointwise nat_eq xs ys) same (numbers_decide xs ys)

pub snapshots_decide : (x y : Snapshot) → Decides (same_snapshots x y) (x ≡ y)
snapshots_decide x y = search (rules, numbers_decide, conf_states_decide)
