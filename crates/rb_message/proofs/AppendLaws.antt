-- `==` of appends decides equality.
use Rattle.std.specs.Prelude.{◌≡◌}
use Rattle.std.specs.Bool.{Decides}
use Rattle.std.proofs.Common.{rules}
use Rattle.rb_raftlog.proofs.EqualLaws.{lists_decide}
use Rattle.rb_message.specs.Appends.{PlainAppend, same_appends}

pub appends_decide : (x y : PlainAppend) → Decides (same_appends x y) (x ≡ y)
appends_decide x y = search (rules, lists_decide)
