use Rattle.std.proofs.Common.{◌≡◌, length}
use Rattle.rb_script.specs.Runs.{after_while}
use Rattle.rb_script.specs.ByteClasses.{is_of}
use Rattle.rb_script.proofs.head_cursor.HeadCursor.skip.Given as goal

abbrev pub invariant-loop-b : goal.invariant-loop-b
invariant-loop-b l = record {
  left : after_while (is_of l.class) l.self.left ≡ after_while (is_of l.class) l.initial.self.left;
  head : l.self.head ≡ l.initial.self.head;
}

abbrev pub decreases-loop-b : goal.decreases-loop-b
decreases-loop-b l = length l.self.left
