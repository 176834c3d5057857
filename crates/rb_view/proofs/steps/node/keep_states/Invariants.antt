-- The rows so far, and those of the nodes that are left; what is shown of contents.
use Rattle.std.proofs.Common.{◌≡◌, ◌++◌, drop}
use Rattle.rb_view.specs.Kept.{texts_of}
use Rattle.rb_view.specs.States.{state_rows}
use Rattle.rb_view.specs.Values.{ShowBytes}
use Rattle.rb_view.proofs.steps.node.keep_states.Given as goal

abbrev pub invariant-loop-i : goal.invariant-loop-i
invariant-loop-i g l = record {
  texts : l.texts ++ texts_of (state_rows (drop l.i l.olds) (drop l.i l.news)) ≡ l.initial.texts ++ texts_of (state_rows l.olds l.news);
  bytes : ShowBytes (drop l.i l.news) → ShowBytes l.news;
}
