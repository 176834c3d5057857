-- What went out so far, and what is left.
use Rattle.std.proofs.Common.{◌≡◌, ◌++◌, [], drop}
use Rattle.rb_editor.specs.Folds.{block_folds}
use Rattle.rb_editor.specs.Texts.{listed}
use Rattle.rb_editor.proofs.offers.folds.add_all.Given as goal

abbrev pub invariant-loop-block : goal.invariant-loop-block
invariant-loop-block l = l.out.items ++ listed (block_folds l.text) l.lead (drop l.block-index l.blocks) ≡ l.initial.out.items ++ listed (block_folds l.text) [] l.blocks
