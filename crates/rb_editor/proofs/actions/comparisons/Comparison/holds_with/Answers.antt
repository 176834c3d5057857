use Rattle.std.proofs.Common.{◌<◌, arith}
use Rattle.std.proofs.lemmas.Bool.{leb-true}
use Rattle.rb_editor.proofs.ComparisonLaws.{compared_again, left_out_again}
use Rattle.rb_editor.proofs.actions.comparisons.Comparison.holds_with.Goals as goal

pub returns-then-self-eq0 : goal.returns-then-self-eq0
returns-then-self-eq0 c = λ t. left_out_again c.args.self.now.diff.left c.args.left c.args.self.now.expected c.args.self.now.output c.args.self.now.diff c.args.self.now.made c.if-self-eq0.true (leb-true _ _ t)

pub returns-else-self-eq0 : goal.returns-else-self-eq0
returns-else-self-eq0 c = λ t.
    let some : 0 < c.args.self.now.diff.cells = omega arith in
    compared_again c.args.self.now.diff.left c.args.left c.args.self.now.expected c.args.self.now.output c.args.self.now.diff c.args.self.now.made some (leb-true _ _ t)
