use Rattle.std.proofs.Common.{◌++◌, [], ◌∷◌, List, ap, sym}
use Rattle.rb_report.proofs.CellLaws.{then_is}
use Rattle.rb_view.specs.Kept.{texts_of}
use Rattle.rb_view.specs.Rows.{Row}
use Rattle.rb_view.proofs.NewRowLaws.{other_node_added, same_node_kept}
use Rattle.rb_view.proofs.SameRowLaws.{node_differs, node_join}
use Rattle.rb_view.proofs.steps.node.keep_new_numbers.Goals as goal

pub returns-then-not-has_same_numbers : goal.returns-then-not-has_same_numbers
returns-then-not-has_same_numbers g c =
    let old = c.args.old.now in
    let new = c.args.new.now in
    let role = c.has_same_role.ensures c.if-not-has_same_role.false in
    let other = node_differs old new c.has_same_numbers.result role c.if-not-has_same_numbers.true c.has_same_numbers.ensures.1 in
    then_is c.keep_node.result c.keep_node.new.texts _ _ c.keep_node.ensures
    (ap (λ (rs : List Row). c.args.texts.now ++ texts_of rs) (sym (other_node_added old new other)))

pub returns : goal.returns
returns g c =
    let old = c.args.old.now in
    let new = c.args.new.now in
    let role = c.has_same_role.ensures c.if-not-has_same_role.false in
    same_node_kept c.args.texts.now old new
    (sym (node_join old new role (c.has_same_numbers.ensures.0 c.if-not-has_same_numbers.false) (c.has_same_end.ensures c.if-not-has_same_end.false)))
