use Rattle.std.proofs.Common.{arith}
use Rattle.rb_script.proofs.FlatLaws.{flat_between, part_is}
use Rattle.rb_script.proofs.flat.text_part.Goals as goal

pub slice_bounds-result-count : goal.slice_bounds-result-count
slice_bounds-result-count c =
    let at = flat_between c.args.ends.now c.args.text.now c.args.from c.args.to c.requires.flat c.requires.order c.requires.within in
    omega (arith, at.order, c.start_of-start.ensures, c.start_of-end.ensures)

pub slice_bounds-result-start : goal.slice_bounds-result-start
slice_bounds-result-start c =
    let at = flat_between c.args.ends.now c.args.text.now c.args.from c.args.to c.requires.flat c.requires.order c.requires.within in
    omega (arith, at.order, at.within, c.start_of-start.ensures, c.start_of-end.ensures)

pub slice_bounds-result-end : goal.slice_bounds-result-end
slice_bounds-result-end c =
    let at = flat_between c.args.ends.now c.args.text.now c.args.from c.args.to c.requires.flat c.requires.order c.requires.within in
    omega (arith, at.order, at.within, c.start_of-start.ensures, c.start_of-end.ensures)

pub returns : goal.returns
returns c =
    let at = flat_between c.args.ends.now c.args.text.now c.args.from c.args.to c.requires.flat c.requires.order c.requires.within in
    (part_is c.start_of-start.result c.start_of-end.result _ _ c.args.text.now _ c.start_of-start.ensures c.start_of-end.ensures at).part_is
