use Rattle.std.proofs.Common.{arith}
use Rattle.rb_script.proofs.BetweenLaws.{part_before, part_line}
use Rattle.rb_script.proofs.line_part.LinePart.line.Goals as goal

pub overflow_add-self-inside : goal.overflow_add-self-inside
overflow_add-self-inside c =
    let p = c.self.inside in
    omega (arith, part_before p.from p.to c.args.i p.all c.args.self.now c.self.view_is c.self.invariant.1 c.requires, c.self.invariant.2)

pub returns : goal.returns
returns c =
    let p = c.self.inside in
    part_line p.from p.to c.args.i p.all c.args.self.now c.line.result.now c.self.view_is c.self.invariant.1 c.requires c.line.ensures
