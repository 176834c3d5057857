use Rattle.std.proofs.Common.{ap, arith}
use Rattle.rb_script.specs.Fronts.{PlainFront}
use Rattle.rb_script.proofs.BetweenLaws.{part_before, part_line}
use Rattle.rb_script.proofs.front.Front.head_line.Goals as goal

pub overflow_add-self-inside : goal.overflow_add-self-inside
overflow_add-self-inside c =
    let p = c.self.inside in
    omega (arith, part_before p.head p.input c.args.i p.all c.args.self.now.head (ap (λ (f : PlainFront). f.head) c.self.view_is) (omega (arith, c.self.invariant.2, c.self.invariant.3)) c.requires, c.self.invariant.2, c.self.invariant.4)

pub returns : goal.returns
returns c =
    let p = c.self.inside in
    part_line p.head p.input c.args.i p.all c.args.self.now.head c.line.result.now (ap (λ (f : PlainFront). f.head) c.self.view_is) (omega (arith, c.self.invariant.2, c.self.invariant.3)) c.requires c.line.ensures
