use Rattle.std.proofs.Common.{arith}
use Rattle.rb_raftlog.proofs.PageLaws.{front_page, front_is_dropped}
use Rattle.rb_raftlog.proofs.pages.Pages.drop_front.Goals as goal

pub drop_front-requires : goal.drop_front-requires
drop_front-requires g c =
    omega (arith, front_page c.self.inside.pages c.args.self.now c.self.inside.skip c.args.n c.self.invariant.0 c.self.view_is (omega arith) c.requires)

pub invariant_of-self : goal.invariant_of-self
invariant_of-self g c =
    let is =
    front_is_dropped c.self.inside.pages _ c.args.self.now c.self.inside.skip c.self.inside.len c.args.n c.self.invariant.0 c.self.view_is
    (omega arith) c.requires c.drop_front.ensures in
    (is.0, is.1, omega arith, omega arith)

pub returns : goal.returns
returns g c =
    (front_is_dropped c.self.inside.pages _ c.args.self.now c.self.inside.skip c.self.inside.len c.args.n c.self.invariant.0 c.self.view_is
    (omega arith) c.requires c.drop_front.ensures).2
