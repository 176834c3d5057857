use Rattle.std.proofs.Common.{◌∙◌, arith}
use Rattle.rb_raftlog.proofs.PageLaws.{page_of, from_is}
use Rattle.rb_raftlog.proofs.pages.Pages.from.Goals as goal

pub page-requires : goal.page-requires
page-requires g c = omega (arith, page_of c.self.inside.pages c.args.self.now c.self.inside.skip c.args.k c.self.invariant.0 c.self.view_is c.requires)

pub after-requires : goal.after-requires
after-requires g c = omega (arith, page_of c.self.inside.pages c.args.self.now c.self.inside.skip c.args.k c.self.invariant.0 c.self.view_is c.requires)

pub returns : goal.returns
returns g c =
    from_is c.self.inside.pages c.args.self.now _ c.self.inside.skip c.args.k c.as_slice-page.result.now c.page.result.now c.self.invariant.0 c.self.view_is c.requires
    (c.as_slice-page.ensures.value ∙ c.page.ensures) c.after.ensures
