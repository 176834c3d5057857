use Rattle.std.proofs.Common.{◌∙◌, ◌+◌, ◌%◌, ap, arith, length}
use Rattle.rb_raftlog.proofs.PageLaws.{page_of, entry_of_in, entry_of, same_at}
use Rattle.rb_raftlog.proofs.pages.Pages.item.Goals as goal

pub page-requires : goal.page-requires
page-requires g c = omega (arith, page_of c.self.inside.pages c.args.self.now c.self.inside.skip c.args.k c.self.invariant.0 c.self.view_is c.requires)

pub bounds-as_slice-at : goal.bounds-as_slice-at
bounds-as_slice-at g c = omega (arith, entry_of_in c.self.inside.pages c.args.self.now c.self.inside.skip c.args.k c.page.result.now c.self.invariant.0 c.self.view_is c.requires, ap length (c.as_slice.ensures.value ∙ c.page.ensures))

pub returns : goal.returns
returns g c =
    let x = c.index-as_slice-at.result in
    c.index-as_slice-at.is
    ∙ same_at ((c.self.inside.skip + c.args.k) % 64) x (c.as_slice.ensures.value ∙ c.page.ensures)
    ∙ entry_of c.self.inside.pages c.args.self.now c.self.inside.skip c.args.k c.page.result.now x c.self.invariant.0 c.self.view_is c.requires
