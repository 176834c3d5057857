use Rattle.std.proofs.Common.{◌∙◌, ap, drop, take}
use Rattle.rb_raftlog.specs.Packed.{joined}
use Rattle.rb_raftlog.proofs.PageLaws.{cut_view}
use Rattle.rb_raftlog.proofs.pages.Pages.cut.Goals as goal

pub returns-clause-ok : goal.returns-clause-ok
returns-clause-ok g c =
    let skip = c.self.inside.skip in
    ap (drop skip) c.in_ok-cut_pages.ensures.ok.1
    ∙ cut_view skip c.args.n (joined c.self.inside.pages)
    ∙ ap (take c.args.n) c.self.view_is
