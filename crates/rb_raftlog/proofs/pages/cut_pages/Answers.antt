use Rattle.std.proofs.Common.{◌∙◌}
use Rattle.rb_raftlog.proofs.PageLaws.{cut_page, cut_at}
use Rattle.rb_raftlog.proofs.pages.cut_pages.Goals as goal

pub page-requires : goal.page-requires
page-requires g c = cut_page c.args.pages.now c.args.at c.requires.packed c.requires.within c.if-at-eq0.false

pub truncate_and_push-requires : goal.truncate_and_push-requires
truncate_and_push-requires g c = cut_page c.args.pages.now c.args.at c.requires.packed c.requires.within c.if-at-eq0.false

pub returns-clause-ok : goal.returns-clause-ok
returns-clause-ok g c =
    cut_at c.args.pages.now c.truncate_and_push.new.self c.args.at c.page.result.now c.as_slice.result.now c.in_ok-page.page c.requires.packed c.requires.within c.if-at-eq0.false
    (c.as_slice.ensures.value ∙ c.page.ensures) c.in_ok-page.ensures c.in_ok-truncate_and_push.ensures.ok
