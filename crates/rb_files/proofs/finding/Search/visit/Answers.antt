use Rattle.std.proofs.Common.{◌≡◌, true, false, arith}
use Rattle.rb_files.proofs.WalkLaws.{visits_not, visits_then}
use Rattle.rb_files.proofs.finding.Search.visit.Goals as goal

pub returns-then-not-branch-clause-visited : goal.returns-then-not-branch-clause-visited
returns-then-not-branch-clause-visited g c =
    let off : c.in_ok-heed_ignored.field-0 ≡ false = grind arith in
    visits_not (g.T.Tree.ignores c.args.tree.now) (g.T.Tree.listings c.args.tree.now) c.args.folder.now c.ignored_in-ignored.result c.in_ok-heed_ignored.field-0 c.args.self.now c.heed_ignored.new.self c.ignored_in-ignored.ensures.told c.in_ok-heed_ignored.ensures.heeded off

pub returns-clause-visited : goal.returns-clause-visited
returns-clause-visited g c =
    let is : c.in_ok-heed_ignored.field-0 ≡ true = grind arith in
    visits_then c.list.result (g.T.Tree.ignores c.args.tree.now) (g.T.Tree.listings c.args.tree.now) c.args.folder.now c.ignored_in-ignored.result c.in_ok-heed_ignored.field-0 c.args.self.now c.heed_ignored.new.self c.list.new.self c.ignored_in-ignored.ensures.told c.in_ok-heed_ignored.ensures.heeded is c.list.ensures.listed
