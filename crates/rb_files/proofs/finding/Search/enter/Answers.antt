use Rattle.std.proofs.Common.{◌≡◌, true, refl, arith}
use Rattle.rb_files.specs.contracts.entry.FolderIdOrd.TheImpl as folders
use Rattle.rb_files.proofs.WalkLaws.{enters_by}
use Rattle.rb_files.proofs.finding.Search.enter.Goals as goal

pub returns-clause-entered : goal.returns-clause-entered
returns-clause-entered g c =
    let is : c.in_ok-insert.field-0 ≡ true = grind arith in
    enters_by c.visit.result (g.T.Tree.ignores c.args.tree.now) (g.T.Tree.listings c.args.tree.now) folders.cmp-value.it c.args.folder.now c.args.id c.in_ok-insert.field-0 c.args.self.now (record c.args.self.now { folders = c.insert.new.self }) c.visit.new.self
    c.in_ok-insert.ensures.added is refl c.in_ok-insert.ensures.keys c.visit.ensures.visited
