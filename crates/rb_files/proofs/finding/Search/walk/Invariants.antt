-- The paths so far were looked at.
use Rattle.rb_files.specs.Finds.{IsFound}
use Rattle.rb_files.specs.Walks.{Walks}
use Rattle.rb_files.specs.contracts.entry.FileIdOrd.TheImpl as files
use Rattle.rb_files.specs.contracts.entry.FolderIdOrd.TheImpl as folders
use Rattle.rb_files.proofs.finding.Search.walk.Given as goal

abbrev pub invariant-loop : goal.invariant-loop
invariant-loop g l = record {
  found : IsFound l.words l.self.found;
  walked : Walks (g.T.Tree.entries l.tree) (g.T.Tree.ignores l.tree) (g.T.Tree.listings l.tree) files.cmp-value.it folders.cmp-value.it l.words l.fn.self l.self;
}
