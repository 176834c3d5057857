-- Names that are no text wait for nothing.
use Rattle.std.proofs.Common.{◌≡◌, ◌++◌, take}
use Rattle.rb_files.specs.Finds.{AreTold, losses, undecodable}
use Rattle.rb_files.proofs.finding.Search.wait_for.Given as goal

abbrev pub invariant-loop-name : goal.invariant-loop-name
invariant-loop-name g l = record {
  scripts : l.self.found.scripts ≡ l.fn.self.found.scripts;
  told : AreTold l.fn.self.found.lost.items → AreTold l.self.found.lost.items;
  same : l.self ≡ record l.fn.self { found = record l.fn.self.found { lost = l.self.found.lost } };
  lost : losses l.self.found.lost.items ≡ losses l.fn.self.found.lost.items ++ undecodable l.folder (take l.name-index l.name-items);
}
