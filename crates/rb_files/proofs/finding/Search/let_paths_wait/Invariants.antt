-- The paths from an index on wait.
use Rattle.std.proofs.Common.{◌≡◌, ◌++◌, ◌≤◌, drop, length, map}
use Rattle.rb_files.specs.Finds.{names_of}
use Rattle.rb_files.specs.Walks.{asked}
use Rattle.rb_files.proofs.finding.Search.let_paths_wait.Given as goal

abbrev pub invariant-loop-left : goal.invariant-loop-left
invariant-loop-left g l = record {
  found : l.self.found ≡ l.fn.self.found;
  same : l.self ≡ record l.fn.self { waiting = l.self.waiting };
  waits : names_of l.self.waiting.items ≡ names_of l.fn.self.waiting.items ++ asked (drop l.left (map g.S.AsStr.text l.paths));
  within : l.left ≤ length l.paths;
}

abbrev pub decreases-loop-left : goal.decreases-loop-left
decreases-loop-left g l = l.left
