-- The paths so far are reported and counted.
use Rattle.std.proofs.Common.{◌≡◌, take}
use Rattle.std.specs.Prelude.{map}
use Rattle.rb_check.specs.Lost.{lost_path, paths_text}
use Rattle.rb_check.specs.Results.{counts_of}
use Rattle.rb_check.specs.Shown.{Prints}
use Rattle.rb_check.proofs.paths.tell_each_lost.Given as goal

abbrev pub invariant-loop-i : goal.invariant-loop-i
invariant-loop-i g l = record {
  counts : l.check.results.counts ≡ counts_of l.fn.check.results.counts (map lost_path (take l.i l.lost));
  listed : l.check.results.differing.items ≡ l.fn.check.results.differing.items;
  shown : Prints g.W.Sink.held l.fn.check.report l.check.report (paths_text l.fn.check.report.state.form (take l.i l.lost));
}
