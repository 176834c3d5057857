use Rattle.rb_laws.proofs.PrintedLogs.{same_lines}
use Rattle.rb_laws.proofs.cluster.safety.clusters_print_the_same_entries.Goals as goal

pub returns : goal.returns
returns c = same_lines
