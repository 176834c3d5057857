use Rattle.rb_laws.proofs.SourceLaws.{entries_have_sources}
use Rattle.rb_laws.proofs.cluster.entries.entries_were_proposed.Goals as goal

pub returns : goal.returns
returns c = λ members s hs k i n e. entries_have_sources members s hs k i n e
