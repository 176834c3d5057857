use Rattle.rb_replay.proofs.ReplacementLaws.{replaced-shown}
use Rattle.rb_replay.proofs.laws.replaced_sessions_show_a_fresh_start.Goals as goal

pub returns : goal.returns
returns c = replaced-shown
