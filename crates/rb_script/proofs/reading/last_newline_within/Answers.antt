use Rattle.rb_script.proofs.ShortLaws.{near_feed}
use Rattle.rb_script.proofs.reading.last_newline_within.Goals as goal

pub returns : goal.returns
returns c = near_feed c.args.bytes.now c.memrchr.result c.memrchr.ensures
