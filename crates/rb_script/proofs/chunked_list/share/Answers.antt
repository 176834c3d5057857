use Rattle.std.proofs.lemmas.Result.{on_ok_weaker}
use Rattle.rb_script.proofs.SharedLaws.{shared_all}
use Rattle.rb_script.proofs.chunked_list.share.Goals as goal

pub returns : goal.returns
returns g c = on_ok_weaker c.extend_with_clones.result (shared_all c.args.into.now.items c.extend_with_clones.new.self.items c.args.items.now) c.extend_with_clones.ensures.items
