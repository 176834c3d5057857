use Rattle.std.proofs.Common.{append_assoc}
use Rattle.rb_bench.specs.Responses.{done}
use Rattle.rb_text.proofs.SentLaws.{writes_along}
use Rattle.rb_bench.proofs.send.put_done.Goals as goal

pub returns-clause-wrote : goal.returns-clause-wrote
returns-clause-wrote g c = writes_along _ _ _ _ (done c.args.changed) (simp append_assoc) c.put_pieces.ensures.wrote
