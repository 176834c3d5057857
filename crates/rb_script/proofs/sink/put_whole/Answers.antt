use Rattle.rb_script.proofs.SentLaws.{sent_taken}
use Rattle.rb_script.proofs.WriterLaws.{calls_more}
use Rattle.rb_script.proofs.sink.put_whole.Goals as goal

pub loop-rest-preserved : goal.loop-rest-preserved
loop-rest-preserved g c = record {
  sent = sent_taken _ c.in-Ok.taken c.loop-rest.invariant.sent c.in-Ok.ensures.bytes;
  unfailed = calls_more _ _ _ c.loop-rest.invariant.unfailed c.in-Ok.ensures.counted;
}
