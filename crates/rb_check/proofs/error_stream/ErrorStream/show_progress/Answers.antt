use Rattle.rb_check.specs.Shown.{progress_text}
use Rattle.rb_check.proofs.ShownLaws.{told_one}
use Rattle.rb_check.proofs.error_stream.ErrorStream.show_progress.Goals as goal

pub returns : goal.returns
returns g c = record {
  told = told_one _ _ _ c.put_progress.result c.flush.result (progress_text c.args.done c.args.all) c.put_progress.ensures.all c.flush.ensures.all c.put_progress.ensures.wrote c.flush.ensures.held;
  flushed = λ takes. c.flush.ensures.flushed (c.flush.ensures.all (c.put_progress.ensures.all takes).1).0;
}
