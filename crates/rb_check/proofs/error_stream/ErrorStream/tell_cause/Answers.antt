use Rattle.rb_check.proofs.error_stream.ErrorStream.tell_cause.Goals as goal

pub returns-clause-told : goal.returns-clause-told
returns-clause-told g c = (c.words_of.result.now, c.tell.ensures.told)
