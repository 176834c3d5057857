use Rattle.rb_files.specs.PathErrors.{is_missing}
use Rattle.rb_files.proofs.IgnoredLaws.{still_of_reading}
use Rattle.rb_files.proofs.ignored.text_of.Goals as goal

pub returns-in-Err : goal.returns-in-Err
returns-in-Err g c = still_of_reading c.unless_missing.result c.in-Err.error (is_missing c.in-Err.error) c.in-Err.ensures c.unless_missing.ensures.missing c.unless_missing.ensures.failed
