use Rattle.std.proofs.Common.{ap}
use Rattle.rb_files.specs.declared.path_error.PathError.{PathError}
use Rattle.rb_check.specs.Reported.{unstored}
use Rattle.rb_check.proofs.system.unread.Goals as goal

pub returns-in-OutOfMemory-clause-is : goal.returns-in-OutOfMemory-clause-is
returns-in-OutOfMemory-clause-is g = unstored (ap (λ (e : PathError). e.failure) g.alone-in-OutOfMemory.ensures)
