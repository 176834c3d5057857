use Rattle.std.proofs.Common.{Ok, Err}
use Rattle.rb_files.proofs.WalkLaws.{because}
use Rattle.rb_files.proofs.finding.Search.list.Goals as goal

pub returns-in-Ok-clause-listed : goal.returns-in-Ok-clause-listed
returns-in-Ok-clause-listed g c = because c.wait_for.result _ _ (λ w. (Ok c.in-Ok.listing, c.in-Ok.ensures.told, w)) c.wait_for.ensures.waits

pub returns-in-Err-clause-listed : goal.returns-in-Err-clause-listed
returns-in-Err-clause-listed g c = because c.lose_folder.result _ _ (λ w. (Err c.in-Err.error, c.in-Err.ensures.told, w)) c.lose_folder.ensures.lost
