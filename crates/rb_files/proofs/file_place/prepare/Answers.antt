use Rattle.rb_files.proofs.PlaceLaws.{prepares}
use Rattle.rb_files.proofs.file_place.prepare.Goals as goal

pub returns-clause-told : goal.returns-clause-told
returns-clause-told g c = prepares c.args.text.now c.look.result _ _ _ _ c.in_ok-put.ensures.told c.in_ok-settle.ensures.told c.look.ensures.told
