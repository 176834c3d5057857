use Rattle.rb_files.proofs.PlaceLaws.{fills}
use Rattle.rb_files.proofs.file_place.fill.Goals as goal

pub returns-clause-told : goal.returns-clause-told
returns-clause-told g c = fills c.args.text.now c.rename.result _ _ _ c.in_ok-prepare.ensures.told c.rename.ensures
