use Rattle.std.proofs.Common.{◌∙◌}
use Rattle.rb_args.proofs.CommandLaws.{app_of-fields, has_globals-fields}
use Rattle.rb_args.proofs.commands.described.Goals as goal

pub returns-clause-app : goal.returns-clause-app
returns-clause-app c = app_of-fields _ _ c.about.ensures ∙ c.new.ensures.app

pub returns-clause-local : goal.returns-clause-local
returns-clause-local c = has_globals-fields _ _ c.about.ensures ∙ c.new.ensures.local
