use Rattle.std.proofs.Common.{◌∙◌, ap}
use Rattle.rb_args.proofs.CommandLaws.{app_of-fields, has_globals-fields}
use Rattle.rb_args.specs.CommandLine.{with_version}
use Rattle.rb_args.proofs.commands.bare_command.Goals as goal

pub returns-clause-app : goal.returns-clause-app
returns-clause-app c = app_of-fields _ _ c.version.ensures ∙ ap with_version c.described.ensures.app

pub returns-clause-local : goal.returns-clause-local
returns-clause-local c = has_globals-fields _ _ c.version.ensures ∙ c.described.ensures.local
