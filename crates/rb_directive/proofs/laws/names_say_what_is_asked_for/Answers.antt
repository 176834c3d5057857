use Rattle.rb_directive.proofs.BuildLaws.{request_named, unknown_refused}
use Rattle.rb_directive.proofs.laws.names_say_what_is_asked_for.Goals as goal

pub returns-clause-known : goal.returns-clause-known
returns-clause-known c = request_named

pub returns-clause-unknown : goal.returns-clause-unknown
returns-clause-unknown c = unknown_refused
