use Rattle.rb_laws.proofs.LineLaws.{error_said}
use Rattle.rb_laws.proofs.lines.errors_say_what_is_wrong.Goals as goal

pub returns : goal.returns
returns c = error_said
