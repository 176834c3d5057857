use Rattle.std.proofs.Common.{sym}
use Rattle.rb_script.proofs.SharedLaws.{last_return}
use Rattle.rb_script.proofs.edits.ends_in_return.Goals as goal

pub returns-in-Some : goal.returns-in-Some
returns-in-Some c = last_return c.args.line.now c.in-Some.last.now (sym c.in-Some.ensures.value)
