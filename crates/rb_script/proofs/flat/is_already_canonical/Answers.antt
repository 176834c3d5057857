use Rattle.std.proofs.Common.{sym}
use Rattle.rb_script.proofs.WholeLaws.{text_stays, text_none}
use Rattle.rb_script.proofs.flat.is_already_canonical.Goals as goal

pub returns-then-last-eq10 : goal.returns-then-last-eq10
returns-then-last-eq10 c = λ yes. text_stays c.args.bytes.now (c.has_no_return.ensures yes) c.in-Some.last.now (sym c.in-Some.ensures.value) c.if-last-eq10.true

pub returns-in-None : goal.returns-in-None
returns-in-None c = λ yes. text_none c.args.bytes.now (sym c.in-None.ensures.value)
