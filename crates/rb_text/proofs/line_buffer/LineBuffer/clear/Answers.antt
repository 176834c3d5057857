use Rattle.std.proofs.Common.{[], sym, subst}
use Rattle.rb_text.specs.Begun.{Holds}
use Rattle.rb_text.proofs.BegunLaws.{holds_nothing}
use Rattle.rb_text.proofs.line_buffer.LineBuffer.clear.Goals as goal

pub returns-clause-begun : goal.returns-clause-begun
returns-clause-begun c = subst (Holds []) (sym c.clear.ensures.items) holds_nothing
