use Rattle.std.proofs.Common.{List, sym, subst}
use Rattle.rb_script.specs.Script.{PlainBlock}
use Rattle.rb_script.specs.Shared.{IsKeptScript}
use Rattle.rb_script.proofs.reading.whole.Goals as goal

pub invariant_of-result : goal.invariant_of-result
invariant_of-result c = subst (λ (bs : List PlainBlock). IsKeptScript (record { blocks = bs; tail = c.args.tail }) c.args.text_len) (sym c.in_ok-of.ensures) c.requires
