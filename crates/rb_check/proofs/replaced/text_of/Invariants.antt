-- None of the bytes so far is the byte.
use Rattle.std.proofs.Common.{◌≡◌, drop}
use Rattle.rb_check.specs.Replaced.{text_of}
use Rattle.rb_check.proofs.replaced.text_of.Given as goal

abbrev pub invariant-loop-replaced : goal.invariant-loop-replaced
invariant-loop-replaced l = text_of (drop l.replaced-index l.table) l.b l.own ≡ text_of l.table l.b l.own
