-- The type stands among what is left.
use Rattle.std.proofs.Common.{◌≡◌, drop, map}
use Rattle.rb_vocab.specs.MessageTypes.{type_in}
use Rattle.rb_vocab.proofs.message_type.type_in.Given as goal

abbrev pub invariant-loop-row : goal.invariant-loop-row
invariant-loop-row l = type_in (map (λ r. r.0) l.rows) l.name ≡ type_in (map (λ r. r.0) (drop l.row-index l.rows)) l.name
