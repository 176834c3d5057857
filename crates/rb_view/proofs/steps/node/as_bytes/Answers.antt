use Rattle.std.proofs.Common.{arith}
use Rattle.rb_view.proofs.LineByteLaws.{are_bytes}
use Rattle.rb_view.proofs.steps.node.as_bytes.Goals as goal

pub returns-clause-bytes : goal.returns-clause-bytes
returns-clause-bytes c = are_bytes c.args.bytes.now (λ k. omega (arith, c.type_inv.bytes k))
