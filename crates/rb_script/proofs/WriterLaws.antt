-- Laws of a writer's calls.
use Rattle.std.proofs.Common.{arith, Option, Some, None}
use Rattle.rb_script.specs.Writers.{WriterCalls, IfCounted, Counts, AreUnfailed}

-- one more that didn't fail
pub calls_more : (a b c : Option WriterCalls) → IfCounted a b AreUnfailed → IfCounted b c (Counts 0) → IfCounted a c AreUnfailed
calls_more None b c so more = tt
calls_more (Some x) None c so more = absurd so
calls_more (Some x) (Some y) None so more = absurd more
calls_more (Some x) (Some y) (Some z) so more = λ none. (omega (arith, (so none).0, more.0), omega (arith, (so none).0, (so none).1, more.1))
