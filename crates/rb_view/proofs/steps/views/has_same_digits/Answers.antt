use Rattle.std.proofs.Common.{decimal, ap, arith}
use Rattle.std.proofs.lemmas.Bool.Decides.{Decides-eqb}
use Rattle.std.proofs.lemmas.Fmt.{decimal_injective}
use Rattle.rb_view.proofs.steps.views.has_same_digits.Goals as goal

pub returns : goal.returns
returns c =
    let n = c.args.n in
    let m = c.args.other in
    (λ same. ap decimal ((Decides-eqb n m).0 same), λ digits. (Decides-eqb n m).1 (decimal_injective n m (omega (arith, c.ranges.n.fits)) (omega (arith, c.ranges.other.fits)) digits))
