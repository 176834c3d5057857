use Rattle.std.proofs.Common.{◌≡◌, length, refl, arith}
use Rattle.std.proofs.lemmas.List.{ext_get_or}
use Rattle.rb_script.specs.Directive.{no_argument}
use Rattle.rb_script.specs.Tokens.{plain}
use Rattle.rb_replay.proofs.same.has_same_arguments.Goals as goal

pub returns : goal.returns
returns c =
    let long : length (plain c.args.a.now).args ≡ length (plain c.args.b.now).args = omega arith in
    (λ _. ext_get_or no_argument (plain c.args.a.now).args (plain c.args.b.now).args long (λ k lt. c.loop-i.invariant k (omega arith)), λ _. refl)
