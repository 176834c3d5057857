use Rattle.std.proofs.Common.{◌≡◌, [], length, refl, arith}
use Rattle.std.proofs.lemmas.List.{ext_get_or}
use Rattle.rb_script.specs.Directive.{plain_argument}
use Rattle.rb_script.specs.Tokens.{plain}
use Rattle.rb_replay.proofs.same.has_same_values.Goals as goal

pub returns : goal.returns
returns c =
    let long : length (plain_argument (plain c.args.a.now) c.args.i).values ≡ length (plain_argument (plain c.args.b.now) c.args.i).values = omega arith in
    (λ _. ext_get_or [] (plain_argument (plain c.args.a.now) c.args.i).values (plain_argument (plain c.args.b.now) c.args.i).values long (λ k lt. c.loop-j.invariant k (omega arith)), λ _. refl)
