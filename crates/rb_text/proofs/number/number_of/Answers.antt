use Rattle.std.proofs.Common.{◌≡◌, get_or, sym, ◌∙◌, arith}
use Rattle.std.specs.Char.{digit_value}
use Rattle.std.proofs.lemmas.Int.Digits.{digits_value_more}
use Rattle.std.proofs.lemmas.Bool.Decides.{nat_tests}
use Rattle.rb_text.proofs.NumberLaws.{few_digits, more_digits}
use Rattle.rb_text.proofs.number.number_of.Goals as goal

pub overflow_mul-number : goal.overflow_mul-number
overflow_mul-number c =
    let few = few_digits c.args.word.now c.loop-b.b-index (omega arith) (omega arith) c.loop-b.invariant.digits in
    omega arith

pub overflow_add-number : goal.overflow_add-number
overflow_add-number c =
    let few = few_digits c.args.word.now c.loop-b.b-index (omega arith) (omega arith) c.loop-b.invariant.digits in
    omega arith

pub loop-b-preserved : goal.loop-b-preserved
loop-b-preserved c =
    let digit : digit_value (get_or c.args.word.now c.loop-b.b-index 0) ≡ c.from.result = grind (arith, nat_tests) in
    record {
      value = omega (arith, digits_value_more 10 c.args.word.now c.loop-b.b-index c.loop-b-test.true, c.loop-b.invariant.value);
      digits = more_digits c.args.word.now c.loop-b.b-index c.loop-b-test.true c.loop-b.invariant.digits (sym c.is_ascii_digit.ensures.value ∙ c.if-not-is_ascii_digit.false);
    }
