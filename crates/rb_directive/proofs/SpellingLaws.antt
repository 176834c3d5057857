-- Numbers in decimal digits are read as themselves.
use Rattle.std.proofs.Common.{◌≡◌, ℕ, ◌^◌, ◌<◌, ◌≤◌, Bool, true, [], ◌∷◌, length, decimal, Some, None, ap, ◌∙◌, rules, arith}
use Rattle.std.specs.Prelude.{nat_le, if◌then◌else◌}
use Rattle.std.specs.List.{list_all}
use Rattle.std.specs.Char.{is_ascii_digit}
use Rattle.std.specs.Str.Parse.{digits_value}
use Rattle.std.proofs.lemmas.Bool.{le-leb, and_from}
use Rattle.std.proofs.lemmas.Fmt.{decimal_nonempty, length-decimal-le, digits_decimal, digits_value-decimal}
use Rattle.std.proofs.lemmas.Str.Parse.{IsNumeralModel, numerals_by_value}
use Rattle.rb_text.specs.Numbers.{number_of}
use Rattle.rb_directive.specs.Forms.{within}
use Rattle.rb_directive.specs.Reading.{number_value}

own : IsNumeralModel (λ ds. list_all is_ascii_digit ds ≡ true) (digits_value 10)
own = numerals_by_value _ (search rules)

-- the digits of a number are that number
pub number_read : (n : ℕ) → n < 10 ^ 10 → number_of (decimal n) ≡ Some n
unfolding number_of
number_read n h =
    let wide : n < 2 ^ 64 = omega arith in
    let some : nat_le 1 (length (decimal n)) ≡ true = le-leb 1 (length (decimal n)) (omega (arith, decimal_nonempty n wide)) in
    let few : nat_le (length (decimal n)) 10 ≡ true = le-leb (length (decimal n)) 10 (length-decimal-le 10 n (omega arith) h wide) in
    let all : list_all is_ascii_digit (decimal n) ≡ true = digits_decimal own n wide in
    ap (λ (b : Bool). if b then Some (digits_value 10 (decimal n)) else None) (and_from _ _ (and_from _ _ some few) all)
    ∙ ap (λ (m : ℕ). Some m) (digits_value-decimal own n wide)

-- so it is where it has to be from `low` to `high`
pub number_in : (low high n : ℕ) → low ≤ n → n ≤ high → n < 10 ^ 10 → number_value low high (decimal n ∷ []) ≡ Some n
number_in low high n least most h =
    ap (within low high) (number_read n h)
    ∙ ap (λ (b : Bool). if b then Some n else None) (and_from (nat_le low n) (nat_le n high) (le-leb low n least) (le-leb n high most))
