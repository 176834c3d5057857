-- What is framed is a message.
use Rattle.std.proofs.Common.{◌≡◌, ℕ, ◌≤◌, true, false, IsTrue, List, [], ◌∷◌, ◌++◌, Some, length, get_or, reverse, codes, decimal, refl, ap, ◌∙◌, arith, rules, append_assoc, length-append}
use Rattle.std.specs.List.{list_all}
use Rattle.std.specs.Char.{is_ascii_digit}
use Rattle.std.specs.Str.Parse.{digits_value}
use Rattle.std.proofs.lemmas.Bool.{and_parts}
use Rattle.std.proofs.lemmas.Bool.Decides.{nat_tests}
use Rattle.std.proofs.lemmas.List.Elements.{All-nil, All-cons, All-head}
use Rattle.std.proofs.lemmas.Str.Parse.{IsNumeralModel, numerals_by_value}
use Rattle.std.proofs.lemmas.Fmt.{digits_decimal, digits_value-decimal, length-decimal-le, decimal_nonempty}
use Rattle.httparse.specs.Grammar.{Field, crlf, IsField, IsToken, AllPass, print_section, is_token_byte, is_value_byte, is_ows, skip_ows, trim_ows}
use Rattle.httparse.proofs.TrimLemmas.{trim_ows_space, AllPass-reverse}
use Rattle.rb_text.specs.Numbers.{number_of}
use Rattle.rb_lsp.specs.declared.rpc.limits.TheConstants.{MAX_BODY}
use Rattle.rb_lsp.specs.Messages.{IsMessage, frame}

own : IsNumeralModel (λ ds. list_all is_ascii_digit ds ≡ true) (digits_value 10)
own = numerals_by_value _ (search rules)

all_digits : (ds : List ℕ) → list_all is_ascii_digit ds ≡ true → AllPass is_ascii_digit ds
all_digits [] h = All-nil _
all_digits (d ∷ ds) h =
    let parts = and_parts (is_ascii_digit d) (list_all is_ascii_digit ds) h in
    All-cons (λ b. IsTrue (is_ascii_digit b)) d ds parts.0 (all_digits ds parts.1)

digit_no_blank : (b : ℕ) → IsTrue (is_ascii_digit b) → is_ows b ≡ false
digit_no_blank b h = grind (arith, nat_tests)

digit_of_value : (b : ℕ) → IsTrue (is_ascii_digit b) → IsTrue (is_value_byte b)
digit_of_value b h = grind (arith, nat_tests)

digits_stay : (ds : List ℕ) → AllPass is_ascii_digit ds → skip_ows ds ≡ ds
digits_stay [] h = refl
digits_stay (d ∷ ds) h = rw (digit_no_blank d (All-head (λ b. IsTrue (is_ascii_digit b)) d ds h)) refl

values : (ds : List ℕ) → AllPass is_ascii_digit ds → AllPass is_value_byte ds
values ds h = λ k d below. digit_of_value (get_or ds k d) (h k d below)

-- ---- the number of a length

length_read : (n : ℕ) → n ≤ MAX_BODY → number_of (decimal n) ≡ Some n
unfolding number_of
length_read n small =
    let digits = digits_decimal own n (omega arith) in
    let value = digits_value-decimal own n (omega arith) in
    let some = decimal_nonempty n (omega arith) in
    let few = length-decimal-le 10 n (omega arith) (omega arith) (omega arith) in
    grind (arith, nat_tests, digits, value, some, few)

-- ---- the field

name_is_token : IsToken (codes "Content-Length")
unfolding is_token_byte
name_is_token = search rules

section_text : (digits body rest : List ℕ)
    → (codes "Content-Length: " ++ (digits ++ (13 ∷ 10 ∷ 13 ∷ 10 ∷ body))) ++ rest
    ≡ print_section ((record { name = codes "Content-Length"; raw = 32 ∷ digits; end = crlf }) ∷ []) crlf ++ (body ++ rest)
section_text digits body rest = simp append_assoc

pub framed_is_message : (body rest : List ℕ) → length body ≤ MAX_BODY → IsMessage (frame body ++ rest) body rest
framed_is_message body rest small =
    let n = length body in
    let digits = all_digits (decimal n) (digits_decimal own n (omega arith)) in
    let f : Field = record { name = codes "Content-Length"; raw = 32 ∷ decimal n; end = crlf } in
    let field : IsField f = record { name = name_is_token; raw = All-cons (λ b. IsTrue (is_value_byte b)) 32 (decimal n) refl (values (decimal n) digits) } in
    let value : trim_ows (32 ∷ decimal n) ≡ decimal n = trim_ows_space (decimal n) (digits_stay (decimal n) digits) (digits_stay (reverse (decimal n)) (AllPass-reverse is_ascii_digit (decimal n) digits)) in
    let few = length-decimal-le 10 n (omega arith) (omega arith) (omega arith) in
    record {
      fields = f ∷ [];
      last = crlf;
      section = (All-cons IsField f [] field (All-nil IsField), section_text (decimal n) body rest);
      told = ap number_of value ∙ length_read n small;
      few = omega arith;
      short = simp length-append (omega (arith, few));
      small = small;
    }
