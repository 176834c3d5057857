-- A command is what its words spell.
use Rattle.std.proofs.Common.{◌≡◌, ◌≢◌, ℕ, ◌≤◌, Bool, true, false, cond, List, [], ◌∷◌, Option, Some, None, refl, ap, sym, subst, ◌∙◌, arith}
use Rattle.std.specs.Prelude.{IfSome, nat_lt, codes}
use Rattle.std.specs.Str.{bytes_eq}
use Rattle.std.proofs.lemmas.Slice.Eq.{bytes_eq-Decides}
use Rattle.std.proofs.lemmas.Bool.Decides.{nat_tests}
use Rattle.rb_script.specs.Lines.{Line}
use Rattle.rb_bench.specs.declared.limits.TheConstants.{MAX_GIVEN}
use Rattle.rb_bench.specs.declared.command.Command.{Command}
use Rattle.rb_bench.specs.declared.command.Command.TheVariants.{Blank, Bad, Given, Remove, Accept, Show, Report, Script, Rewrite}
use Rattle.rb_bench.specs.declared.command.Purpose.{Purpose}
use Rattle.rb_bench.specs.declared.command.Purpose.TheVariants.{Insert, Replace, Expect}
use Rattle.rb_text.specs.Words.{words}
use Rattle.rb_text.specs.Numbers.{number_of}
use Rattle.rb_bench.specs.Commands.{alone, placed, purpose_of, given, spelled, command_of}
use Rattle.rb_bench.specs.Spelling.{purpose_name, Spells}

-- one of two commands
one_of : (P : Command → Type 0) (b : Bool) (c rest : Command) → (b ≡ true → P c) → (rest ≢ Bad → P rest) → cond b c rest ≢ Bad → P (cond b c rest)
one_of P true c rest f g ne = f refl
one_of P false c rest f g ne = g ne

named : (name known : Line) → bytes_eq name known ≡ true → name ≡ known
named name known e = (bytes_eq-Decides name known).0 e

alone_named : (name known : Line) → bytes_eq name known ≡ true → name ∷ [] ≡ known ∷ []
alone_named name known e = ap (λ (l : Line). l ∷ []) (named name known e)

alone_means : (name : Line) → alone name ≢ Bad → Spells (alone name) (name ∷ [])
alone_means name ne =
    let P : Command → Type 0 = λ c. Spells c (name ∷ []) in
    one_of P (bytes_eq name (codes "accept")) Accept _ (alone_named name (codes "accept"))
    (one_of P (bytes_eq name (codes "report")) Report _ (alone_named name (codes "report"))
    (one_of P (bytes_eq name (codes "script")) Script _ (alone_named name (codes "script"))
    (one_of P (bytes_eq name (codes "rewrite")) Rewrite Bad (alone_named name (codes "rewrite")) (λ no. absurd (no refl))))) ne

placed_named : (name known digits : Line) → bytes_eq name known ≡ true → name ∷ digits ∷ [] ≡ known ∷ digits ∷ []
placed_named name known digits e = ap (λ (l : Line). l ∷ digits ∷ []) (named name known e)

placed_means : (name digits : Line) (place : Option ℕ) → number_of digits ≡ place → placed name place ≢ Bad → Spells (placed name place) (name ∷ digits ∷ [])
placed_means name digits None e ne = absurd (ne refl)
placed_means name digits (Some place) e ne =
    let P : Command → Type 0 = λ c. Spells c (name ∷ digits ∷ []) in
    one_of P (bytes_eq name (codes "remove")) (Remove place) _ (λ same. record { digits = digits; words_are = placed_named name (codes "remove") digits same; place_is = e })
    (one_of P (bytes_eq name (codes "show")) (Show place) Bad (λ same. record { digits = digits; words_are = placed_named name (codes "show") digits same; place_is = e }) (λ no. absurd (no refl))) ne

-- one of two purposes
purpose_or : (P : Option Purpose → Type 0) (b : Bool) (k rest : Option Purpose) → (b ≡ true → P k) → P rest → P (cond b k rest)
purpose_or P true k rest f g = f refl
purpose_or P false k rest f g = g

purpose_means : (name : Line) → IfSome (purpose_of name) (λ purpose. name ≡ purpose_name purpose)
purpose_means name =
    let P : Option Purpose → Type 0 = λ o. IfSome o (λ purpose. name ≡ purpose_name purpose) in
    purpose_or P (bytes_eq name (codes "insert")) (Some Insert) _ (named name (codes "insert"))
    (purpose_or P (bytes_eq name (codes "replace")) (Some Replace) _ (named name (codes "replace"))
    (purpose_or P (bytes_eq name (codes "expect")) (Some Expect) None (named name (codes "expect")) tt))

few : (count : ℕ) → nat_lt MAX_GIVEN count ≡ false → count ≤ MAX_GIVEN
few count h = grind (arith, nat_tests)

not_many : (count : ℕ) → count ≤ MAX_GIVEN → nat_lt MAX_GIVEN count ≡ false
not_many count le = grind (arith, nat_tests)

few_means : (purpose : Purpose) (place count : ℕ) (name ds cs : Line) (many : Bool) → nat_lt MAX_GIVEN count ≡ many → name ≡ purpose_name purpose → number_of ds ≡ Some place → number_of cs ≡ Some count
    → cond many Bad (Given purpose place count) ≢ Bad → Spells (cond many Bad (Given purpose place count)) (name ∷ ds ∷ cs ∷ [])
few_means purpose place count name ds cs true h e p c ne = absurd (ne refl)
few_means purpose place count name ds cs false h e p c ne = record {
  digits = ds;
  count_digits = cs;
  words_are = ap (λ (l : Line). l ∷ ds ∷ cs ∷ []) e;
  place_is = p;
  count_is = c;
  few = few count h;
}

given_means : (purpose : Option Purpose) (place count : Option ℕ) (name ds cs : Line) → IfSome purpose (λ k. name ≡ purpose_name k) → number_of ds ≡ place → number_of cs ≡ count → given purpose place count ≢ Bad → Spells (given purpose place count) (name ∷ ds ∷ cs ∷ [])
given_means (Some purpose) (Some place) (Some count) name ds cs e p c ne = few_means purpose place count name ds cs (nat_lt MAX_GIVEN count) refl e p c ne
given_means purpose place count name ds cs e p c ne = absurd (ne refl)

spelled_means : (ws : List Line) → spelled ws ≢ Bad → Spells (spelled ws) ws
spelled_means [] ne = refl
spelled_means (name ∷ []) ne = alone_means name ne
spelled_means (name ∷ ds ∷ []) ne = placed_means name ds (number_of ds) refl ne
spelled_means (name ∷ ds ∷ cs ∷ []) ne = given_means (purpose_of name) (number_of ds) (number_of cs) name ds cs (purpose_means name) refl refl ne
spelled_means (name ∷ ds ∷ cs ∷ more ∷ ws) ne = absurd (ne refl)

-- What a line is, its words spell.
pub command_means : (line : Line) (c : Command) → c ≡ command_of line → c ≢ Bad → Spells c (words line)
unfolding command_of
command_means line c e ne = subst (λ (d : Command). Spells d (words line)) (sym e) (spelled_means (words line) (λ no. ne (e ∙ no)))

spelled_only : (c : Command) (ws : List Line) → Spells c ws → spelled ws ≡ c
spelled_only Blank ws s = ap spelled s
spelled_only Bad ws s = absurd s
spelled_only (Given Insert place count) ws s =
    ap spelled s.words_are ∙ ap (λ p. given (Some Insert) p (number_of s.count_digits)) s.place_is ∙ ap (λ n. given (Some Insert) (Some place) n) s.count_is ∙ ap (λ t. cond t Bad (Given Insert place count)) (not_many count s.few)
spelled_only (Given Replace place count) ws s =
    ap spelled s.words_are ∙ ap (λ p. given (Some Replace) p (number_of s.count_digits)) s.place_is ∙ ap (λ n. given (Some Replace) (Some place) n) s.count_is ∙ ap (λ t. cond t Bad (Given Replace place count)) (not_many count s.few)
spelled_only (Given Expect place count) ws s =
    ap spelled s.words_are ∙ ap (λ p. given (Some Expect) p (number_of s.count_digits)) s.place_is ∙ ap (λ n. given (Some Expect) (Some place) n) s.count_is ∙ ap (λ t. cond t Bad (Given Expect place count)) (not_many count s.few)
spelled_only (Remove place) ws s = ap spelled s.words_are ∙ ap (placed (codes "remove")) s.place_is
spelled_only Accept ws s = ap spelled s
spelled_only (Show place) ws s = ap spelled s.words_are ∙ ap (placed (codes "show")) s.place_is
spelled_only Report ws s = ap spelled s
spelled_only Script ws s = ap spelled s
spelled_only Rewrite ws s = ap spelled s

-- What the words of a line spell, it is.
pub command_only : (line : Line) (given c : Command) → given ≡ command_of line → Spells c (words line) → given ≡ c
unfolding command_of
command_only line given c e s = e ∙ spelled_only c (words line) s
