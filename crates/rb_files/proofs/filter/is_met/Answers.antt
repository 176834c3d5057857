use Rattle.std.proofs.Common.{◌≡◌, ℕ, Bool, true, false, List, ◌∷◌, Some, None, refl, subst, lit<}
use Rattle.std.specs.Prelude.{not, ◌↔◌}
use Rattle.std.proofs.lemmas.Bool.{both_ways}
use Rattle.std.proofs.lemmas.Str.Pattern.{strip_prefix_char}
use Rattle.std.specs.Str.Iter.{HasSubslice}
use Rattle.rb_files.specs.Finds.{IsMet}
use Rattle.rb_files.proofs.filter.is_met.Goals as goal

left_out_by : (t : Bool) (word rest path : List ℕ) → word ≡ 33 ∷ rest → ((t ≡ true) ↔ HasSubslice path rest) → (not t ≡ true) ↔ IsMet word path
left_out_by true word rest path e has = (
  λ h. absurd cc,
  λ m. absurd (m.left_out rest e (has.0 refl)),
)
left_out_by false word rest path e has = (
  λ h. record { left_out = λ other f s. let same : other ≡ rest = cc in absurd (both_ways false refl (has.1 (subst (λ r. HasSubslice path r) same s))); wanted = λ n. absurd (n rest e) },
  λ m. refl,
)

wanted_by : (t : Bool) (word path : List ℕ) → ((rest : List ℕ) → word ≡ 33 ∷ rest → ⊥) → ((t ≡ true) ↔ HasSubslice path word) → (t ≡ true) ↔ IsMet word path
wanted_by t word path none has = (
  λ h. record { left_out = λ rest e s. none rest e; wanted = λ n. has.0 h },
  λ m. has.1 (m.wanted none),
)

pub returns-in-Some : goal.returns-in-Some
returns-in-Some c =
    let word = c.args.word.now in
    left_out_by c.has_word.result word c.in-Some.rest.now c.args.path.now (strip_prefix_char 33 word (Some c.in-Some.rest) c.in-Some.ensures.cases (lit< tt)) c.has_word.ensures

pub returns-in-None : goal.returns-in-None
returns-in-None c = wanted_by c.has_word-in-None.result c.args.word.now c.args.path.now (strip_prefix_char 33 c.args.word.now None c.in-None.ensures.cases (lit< tt)) c.has_word-in-None.ensures
