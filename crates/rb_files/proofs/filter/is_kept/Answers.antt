use Rattle.std.proofs.Common.{◌≡◌, true, get_or, refl, subst, arith, string_bytes, inl, inr}
use Rattle.std.proofs.lemmas.Bool.{cases_lt}
use Rattle.std.proofs.lemmas.Grind.{common_steps}
use Rattle.rb_files.specs.Finds.{IsMet}
use Rattle.rb_files.proofs.filter.is_kept.Goals as goal

pub returns-then-not-is_met : goal.returns-then-not-is_met
returns-then-not-is_met c = (
  λ e. absurd cc,
  λ h.
      let i = c.loop-word.word-index in
      let w = c.word-item.result in
      let e : string_bytes (get_or c.args.words.now i w) ≡ c.as_str.result.now = cc in
      let met : c.is_met.result ≡ true = c.is_met.ensures.1 (subst (λ t. IsMet t c.args.path.now) e (h i w c.loop-word-test.true)) in
      absurd (grind arith),
)

pub loop-word-preserved : goal.loop-word-preserved
loop-word-preserved c = λ k d low lt.
    let i = c.loop-word.word-index in
    elim (cases_lt k i) [
      | inl before ↦ c.loop-word.invariant k d low before
      | inr past ↦
          let here : k ≡ i = omega (arith, lt, past) in
          let e : c.as_str.result.now ≡ string_bytes (get_or c.args.words.now k d) = grind (arith, common_steps) in
          let met : c.is_met.result ≡ true = grind arith in
          subst (λ t. IsMet t c.args.path.now) e (c.is_met.ensures.0 met)
    ]

pub returns : goal.returns
returns c = (λ e k d lt. c.loop-word.invariant k d (omega arith) (omega (arith, lt, c.loop-word-test.false)), λ h. refl)
