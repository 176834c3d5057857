-- Going over directives beside the places of the mismatches.
use Rattle.std.proofs.Common.{◌≡◌, ◌∙◌, ℕ, ◌+◌, ◌<◌, Bool, true, false, not, List, [], ◌∷◌, drop, Some, refl, ap, sym, arith, inl, inr, eq-eqb}
use Rattle.std.specs.Prelude.{slice_get, if◌then◌else◌}
use Rattle.std.proofs.lemmas.Bool.{cases_Bool, ne_eqb}
use Rattle.std.proofs.lemmas.List.{drop-drop}
use Rattle.rb_script.specs.Lines.{Line}
use Rattle.rb_script.specs.Script.{PlainBlock}
use Rattle.rb_replay.specs.Report.{same_lines, differing}
use Rattle.rb_text.proofs.SentLaws.{drop-get}
use Rattle.rb_editor.specs.Findings.{stands_first}

-- ---- one directive

step_same : (p : ℕ) (b : PlainBlock) (o : List Line) (bs : List PlainBlock) (os : List (List Line)) → same_lines b.expected o ≡ true → differing p (b ∷ bs) (o ∷ os) ≡ differing (p + 1) bs os
step_same p b o bs os t = rw t refl

step_other : (p : ℕ) (b : PlainBlock) (o : List Line) (bs : List PlainBlock) (os : List (List Line)) → same_lines b.expected o ≡ false → differing p (b ∷ bs) (o ∷ os) ≡ p ∷ differing (p + 1) bs os
step_other p b o bs os f = rw f refl

-- later places are others
later : (p q : ℕ) (bs : List PlainBlock) (os : List (List Line)) → p < q → stands_first p (differing q bs os) ≡ false
later p q [] os less = refl
later p q (b ∷ bs) [] less = refl
later p q (b ∷ bs) (o ∷ os) less =
    elim (cases_Bool (same_lines b.expected o)) [
      | inl t ↦ ap (stands_first p) (step_same q b o bs os t) ∙ later p (q + 1) bs os (omega (arith, less))
      | inr f ↦ ap (stands_first p) (step_other q b o bs os f) ∙ ne_eqb q p (λ same. absurd (omega (arith, less, same)))
    ]

first_differs : (p : ℕ) (b : PlainBlock) (o : List Line) (bs : List PlainBlock) (os : List (List Line)) → stands_first p (differing p (b ∷ bs) (o ∷ os)) ≡ not (same_lines b.expected o)
first_differs p b o bs os =
    elim (cases_Bool (same_lines b.expected o)) [
      | inl t ↦ ap (stands_first p) (step_same p b o bs os t) ∙ later p (p + 1) bs os (omega arith) ∙ ap not (sym t)
      | inr f ↦ ap (stands_first p) (step_other p b o bs os f) ∙ eq-eqb p p refl ∙ ap not (sym f)
    ]

module _ (places : List ℕ) (next i : ℕ) (bs : List PlainBlock) (os : List (List Line)) (b : PlainBlock) (o : List Line) (block : slice_get bs i ≡ Some b) (output : slice_get os i ≡ Some o) (left : drop next places ≡ differing (i + 1) (drop i bs) (drop i os)) where
  here : drop next places ≡ differing (i + 1) (b ∷ drop (i + 1) bs) (o ∷ drop (i + 1) os)
  here =
      left
      ∙ ap (λ (cs : List PlainBlock). differing (i + 1) cs (drop i os)) (drop-get bs i b block)
      ∙ ap (λ (outs : List (List Line)). differing (i + 1) (b ∷ drop (i + 1) bs) outs) (drop-get os i o output)

  pub differs_there : (t : Bool) → t ≡ stands_first (i + 1) (drop next places) → t ≡ not (same_lines b.expected o)
  differs_there t is = is ∙ ap (stands_first (i + 1)) here ∙ first_differs (i + 1) b o (drop (i + 1) bs) (drop (i + 1) os)

  pub left_behind : (t : Bool) (new : ℕ) → t ≡ not (same_lines b.expected o) → new ≡ (if t then next + 1 else next) → drop new places ≡ differing (i + 1 + 1) (drop (i + 1) bs) (drop (i + 1) os)
  left_behind t new is went =
      elim (cases_Bool (same_lines b.expected o)) [
        | inl same ↦
            let stays : new ≡ next = went ∙ ap (λ (u : Bool). if u then next + 1 else next) (is ∙ ap not same) in
            ap (λ (k : ℕ). drop k places) stays ∙ here ∙ step_same (i + 1) b o (drop (i + 1) bs) (drop (i + 1) os) same
        | inr other ↦
            let on : new ≡ next + 1 = went ∙ ap (λ (u : Bool). if u then next + 1 else next) (is ∙ ap not other) in
            ap (λ (k : ℕ). drop k places) on ∙ sym (drop-drop 1 next places) ∙ ap (λ (l : List ℕ). drop 1 l) (here ∙ step_other (i + 1) b o (drop (i + 1) bs) (drop (i + 1) os) other)
      ]
