-- Laws of points that are kept on the way.
use Rattle.std.proofs.Common.{◌≡◌, ℕ, suc, ◌+◌, ◌-◌, ◌*◌, ◌/◌, ◌<◌, ◌≤◌, List, [], ◌∷◌, ◌++◌, length, refl, ap, ap₂, sym, ◌∙◌, arith, inl, inr}
use Rattle.std.proofs.lemmas.List.{length_push}
use Rattle.std.proofs.lemmas.Nat.{div-mul-add}
use Rattle.std.proofs.lemmas.Bool.{cases_lt}
use Rattle.rb_replay.specs.Points.{every}
use Rattle.rb_replay.specs.Running.{IsPaced, IsPacedOn}

pub paced_start : (K from : ℕ) → IsPaced K from from K []
paced_start K from = record { so_far = refl; next = omega arith; most = omega arith; fresh = λ _. refl }

pub paced_push : (K from at until_checkpoint : ℕ) (ps : List ℕ) → 1 ≤ K → until_checkpoint ≡ 0 → IsPaced K from at until_checkpoint ps → IsPacedOn K from at K (ps ++ at ∷ [])
paced_push K from at until_checkpoint ps one none p =
    let more : length (ps ++ at ∷ []) ≡ suc (length ps) = length_push ps at ∙ omega arith in
    let here : at ≡ from + suc (length ps) * K = omega (arith, p.next) in
    record {
      so_far = ap₂ (λ (s : List ℕ) (x : ℕ). s ++ x ∷ []) p.so_far here ∙ sym (ap (every K from) more);
      next = rw more (omega (arith, here));
      least = one;
      most = omega arith;
    }

few : (j K s from until_checkpoint : ℕ) → until_checkpoint < K → from ≤ s → s + until_checkpoint ≡ from + (j + 1) * K → from < s
few j K s from until_checkpoint lt le next = omega (arith, next)

-- how many were kept before a meeting, and up to the end
pub paced_meeting : (K from s until_checkpoint : ℕ) (ps : List ℕ) → 1 ≤ K → from ≤ s → IsPaced K from s until_checkpoint ps → ps ≡ every K from ((s - 1 - from) / K)
paced_meeting K from s until_checkpoint ps one le p = p.so_far ∙ ap (every K from) (sym (many K from s until_checkpoint (length ps) one le p.next p.most p.fresh))
  where
    many : (K from s until_checkpoint j : ℕ) → 1 ≤ K → from ≤ s → s + until_checkpoint ≡ from + (j + 1) * K → until_checkpoint ≤ K → (until_checkpoint ≡ K → s ≡ from) → (s - 1 - from) / K ≡ j
    many K from s until_checkpoint j one le next most fresh =
        elim (cases_lt until_checkpoint K) [
          | inl lt ↦
              let is : s - 1 - from ≡ j * K + (K - 1 - until_checkpoint) = omega (arith, next, few j K s from until_checkpoint lt le next) in
              ap (λ (x : ℕ). x / K) is ∙ div-mul-add j K (K - 1 - until_checkpoint) (omega arith)
          | inr ge ↦
              let whole : until_checkpoint ≡ K = omega arith in
              let none : j * K ≡ 0 = omega (arith, fresh whole, next) in
              let is : s - 1 - from ≡ j * K + 0 = omega (arith, fresh whole) in
              ap (λ (x : ℕ). x / K) is ∙ div-mul-add j K 0 (omega arith)
        ]

pub paced_end : (K from n until_checkpoint : ℕ) (ps : List ℕ) → IsPacedOn K from n until_checkpoint ps → ps ≡ every K from ((n - from) / K)
paced_end K from n until_checkpoint ps p = p.so_far ∙ ap (every K from) (sym (many K from n until_checkpoint (length ps) p.next p.least p.most))
  where
    many : (K from n until_checkpoint j : ℕ) → n + until_checkpoint ≡ from + (j + 1) * K → 1 ≤ until_checkpoint → until_checkpoint ≤ K → (n - from) / K ≡ j
    many K from n until_checkpoint j next least most =
        let is : n - from ≡ j * K + (K - until_checkpoint) = omega (arith, next) in
        ap (λ (x : ℕ). x / K) is ∙ div-mul-add j K (K - until_checkpoint) (omega arith)
