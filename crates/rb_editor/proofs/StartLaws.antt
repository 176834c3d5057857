-- Where the lines of a text begin, a byte further.
use Rattle.std.proofs.Common.{◌≡◌, ◌≢◌, ◌∙◌, ℕ, zero, suc, ◌+◌, ◌-◌, ◌<◌, ◌≤◌, false, ◌==◌, List, length, drop, get_or, cond, refl, ap, sym, arith, add-one, drop-cons}
use Rattle.std.proofs.lemmas.List.{drop_all}
use Rattle.std.proofs.lemmas.Bool.{eqb-true}
use Rattle.rb_lsp.proofs.PlaceLaws.{test_cases}
use Rattle.rb_lsp.specs.Tables.{feed_start}

feed_at : (n i : ℕ) (text : List ℕ) → i < length text
    → feed_start (suc n) (drop i text) ≡ suc (cond (get_or text i 0 == 10) (feed_start n (drop (suc i) text)) (feed_start (suc n) (drop (suc i) text)))
unfolding feed_start
feed_at n i text within = rw (drop-cons text i 0) refl

none_left : (n i : ℕ) (text : List ℕ) → length text ≤ i → feed_start n (drop i text) ≡ 0
unfolding feed_start
none_left zero i text past = refl
none_left (suc n) i text past = rw (drop_all i text past) refl

first_start : (text : List ℕ) → feed_start 0 text ≡ 0
unfolding feed_start
first_start text = refl

other : (b : ℕ) → b ≢ 10 → (b == 10) ≡ false
other b none = test_cases (b == 10) (λ yes. absurd (none (eqb-true b 10 yes))) (λ no. no)

-- a line ends there
pub start_less : (left i : ℕ) (text : List ℕ) (total : ℕ) → left ≢ 0 → i < length text → get_or text i 0 ≡ 10 → i + feed_start left (drop i text) ≡ total
    → i + 1 + feed_start (left - 1) (drop (i + 1) text) ≡ total
start_less zero i text total some within ends so_far = absurd (some refl)
start_less (suc n) i text total some within ends so_far =
    let step : feed_start (suc n) (drop i text) ≡ suc (feed_start n (drop (suc i) text)) = feed_at n i text within ∙ rw (ap (λ (b : ℕ). b == 10) ends) refl in
    let same : feed_start n (drop (suc i) text) ≡ feed_start n (drop (i + 1) text) = ap (λ (k : ℕ). feed_start n (drop k text)) (sym (add-one i)) in
    let less : suc n - 1 ≡ n = omega arith in
    ap (λ (k : ℕ). i + 1 + feed_start k (drop (i + 1) text)) less ∙ omega (arith, so_far, step, same)

-- none does
pub start_same : (left i : ℕ) (text : List ℕ) (total : ℕ) → left ≢ 0 → i < length text → get_or text i 0 ≢ 10 → i + feed_start left (drop i text) ≡ total
    → i + 1 + feed_start left (drop (i + 1) text) ≡ total
start_same zero i text total some within none so_far = absurd (some refl)
start_same (suc n) i text total some within none so_far =
    let step : feed_start (suc n) (drop i text) ≡ suc (feed_start (suc n) (drop (suc i) text)) = feed_at n i text within ∙ rw (other (get_or text i 0) none) refl in
    let same : feed_start (suc n) (drop (suc i) text) ≡ feed_start (suc n) (drop (i + 1) text) = ap (λ (k : ℕ). feed_start (suc n) (drop k text)) (sym (add-one i)) in
    omega (arith, so_far, step, same)

-- no line is left above
pub start_here : (left i : ℕ) (text : List ℕ) (total : ℕ) → left ≡ 0 → i + feed_start left (drop i text) ≡ total → i ≡ total
start_here left i text total none so_far =
    let first : feed_start left (drop i text) ≡ 0 = ap (λ (k : ℕ). feed_start k (drop i text)) none ∙ first_start (drop i text) in
    omega (arith, so_far, first)

-- the text ends
pub start_end : (left i : ℕ) (text : List ℕ) (total : ℕ) → length text ≤ i → i ≤ length text → i + feed_start left (drop i text) ≡ total → length text ≡ total
start_end left i text total past within so_far = omega (arith, past, within, so_far, none_left left i text past)
