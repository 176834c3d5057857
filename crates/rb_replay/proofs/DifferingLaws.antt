-- Laws of mismatches.
use Rattle.std.proofs.Common.{◌≡◌, ℕ, zero, suc, ◌+◌, ◌-◌, ◌<◌, ◌≤◌, List, [], ◌∷◌, ◌++◌, length, take, drop, map, refl, ap, ap₂, sym, ◌∙◌, arith, Bool, Some, true, false, append_assoc}
use Rattle.std.specs.Prelude.{filter, nat_lt, nat_le, Decides, slice_get}
use Rattle.std.specs.List.{AllByRecursion}
use Rattle.std.proofs.lemmas.Bool.{le-leb}
use Rattle.std.proofs.lemmas.Bool.Decides.{nat_tests}
use Rattle.std.proofs.lemmas.Slice.Eq.{bytes_eq-Decides, slice_eq-Decides}
use Rattle.std.proofs.lemmas.List.{take_all, length-take-le, length-drop, take-append-drop, drop-drop}
use Rattle.rb_script.specs.Lines.{Line}
use Rattle.rb_script.specs.Script.{PlainBlock, PlainScript, all_expecting}
use Rattle.rb_replay.specs.declared.splice.Splice.{Splice}
use Rattle.rb_replay.specs.Run.{outputs}
use Rattle.rb_replay.specs.Report.{same_lines, differing, mismatches}
use Rattle.rb_replay.specs.Points.{IsRising}
use Rattle.rb_replay.specs.Splices.{IsUpdated}
use Rattle.rb_replay.proofs.RunLaws.{length-outputs}
use Rattle.rb_replay.proofs.PartLaws.{nothing_below}
use Rattle.rb_text.proofs.SentLaws.{drop-get}

-- ---- the test of lines

pub same_lines-Decides : (ls os : List Line) → Decides (same_lines ls os) (ls ≡ os)
same_lines-Decides ls os = slice_eq-Decides bytes_eq-Decides ls os (same_lines ls os) refl

-- ---- one block on

module _ (to i : ℕ) (bs : List PlainBlock) (os : List (List Line)) (b : PlainBlock) (o : List Line) (within : i < to) (block : slice_get bs i ≡ Some b) (output : slice_get os i ≡ Some o) where
  -- what is to be compared from a place on: the block there, and those after it
  one_on : differing (i + 1) (drop i bs) (take (to - i) (drop i os)) ≡ differing (i + 1) (b ∷ drop (i + 1) bs) (o ∷ take (to - (i + 1)) (drop (i + 1) os))
  one_on =
      let more : to - i ≡ suc (to - (i + 1)) = omega arith in
      ap₂ (differing (i + 1)) (drop-get bs i b block) (ap₂ (λ (n : ℕ) (l : List (List Line)). take n l) more (drop-get os i o output))

  pub differing_same : same_lines b.expected o ≡ true → differing (i + 1) (drop i bs) (take (to - i) (drop i os)) ≡ differing (i + 1 + 1) (drop (i + 1) bs) (take (to - (i + 1)) (drop (i + 1) os))
  differing_same same = one_on ∙ (rw same refl)

  pub differing_other : same_lines b.expected o ≡ false → differing (i + 1) (drop i bs) (take (to - i) (drop i os)) ≡ (i + 1) ∷ differing (i + 1 + 1) (drop (i + 1) bs) (take (to - (i + 1)) (drop (i + 1) os))
  differing_other other = one_on ∙ (rw other refl)

pub differing_none : (place : ℕ) (bs : List PlainBlock) → differing place bs [] ≡ []
differing_none place [] = refl
differing_none place (b ∷ bs) = refl

-- of all outputs of a script
pub differing-all : (s : PlainScript) (os : List (List Line)) (n : ℕ) → os ≡ outputs s → n ≡ length s.blocks → differing (0 + 1) (drop 0 s.blocks) (take (n - 0) (drop 0 os)) ≡ mismatches s
differing-all s os n is len =
    let long : length os ≤ n - 0 = omega (arith, ap length is, length-outputs s, len) in
    let one : 0 + 1 ≡ 1 = omega arith in
    ap (λ (m : ℕ). differing m s.blocks (take (n - 0) os)) one ∙ ap (differing 1 s.blocks) (take_all (n - 0) os long ∙ is)

-- ---- parts of the list

test_cases : {A : Type 0} (t : Bool) → (t ≡ true → A) → (t ≡ false → A) → A
test_cases true same other = same refl
test_cases false same other = other refl

pub differing-rising : (place : ℕ) (bs : List PlainBlock) (os : List (List Line)) → IsRising place (differing place bs os)
differing-rising place [] os = tt
differing-rising place (b ∷ bs) [] = tt
differing-rising place (b ∷ bs) (o ∷ os) =
    test_cases (same_lines b.expected o)
    (λ yes. rw yes (rising-down place (differing (place + 1) bs os) (differing-rising (place + 1) bs os)))
    (λ no. rw no (omega arith, differing-rising (place + 1) bs os))
  where
    rising-down : (a : ℕ) (ps : List ℕ) → IsRising (a + 1) ps → IsRising a ps
    rising-down a [] rising = tt
    rising-down a (p ∷ ps) rising = (omega (arith, rising.0), rising.1)

pub rising-zero : (a : ℕ) (ps : List ℕ) → IsRising a ps → IsRising 0 ps
rising-zero a [] rising = tt
rising-zero a (p ∷ ps) rising = (omega arith, rising.1)

-- what stands before a place, and what stands from it on
pub differing-before : (place i : ℕ) (bs : List PlainBlock) (os : List (List Line)) → filter (λ p. nat_lt p (place + i)) (differing place bs os) ≡ differing place (take i bs) (take i os)
differing-before place zero bs os = sym (nothing_below place (place + 0) (differing place bs os) (omega arith) (differing-rising place bs os)).0
differing-before place (suc i) [] os = refl
differing-before place (suc i) (b ∷ bs) [] = refl
differing-before place (suc i) (b ∷ bs) (o ∷ os) =
    let on : place + suc i ≡ place + 1 + i = omega arith in
    let rest : filter (λ p. nat_lt p (place + suc i)) (differing (place + 1) bs os) ≡ differing (place + 1) (take i bs) (take i os) = ap (λ (n : ℕ). filter (λ p. nat_lt p n) (differing (place + 1) bs os)) on ∙ differing-before (place + 1) i bs os in
    let here : nat_lt place (place + suc i) ≡ true = le-leb (suc place) (place + suc i) (omega arith) in
    test_cases (same_lines b.expected o) (λ yes. rw yes rest) (λ no. rw (no, here) (ap (λ (ps : List ℕ). place ∷ ps) rest))

pub differing-from : (place i : ℕ) (bs : List PlainBlock) (os : List (List Line)) → filter (λ p. nat_le (place + i) p) (differing place bs os) ≡ differing (place + i) (drop i bs) (drop i os)
differing-from place zero bs os = sym (nothing_below place (place + 0) (differing place bs os) (omega arith) (differing-rising place bs os)).1 ∙ ap (λ (n : ℕ). differing n bs os) (omega arith)
differing-from place (suc i) [] os = refl
differing-from place (suc i) (b ∷ bs) [] = sym (differing_none (place + suc i) (drop i bs))
differing-from place (suc i) (b ∷ bs) (o ∷ os) =
    let on : place + suc i ≡ place + 1 + i = omega arith in
    let rest : filter (λ p. nat_le (place + suc i) p) (differing (place + 1) bs os) ≡ differing (place + suc i) (drop i bs) (drop i os) =
    ap (λ (n : ℕ). filter (λ p. nat_le n p) (differing (place + 1) bs os)) on ∙ differing-from (place + 1) i bs os ∙ ap (λ (n : ℕ). differing n (drop i bs) (drop i os)) (sym on) in
    let here : nat_le (place + suc i) place ≡ false = past place i in
    test_cases (same_lines b.expected o) (λ yes. rw yes rest) (λ no. rw (no, here) rest)
  where
    past : (place i : ℕ) → nat_le (place + suc i) place ≡ false
    past place i = grind (arith, nat_tests)

pub differing-append : (place : ℕ) (bs : List PlainBlock) (os more : List (List Line)) (rest : List PlainBlock) → length bs ≡ length os → differing place (bs ++ rest) (os ++ more) ≡ differing place bs os ++ differing (place + length bs) rest more
differing-append place [] [] more rest e = ap (λ (n : ℕ). differing n rest more) (omega arith)
differing-append place [] (o ∷ os) more rest e = absurd (omega arith)
differing-append place (b ∷ bs) [] more rest e = absurd (omega arith)
differing-append place (b ∷ bs) (o ∷ os) more rest e =
    let on : place + 1 + length bs ≡ place + suc (length bs) = omega arith in
    let ih : differing (place + 1) (bs ++ rest) (os ++ more) ≡ differing (place + 1) bs os ++ differing (place + suc (length bs)) rest more = differing-append (place + 1) bs os more rest (omega arith) ∙ ap (λ (n : ℕ). differing (place + 1) bs os ++ differing n rest more) on in
    test_cases (same_lines b.expected o) (λ yes. rw yes ih) (λ no. rw no (ap (λ (ps : List ℕ). place ∷ ps) ih))

-- places that move
pub differing-moved : (r t place to : ℕ) (bs : List PlainBlock) (os : List (List Line)) → r ≤ place → to ≡ place - r + t → map (λ (p : ℕ). p - r + t) (differing place bs os) ≡ differing to bs os
differing-moved r t place to [] os le e = refl
differing-moved r t place to (b ∷ bs) [] le e = refl
differing-moved r t place to (b ∷ bs) (o ∷ os) le e =
    let ih : map (λ (p : ℕ). p - r + t) (differing (place + 1) bs os) ≡ differing (to + 1) bs os = differing-moved r t (place + 1) (to + 1) bs os (omega arith) (omega arith) in
    test_cases (same_lines b.expected o) (λ yes. rw yes ih) (λ no. rw no (ap₂ (λ (q : ℕ) (qs : List ℕ). q ∷ qs) (sym e) ih))

-- no more outputs than there are count
pub differing-take : (place : ℕ) (bs : List PlainBlock) (os : List (List Line)) → differing place (take (length os) bs) os ≡ differing place bs os
differing-take place [] [] = refl
differing-take place [] (o ∷ os) = refl
differing-take place (b ∷ bs) [] = refl
differing-take place (b ∷ bs) (o ∷ os) =
    let ih : differing (place + 1) (take (length os) bs) os ≡ differing (place + 1) bs os = differing-take (place + 1) bs os in
    test_cases (same_lines b.expected o) (λ yes. rw yes ih) (λ no. rw no (ap (λ (ps : List ℕ). place ∷ ps) ih))

-- each is at most the last place
abbrev pub AreAtMost : ℕ → List ℕ → Type 0
AreAtMost n ps = AllByRecursion (λ p. p ≤ n) ps

pub differing-within : (n place : ℕ) (bs : List PlainBlock) (os : List (List Line)) → place + length bs ≤ n + 1 → AreAtMost n (differing place bs os)
differing-within n place [] os le = tt
differing-within n place (b ∷ bs) [] le = tt
differing-within n place (b ∷ bs) (o ∷ os) le =
    let ih : AreAtMost n (differing (place + 1) bs os) = differing-within n (place + 1) bs os (omega arith) in
    test_cases (same_lines b.expected o) (λ yes. rw yes ih) (λ no. rw no (omega arith, ih))

-- a script that expects its outputs has none
pub differing-accepted : (place : ℕ) (bs : List PlainBlock) (os : List (List Line)) → differing place (all_expecting bs os) os ≡ []
unfolding all_expecting
differing-accepted place [] os = refl
differing-accepted place (b ∷ bs) [] = refl
differing-accepted place (b ∷ bs) (o ∷ os) = let same : same_lines o o ≡ true = (same_lines-Decides o o).1 refl in rw same (differing-accepted (place + 1) bs os)

-- ---- mismatches that are new_mismatches

pub new_mismatches-differing : (old new : PlainScript) (splice : Splice) (from : ℕ) (os : List (List Line)) (stop : ℕ) → IsUpdated old new splice from os stop
    → filter (λ p. nat_lt p (from + 1)) (mismatches old) ++ (differing (from + 1) (drop from new.blocks) os ++ map (λ (p : ℕ). p - splice.old_rest + splice.new_rest) (filter (λ p. nat_le (stop + 1) p) (mismatches old))) ≡ mismatches new
new_mismatches-differing old new splice from os stop m =
    let mid : ℕ = length os in
    let one : from + 1 ≡ 1 + from = omega arith in
    let last : stop + 1 ≡ 1 + stop = omega arith in
    let long : length (outputs new) ≡ length new.blocks = length-outputs new in
    let fronts : length (take from new.blocks) ≡ from = length-take-le from new.blocks (omega (arith, m.new_within)) in
    let answers : length (take from (outputs new)) ≡ from = length-take-le from (outputs new) (omega (arith, m.new_within)) in
    let rest_len : length (drop from new.blocks) ≡ length new.blocks - from = length-drop from new.blocks in
    let mids : length (take (length os) (drop from new.blocks)) ≡ length os = length-take-le (length os) (drop from new.blocks) (omega (arith, m.new_within)) in
    let first : filter (λ p. nat_lt p (from + 1)) (mismatches old) ≡ differing 1 (take from new.blocks) (take from (outputs new)) =
    ap (λ (n : ℕ). filter (λ p. nat_lt p n) (mismatches old)) one ∙ differing-before 1 from old.blocks (outputs old) ∙ ap₂ (differing 1) (sym m.same_front) (sym m.same_answers) in
    let second : differing (from + 1) (drop from new.blocks) os ≡ differing (1 + from) (take (length os) (drop from new.blocks)) os =
    ap (λ (n : ℕ). differing n (drop from new.blocks) os) one ∙ sym (differing-take (1 + from) (drop from new.blocks) os) in
    let to : 1 + from + length os ≡ 1 + stop - splice.old_rest + splice.new_rest = omega (arith, m.moved, m.in_rest) in
    let third : map (λ (p : ℕ). p - splice.old_rest + splice.new_rest) (filter (λ p. nat_le (stop + 1) p) (mismatches old)) ≡ differing (1 + from + length os) (drop (from + length os) new.blocks) (drop (from + length os) (outputs new)) =
    ap (λ (n : ℕ). map (λ (p : ℕ). p - splice.old_rest + splice.new_rest) (filter (λ p. nat_le n p) (mismatches old))) last
    ∙ ap (map (λ (p : ℕ). p - splice.old_rest + splice.new_rest)) (differing-from 1 stop old.blocks (outputs old))
    ∙ differing-moved splice.old_rest splice.new_rest (1 + stop) (1 + from + length os) (drop stop old.blocks) (drop stop (outputs old)) (omega (arith, m.in_rest)) to
    ∙ ap₂ (differing (1 + from + length os)) (sym m.same_rest) (sym m.same_end) in
    let blocks : take from new.blocks ++ (take (length os) (drop from new.blocks) ++ drop (from + length os) new.blocks) ≡ new.blocks =
    ap (λ (bs : List PlainBlock). take from new.blocks ++ (take (length os) (drop from new.blocks) ++ bs)) (ap (λ (n : ℕ). drop n new.blocks) (omega arith) ∙ sym (drop-drop (length os) from new.blocks))
    ∙ ap (λ (bs : List PlainBlock). take from new.blocks ++ bs) (take-append-drop (length os) (drop from new.blocks)) ∙ take-append-drop from new.blocks in
    let outs : take from (outputs new) ++ (os ++ drop (from + length os) (outputs new)) ≡ outputs new =
    sym (append_assoc (take from (outputs new)) os (drop (from + length os) (outputs new))) ∙ ap (λ (o : List (List Line)). o ++ drop (from + length os) (outputs new)) m.answers_on ∙ take-append-drop (from + length os) (outputs new) in
    let split : mismatches new ≡ differing 1 (take from new.blocks) (take from (outputs new)) ++ (differing (1 + from) (take (length os) (drop from new.blocks)) os ++ differing (1 + from + length os) (drop (from + length os) new.blocks) (drop (from + length os) (outputs new))) =
    sym (ap₂ (differing 1) blocks outs)
    ∙ differing-append 1 (take from new.blocks) (take from (outputs new)) (os ++ drop (from + length os) (outputs new)) (take (length os) (drop from new.blocks) ++ drop (from + length os) new.blocks) (omega arith)
    ∙ ap (λ (n : ℕ). differing 1 (take from new.blocks) (take from (outputs new)) ++ differing (1 + n) (take (length os) (drop from new.blocks) ++ drop (from + length os) new.blocks) (os ++ drop (from + length os) (outputs new))) fronts
    ∙ ap (λ (ps : List ℕ). differing 1 (take from new.blocks) (take from (outputs new)) ++ ps)
    (differing-append (1 + from) (take (length os) (drop from new.blocks)) os (drop (from + length os) (outputs new)) (drop (from + length os) new.blocks) mids
    ∙ ap (λ (n : ℕ). differing (1 + from) (take (length os) (drop from new.blocks)) os ++ differing (1 + from + n) (drop (from + length os) new.blocks) (drop (from + length os) (outputs new))) mids) in
    ap₂ (λ (a b : List ℕ). a ++ b) first (ap₂ (λ (a b : List ℕ). a ++ b) second third) ∙ sym split

-- a script's mismatches are ascending, and are places of it
pub mismatches-rising : (s : PlainScript) → IsRising 0 (mismatches s)
mismatches-rising s = rising-zero 1 (mismatches s) (differing-rising 1 s.blocks (outputs s))

pub mismatches-within : (n : ℕ) (s : PlainScript) → length s.blocks ≤ n → AreAtMost n (mismatches s)
mismatches-within n s le = differing-within n 1 s.blocks (outputs s) (omega arith)
