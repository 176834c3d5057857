-- Laws of turning a session into another script.
use Rattle.std.proofs.Common.{◌≡◌, ℕ, ◌+◌, ◌-◌, ◌<◌, ◌≤◌, min, List, [], ◌∷◌, length, take, drop, ap, ap₂, sym, ◌∙◌, arith, get_or, subst, inl, inr, Option, Some, None}
use Rattle.std.specs.Prelude.{Result, Ok, Err, OnOk, OnErr, IfOk, slice_get, Contains}
use Rattle.std.proofs.lemmas.Bool.{cases_lt}
use Rattle.std.proofs.lemmas.List.{take_more_same, drop_more, get_or-take, get_or-drop, length-drop}
use Rattle.std.proofs.lemmas.Option.{get_or_from_slice_get, slice_get-map}
use Rattle.std.specs.Option.{option_map}
use Rattle.rb_script.specs.Lines.{Line}
use Rattle.rb_script.specs.Directive.{PlainDirective}
use Rattle.rb_script.specs.Script.{PlainBlock, PlainScript}
use Rattle.rb_script.specs.Reading.{directive_of}
use Rattle.rb_replay.specs.declared.splice.Splice.{Splice}
use Rattle.rb_replay.specs.declared.session.Changed.{Changed}
use Rattle.rb_replay.specs.Run.{directives, state, outputs}
use Rattle.rb_replay.specs.Report.{mismatches}
use Rattle.rb_replay.specs.Points.{AreKept}
use Rattle.rb_replay.specs.Holding.{Holding, IsOneRun}
use Rattle.rb_replay.specs.Reuse.{Change, change_by, start, stop, Meets, IsFirstMeeting, IsChange, IsCost, Reuses}
use Rattle.rb_replay.specs.Replacements.{IsLongestSplice, IsReplacementCost, IsReplaced, IsReplacement, Shown, shown}
use Rattle.rb_replay.proofs.RunLaws.{length-directives}
use Rattle.rb_replay.proofs.PointLaws.{Contains-head}
use Rattle.rb_replay.proofs.ReuseLaws.{start-le, cost-one}

-- ---- lists that share a front or a rest

-- the same element at a place of either
same-at : {T : Type 0} (xs ys : List T) (i j : ℕ) (x y d : T) → slice_get xs i ≡ Some x → slice_get ys j ≡ Some y → x ≡ y → get_or ys j d ≡ get_or xs i d
same-at {T} xs ys i j x y d first second same = get_or_from_slice_get ys j y d second ∙ sym same ∙ sym (get_or_from_slice_get xs i x d first)

pub front-more : {T : Type 0} (xs ys : List T) (i : ℕ) (x y : T) → slice_get xs i ≡ Some x → slice_get ys i ≡ Some y → x ≡ y → i < length xs → i < length ys → take i ys ≡ take i xs → take (i + 1) ys ≡ take (i + 1) xs
front-more {T} xs ys i x y first second same lt lt' before = take_more_same ys xs i x lt' lt before (same-at xs ys i i x y x first second same)

pub front-same : {T : Type 0} (xs ys : List T) (n i : ℕ) (x y : T) → slice_get xs i ≡ Some x → slice_get ys i ≡ Some y → i < n → take n ys ≡ take n xs → x ≡ y
front-same {T} xs ys n i x y first second lt same =
    sym (get_or_from_slice_get xs i x x first)
    ∙ sym (get_or-take n xs i x lt)
    ∙ ap (λ (l : List T). get_or l i x) (sym same)
    ∙ get_or-take n ys i x lt
    ∙ get_or_from_slice_get ys i y x second

pub rest-more : {T : Type 0} (xs ys : List T) (i j : ℕ) (x y : T) → slice_get xs i ≡ Some x → slice_get ys j ≡ Some y → x ≡ y → i < length xs → j < length ys → drop (j + 1) ys ≡ drop (i + 1) xs → drop j ys ≡ drop i xs
rest-more {T} xs ys i j x y first second same lt lt' after =
    drop_more ys j x lt' ∙ ap₂ (λ (z : T) (zs : List T). z ∷ zs) (same-at xs ys i j x y x first second same) after ∙ sym (drop_more xs i x lt)

pub rest-same : {T : Type 0} (xs ys : List T) (m n k : ℕ) (x y : T) → slice_get xs (m + k) ≡ Some x → slice_get ys (n + k) ≡ Some y → drop n ys ≡ drop m xs → x ≡ y
rest-same {T} xs ys m n k x y first second same =
    sym (get_or_from_slice_get xs (m + k) x x first)
    ∙ sym (get_or-drop m xs k x)
    ∙ ap (λ (l : List T). get_or l k x) (sym same)
    ∙ get_or-drop n ys k x
    ∙ get_or_from_slice_get ys (n + k) y x second

-- ---- scripts

pub directive-at : (s : PlainScript) (i : ℕ) (b : PlainBlock) → slice_get s.blocks i ≡ Some b → slice_get (directives s) i ≡ Some (directive_of b)
directive-at s i b at = slice_get-map directive_of s.blocks i ∙ ap (option_map directive_of) at

-- one directive more that both scripts share, counted from the beginning
pub share-front : (old new : PlainScript) (i : ℕ) (a b : PlainBlock) → slice_get old.blocks i ≡ Some a → slice_get new.blocks i ≡ Some b → directive_of a ≡ directive_of b → i < length old.blocks → i < length new.blocks
    → take i (directives new) ≡ take i (directives old) → take (i + 1) (directives new) ≡ take (i + 1) (directives old)
share-front old new i a b first second same lt lt' before =
    front-more (directives old) (directives new) i (directive_of a) (directive_of b) (directive-at old i a first) (directive-at new i b second) same
    (omega (arith, length-directives old)) (omega (arith, length-directives new)) before

-- where one differs no more are shared
pub differ-front : (old new : PlainScript) (i n : ℕ) (a b : PlainBlock) → slice_get old.blocks i ≡ Some a → slice_get new.blocks i ≡ Some b → (directive_of a ≡ directive_of b → ⊥) → take n (directives new) ≡ take n (directives old) → n ≤ i
differ-front old new i n a b first second differ same =
    elim (cases_lt i n) [
      | inl lt ↦ absurd (differ (front-same (directives old) (directives new) n i (directive_of a) (directive_of b) (directive-at old i a first) (directive-at new i b second) lt same))
      | inr ge ↦ ge
    ]

-- and counted from the end, where so many are shared
pub share-rest : (old new : PlainScript) (k : ℕ) (a b : PlainBlock) → slice_get old.blocks (length old.blocks - 1 - k) ≡ Some a → slice_get new.blocks (length new.blocks - 1 - k) ≡ Some b → directive_of a ≡ directive_of b → k < length old.blocks → k < length new.blocks
    → drop (length new.blocks - k) (directives new) ≡ drop (length old.blocks - k) (directives old) → drop (length new.blocks - (k + 1)) (directives new) ≡ drop (length old.blocks - (k + 1)) (directives old)
share-rest old new k a b first second same lt lt' after =
    let i : length old.blocks - 1 - k ≡ length old.blocks - (k + 1) = omega arith in
    let j : length new.blocks - 1 - k ≡ length new.blocks - (k + 1) = omega arith in
    let i-next : length old.blocks - (k + 1) + 1 ≡ length old.blocks - k = omega arith in
    let j-next : length new.blocks - (k + 1) + 1 ≡ length new.blocks - k = omega arith in
    let at : slice_get (directives old) (length old.blocks - (k + 1)) ≡ Some (directive_of a) = ap (slice_get (directives old)) (sym i) ∙ directive-at old (length old.blocks - 1 - k) a first in
    let at' : slice_get (directives new) (length new.blocks - (k + 1)) ≡ Some (directive_of b) = ap (slice_get (directives new)) (sym j) ∙ directive-at new (length new.blocks - 1 - k) b second in
    rest-more (directives old) (directives new) (length old.blocks - (k + 1)) (length new.blocks - (k + 1)) (directive_of a) (directive_of b) at at' same
    (omega (arith, length-directives old)) (omega (arith, length-directives new))
    (ap (λ (n : ℕ). drop n (directives new)) j-next ∙ after ∙ ap (λ (n : ℕ). drop n (directives old)) (sym i-next))

pub differ-rest : (old new : PlainScript) (k n : ℕ) (a b : PlainBlock) → slice_get old.blocks (length old.blocks - 1 - k) ≡ Some a → slice_get new.blocks (length new.blocks - 1 - k) ≡ Some b → (directive_of a ≡ directive_of b → ⊥)
    → n ≤ length old.blocks → n ≤ length new.blocks → drop (length new.blocks - n) (directives new) ≡ drop (length old.blocks - n) (directives old) → n ≤ k
differ-rest old new k n a b first second differ within within' same =
    elim (cases_lt k n) [
      | inl lt ↦
          let i : length old.blocks - 1 - k ≡ length old.blocks - n + (n - 1 - k) = omega arith in
          let j : length new.blocks - 1 - k ≡ length new.blocks - n + (n - 1 - k) = omega arith in
          let at : slice_get (directives old) (length old.blocks - n + (n - 1 - k)) ≡ Some (directive_of a) = ap (slice_get (directives old)) (sym i) ∙ directive-at old (length old.blocks - 1 - k) a first in
          let at' : slice_get (directives new) (length new.blocks - n + (n - 1 - k)) ≡ Some (directive_of b) = ap (slice_get (directives new)) (sym j) ∙ directive-at new (length new.blocks - 1 - k) b second in
          absurd (differ (rest-same (directives old) (directives new) (length old.blocks - n) (length new.blocks - n) (n - 1 - k) (directive_of a) (directive_of b) at at' same))
      | inr ge ↦ ge
    ]

-- ---- the longest splice

abbrev pub splice_of : ℕ → ℕ → ℕ → Splice
splice_of front old_rest new_rest = record { front = front; old_rest = old_rest; new_rest = new_rest }

-- the splice with r directives shared at the end, and f at the beginning
pub longest-of : (old new : PlainScript) (r f m a b : ℕ) → a ≡ length old.blocks → b ≡ length new.blocks → m ≡ min (a - r) (b - r) → r ≤ length old.blocks → r ≤ length new.blocks
    → drop (length new.blocks - r) (directives new) ≡ drop (length old.blocks - r) (directives old)
    → ((n : ℕ) → n ≤ length old.blocks → n ≤ length new.blocks → drop (length new.blocks - n) (directives new) ≡ drop (length old.blocks - n) (directives old) → n ≤ r)
    → f ≤ m → take f (directives new) ≡ take f (directives old) → ((n : ℕ) → n ≤ m → take n (directives new) ≡ take n (directives old) → n ≤ f)
    → IsLongestSplice (directives old) (directives new) (splice_of f (a - r) (b - r))
longest-of old new r f m a b olds news most le le' rest longest front-le front longest-front =
    let x : length (directives old) ≡ length old.blocks = length-directives old in
    let y : length (directives new) ≡ length new.blocks = length-directives new in
    record {
      same_rest = ap (λ (n : ℕ). drop (n - r) (directives new)) news ∙ rest ∙ ap (λ (n : ℕ). drop (n - r) (directives old)) (sym olds);
      old_within = omega arith;
      new_within = omega arith;
      longest_rest = λ n w w' e.
          let shared : drop (length new.blocks - n) (directives new) ≡ drop (length old.blocks - n) (directives old) = ap (λ (k : ℕ). drop (k - n) (directives new)) (sym y) ∙ e ∙ ap (λ (k : ℕ). drop (k - n) (directives old)) x in
          let t : n ≤ r = longest n (omega arith) (omega arith) shared in omega arith;
      same_front = front;
      old_from = omega arith;
      new_from = omega arith;
      longest_front = λ n w w' e. longest-front n (omega arith) e;
    }

-- as much stands behind the rests' beginnings in either
same-left : (old new : List PlainDirective) (splice : Splice) → IsLongestSplice old new splice → length new + splice.old_rest ≡ length old + splice.new_rest
same-left old new splice is =
    omega (arith, ap length is.same_rest, length-drop splice.new_rest new, length-drop splice.old_rest old, is.old_within, is.new_within)

pub splice-change : (h : Holding) (new : PlainScript) (splice : Splice) → IsOneRun h → IsLongestSplice (directives h.script) (directives new) splice → IsChange (change_by h new splice)
splice-change h new splice fresh is =
    let left : length (directives new) + splice.old_rest ≡ length (directives h.script) + splice.new_rest = same-left (directives h.script) (directives new) splice is in
    record {
      same_front = is.same_front;
      same_rest = is.same_rest;
      old_from = is.old_from;
      new_from = is.new_from;
      old_within = omega (arith, is.old_within, length-directives h.script);
      new_within = omega (arith, is.new_within, length-directives new);
      lengths = omega (arith, left, length-directives h.script, length-directives new);
      spaced = fresh.spaced;
      kept = fresh.near;
    }

-- so many directives at the end of either
rest-of : (old new : List PlainDirective) (splice : Splice) → IsLongestSplice old new splice → drop (length new - (length old - splice.old_rest)) new ≡ drop (length old - (length old - splice.old_rest)) old
rest-of old new splice is =
    let left : length new + splice.old_rest ≡ length old + splice.new_rest = same-left old new splice is in
    let i : length old - (length old - splice.old_rest) ≡ splice.old_rest = omega (arith, is.old_within) in
    let j : length new - (length old - splice.old_rest) ≡ splice.new_rest = omega (arith, is.old_within, is.new_within, left) in
    ap (λ (n : ℕ). drop n new) j ∙ is.same_rest ∙ ap (λ (n : ℕ). drop n old) (sym i)

rest-le : (old new : List PlainDirective) (a b : Splice) → IsLongestSplice old new a → IsLongestSplice old new b → b.old_rest ≤ a.old_rest
rest-le old new a b first second =
    let left : length new + a.old_rest ≡ length old + a.new_rest = same-left old new a first in
    let le : length old - a.old_rest + b.old_rest ≤ length old = second.longest_rest (length old - a.old_rest) (omega arith) (omega (arith, first.old_within, first.new_within)) (rest-of old new a first) in
    omega (arith, first.old_within)

front-le : (old new : List PlainDirective) (a b : Splice) → IsLongestSplice old new a → IsLongestSplice old new b → a.old_rest ≡ b.old_rest → a.new_rest ≡ b.new_rest → a.front ≤ b.front
front-le old new a b first second olds news = second.longest_front a.front (omega (arith, first.old_from)) (omega (arith, first.new_from)) first.same_front

pub splice-once : (old new : List PlainDirective) (a b : Splice) → IsLongestSplice old new a → IsLongestSplice old new b → a ≡ b
splice-once old new a b first second =
    let one : b.old_rest ≤ a.old_rest = rest-le old new a b first second in
    let two : a.old_rest ≤ b.old_rest = rest-le old new b a second first in
    let olds : a.old_rest ≡ b.old_rest = omega arith in
    let left : length new + a.old_rest ≡ length old + a.new_rest = same-left old new a first in
    let left' : length new + b.old_rest ≡ length old + b.new_rest = same-left old new b second in
    let news : a.new_rest ≡ b.new_rest = omega arith in
    let three : a.front ≤ b.front = front-le old new a b first second olds news in
    let four : b.front ≤ a.front = front-le old new b a second first (sym olds) (sym news) in
    let fronts : a.front ≡ b.front = omega arith in
    ap (λ (n : ℕ). splice_of n a.old_rest a.new_rest) fronts ∙ ap (λ (n : ℕ). splice_of b.front n a.new_rest) olds ∙ ap (λ (n : ℕ). splice_of b.front b.old_rest n) news

pub replacement-cost-one : (h : Holding) (new : PlainScript) (m n : ℕ) → IsReplacementCost h new m → IsReplacementCost h new n → m ≡ n
replacement-cost-one h new m n one other =
    let same : one.splice ≡ other.splice = splice-once (directives h.script) (directives new) one.splice other.splice one.is_longest other.is_longest in
    cost-one (change_by h new other.splice) m n (subst (λ (splice : Splice). IsCost (change_by h new splice) m) same one.cost) other.cost

-- ---- what a replacement comes to

pub replaced-answer : {E : Type 0} (old new : Holding) (s : PlainScript) (splice : Splice) (r : Result Changed E) → IsLongestSplice (directives old.script) (directives s) splice → OnOk r (new.script ≡ s) → new.checkpoint_interval ≡ old.checkpoint_interval
    → IfOk r (λ changed. Reuses (change_by old s splice) changed.executed new.points) → IfOk r (λ changed. changed.mismatches ≡ length new.mismatches) → IsOneRun new → OnErr r (new ≡ old) → IsReplacement old s r new
replaced-answer {E} old new s splice (Ok changed) longest on checkpoint_interval reuse count fresh same = record {
  is_on = on;
  fresh = fresh;
  checkpoint_interval = checkpoint_interval;
  reuse = record { splice = splice; is_longest = longest; reuse = reuse };
  mismatches_are = count ∙ ap length (fresh.compared ∙ ap mismatches on);
}
replaced-answer {E} old new s splice (Err e) longest on checkpoint_interval reuse count fresh same = same

pub replaced-refused : {E : Type 0} (old : Holding) (s : PlainScript) (splice : Splice) (r : Result Changed E) (A : ℕ → Type 0) → IsLongestSplice (directives old.script) (directives s) splice → OnErr r ((n : ℕ) → IsCost (change_by old s splice) n → A n) → OnErr r ((n : ℕ) → IsReplacementCost old s n → A n)
replaced-refused {E} old s splice (Ok changed) A longest within = tt
replaced-refused {E} old s splice (Err e) A longest within =
    λ (n : ℕ) (cost : IsReplacementCost old s n).
    let same : cost.splice ≡ splice = splice-once (directives old.script) (directives s) cost.splice splice cost.is_longest longest in
    within n (subst (λ (at : Splice). IsCost (change_by old s at) n) same cost.cost)

-- ---- what is shown

abbrev shown_by : PlainScript → List (List Line) → List ℕ → Shown
shown_by s os ms = record { script = s; outputs = os; mismatches = ms }

shown-fresh : (h : Holding) → IsOneRun h → shown h ≡ shown_by h.script (outputs h.script) (mismatches h.script)
shown-fresh h fresh = ap₂ (λ (os : List (List Line)) (ms : List ℕ). shown_by h.script os ms) fresh.answered fresh.compared

pub replaced-shown : (old replaced started : Holding) (s : PlainScript) (changed : Changed) → IsReplaced old s changed replaced → IsOneRun started → started.script ≡ s → shown replaced ≡ shown started
replaced-shown old replaced started s changed is fresh on =
    shown-fresh replaced is.fresh ∙ ap (λ (t : PlainScript). shown_by t (outputs t) (mismatches t)) (is.is_on ∙ sym on) ∙ sym (shown-fresh started fresh)

-- ---- scripts that differ in expectations alone

-- where all directives are shared, the rest is all of them
all-rest : (old new : List PlainDirective) (splice : Splice) → new ≡ old → IsLongestSplice old new splice → (splice.front ≡ 0) × (splice.old_rest ≡ 0) × (splice.new_rest ≡ 0)
all-rest old new splice same is =
    let long : length new ≡ length old = ap length same in
    let i : length old - length old ≡ 0 = omega arith in
    let j : length new - length old ≡ 0 = omega arith in
    let whole : drop (length new - length old) new ≡ drop (length old - length old) old = ap (λ (n : ℕ). drop n new) j ∙ same ∙ ap (λ (n : ℕ). drop n old) (sym i) in
    let le : length old + splice.old_rest ≤ length old = is.longest_rest (length old) (omega arith) (omega arith) whole in
    let left : length new + splice.old_rest ≡ length old + splice.new_rest = same-left old new splice is in
    (omega (arith, is.old_from), omega arith, omega arith)

first-kept : (K n : ℕ) (ps : List ℕ) → AreKept K n ps → Contains ps 0
first-kept K n [] kept = absurd kept
first-kept K n (p ∷ ps) kept = subst (λ (q : ℕ). Contains (p ∷ ps) q) kept.0 (Contains-head p ps)

meets-first : (c : Change) → IsChange c → c.front ≡ 0 → c.old_rest ≡ 0 → c.new_rest ≡ 0 → Meets c 0
meets-first c is front olds news =
    let le : start c ≤ c.front = start-le c in
    let back : 0 - c.new_rest + c.old_rest ≡ 0 = omega arith in
    record {
      from_start = omega arith;
      in_rest = omega arith;
      is_kept = subst (λ (p : ℕ). Contains c.points p) (sym back) (first-kept c.checkpoint_interval (length c.old.blocks) c.points is.kept);
      same = ap (state c.old) (sym back);
    }

costs-none : (c : Change) (o : Option ℕ) (n : ℕ) → Meets c 0 → IsFirstMeeting c o → n ≡ stop c o - start c → n ≡ 0
costs-none c None n meets first cost = absurd (first 0 meets)
costs-none c (Some s) n meets first cost =
    elim (cases_lt 0 s) [
      | inl lt ↦ absurd (first.1 0 lt meets)
      | inr ge ↦ omega arith
    ]

pub expectations-none : (h : Holding) (new : PlainScript) (n : ℕ) → IsOneRun h → directives new ≡ directives h.script → IsReplacementCost h new n → n ≡ 0
expectations-none h new n fresh same replacement =
    let at = all-rest (directives h.script) (directives new) replacement.splice same replacement.is_longest in
    let is : IsChange (change_by h new replacement.splice) = splice-change h new replacement.splice fresh replacement.is_longest in
    costs-none (change_by h new replacement.splice) replacement.cost.meeting n (meets-first (change_by h new replacement.splice) is at.0 at.1 at.2) replacement.cost.is_first replacement.cost.is_cost
