-- What differs between two texts, and the places around it.
use Rattle.std.proofs.Common.{◌≡◌, ℕ, zero, suc, ◌+◌, ◌-◌, ◌<◌, ◌≤◌, Bool, true, false, ◌&&◌, not, ◌==◌, List, [], ◌∷◌, ◌++◌, length, take, drop, max, get_or, refl, sym, ap, ◌∙◌, arith, append_assoc}
use Rattle.std.specs.List.{slice_range}
use Rattle.std.proofs.lemmas.List.{take-append-drop, take-take, drop-drop, drop_all}
use Rattle.rb_lsp.specs.declared.document.position.Encoding.{Encoding}
use Rattle.rb_lsp.specs.declared.document.position.Position.{Position}
use Rattle.rb_lsp.specs.Places.{begins, feeds, is_place, is_place_behind, position_of}
use Rattle.rb_lsp.specs.Changes.{changed}
use Rattle.rb_lsp.proofs.PositionLaws.{place_returns}

-- ---- places by what stands beside them

abbrev before : ℕ → ℕ → List ℕ → ℕ
before first zero text = first
before first (suc k) text = get_or text k 0

before_next : (first b k : ℕ) (bytes : List ℕ) → before b k bytes ≡ before first (suc k) (b ∷ bytes)
before_next first b zero bytes = refl
before_next first b (suc k) bytes = refl

beside : (first k : ℕ) (text : List ℕ) → k ≤ length text
    → is_place_behind first k text ≡ (begins (drop k text) && not (before first k text == 13 && feeds (drop k text)))
unfolding is_place_behind
beside first zero text within = refl
beside first (suc k) [] within = absurd (omega arith)
beside first (suc k) (b ∷ bytes) within =
    beside b k bytes (omega arith)
    ∙ ap (λ (c : ℕ). begins (drop k bytes) && not (c == 13 && feeds (drop k bytes))) (before_next first b k bytes)

-- the byte before a place, as code has it
pub place_beside : (k c : ℕ) (text : List ℕ) → k ≤ length text → (0 < k → c ≡ get_or text (k - 1) 0) → (k ≡ 0 → c ≡ 0)
    → is_place k text ≡ (begins (drop k text) && not (c == 13 && feeds (drop k text)))
place_beside zero c text within some none =
    let is = none refl in
    beside 0 zero text within ∙ ap (λ (b : ℕ). begins (drop 0 text) && not (b == 13 && feeds (drop 0 text))) (sym is)
place_beside (suc k) c text within some none =
    let is : c ≡ get_or text k 0 = some (omega arith) ∙ ap (λ (i : ℕ). get_or text i 0) (omega arith) in
    beside 0 (suc k) text within ∙ ap (λ (b : ℕ). begins (drop (suc k) text) && not (b == 13 && feeds (drop (suc k) text))) (sym is)

pub first_place : (text : List ℕ) → begins text ≡ true → is_place 0 text ≡ true
unfolding is_place_behind
first_place text begin = rw begin refl

pub last_place : (k : ℕ) (text : List ℕ) → k ≡ length text → is_place k text ≡ true
last_place k text is =
    let none : drop k text ≡ [] = drop_all k text (omega arith) in
    beside 0 k text (omega arith) ∙ rw none (no_feed (before 0 k text == 13))
  where
    no_feed : (t : Bool) → (true && not (t && false)) ≡ true
    no_feed true = refl
    no_feed false = refl

-- ---- what is the same

drop_further : (i j n : ℕ) (old new : List ℕ) → drop i old ≡ drop j new → drop (i + n) old ≡ drop (j + n) new
drop_further i j n old new same =
    ap (λ (k : ℕ). drop k old) (omega arith) ∙ sym (drop-drop n i old) ∙ ap (drop n) same ∙ drop-drop n j new ∙ ap (λ (k : ℕ). drop k new) (omega arith)

-- ---- the edit

parts : (new : List ℕ) (front stop : ℕ) → front ≤ stop → take front new ++ slice_range new front stop ++ drop stop new ≡ new
parts new front stop ordered =
    let rest : drop stop new ≡ drop (stop - front) (drop front new) = ap (λ (k : ℕ). drop k new) (omega arith) ∙ sym (drop-drop (stop - front) front new) in
    append_assoc (take front new) (slice_range new front stop) (drop stop new)
    ∙ ap (λ (l : List ℕ). take front new ++ (slice_range new front stop ++ l)) rest
    ∙ ap (λ (l : List ℕ). take front new ++ l) (take-append-drop (stop - front) (drop front new))
    ∙ take-append-drop front new

edit_makes : (e : Encoding) (old new : List ℕ) (front stop new_stop : ℕ) → front ≤ stop → front ≤ new_stop → is_place front old ≡ true → is_place stop old ≡ true
    → take front old ≡ take front new → drop stop old ≡ drop new_stop new
    → changed e (record { start = position_of e front old; end = position_of e stop old }) (slice_range new front new_stop) old ≡ new
edit_makes e old new front stop new_stop ordered new_ordered from to begin end =
    let start = place_returns e 0 front old from in
    let last = place_returns e 0 stop old to in
    let most : max front stop ≡ stop = omega arith in
    rw (start, last, most, begin, end) (parts new front new_stop new_ordered)

-- the bytes that are the same, and the places around what differs
pub record Differ (old new : List ℕ) (same back front stop : ℕ) : Type 0 where
  pub begin : take same old ≡ take same new
  pub end : drop (length old - back) old ≡ drop (length new - back) new
  pub back_old : front + back ≤ length old
  pub back_new : front + back ≤ length new
  pub front_same : front ≤ same
  pub from : length old - back ≤ stop
  pub to : stop ≤ length old

pub edit_made : (e : Encoding) (old new : List ℕ) (same back front stop : ℕ) (p q : Position) → Differ old new same back front stop → is_place front old ≡ true → is_place stop old ≡ true
    → p ≡ position_of e front old → q ≡ position_of e stop old
    → changed e (record { start = p; end = q }) (slice_range new front (length new - (length old - stop))) old ≡ new
edit_made e old new same back front stop p q d at_front at_stop p_is q_is =
    let ordered : front ≤ stop = omega (arith, d.back_old, d.from) in
    let new_ordered : front ≤ length new - (length old - stop) = omega (arith, d.back_old, d.back_new, d.from, d.to) in
    let begin : take front old ≡ take front new = sym (take-take front same old d.front_same) ∙ ap (take front) d.begin ∙ take-take front same new d.front_same in
    let n = stop - (length old - back) in
    let old_stop : stop ≡ length old - back + n = omega (arith, d.from) in
    let new_stop : length new - back + n ≡ length new - (length old - stop) = omega (arith, d.back_old, d.back_new, d.from, d.to) in
    let end : drop stop old ≡ drop (length new - (length old - stop)) new =
    ap (λ (k : ℕ). drop k old) old_stop ∙ drop_further (length old - back) (length new - back) n old new d.end ∙ ap (λ (k : ℕ). drop k new) new_stop in
    rw (p_is, q_is) (edit_makes e old new front stop (length new - (length old - stop)) ordered new_ordered at_front at_stop begin end)
