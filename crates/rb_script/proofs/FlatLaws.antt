-- Lines in one buffer.
use Rattle.std.proofs.Common.{◌≡◌, ℕ, ◌+◌, ◌-◌, ◌≤◌, ◌<◌, List, [], ◌∷◌, ◌++◌, length, take, drop, get_or, refl, ap, sym, subst, ◌∙◌, append_assoc, zero, suc, length-append, arith}
use Rattle.std.specs.Prelude.{slice_get, Some, Result, Ok, Err, OnOk, OnErr}
use Rattle.std.proofs.lemmas.List.{append-nil, take-append-drop, take_at, drop_at, drop_more}
use Rattle.std.proofs.lemmas.Option.{slice_get-get_or}
use Rattle.std.proofs.lemmas.List.Concat.{flat_map-append}
use Rattle.rb_script.specs.Lines.{Line, line_text, text_of}
use Rattle.rb_script.specs.Flat.{ends_of, from_start, parted, line_start, between, IsFlat}
use Rattle.rb_script.proofs.BetweenLaws.{take_between}

-- the line that stands behind other text is cut out again
first_part : (before line rest : List ℕ) → take ((length before + length line + 1) - length before - 1) (drop (length before) (before ++ (line ++ rest))) ≡ line
first_part before line rest =
    ap (λ (l : List ℕ). take ((length before + length line + 1) - length before - 1) l) (drop_at before (line ++ rest) (length before) refl)
    ∙ take_at line rest ((length before + length line + 1) - length before - 1) (omega arith)

-- lines are cut out of their text where they end
pub parted_behind : (before : List ℕ) (ls : List Line) → parted (length before) (ends_of (length before) ls) (before ++ text_of ls) ≡ ls
unfolding parted ends_of
parted_behind before [] = refl
parted_behind before (line ∷ ls) =
    let whole : before ++ (line_text line ++ text_of ls) ≡ (before ++ line_text line) ++ text_of ls = sym (append_assoc before (line_text line) (text_of ls)) in
    let len : length (before ++ line_text line) ≡ length before + length line + 1 = length-append before (line_text line) ∙ ap (λ (n : ℕ). length before + n) (length-append line (10 ∷ [])) ∙ omega arith in
    ap (λ (l : List ℕ). take ((length before + length line + 1) - length before - 1) (drop (length before) (before ++ l)) ∷ parted (length before + length line + 1) (ends_of (length before + length line + 1) ls) (before ++ (line_text line ++ text_of ls))) (append_assoc line (10 ∷ []) (text_of ls))
    ∙ ap (λ (l : Line). l ∷ parted (length before + length line + 1) (ends_of (length before + length line + 1) ls) (before ++ (line_text line ++ text_of ls))) (first_part before line (10 ∷ text_of ls))
    ∙ ap (λ (l : List ℕ). line ∷ parted (length before + length line + 1) (ends_of (length before + length line + 1) ls) l) whole
    ∙ ap (λ (n : ℕ). line ∷ parted n (ends_of n ls) ((before ++ line_text line) ++ text_of ls)) (sym len)
    ∙ ap (λ (l : List Line). line ∷ l) (parted_behind (before ++ line_text line) ls)

pub parted_whole : (ls : List Line) → parted 0 (ends_of 0 ls) (text_of ls) ≡ ls
parted_whole ls = parted_behind [] ls

-- ---- one buffer

ends_push : (from : ℕ) (ls : List Line) (line : Line) → ends_of from (ls ++ line ∷ []) ≡ ends_of from ls ++ (from + length (text_of ls) + length (line_text line)) ∷ []
unfolding ends_of
ends_push from [] line = ap (λ (n : ℕ). n ∷ []) (let e : from + length line + 1 ≡ from + 0 + length (line_text line) = omega (arith, length-append line (10 ∷ [])) in e)
ends_push from (first ∷ ls) line =
    let n = from + length first + 1 in
    let len : length (text_of (first ∷ ls)) ≡ length first + 1 + length (text_of ls) = length-append (line_text first) (text_of ls) ∙ ap (λ (k : ℕ). k + length (text_of ls)) (length-append first (10 ∷ [])) in
    let e : n + length (text_of ls) + length (line_text line) ≡ from + length (text_of (first ∷ ls)) + length (line_text line) = omega (arith, len) in
    ap (λ (l : List ℕ). n ∷ l) (ends_push n ls line) ∙ ap (λ (k : ℕ). n ∷ (ends_of n ls ++ k ∷ [])) e

text-append : (a b : List Line) → text_of (a ++ b) ≡ text_of a ++ text_of b
text-append a b = flat_map-append line_text a b

-- what is flat is told by its lines
pub from_lines : (ends text : List ℕ) (ls : List Line) → ends ≡ ends_of 0 ls → text ≡ text_of ls → IsFlat ends text × (parted 0 ends text ≡ ls)
from_lines ends text ls e t =
    let same : parted 0 ends text ≡ ls = ap (λ (n : List ℕ). parted 0 n text) e ∙ ap (λ (n : List ℕ). parted 0 (ends_of 0 ls) n) t ∙ parted_whole ls in
    (record { text_is = t ∙ ap text_of (sym same); ends_are = e ∙ ap (ends_of 0) (sym same) }, same)

pub flat_nil : (ends text : List ℕ) → ends ≡ [] → text ≡ [] → IsFlat ends text × (parted 0 ends text ≡ [])
unfolding ends_of
flat_nil ends text e t = from_lines ends text [] e t

-- a line more
pub flat_push : (ends text ends' text' : List ℕ) (line : Line) → IsFlat ends text → text' ≡ text ++ line_text line → ends' ≡ ends ++ length text' ∷ [] → IsFlat ends' text' × (parted 0 ends' text' ≡ parted 0 ends text ++ line ∷ [])
flat_push ends text ends' text' line flat t e =
    let ls = parted 0 ends text in
    let whole : text' ≡ text_of (ls ++ line ∷ []) = t ∙ ap (λ (l : List ℕ). l ++ line_text line) flat.text_is ∙ ap (λ (l : List ℕ). text_of ls ++ l) (sym (append-nil (line_text line))) ∙ sym (text-append ls (line ∷ [])) in
    let len : length text' ≡ 0 + length (text_of ls) + length (line_text line) = ap length t ∙ length-append text (line_text line) ∙ ap (λ (l : List ℕ). length l + length (line_text line)) flat.text_is ∙ omega arith in
    from_lines ends' text' (ls ++ line ∷ []) (e ∙ ap (λ (n : ℕ). ends ++ n ∷ []) len ∙ ap (λ (l : List ℕ). l ++ (0 + length (text_of ls) + length (line_text line)) ∷ []) flat.ends_are ∙ sym (ends_push 0 ls line)) whole

-- as many ends as lines
pub parted_len : (from : ℕ) (ends text : List ℕ) → length (parted from ends text) ≡ length ends
unfolding parted
parted_len from [] text = refl
parted_len from (end ∷ ends) text = ap (λ (n : ℕ). suc n) (parted_len end ends text)

-- a line more, or the same lines, as a call answered
pub flat_pushed : {X E : Type 0} (r : Result X E) (ends text ends' text' : List ℕ) (line : Line) → IsFlat ends text → OnOk r (text' ≡ text ++ line_text line) → OnOk r (ends' ≡ ends ++ length text' ∷ []) → OnErr r ((text' ≡ text) × (ends' ≡ ends)) → IsFlat ends' text'
flat_pushed (Ok x) ends text ends' text' line flat t e h = (flat_push ends text ends' text' line flat t e).0
flat_pushed (Err x) ends text ends' text' line flat t e h = subst (λ (l : List ℕ). IsFlat l text') (sym h.1) (subst (λ (l : List ℕ). IsFlat ends l) (sym h.0) flat)

pub parted_pushed : {X E : Type 0} (r : Result X E) (ends text ends' text' : List ℕ) (line : Line) → IsFlat ends text → OnOk r (text' ≡ text ++ line_text line) → OnOk r (ends' ≡ ends ++ length text' ∷ []) → OnOk r (parted 0 ends' text' ≡ parted 0 ends text ++ line ∷ [])
parted_pushed (Ok x) ends text ends' text' line flat t e = (flat_push ends text ends' text' line flat t e).1
parted_pushed (Err x) ends text ends' text' line flat t e = tt

-- a line more, as a call answered that else left none
pub flat_written : {X E : Type 0} (r : Result X E) (ends text ends' text' : List ℕ) (line : Line) → IsFlat ends text → OnOk r (text' ≡ text ++ line_text line) → OnOk r (ends' ≡ ends ++ length text' ∷ []) → OnErr r ((text' ≡ []) × (ends' ≡ [])) → IsFlat ends' text'
flat_written (Ok x) ends text ends' text' line flat t e h = (flat_push ends text ends' text' line flat t e).0
flat_written (Err x) ends text ends' text' line flat t e h = (flat_nil ends' text' h.1 h.0).0

-- ---- where lines stand in the text

start_next : (end : ℕ) (ends : List ℕ) (i : ℕ) → get_or (end ∷ ends) i 0 ≡ line_start end ends i
start_next end ends zero = refl
start_next end ends (suc i) = refl

-- line k begins behind the text of those before it
start_is : (from : ℕ) (ls : List Line) (k : ℕ) → k ≤ length ls → line_start from (ends_of from ls) k ≡ from + length (text_of (take k ls))
unfolding ends_of
start_is from ls zero le = let same : from ≡ from + 0 = omega arith in same
start_is from [] (suc k) le = absurd (omega arith)
start_is from (line ∷ ls) (suc k) le =
    let n = from + length line + 1 in
    let len : length (text_of (take (suc k) (line ∷ ls))) ≡ length line + 1 + length (text_of (take k ls)) =
    length-append (line_text line) (text_of (take k ls)) ∙ ap (λ (m : ℕ). m + length (text_of (take k ls))) (length-append line (10 ∷ [])) in
    let whole : n + length (text_of (take k ls)) ≡ from + length (text_of (take (suc k) (line ∷ ls))) = omega (arith, len) in
    start_next n (ends_of n ls) k ∙ start_is n ls k (omega arith) ∙ whole

-- where some lines stand in the text
pub record TextBetween (start end : ℕ) (text part : List ℕ) : Type 0 where
  pub order : start ≤ end
  pub within : end ≤ length text
  pub part_is : take (end - start) (drop start text) ≡ part

pub flat_between : (ends text : List ℕ) (from to : ℕ) → IsFlat ends text → from ≤ to → to ≤ length ends → TextBetween (line_start 0 ends from) (line_start 0 ends to) text (text_of (between from to (parted 0 ends text)))
flat_between ends text from to flat order within =
    let ls = parted 0 ends text in
    let a = take from ls in
    let m = between from to ls in
    let r = drop (to - from) (drop from ls) in
    let some : to ≤ length ls = omega (arith, within, parted_len 0 ends text) in
    let first : from ≤ length ls = omega (arith, some, order) in
    let parts : text ≡ text_of a ++ (text_of m ++ text_of r) =
    flat.text_is ∙ ap text_of (sym (take-append-drop from ls)) ∙ text-append a (drop from ls)
    ∙ ap (λ (l : List Line). text_of a ++ text_of l) (sym (take-append-drop (to - from) (drop from ls)))
    ∙ ap (λ (t : List ℕ). text_of a ++ t) (text-append m r) in
    let begins : line_start 0 ends from ≡ 0 + length (text_of a) = ap (λ (e : List ℕ). line_start 0 e from) flat.ends_are ∙ start_is 0 ls from first in
    let both : length (text_of (take to ls)) ≡ length (text_of a) + length (text_of m) =
    ap (λ (l : List Line). length (text_of l)) (take_between from to ls order) ∙ ap length (text-append a m) ∙ length-append (text_of a) (text_of m) in
    let stops : line_start 0 ends to ≡ 0 + length (text_of (take to ls)) = ap (λ (e : List ℕ). line_start 0 e to) flat.ends_are ∙ start_is 0 ls to some in
    let len : length text ≡ length (text_of a) + (length (text_of m) + length (text_of r)) =
    ap length parts ∙ length-append (text_of a) (text_of m ++ text_of r) ∙ ap (λ (n : ℕ). length (text_of a) + n) (length-append (text_of m) (text_of r)) in
    let count : line_start 0 ends to - line_start 0 ends from ≡ length (text_of m) = omega (arith, begins, stops, both) in
    let front : line_start 0 ends from ≡ length (text_of a) = omega (arith, begins) in
    record {
      order = omega (arith, begins, stops, both);
      within = omega (arith, stops, both, len);
      part_is =
          ap (λ (n : ℕ). take n (drop (line_start 0 ends from) text)) count
          ∙ ap (λ (n : ℕ). take (length (text_of m)) (drop n text)) front
          ∙ ap (λ (t : List ℕ). take (length (text_of m)) (drop (length (text_of a)) t)) parts
          ∙ ap (λ (t : List ℕ). take (length (text_of m)) t) (drop_at (text_of a) (text_of m ++ text_of r) (length (text_of a)) refl)
          ∙ take_at (text_of m) (text_of r) (length (text_of m)) refl;
    }

-- the text of a line is the line with its LF
pub flat_line : (ends text : List ℕ) (i : ℕ) → i < length ends → (line : Line) × (slice_get (parted 0 ends text) i ≡ Some line)
    × (text_of (between i (i + 1) (parted 0 ends text)) ≡ line_text line)
flat_line ends text i lt =
    let ls = parted 0 ends text in
    let line = get_or ls i [] in
    let there : i < length ls = omega (arith, parted_len 0 ends text) in
    let count : (i + 1) - i ≡ 1 = omega arith in
    let one : between i (i + 1) ls ≡ line ∷ [] = ap (λ (n : ℕ). take n (drop i ls)) count ∙ ap (take 1) (drop_more ls i [] there) in
    (line, slice_get-get_or ls i [] there, ap text_of one ∙ append-nil (line_text line))

pub part_is : (start end first last : ℕ) (text part : List ℕ) → start ≡ first → end ≡ last → TextBetween first last text part → TextBetween start end text part
part_is start end first last text part e f at = subst (λ (n : ℕ). TextBetween n end text part) (sym e) (subst (λ (n : ℕ). TextBetween first n text part) (sym f) at)

-- ---- ends

drop_ends : (at : ℕ) (ls : List Line) (k : ℕ) → drop k (ends_of at ls) ≡ ends_of (line_start at (ends_of at ls) k) (drop k ls)
unfolding ends_of
drop_ends at ls zero = refl
drop_ends at [] (suc k) = refl
drop_ends at (line ∷ ls) (suc k) =
    let n = at + length line + 1 in
    drop_ends n ls k ∙ ap (λ (s : ℕ). ends_of s (drop k ls)) (sym (start_next n (ends_of n ls) k))

take_ends : (at : ℕ) (ls : List Line) (k : ℕ) → take k (ends_of at ls) ≡ ends_of at (take k ls)
unfolding ends_of
take_ends at ls zero = refl
take_ends at [] (suc k) = refl
take_ends at (line ∷ ls) (suc k) = ap (λ (l : List ℕ). (at + length line + 1) ∷ l) (take_ends (at + length line + 1) ls k)

-- where some lines end
pub ends_between : (ends text : List ℕ) (from to : ℕ) → IsFlat ends text → take (to - from) (drop from ends) ≡ ends_of (line_start 0 ends from) (between from to (parted 0 ends text))
ends_between ends text from to flat =
    let ls = parted 0 ends text in
    ap (λ (e : List ℕ). take (to - from) (drop from e)) flat.ends_are ∙ ap (take (to - from)) (drop_ends 0 ls from)
    ∙ take_ends (line_start 0 (ends_of 0 ls) from) (drop from ls) (to - from)
    ∙ sym (ap (λ (e : List ℕ). ends_of (line_start 0 e from) (between from to ls)) flat.ends_are)

ends_moved : (at by : ℕ) (ls : List Line) → from_start at (ends_of (at + by) ls) ≡ ends_of by ls
unfolding ends_of
ends_moved at by [] = refl
ends_moved at by (line ∷ ls) =
    let n = by + length line + 1 in
    let first : (at + by + length line + 1) - at ≡ n = omega arith in
    let next : at + by + length line + 1 ≡ at + n = omega arith in
    ap (λ (e : ℕ). e ∷ from_start at (ends_of (at + by + length line + 1) ls)) first
    ∙ ap (λ (l : List ℕ). n ∷ l) (ap (λ (e : ℕ). from_start at (ends_of e ls)) next ∙ ends_moved at n ls)

ends_counted : (at : ℕ) (ls : List Line) → from_start at (ends_of at ls) ≡ ends_of 0 ls
ends_counted at ls =
    let same : at ≡ at + 0 = omega arith in
    ap (λ (n : ℕ). from_start at (ends_of n ls)) same ∙ ends_moved at 0 ls

-- lines are told by their text, and by how long they are
pub told_by_ends : (ls ms : List Line) (at bt : ℕ) (ends others : List ℕ) → ends ≡ ends_of at ls → others ≡ ends_of bt ms → from_start at ends ≡ from_start bt others → text_of ls ≡ text_of ms → ls ≡ ms
told_by_ends ls ms at bt ends others e f alike text =
    let same : ends_of 0 ls ≡ ends_of 0 ms = sym (ap (from_start at) e ∙ ends_counted at ls) ∙ alike ∙ ap (from_start bt) f ∙ ends_counted bt ms in
    sym (parted_whole ls) ∙ ap (λ (l : List ℕ). parted 0 l (text_of ls)) same ∙ ap (parted 0 (ends_of 0 ms)) text ∙ parted_whole ms

pub ends_alike : (ls ms : List Line) (at bt : ℕ) (ends others : List ℕ) → ends ≡ ends_of at ls → others ≡ ends_of bt ms → ls ≡ ms → from_start at ends ≡ from_start bt others
ends_alike ls ms at bt ends others e f same = ap (from_start at) e ∙ ends_counted at ls ∙ ap (ends_of 0) same ∙ sym (ap (from_start bt) f ∙ ends_counted bt ms)
