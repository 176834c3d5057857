-- A text with an action's edits reads as the script that expects what came.
use Rattle.std.proofs.Common.{◌≡◌, ◌∙◌, ℕ, zero, suc, ◌+◌, ◌-◌, ◌<◌, ◌≤◌, Bool, true, false, List, [], ◌∷◌, ◌++◌, length, take, drop, Option, refl, ap, sym, subst, arith, append_assoc, length-append}
use Rattle.std.proofs.lemmas.Bool.{lt-leb}
use Rattle.std.proofs.lemmas.List.{length-map, length-take, take-append-drop, take-append-le, take-take}
use Rattle.std.specs.Prelude.{◌==◌, ◌&&◌, not, if◌then◌else◌}
use Rattle.std.specs.List.{AllByRecursion}
use Rattle.rb_script.specs.Lines.{Line, cut, lines, text_of, without_returns}
use Rattle.rb_script.specs.Script.{PlainBlock, PlainScript, expecting}
use Rattle.rb_script.specs.Reads.{Reads, ReadsSome, begins_blank}
use Rattle.rb_script.specs.Blocks.{block_at, from_head, lead_of}
use Rattle.rb_script.proofs.BlockLaws.{block_complete, cut_lead}
use Rattle.rb_script.specs.LineParts.{IsSolid}
use Rattle.rb_lsp.specs.declared.document.position.Encoding.{Encoding}
use Rattle.rb_lsp.specs.Places.{begins, offset}
use Rattle.rb_lsp.specs.Changes.{spliced}
use Rattle.rb_lsp.specs.Tables.{feed_start, start_of}
use Rattle.rb_lsp.proofs.PositionLaws.{place_returns}
use Rattle.rb_editor.specs.declared.actions.extent.Extent.{Extent}
use Rattle.rb_editor.specs.declared.actions.extent.LineSpan.{LineSpan}
use Rattle.rb_editor.specs.Extents.{extent_of}
use Rattle.rb_replay.specs.Run.{outputs}
use Rattle.rb_script_report.specs.declared.accept_options.AcceptFilter.{AcceptFilter}
use Rattle.rb_editor.specs.Heads.{behind_block, heads_at, heads_of}
use Rattle.rb_editor.proofs.BlockLaws.{block_front}
use Rattle.rb_editor.proofs.OrderLaws.{feed_grows}
use Rattle.rb_editor.specs.Actions.{Picks, edit_of, edits_asked, edits_in, end_above, form, has_end, is_wanted, new_text}
use Rattle.rb_editor.specs.Edits.{edits_made, with_picked, with_wanted}
use Rattle.rb_editor.specs.ActionLaws.{AreShort, with_lines}
use Rattle.rb_editor.proofs.RangeLaws.{line_is_place}
use Rattle.rb_editor.proofs.CutLaws.{are_whole, edited_cut, whole_within}
use Rattle.rb_editor.proofs.EditedLaws.{either_closed}
use Rattle.rb_editor.proofs.EditedScriptLaws.{BeforeOne, begin_alike, block_before, some_lines}

-- ---- texts that begin alike

start_kept : (n k : ℕ) (p more : List ℕ) → are_whole n p ≡ true → k ≤ n → feed_start k (p ++ more) ≡ feed_start k p
unfolding feed_start are_whole
start_kept n zero p more whole less = refl
start_kept zero (suc k) p more whole less = absurd (omega (arith, less))
start_kept (suc n) (suc k) [] more whole less = absurd cc
start_kept (suc n) (suc k) (b ∷ p) more whole less =
    elim (b == 10) as (λ (x : Bool). (if x then are_whole n p else are_whole (suc n) p) ≡ true
    → suc (if x then feed_start k (p ++ more) else feed_start (suc k) (p ++ more)) ≡ suc (if x then feed_start k p else feed_start (suc k) p)) [
      | true ↦ λ w. ap (λ (m : ℕ). suc m) (start_kept n k p more w (omega (arith, less)))
      | false ↦ λ w. ap (λ (m : ℕ). suc m) (start_kept (suc n) (suc k) p more w less)
    ] whole

whole_front : (n : ℕ) (t : List ℕ) → are_whole n t ≡ true → are_whole n (take (feed_start n t) t) ≡ true
unfolding feed_start are_whole
whole_front zero t whole = refl
whole_front (suc n) [] whole = absurd cc
whole_front (suc n) (b ∷ t) whole =
    elim (b == 10) as (λ (x : Bool). (if x then are_whole n t else are_whole (suc n) t) ≡ true
    → (if x then are_whole n (take (if x then feed_start n t else feed_start (suc n) t) t) else are_whole (suc n) (take (if x then feed_start n t else feed_start (suc n) t) t)) ≡ true) [
      | true ↦ λ w. whole_front n t w
      | false ↦ λ w. whole_front (suc n) t w
    ] whole

start_within : (n : ℕ) (t : List ℕ) → feed_start n t ≤ length t
unfolding feed_start
start_within zero t = omega arith
start_within (suc n) [] = omega arith
start_within (suc n) (b ∷ t) =
    elim (b == 10) as (λ (x : Bool). suc (if x then feed_start n t else feed_start (suc n) t) ≤ suc (length t)) [
      | true ↦ omega (arith, start_within n t)
      | false ↦ omega (arith, start_within (suc n) t)
    ]

-- up to line n
abbrev pub AreAlike : ℕ → List ℕ → List ℕ → Type 0
AreAlike n t r = take (feed_start n t) r ≡ take (feed_start n t) t

-- lines up to there begin at the same bytes
starts_alike : (n k : ℕ) (t r : List ℕ) → are_whole n t ≡ true → AreAlike n t r → k ≤ n → feed_start k r ≡ feed_start k t
starts_alike n k t r whole alike less =
    let m = feed_start n t in
    let p = take m t in
    let front = whole_front n t whole in
    let there : r ≡ p ++ drop m r = sym (take-append-drop m r) ∙ ap (λ (l : List ℕ). l ++ drop m r) alike in
    ap (feed_start k) there ∙ start_kept n k p (drop m r) front less ∙ sym (start_kept n k p (drop m t) front less) ∙ ap (feed_start k) (take-append-drop m t)

take_less : (m n : ℕ) (r t : List ℕ) → m ≤ n → take n r ≡ take n t → take m r ≡ take m t
take_less m n r t less alike = sym (take-take m n r less) ∙ ap (take m) alike ∙ take-take m n t less

-- what is put in further on leaves the beginning
take_before : (m a n : ℕ) (r t more : List ℕ) → m ≤ a → a ≤ n → n ≤ length t → take n r ≡ take n t → take m (take a r ++ more) ≡ take m t
take_before m a n r t more first second most alike =
    let whole : n ≤ length r = omega (arith, ap length alike, length-take n r, length-take n t, most) in
    take-append-le m (take a r) more (omega (arith, length-take a r, first, second, whole)) ∙ take-take m a r first ∙ take_less m n r t (omega (arith, first, second)) alike

-- ---- one edit of a text, made in one that begins alike

-- the bytes that an edit's lines begin and end with
abbrev pub put_in : List ℕ → Extent → List Line → List ℕ → List ℕ
put_in t e output r = spliced (feed_start e.expected t) (feed_start e.end t) (new_text t (lines t) e output) r

no_end_above : (t : List ℕ) (ls : List Line) (e : Extent) → e.expected < length ls → end_above t ls e ≡ []
no_end_above t ls e less = ap (λ (x : Bool). if x && not (has_end t) then 10 ∷ [] else []) (lt-leb (length ls) e.expected less)

same_put : (n : ℕ) (t r : List ℕ) (e : Extent) (output : List Line) → are_whole n t ≡ true → AreAlike n t r → e.expected ≤ n → e.end ≤ n → e.expected < length (lines t) → e.expected < length (lines r) → put_in t e output r ≡ put_in r e output r
unfolding new_text
same_put n t r e output whole alike first last one other =
    let none = no_end_above t (lines t) e one ∙ sym (no_end_above r (lines r) e other) in
    ap (λ (k : ℕ). spliced k (feed_start e.end t) (new_text t (lines t) e output) r) (sym (starts_alike n e.expected t r whole alike first))
    ∙ ap (λ (k : ℕ). spliced (feed_start e.expected r) k (new_text t (lines t) e output) r) (sym (starts_alike n e.end t r whole alike last))
    ∙ ap (λ (l : List ℕ). spliced (feed_start e.expected r) (feed_start e.end r) (l ++ text_of (form e.is_double output)) r) none

-- ---- all edits

-- from the last to the first
abbrev pub all_put : Picks → List ℕ → List ℕ → List PlainBlock → List (List Line) → List ℕ
all_put picks t heads [] os = t
all_put picks t (line ∷ heads) (b ∷ bs) (output ∷ os) =
    if picks line b output then put_in t (extent_of (lines t) line b) output (all_put picks t heads bs os) else all_put picks t heads bs os
all_put picks t heads bs os = t

-- the lines behind the first so many are these, and read so
pub record Claim (front cur : List Line) (t r : List ℕ) (bs : List PlainBlock) (tail : List Line) : Type 0 where
  pub more : List Line
  pub lines_is : lines r ≡ front ++ more
  pub reads : ReadsSome more bs tail
  pub first : begins_blank more ≡ begins_blank cur
  pub alike : AreAlike (length front) t r

-- the lines of heads, of blocks that these lines are, of which so many lines stand before
abbrev pub AreNumbered : ℕ → (cur : List Line) → (bs : List PlainBlock) → (tail : List Line) → ReadsSome cur bs tail → List ℕ → Type 0
AreNumbered before cur [] tail reads heads = Unit {0}
AreNumbered before cur (b ∷ bs) tail reads [] = Unit {0}
AreNumbered before cur (b ∷ bs) tail reads (line ∷ heads) = (line ≡ before + length b.lead + 1) × AreNumbered (before + (length cur - length reads.0)) reads.0 bs tail reads.2 heads

unchanged : (front cur tail : List Line) (t : List ℕ) (bs : List PlainBlock) → lines t ≡ front ++ cur → ReadsSome cur bs tail → Claim front cur t t bs tail
unchanged front cur tail t bs is reads = record { more = cur; lines_is = is; reads = reads; first = refl; alike = refl }

cut_len : (t : List ℕ) → length (lines t) ≡ length (cut t)
unfolding lines
cut_len t = length-map (cut t) without_returns

-- the last block, whose output is put in
last_put : (front cur tail : List Line) (t : List ℕ) (line : ℕ) (b : PlainBlock) (output : List Line) → lines t ≡ front ++ cur → (reads : ReadsSome cur (b ∷ []) tail) → line ≡ length front + length b.lead + 1 → AllByRecursion IsSolid output
    → Claim front cur t (put_in t (extent_of (lines t) line b) output t) (expecting b output ∷ []) tail
last_put front cur tail t line b output is reads numbered solid =
    let e = extent_of (lines t) line b in
    let ed = either_closed front cur reads.0 b output reads.1 solid reads.1.expected in
    let there : e ≡ extent_of (front ++ cur) (length front + length b.lead + 1) b = ap (λ (l : List Line). extent_of l line b) is ∙ ap (λ (k : ℕ). extent_of (front ++ cur) k b) numbered in
    let from : e.expected ≡ (extent_of (front ++ cur) (length front + length b.lead + 1) b).expected = ap (λ (x : Extent). x.expected) there in
    let cut_is = edited_cut t e output (omega (arith, ed.behind, from)) (omega (arith, ed.within, from, ap (λ (l : List Line). length l) is)) solid in
    record {
      more = ed.more;
      lines_is = cut_is ∙ ap (λ (l : List Line). with_lines l e output) is ∙ ap (λ (x : Extent). with_lines (front ++ cur) x output) there ∙ ed.made;
      reads = (reads.0, ed.reads, reads.2);
      first = ed.first;
      alike = ap (take (feed_start (length front) t)) (append_assoc (take (feed_start e.expected t) t) (new_text t (lines t) e output) (drop (feed_start e.end t) t))
          ∙ take_before (feed_start (length front) t) (feed_start e.expected t) (feed_start e.expected t) t t (new_text t (lines t) e output ++ drop (feed_start e.end t) t)
          (feed_grows (length front) e.expected t (omega (arith, ed.behind, from))) (omega arith) (start_within e.expected t) refl;
    }

-- ---- a block behind which others stand

some_left : (cur tail : List Line) (b : PlainBlock) (bs : List PlainBlock) → ReadsSome cur (b ∷ bs) tail → cur ≡ [] → ⊥
some_left cur tail b bs reads none = some_lines b.lead b.head b.input reads.1.separator reads.1.after (sym reads.1.parts ∙ none)

some_len : (ls : List Line) → (ls ≡ [] → ⊥) → 1 ≤ length ls
some_len [] some = absurd (some refl)
some_len (line ∷ ls) some = omega arith

-- it stays as it is
passed_by : (front cur rest tail : List Line) (t r : List ℕ) (b : PlainBlock) (bs : List PlainBlock) (one : BeforeOne cur rest b) → Claim (front ++ one.front) rest t r bs tail → Claim front cur t r (b ∷ bs) tail
passed_by front cur rest tail t r b bs one later = record {
  more = one.front ++ later.more;
  lines_is = later.lines_is ∙ append_assoc front one.front later.more;
  reads = (later.more, one.reads later.more later.first, later.reads);
  first = begin_alike one.front rest later.more later.first ∙ ap begins_blank (sym one.parts);
  alike = take_less (feed_start (length front) t) (feed_start (length (front ++ one.front)) t) r t
      (feed_grows (length front) (length (front ++ one.front)) t (omega (arith, length-append front one.front))) later.alike;
}

-- its output is put in
put_by : (front cur rest tail : List Line) (t r : List ℕ) (line : ℕ) (b : PlainBlock) (bs : List PlainBlock) (output : List Line) → lines t ≡ front ++ cur → (rest ≡ [] → ⊥) → line ≡ length front + length b.lead + 1
    → (one : BeforeOne cur rest b) → AllByRecursion IsSolid output → Claim (front ++ one.front) rest t r bs tail
    → Claim front cur t (put_in t (extent_of (lines t) line b) output r) (expecting b output ∷ bs) tail
put_by front cur rest tail t r line b bs output is some numbered one solid later =
    let n = length (front ++ one.front) in
    let len : n ≡ length front + length one.front = length-append front one.front in
    let e = extent_of (lines t) line b in
    let stood : Extent = record { head = length front + length b.lead; expected = length front + one.up; end = length front + one.up + one.len; is_double = one.is_double } in
    let ls = one.front ++ later.more in
    let old : lines t ≡ front ++ (one.front ++ rest) = is ∙ ap (λ (l : List Line). front ++ l) one.parts in
    let new : lines r ≡ front ++ ls = later.lines_is ∙ append_assoc front one.front later.more in
    let old_len : length (lines t) ≡ length front + (length one.front + length rest) =
    ap (λ (l : List Line). length l) old ∙ length-append front (one.front ++ rest) ∙ ap (λ (k : ℕ). length front + k) (length-append one.front rest) in
    let new_len : length (lines r) ≡ length front + (length one.front + length later.more) =
    ap (λ (l : List Line). length l) new ∙ length-append front ls ∙ ap (λ (k : ℕ). length front + k) (length-append one.front later.more) in
    let there : e ≡ stood = ap (λ (l : List Line). extent_of l line b) old ∙ ap (λ (k : ℕ). extent_of (front ++ (one.front ++ rest)) k b) numbered ∙ one.stands front rest in
    let from : e.expected ≡ length front + one.up = ap (λ (x : Extent). x.expected) there in
    let whole : are_whole n t ≡ true = whole_within n t (omega (arith, cut_len t, old_len, len, some_len rest some)) in
    let same : put_in t stood output r ≡ put_in r stood output r =
    same_put n t r stood output whole later.alike (omega (arith, one.above, len)) (omega (arith, one.within, len)) (omega (arith, one.above, old_len)) (omega (arith, one.above, new_len)) in
    let block = one.reads later.more later.first in
    let ed = either_closed front ls later.more b output block solid block.expected in
    let cut_is : lines (put_in r stood output r) ≡ with_lines (lines r) stood output = edited_cut r stood output (omega (arith, one.some)) (omega (arith, one.above, new_len)) solid in
    record {
      more = ed.more;
      lines_is = ap (λ (x : Extent). lines (put_in t x output r)) there
          ∙ ap lines same
          ∙ cut_is
          ∙ ap (λ (l : List Line). with_lines l stood output) new
          ∙ ap (λ (x : Extent). with_lines (front ++ ls) x output) (sym (one.stands front later.more))
          ∙ ed.made;
      reads = (later.more, ed.reads, later.reads);
      first = ed.first ∙ begin_alike one.front rest later.more later.first ∙ ap begins_blank (sym one.parts);
      alike = ap (take (feed_start (length front) t)) (append_assoc (take (feed_start e.expected t) r) (new_text t (lines t) e output) (drop (feed_start e.end t) r))
          ∙ take_before (feed_start (length front) t) (feed_start e.expected t) (feed_start n t) r t (new_text t (lines t) e output ++ drop (feed_start e.end t) r)
          (feed_grows (length front) e.expected t (omega (arith, from))) (feed_grows e.expected n t (omega (arith, from, one.above, len))) (start_within n t) later.alike;
    }

-- ---- all of them

pub all_claim : (picks : Picks) (t : List ℕ) (tail : List Line) (heads : List ℕ) (bs : List PlainBlock) (os : List (List Line)) (front cur : List Line) → lines t ≡ front ++ cur → (reads : ReadsSome cur bs tail)
    → AreNumbered (length front) cur bs tail reads heads → AllByRecursion (λ output. AllByRecursion IsSolid output) os
    → Claim front cur t (all_put picks t heads bs os) (with_picked picks heads bs os) tail
all_claim picks t tail heads [] os front cur is reads numbered solid = unchanged front cur tail t [] is reads
all_claim picks t tail (line ∷ heads) (b ∷ []) (output ∷ os) front cur is reads numbered solid =
    elim (picks line b output) as (λ (x : Bool). Claim front cur t (if x then put_in t (extent_of (lines t) line b) output t else t) ((if x then expecting b output else b) ∷ []) tail) [
      | true ↦ last_put front cur tail t line b output is reads numbered.0 solid.0
      | false ↦ unchanged front cur tail t (b ∷ []) is reads
    ]
all_claim picks t tail (line ∷ heads) (b ∷ c ∷ bs) (output ∷ os) front cur is reads numbered solid =
    let some = some_left reads.0 tail c bs reads.2 in
    let one = block_before cur reads.0 b reads.1 some reads.1.expected in
    let further : lines t ≡ (front ++ one.front) ++ reads.0 = is ∙ ap (λ (l : List Line). front ++ l) one.parts ∙ sym (append_assoc front one.front reads.0) in
    let parts : length cur ≡ length one.front + length reads.0 = ap (λ (l : List Line). length l) one.parts ∙ length-append one.front reads.0 in
    let count : length front + (length cur - length reads.0) ≡ length (front ++ one.front) = omega (arith, parts, length-append front one.front) in
    let later = all_claim picks t tail heads (c ∷ bs) os (front ++ one.front) reads.0 further reads.2 (subst (λ (k : ℕ). AreNumbered k reads.0 (c ∷ bs) tail reads.2 heads) count numbered.1) solid.1 in
    elim (picks line b output) as (λ (x : Bool). Claim front cur t (if x then put_in t (extent_of (lines t) line b) output (all_put picks t heads (c ∷ bs) os) else all_put picks t heads (c ∷ bs) os)
    ((if x then expecting b output else b) ∷ with_picked picks heads (c ∷ bs) os) tail) [
      | true ↦ put_by front cur reads.0 tail t (all_put picks t heads (c ∷ bs) os) line b (with_picked picks heads (c ∷ bs) os) output is some numbered.0 one solid.0 later
      | false ↦ passed_by front cur reads.0 tail t (all_put picks t heads (c ∷ bs) os) b (with_picked picks heads (c ∷ bs) os) one later
    ]
all_claim picks t tail heads bs os front cur is reads numbered solid = unchanged front cur tail t bs is reads

-- ---- the lines of heads

numbered : (before end : ℕ) (cur tail : List Line) (bs : List PlainBlock) (reads : ReadsSome cur bs tail) → end ≡ 1 + before + length cur → AreNumbered before cur bs tail reads (heads_at end bs cur)
unfolding heads_at
numbered before end cur tail [] reads is = tt
numbered before end cur tail (b ∷ bs) reads is =
    let r = reads.1 in
    let more = b.input ++ r.separator ∷ r.after in
    let front = block_front cur reads.0 b r in
    let left : length (from_head cur) ≡ length (b.head ++ more) = ap (λ (l : List Line). length l) (cut_lead cur b.lead b.head more r.parts r.lead r.head.0).from_is in
    let whole : length cur ≡ length b.lead + length (b.head ++ more) = ap (λ (l : List Line). length l) r.parts ∙ length-append b.lead (b.head ++ more) in
    let rest : behind_block (block_at end (lead_of cur) (from_head cur)) ≡ reads.0 = ap behind_block (block_complete end cur reads.0 b r).1 in
    let later = numbered (before + (length cur - length reads.0)) end reads.0 tail bs reads.2 (omega (arith, is, ap length front.1, length-append front.0 reads.0)) in
    (omega (arith, is, left, whole), subst (λ (l : List Line). AreNumbered (before + (length cur - length reads.0)) reads.0 bs tail reads.2 (heads_at end bs l)) (sym rest) later)

-- ---- as an editor makes them

start_is : (encoding : Encoding) (t : List ℕ) (k : ℕ) → ((n : ℕ) → begins (drop (feed_start n t) t) ≡ true) → offset encoding (start_of encoding k t) t ≡ feed_start k t
start_is encoding t k begun = place_returns encoding 0 (feed_start k t) t (line_is_place 0 k t (λ z. refl) (begun k))

made_is : (picks : Picks) (encoding : Encoding) (t : List ℕ) (heads : List ℕ) (bs : List PlainBlock) (os : List (List Line)) → ((n : ℕ) → begins (drop (feed_start n t) t) ≡ true)
    → edits_made encoding t (edits_in picks encoding t heads bs os) ≡ all_put picks t heads bs os
made_is picks encoding t [] [] os begun = refl
made_is picks encoding t [] (b ∷ bs) os begun = refl
made_is picks encoding t (line ∷ heads) (b ∷ bs) (output ∷ os) begun =
    let e = extent_of (lines t) line b in
    let new = new_text t (lines t) e output in
    let others = edits_in picks encoding t heads bs os in
    let later = made_is picks encoding t heads bs os begun in
    elim (picks line b output) as (λ (x : Bool). edits_made encoding t ((if x then edit_of encoding t e output ∷ [] else []) ++ others) ≡ (if x then put_in t e output (all_put picks t heads bs os) else all_put picks t heads bs os)) [
      | true ↦ ap (λ (k : ℕ). spliced k (offset encoding (start_of encoding e.end t) t) new (edits_made encoding t others)) (start_is encoding t e.expected begun)
          ∙ ap (λ (k : ℕ). spliced (feed_start e.expected t) k new (edits_made encoding t others)) (start_is encoding t e.end begun)
          ∙ ap (λ (r : List ℕ). spliced (feed_start e.expected t) (feed_start e.end t) new r) later
      | false ↦ later
    ]
made_is picks encoding t heads bs os begun = refl

picked_len : (picks : Picks) (heads : List ℕ) (bs : List PlainBlock) (os : List (List Line)) → length (with_picked picks heads bs os) ≡ length bs
picked_len picks heads [] os = refl
picked_len picks (line ∷ heads) (b ∷ bs) (output ∷ os) = ap (λ (k : ℕ). suc k) (picked_len picks heads bs os)
picked_len picks heads bs os = refl

pub edited_text : (encoding : Encoding) (bytes : List ℕ) (s : PlainScript) (picked : AcceptFilter) (span : Option LineSpan) → Reads bytes s → AllByRecursion (λ output. AllByRecursion IsSolid output) (outputs s)
    → ((n : ℕ) → begins (drop (feed_start n bytes) bytes) ≡ true) → AreShort (edits_made encoding bytes (edits_asked encoding bytes s picked span)) (with_wanted bytes s picked span)
    → Reads (edits_made encoding bytes (edits_asked encoding bytes s picked span)) (with_wanted bytes s picked span)
edited_text encoding bytes s picked span reads solid begun short =
    let picks = is_wanted picked span (lines bytes) in
    let heads = heads_of bytes s in
    let ns = numbered 0 (1 + length (lines bytes)) (lines bytes) s.tail s.blocks reads.parts.0 (omega arith) in
    let claim = all_claim picks bytes s.tail heads s.blocks (outputs s) [] (lines bytes) refl reads.parts.0 ns solid in
    let made = ap lines (made_is picks encoding bytes heads s.blocks (outputs s) begun) ∙ claim.lines_is in
    record {
      parts = (subst (λ (l : List Line). ReadsSome l (with_picked picks heads s.blocks (outputs s)) s.tail) (sym made) claim.reads, reads.parts.1);
      short = short.short;
      short_lines = short.short_lines;
      few = omega (arith, reads.few, picked_len picks heads s.blocks (outputs s));
      short_text = short.short_text;
    }
