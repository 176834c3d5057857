-- The lines on which heads begin: what a loop has found of them, and that they are those of the blocks.
use Rattle.std.proofs.Common.{◌≡◌, ℕ, ◌+◌, ◌<◌, List, [], ◌∷◌, ◌++◌, length, take, drop, get_or, Some, Result, Ok, Err, refl, ap, sym, subst, ◌∙◌, append_assoc, length-append, arith, inl, inr, ◌⊎◌}
use Rattle.std.specs.Prelude.{slice_get, IfOk}
use Rattle.std.proofs.lemmas.List.{append-nil, take-append-drop, length-take-le, drop_more, length_push, get_or_push, get_or_append_left}
use Rattle.std.proofs.lemmas.Option.{slice_get_cases, slice_get_within, get_or_from_slice_get}
use Rattle.std.proofs.lemmas.Grind.{same_number_lists}
use Rattle.rb_script.specs.declared.fault.ScriptFault.{ScriptFault}
use Rattle.rb_script.specs.Lines.{Line, lines}
use Rattle.rb_script.specs.Marks.{rule}
use Rattle.rb_script.specs.Script.{PlainBlock, PlainScript}
use Rattle.rb_script.specs.Reads.{ReadsPlain, ReadsDouble, ReadsBlock, ReadsSome, Reads}
use Rattle.rb_script.specs.Results.{Gives}
use Rattle.rb_script.specs.Blocks.{from_head}
use Rattle.rb_script.specs.Reading.{read_of}
use Rattle.rb_script.specs.HeadLines.{IsHeadLine, AreHeadLines, StandsOn}
use Rattle.rb_script.proofs.ResultLaws.{done, ok_is}
use Rattle.rb_script.proofs.BlockLaws.{cut_lead, block_complete}
use Rattle.rb_script.proofs.ScriptLaws.{read_sound, reads_once}

-- ---- the lines that were read stand before the rest

-- those of an expectation
expectation_front : (after e rest : List Line) → ReadsPlain after e rest ⊎ ReadsDouble after e rest → (front : List Line) × (after ≡ front ++ rest)
expectation_front after e rest (inl p) =
    elim p.closed [
      | inl b ↦ (e ++ b.0 ∷ [], b.2 ∙ sym (append_assoc e (b.0 ∷ []) rest))
      | inr b ↦ (e, b.0 ∙ sym (append-nil e) ∙ ap (λ (l : List Line). e ++ l) (sym b.1))
    ]
expectation_front after e rest (inr d) =
    let shown : (more : List Line) → d.more ≡ more → after ≡ (rule ∷ e) ++ (rule ∷ rule ∷ more) = λ more is. d.parts ∙ ap (λ (l : List Line). (rule ∷ e) ++ (rule ∷ rule ∷ l)) is in
    elim d.closed [
      | inl b ↦ ((rule ∷ e) ++ (rule ∷ rule ∷ b.0 ∷ []), shown (b.0 ∷ rest) b.2 ∙ sym (append_assoc (rule ∷ e) (rule ∷ rule ∷ b.0 ∷ []) rest))
      | inr b ↦ ((rule ∷ e) ++ (rule ∷ rule ∷ []), shown rest b.1 ∙ sym (append_assoc (rule ∷ e) (rule ∷ rule ∷ []) rest))
    ]

-- the lines of a block, more than those of its lead
record BlockFront (ls rest : List Line) (b : PlainBlock) : Type 0 where
  front : List Line
  parts : ls ≡ front ++ rest
  longer : length b.lead < length front

regrouped : (a b c e rest : List Line) (line : Line) → (a ++ (b ++ (c ++ line ∷ e))) ++ rest ≡ a ++ (b ++ (c ++ line ∷ (e ++ rest)))
regrouped a b c e rest line =
    append_assoc a (b ++ (c ++ line ∷ e)) rest ∙ ap (λ (l : List Line). a ++ l) (append_assoc b (c ++ line ∷ e) rest ∙ ap (λ (l : List Line). b ++ l) (append_assoc c (line ∷ e) rest))

block_front : (ls rest : List Line) (b : PlainBlock) → ReadsBlock ls b rest → BlockFront ls rest b
block_front ls rest b r =
    let e = expectation_front r.after b.expected rest r.expected in
    record {
      front = b.lead ++ (b.head ++ (b.input ++ r.separator ∷ e.0));
      parts = r.parts ∙ ap (λ (after : List Line). b.lead ++ (b.head ++ (b.input ++ r.separator ∷ after))) e.1 ∙ sym (regrouped b.lead b.head b.input e.0 rest r.separator);
      longer = omega (arith, length-append b.lead (b.head ++ (b.input ++ r.separator ∷ e.0)), length-append b.head (b.input ++ r.separator ∷ e.0), length-append b.input (r.separator ∷ e.0));
    }

-- the lines of some blocks
some_front : (ls rest : List Line) (bs : List PlainBlock) → ReadsSome ls bs rest → (front : List Line) × (ls ≡ front ++ rest)
some_front ls rest [] h = ([], h)
some_front ls rest (b ∷ bs) h =
    let x = block_front ls h.0 b h.1 in
    let y = some_front h.0 rest bs h.2 in
    (x.front ++ y.0, x.parts ∙ ap (λ (l : List Line). x.front ++ l) y.1 ∙ sym (append_assoc x.front y.0 rest))

-- ---- some blocks that are read, and more

-- one block more
some_more : (ls rest after : List Line) (bs : List PlainBlock) (b : PlainBlock) → ReadsSome ls bs rest → ReadsBlock rest b after → ReadsSome ls (bs ++ b ∷ []) after
some_more ls rest after [] b h r = (after, subst (λ (l : List Line). ReadsBlock l b after) (sym h) r, refl)
some_more ls rest after (c ∷ bs) b h r = (h.0, h.1, some_more h.0 rest after bs b h.2 r)

-- the first of them, and the others
some_split : (ls rest : List Line) (front bs : List PlainBlock) → ReadsSome ls (front ++ bs) rest → (after : List Line) × ReadsSome ls front after × ReadsSome after bs rest
some_split ls rest [] bs h = (ls, refl, h)
some_split ls rest (b ∷ front) bs h = let s = some_split h.0 rest front bs h.2 in (s.0, (h.0, h.1, s.1), s.2)

-- what is left behind a block is one thing
block_once : (ls x y : List Line) (b : PlainBlock) → ReadsBlock ls b x → ReadsBlock ls b y → x ≡ y
block_once ls x y b r q =
    let same : done (b, x) ≡ done (b, y) = sym (block_complete 0 ls x b r).1 ∙ (block_complete 0 ls y b q).1 in
    ap (λ (p : PlainBlock × List Line). p.1) (ok_is (b, x) (b, y) same)

-- and so is what is left behind some
some_once : (ls x y : List Line) (bs : List PlainBlock) → ReadsSome ls bs x → ReadsSome ls bs y → x ≡ y
some_once ls x y [] h k = sym h ∙ k
some_once ls x y (b ∷ bs) h k = some_once k.0 x y bs (subst (λ (l : List Line). ReadsSome l bs x) (block_once ls h.0 k.0 b h.1 k.1) h.2) k.2

-- ---- a loop, which has read some blocks

-- what it has read, and the lines of their heads
pub record HeadsSoFar (first : ℕ) (ls : List Line) (bs : List PlainBlock) (rest : List Line) (ns : List ℕ) : Type 0 where
  pub read : ReadsSome ls bs rest
  pub heads : AreHeadLines first ls bs ns

-- the head of the next block begins behind the lines that were read and its lead lines
next_line : (first : ℕ) (ls rest after : List Line) (bs : List PlainBlock) (b : PlainBlock) (n : ℕ) → ReadsSome ls bs rest → ReadsBlock rest b after → n + length (from_head rest) ≡ first + length ls → IsHeadLine first ls bs b n
next_line first ls rest after bs b n h r told =
    let more = b.input ++ r.separator ∷ r.after in
    let front = some_front ls rest bs h in
    let whole : length ls ≡ length front.0 + length rest = ap length front.1 ∙ length-append front.0 rest in
    let parts : length rest ≡ length b.lead + length (b.head ++ more) = ap length r.parts ∙ length-append b.lead (b.head ++ more) in
    let left : length (from_head rest) ≡ length (b.head ++ more) = ap length (cut_lead rest b.lead b.head more r.parts r.lead r.head.0).from_is in
    record {
      front = front.0;
      from = b.head ++ more;
      rest = after;
      parts = front.1 ∙ ap (λ (l : List Line). front.0 ++ l) r.parts;
      front_is = subst (λ (l : List Line). ReadsSome ls bs l) r.parts h;
      block = subst (λ (l : List Line). ReadsBlock l b after) r.parts r;
      number = omega (arith, told, whole, parts, left);
    }

-- where one block more was read, a block is that one, or stood before it
last_or_before : (bs before later : List PlainBlock) (b c : PlainBlock) → bs ++ b ∷ [] ≡ before ++ c ∷ later → ((bs ≡ before) × (b ≡ c)) ⊎ ((others : List PlainBlock) × (bs ≡ before ++ c ∷ others))
last_or_before [] [] later b c e = let same : b ∷ [] ≡ c ∷ later = e in inl (refl, cc)
last_or_before [] (y ∷ before) later b c e = absurd (omega (arith, ap length e, length-append before (c ∷ later)))
last_or_before (x ∷ bs) [] later b c e =
    let whole : x ∷ (bs ++ b ∷ []) ≡ c ∷ later = e in
    let same : x ≡ c = cc in
    inr (bs, ap (λ (y : PlainBlock). y ∷ bs) same)
last_or_before (x ∷ bs) (y ∷ before) later b c e =
    let whole : x ∷ (bs ++ b ∷ []) ≡ y ∷ (before ++ c ∷ later) = e in
    let same : x ≡ y = cc in
    let others : bs ++ b ∷ [] ≡ before ++ c ∷ later = cc in
    elim (last_or_before bs before later b c others) [
      | inl p ↦ inl (ap (λ (z : PlainBlock). z ∷ bs) same ∙ ap (λ (l : List PlainBlock). y ∷ l) p.0, p.1)
      | inr q ↦ inr (q.0, ap (λ (z : PlainBlock). z ∷ bs) same ∙ ap (λ (l : List PlainBlock). y ∷ l) q.1)
    ]

module _ (first : ℕ) (ls : List Line) (bs : List PlainBlock) (rest : List Line) (ns : List ℕ) (so_far : HeadsSoFar first ls bs rest ns) (b : PlainBlock) (after : List Line) (n : ℕ) (r : ReadsBlock rest b after) (told : n + length (from_head rest) ≡ first + length ls) where
  each_more : (before : List PlainBlock) (c : PlainBlock) → ((bs ≡ before) × (b ≡ c)) ⊎ ((others : List PlainBlock) × (bs ≡ before ++ c ∷ others)) → IsHeadLine first ls before c (get_or (ns ++ n ∷ []) (length before) 0)
  each_more before c (inl p) =
      let is : get_or (ns ++ n ∷ []) (length before) 0 ≡ n = get_or_push ns n 0 (length before) (so_far.heads.count ∙ ap length p.0) in
      subst (λ (k : ℕ). IsHeadLine first ls before c k) (sym is)
      (subst (λ (l : List PlainBlock). IsHeadLine first ls l c n) p.0 (subst (λ (x : PlainBlock). IsHeadLine first ls bs x n) p.1 (next_line first ls rest after bs b n so_far.read r told)))
  each_more before c (inr q) =
      let within : length before < length ns = omega (arith, so_far.heads.count, ap length q.1, length-append before (c ∷ q.0)) in
      subst (λ (k : ℕ). IsHeadLine first ls before c k) (sym (get_or_append_left ns (n ∷ []) 0 (length before) within)) (so_far.heads.each before q.0 c q.1)

  -- it reads one more
  pub one_more_head : HeadsSoFar first ls (bs ++ b ∷ []) after (ns ++ n ∷ [])
  one_more_head = record {
    read = some_more ls rest after bs b so_far.read r;
    heads = record {
      count = length_push ns n ∙ ap (λ k. k + 1) so_far.heads.count ∙ sym (length_push bs b);
      each = λ before later c e. each_more before c (last_or_before bs before later b c e);
    };
  }

-- ---- what holds of the lines of heads

-- a block at an index parts the blocks there
split_at : (bs : List PlainBlock) (k : ℕ) (b : PlainBlock) → slice_get bs k ≡ Some b → (bs ≡ take k bs ++ b ∷ drop (k + 1) bs) × (length (take k bs) ≡ k)
split_at bs k b e =
    let within : k < length bs = slice_get_within bs k b e in (
      sym (take-append-drop k bs) ∙ ap (λ (l : List PlainBlock). take k bs ++ l) (drop_more bs k b within ∙ ap (λ (c : PlainBlock). c ∷ drop (k + 1) bs) (get_or_from_slice_get bs k b b e)),
      length-take-le k bs (omega arith),
    )

-- there is a block at each index
block_there : (bs : List PlainBlock) (k : ℕ) → k < length bs → (b : PlainBlock) × (slice_get bs k ≡ Some b)
block_there bs k within = elim (slice_get_cases bs k).1 [ inl x ↦ (x.0, x.2) | inr y ↦ absurd (omega (arith, y.0)) ]

-- the line of the head at an index
line_at : (first : ℕ) (ls : List Line) (bs : List PlainBlock) (ns : List ℕ) (k : ℕ) (b : PlainBlock) → AreHeadLines first ls bs ns → slice_get bs k ≡ Some b → IsHeadLine first ls (take k bs) b (get_or ns k 0)
line_at first ls bs ns k b h e =
    let s = split_at bs k b e in
    subst (λ (i : ℕ). IsHeadLine first ls (take k bs) b (get_or ns i 0)) s.1 (h.each (take k bs) (drop (k + 1) bs) b s.0)

-- the head stands there
stands_on : (ls : List Line) (before : List PlainBlock) (b : PlainBlock) (n : ℕ) → IsHeadLine 1 ls before b n → StandsOn ls b.head n
stands_on ls before b n h =
    let below = b.input ++ h.block.separator ∷ h.block.after in
    record {
      above = h.front ++ b.lead;
      below = below;
      parts = h.parts ∙ ap (λ (l : List Line). h.front ++ l) h.block.parts ∙ sym (append_assoc h.front b.lead (b.head ++ below));
      number = omega (arith, h.number, length-append h.front b.lead);
    }

pub heads_stand : (ls : List Line) (bs : List PlainBlock) (ns : List ℕ) → AreHeadLines 1 ls bs ns → (k : ℕ) (b : PlainBlock) → slice_get bs k ≡ Some b → StandsOn ls b.head (get_or ns k 0)
heads_stand ls bs ns h k b e = stands_on ls (take k bs) b (get_or ns k 0) (line_at 1 ls bs ns k b h e)

-- a later head begins on a later line
later_line : (first : ℕ) (ls : List Line) (front mid : List PlainBlock) (a b : PlainBlock) (n m : ℕ) → IsHeadLine first ls front a n → IsHeadLine first ls (front ++ a ∷ mid) b m → n < m
later_line first ls front mid a b n m h k =
    let s = some_split ls (b.lead ++ k.from) front (a ∷ mid) k.front_is in
    let block = block_front s.0 s.2.0 a s.2.1 in
    let between = some_front s.2.0 (b.lead ++ k.from) mid s.2.2 in
    let above_a : length ls ≡ length h.front + length (a.lead ++ h.from) = ap length h.parts ∙ length-append h.front (a.lead ++ h.from) in
    let above_b : length ls ≡ length k.front + length (b.lead ++ k.from) = ap length k.parts ∙ length-append k.front (b.lead ++ k.from) in
    let from_a : length s.0 ≡ length (a.lead ++ h.from) = ap length (some_once ls s.0 (a.lead ++ h.from) front s.1 h.front_is) in
    let of_a : length s.0 ≡ length block.front + length s.2.0 = ap length block.parts ∙ length-append block.front s.2.0 in
    let to_b : length s.2.0 ≡ length between.0 + length (b.lead ++ k.from) = ap length between.1 ∙ length-append between.0 (b.lead ++ k.from) in
    omega (arith, h.number, k.number, block.longer, above_a, above_b, from_a, of_a, to_b)

pub heads_ascend : (ls : List Line) (bs : List PlainBlock) (ns : List ℕ) → AreHeadLines 1 ls bs ns → (i j : ℕ) → i < j → j < length ns → get_or ns i 0 < get_or ns j 0
heads_ascend ls bs ns h i j before within =
    let b = block_there bs j (omega (arith, h.count)) in
    let s = split_at bs j b.0 b.1 in
    let front = take j bs in
    let later = drop (j + 1) bs in
    let a = block_there front i (omega (arith, s.1)) in
    let t = split_at front i a.0 a.1 in
    let mid = drop (i + 1) front in
    let whole : bs ≡ take i front ++ a.0 ∷ (mid ++ b.0 ∷ later) = s.0 ∙ ap (λ (l : List PlainBlock). l ++ b.0 ∷ later) t.0 ∙ append_assoc (take i front) (a.0 ∷ mid) (b.0 ∷ later) in
    let line_a = subst (λ (k : ℕ). IsHeadLine 1 ls (take i front) a.0 (get_or ns k 0)) t.1 (h.each (take i front) (mid ++ b.0 ∷ later) a.0 whole) in
    let line_b = subst (λ (l : List PlainBlock). IsHeadLine 1 ls l b.0 (get_or ns j 0)) t.0 (line_at 1 ls bs ns j b.0 h b.1) in
    later_line 1 ls (take i front) mid a.0 b.0 (get_or ns i 0) (get_or ns j 0) line_a line_b

-- a head begins on one line
line_once : (first : ℕ) (ls : List Line) (before : List PlainBlock) (b : PlainBlock) (n m : ℕ) → IsHeadLine first ls before b n → IsHeadLine first ls before b m → n ≡ m
line_once first ls before b n m h k =
    let same : length (b.lead ++ h.from) ≡ length (b.lead ++ k.from) = ap length (some_once ls (b.lead ++ h.from) (b.lead ++ k.from) before h.front_is k.front_is) in
    let x : length ls ≡ length h.front + length (b.lead ++ h.from) = ap length h.parts ∙ length-append h.front (b.lead ++ h.from) in
    let y : length ls ≡ length k.front + length (b.lead ++ k.from) = ap length k.parts ∙ length-append k.front (b.lead ++ k.from) in
    omega (arith, h.number, k.number, same, x, y)

pub heads_once : (ls : List Line) (bs : List PlainBlock) (ns ms : List ℕ) → AreHeadLines 1 ls bs ns → AreHeadLines 1 ls bs ms → ns ≡ ms
heads_once ls bs ns ms h k =
    same_number_lists ns ms (h.count ∙ sym k.count) (λ i within.
    let b = block_there bs i (omega (arith, h.count)) in line_once 1 ls (take i bs) b.0 (get_or ns i 0) (get_or ms i 0) (line_at 1 ls bs ns i b.0 h b.1) (line_at 1 ls bs ms i b.0 k b.1))

-- ---- what is read of bytes

-- the lines are those of any script that the bytes are
pub heads_of_script : {V : Type 0} (script : V → PlainScript) (items : V → List ℕ) (bytes : List ℕ) (result : Result V ScriptFault) → Gives script result (read_of bytes)
    → IfOk result (λ read. AreHeadLines 1 (lines bytes) (script read).blocks (items read)) → (s : PlainScript) → Reads bytes s → IfOk result (λ read. AreHeadLines 1 (lines bytes) s.blocks (items read))
heads_of_script script items bytes (Ok read) is h s r =
    subst (λ (t : PlainScript). AreHeadLines 1 (lines bytes) t.blocks (items read)) (reads_once bytes (script read) s (read_sound bytes (script read) is) r) h
heads_of_script script items bytes (Err e) is h s r = tt
