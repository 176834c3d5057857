-- The lines of heads, by reading blocks one after another, are those of rb_script.
use Rattle.std.proofs.Common.{◌≡◌, ◌∙◌, ℕ, ◌+◌, ◌-◌, List, [], ◌∷◌, ◌++◌, length, get_or, refl, ap, sym, subst, arith, length-append}
use Rattle.rb_script.specs.Lines.{Line, lines}
use Rattle.rb_script.specs.Script.{PlainBlock, PlainScript}
use Rattle.rb_script.specs.Reads.{ReadsBlock, ReadsSome, Reads}
use Rattle.rb_script.specs.Blocks.{block_at, from_head, lead_of, line_number}
use Rattle.rb_script.specs.HeadLines.{AreHeadLines}
use Rattle.rb_script.proofs.ResultLaws.{done, ok_is}
use Rattle.rb_script.proofs.BlockLaws.{cut_lead, block_complete}
use Rattle.rb_editor.specs.Heads.{behind_block, heads_at, heads_of}

-- a head's line, counted from the end
record CountsFrom (end : ℕ) (ls : List Line) (before : List PlainBlock) (b : PlainBlock) (n : ℕ) : Type 0 where
  from : List Line
  reads : ReadsSome ls before (b.lead ++ from)
  number : n ≡ end - length from

abbrev Each : ℕ → List Line → List PlainBlock → List ℕ → Type 0
Each end ls bs ns = (before later : List PlainBlock) (b : PlainBlock) → bs ≡ before ++ b ∷ later → CountsFrom end ls before b (get_or ns (length before) 0)

-- what is left behind a block is one thing
pub block_once : (ls x y : List Line) (b : PlainBlock) → ReadsBlock ls b x → ReadsBlock ls b y → x ≡ y
block_once ls x y b r q =
    let same : done (b, x) ≡ done (b, y) = sym (block_complete 0 ls x b r).1 ∙ (block_complete 0 ls y b q).1 in
    ap (λ (p : PlainBlock × List Line). p.1) (ok_is (b, x) (b, y) same)

-- the first head begins where the lead ends
first_line : (end : ℕ) (ls after : List Line) (b : PlainBlock) (n : ℕ) → ReadsBlock ls b after → CountsFrom end ls [] b n → n ≡ line_number end (from_head ls)
first_line end ls after b n r c =
    let more = b.input ++ r.separator ∷ r.after in
    let left : length (from_head ls) ≡ length (b.head ++ more) = ap length (cut_lead ls b.lead b.head more r.parts r.lead r.head.0).from_is in
    let whole : length ls ≡ length b.lead + length (b.head ++ more) = ap length r.parts ∙ length-append b.lead (b.head ++ more) in
    let also : length ls ≡ length b.lead + length c.from = ap length c.reads ∙ length-append b.lead c.from in
    let same : length c.from ≡ length (from_head ls) = omega (arith, left, whole, also) in
    c.number ∙ ap (λ (k : ℕ). end - k) same

-- the others begin in what is left
others : (end : ℕ) (ls after : List Line) (b : PlainBlock) (bs : List PlainBlock) (n : ℕ) (ns : List ℕ) → ReadsBlock ls b after → Each end ls (b ∷ bs) (n ∷ ns) → Each end after bs ns
others end ls after b bs n ns r each before later c e =
    let whole = each (b ∷ before) later c (ap (λ (l : List PlainBlock). b ∷ l) e) in
    record {
      from = whole.from;
      reads = subst (λ (l : List Line). ReadsSome l before (c.lead ++ whole.from)) (block_once ls whole.reads.0 after b whole.reads.1 r) whole.reads.2;
      number = whole.number;
    }

counted : (end : ℕ) (ls tail : List Line) (bs : List PlainBlock) (ns : List ℕ) → ReadsSome ls bs tail → length ns ≡ length bs → Each end ls bs ns → ns ≡ heads_at end bs ls
unfolding heads_at
counted end ls tail [] [] reads count each = refl
counted end ls tail [] (n ∷ ns) reads count each = absurd (omega (arith, count))
counted end ls tail (b ∷ bs) [] reads count each = absurd (omega (arith, count))
counted end ls tail (b ∷ bs) (n ∷ ns) reads count each =
    let after = reads.0 in
    let r = reads.1 in
    let here : n ≡ line_number end (from_head ls) = first_line end ls after b n r (each [] bs b refl) in
    let rest : behind_block (block_at end (lead_of ls) (from_head ls)) ≡ after = ap behind_block (block_complete end ls after b r).1 in
    let more : ns ≡ heads_at end bs after = counted end after tail bs ns reads.2 (omega (arith, count)) (others end ls after b bs n ns r each) in
    ap (λ (k : ℕ). k ∷ ns) here
    ∙ ap (λ (l : List ℕ). line_number end (from_head ls) ∷ l) more
    ∙ ap (λ (l : List Line). line_number end (from_head ls) ∷ heads_at end bs l) (sym rest)

-- the lines that are told are counted from the end
from_end : (ls : List Line) (bs : List PlainBlock) (ns : List ℕ) → AreHeadLines 1 ls bs ns → Each (1 + length ls) ls bs ns
from_end ls bs ns h before later b e =
    let line = h.each before later b e in
    let whole : length ls ≡ length line.front + length (b.lead ++ line.from) = ap length line.parts ∙ length-append line.front (b.lead ++ line.from) in
    let lead : length (b.lead ++ line.from) ≡ length b.lead + length line.from = length-append b.lead line.from in
    record { from = line.from; reads = line.front_is; number = omega (arith, line.number, whole, lead) }

-- they are the same
pub heads_are : (bytes : List ℕ) (s : PlainScript) (ns : List ℕ) → Reads bytes s → AreHeadLines 1 (lines bytes) s.blocks ns → ns ≡ heads_of bytes s
heads_are bytes s ns reads h = counted (1 + length (lines bytes)) (lines bytes) s.tail s.blocks ns reads.parts.0 h.count (from_end (lines bytes) s.blocks ns h)
