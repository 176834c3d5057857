-- Blocks one after the other, as a loop reads them, and the tail.
use Rattle.std.proofs.Common.{◌≡◌, ℕ, suc, zero, ◌+◌, ◌-◌, ◌<◌, ◌≤◌, true, false, cond, List, [], ◌∷◌, ◌++◌, length, drop, Result, Ok, Err, refl, ap, sym, subst, ◌∙◌, append_assoc, arith, inl, inr}
use Rattle.std.specs.List.{list_all}
use Rattle.std.proofs.lemmas.List.{append-nil, drop_all, drop_more}
use Rattle.std.proofs.lemmas.Bool.{cases_Bool}
use Rattle.rb_script.specs.declared.fault.ScriptFault.{ScriptFault}
use Rattle.rb_script.specs.declared.fault.ScriptFault.TheVariants as faults
use Rattle.rb_script.specs.Lines.{Line}
use Rattle.rb_script.specs.Marks.{is_lead}
use Rattle.rb_script.specs.Script.{PlainBlock, PlainScript}
use Rattle.rb_script.specs.Reads.{begins_lead, ReadsBlock, ReadsBlocks}
use Rattle.rb_script.specs.Results.{◌>>=◌, Fails}
use Rattle.rb_script.specs.Runs.{while_of, after_while}
use Rattle.rb_script.specs.Blocks.{lead_of, from_head, is_empty, block_at, blocks_at, behind, tail_only}
use Rattle.rb_script.proofs.ResultLaws.{bind_ok, done, ok_is, fails_through}
use Rattle.rb_script.proofs.RunLaws.{run_parts, run_all, after_first, run_whole}
use Rattle.rb_script.proofs.BlockLaws.{block_sound, block_complete}

-- what was read before, and what is still read
abbrev pub with_blocks : List PlainBlock → Result PlainScript ScriptFault → Result PlainScript ScriptFault
with_blocks front read = read >>= λ s. Ok (behind front s)

-- a block moves from what is still read to what was read
regroup : (front : List PlainBlock) (b : PlainBlock) (read : Result PlainScript ScriptFault) → with_blocks front (read >>= λ others. Ok (behind (b ∷ []) others)) ≡ with_blocks (front ++ b ∷ []) read
regroup front b (Ok s) = ap (λ (bs : List PlainBlock). Ok (record { blocks = bs; tail = s.tail })) (sym (append_assoc front (b ∷ []) s.blocks))
regroup front b (Err f) = refl

-- ---- one block

-- a block, and those after it
abbrev pub one_more : ℕ → ℕ → PlainBlock × List Line → Result PlainScript ScriptFault
one_more room end found = blocks_at room end found.1 >>= λ others. Ok (behind (found.0 ∷ []) others)

-- a block that was read stands before the others
pub step_ok : (room end : ℕ) (ls : List Line) (b : PlainBlock) (after : List Line) → is_empty (from_head ls) ≡ false → block_at end (lead_of ls) (from_head ls) ≡ Ok (b, after) → blocks_at (suc room) end ls ≡ (blocks_at room end after >>= λ others. Ok (behind (b ∷ []) others))
unfolding blocks_at
step_ok room end ls b after some h =
    ap (λ t. cond t (Ok (tail_only ls)) (block_at end (lead_of ls) (from_head ls) >>= one_more room end)) some
    ∙ ap (λ (r : Result (PlainBlock × List Line) ScriptFault). r >>= one_more room end) h

-- a block that can't be read is the fault
step_err : (room end : ℕ) (ls : List Line) (e : ScriptFault) → is_empty (from_head ls) ≡ false → block_at end (lead_of ls) (from_head ls) ≡ Err e → blocks_at (suc room) end ls ≡ Err e
unfolding blocks_at
step_err room end ls e some h =
    ap (λ t. cond t (Ok (tail_only ls)) (block_at end (lead_of ls) (from_head ls) >>= one_more room end)) some
    ∙ ap (λ (r : Result (PlainBlock × List Line) ScriptFault). r >>= one_more room end) h

-- where no head is left, the lines are the tail
pub step_done : (room end : ℕ) (ls : List Line) → is_empty (from_head ls) ≡ true → blocks_at room end ls ≡ Ok (tail_only ls)
unfolding blocks_at
step_done zero end ls h = ap (λ t. cond t (Ok (tail_only ls)) (Err faults.TooManyDirectives)) h
step_done (suc room) end ls h = ap (λ t. cond t (Ok (tail_only ls)) (block_at end (lead_of ls) (from_head ls) >>= one_more room end)) h

-- a head for which there is no room is the fault
step_full : (end : ℕ) (ls : List Line) → is_empty (from_head ls) ≡ false → blocks_at 0 end ls ≡ Err faults.TooManyDirectives
unfolding blocks_at
step_full end ls h = ap (λ t. cond t (Ok (tail_only ls)) (Err faults.TooManyDirectives)) h

-- ---- the loop, which has read n blocks of at most so many

module _ (most : ℕ) (front : List PlainBlock) (n end : ℕ) (ls : List Line) (total : Result PlainScript ScriptFault) (so_far : with_blocks front (blocks_at (most - n) end ls) ≡ total) where
  -- there is room for one more
  room_is : n < most → most - n ≡ suc (most - (n + 1))
  room_is lt = omega arith

  -- one block more was read
  pub blocks_more : (b : PlainBlock) (after : List Line) → n < most → is_empty (from_head ls) ≡ false → block_at end (lead_of ls) (from_head ls) ≡ Ok (b, after) → with_blocks (front ++ b ∷ []) (blocks_at (most - (n + 1)) end after) ≡ total
  blocks_more b after lt some h =
      let room = most - (n + 1) in
      sym (regroup front b (blocks_at room end after)) ∙ sym (ap (with_blocks front) (ap (λ (r : ℕ). blocks_at r end ls) (room_is lt) ∙ step_ok room end ls b after some h)) ∙ so_far

  -- the next block can't be read
  pub blocks_fail : (e : ScriptFault) → n < most → is_empty (from_head ls) ≡ false → Fails e (block_at end (lead_of ls) (from_head ls)) → Fails e total
  blocks_fail e lt some h = fails_through e _ total h (λ f. sym so_far ∙ ap (with_blocks front) (ap (λ (r : ℕ). blocks_at r end ls) (room_is lt) ∙ step_err (most - (n + 1)) end ls e some f))

  -- no head is left
  pub blocks_done : is_empty (from_head ls) ≡ true → total ≡ Ok (record { blocks = front; tail = lead_of ls })
  blocks_done h = sym so_far ∙ ap (with_blocks front) (step_done (most - n) end ls h) ∙ ap (λ (bs : List PlainBlock). Ok (record { blocks = bs; tail = lead_of ls })) (append-nil front)

  -- a head is left, and there is no room
  pub blocks_full : n ≡ most → is_empty (from_head ls) ≡ false → total ≡ Err faults.TooManyDirectives
  blocks_full full h =
      let none : most - n ≡ 0 = omega arith in
      sym so_far ∙ ap (with_blocks front) (ap (λ (r : ℕ). blocks_at r end ls) none ∙ step_full end ls h)

-- no line is left from a position on
pub left_none : (all ls : List Line) (at : ℕ) → drop at all ≡ from_head ls → length all ≤ at → is_empty (from_head ls) ≡ true
left_none all ls at e le = ap is_empty (sym e ∙ drop_all at all le)

-- some line is left from a position on
pub left_some : (all ls : List Line) (at : ℕ) → drop at all ≡ from_head ls → at < length all → is_empty (from_head ls) ≡ false
left_some all ls at e lt = ap is_empty (sym e ∙ drop_more all at [] lt)

-- the block is read from the same lines
pub same_block : (end : ℕ) (lead after ls : List Line) → lead ≡ lead_of ls → after ≡ from_head ls → block_at end lead after ≡ block_at end (lead_of ls) (from_head ls)
same_block end lead after ls f g = ap (λ (l : List Line). block_at end l after) f ∙ ap (λ (l : List Line). block_at end (lead_of ls) l) g

-- ---- all blocks: what is read is in the relation, and what is in the relation is read

-- lines that are none
nil_is : (ls : List Line) → is_empty ls ≡ true → ls ≡ []
nil_is [] e = refl
nil_is (line ∷ ls) e = absurd cc

-- the lines before a head are lead lines
pub leads_of : (ls : List Line) → list_all is_lead (lead_of ls) ≡ true
leads_of ls = run_all is_lead ls

-- a head is no lead line
pub begins_from : (ls from : List Line) → from_head ls ≡ from → is_empty from ≡ false → begins_lead from ≡ false
begins_from ls [] e some = absurd cc
begins_from ls (line ∷ from) e some = after_first is_lead ls line from e

-- where no head is left, the tail is in the relation
tail_sound : (ls : List Line) → is_empty (from_head ls) ≡ true → ReadsBlocks ls [] (lead_of ls)
tail_sound ls e = (sym (run_parts is_lead ls) ∙ ap (λ (l : List Line). lead_of ls ++ l) (nil_is (from_head ls) e) ∙ append-nil (lead_of ls), leads_of ls)

-- blocks and a tail in the relation, for which there is room
abbrev Sound : ℕ → List Line → PlainScript → Type 0
Sound room ls s = ReadsBlocks ls s.blocks s.tail × (length s.blocks ≤ room)

-- the next block that is read is in the relation
pub next_sound : (end : ℕ) (ls rest : List Line) (b : PlainBlock) → is_empty (from_head ls) ≡ false → block_at end (lead_of ls) (from_head ls) ≡ Ok (b, rest) → ReadsBlock ls b rest
next_sound end ls rest b some e =
    subst (λ (l : List Line). ReadsBlock l b rest) (run_parts is_lead ls) (block_sound end (lead_of ls) (from_head ls) rest b e (leads_of ls) (begins_from ls (from_head ls) refl some))

-- the blocks and the tail that are read are in the relation
pub blocks_sound : (room end : ℕ) (ls : List Line) (s : PlainScript) → blocks_at room end ls ≡ Ok s → Sound room ls s
unfolding blocks_at
blocks_sound zero end ls s e =
    elim (cases_Bool (is_empty (from_head ls))) [
      | inl t ↦ subst (λ (x : PlainScript). Sound 0 ls x) (ok_is (tail_only ls) s (sym (ap (λ b. cond b (Ok (tail_only ls)) (Err faults.TooManyDirectives)) t) ∙ e)) (tail_sound ls t, omega arith)
      | inr f ↦ let no : Err faults.TooManyDirectives ≡ done s = sym (ap (λ b. cond b (done (tail_only ls)) (Err faults.TooManyDirectives)) f) ∙ e in absurd cc
    ]
blocks_sound (suc room) end ls s e =
    elim (cases_Bool (is_empty (from_head ls))) [
      | inl t ↦ subst (λ (x : PlainScript). Sound (suc room) ls x) (ok_is (tail_only ls) s (sym (ap (λ b. cond b (Ok (tail_only ls)) (block_at end (lead_of ls) (from_head ls) >>= one_more room end)) t) ∙ e)) (tail_sound ls t, omega arith)
      | inr f ↦
          let x = bind_ok (block_at end (lead_of ls) (from_head ls)) (one_more room end) s (sym (ap (λ b. cond b (done (tail_only ls)) (block_at end (lead_of ls) (from_head ls) >>= one_more room end)) f) ∙ e) in
          let y = bind_ok (blocks_at room end x.0.1) (λ more. Ok (behind (x.0.0 ∷ []) more)) s x.2 in
          let later = blocks_sound room end x.0.1 y.0 y.1 in
          subst (λ (z : PlainScript). Sound (suc room) ls z) (ok_is (behind (x.0.0 ∷ []) y.0) s y.2) (((x.0.1, next_sound end ls x.0.1 x.0.0 f x.1, later.0.0), later.0.1), omega arith)
    ]

-- the blocks and the tail in the relation are read
pub blocks_complete : (room end : ℕ) (ls : List Line) (bs : List PlainBlock) (tail : List Line) → ReadsBlocks ls bs tail → length bs ≤ room → blocks_at room end ls ≡ Ok (record { blocks = bs; tail = tail })
blocks_complete room end ls [] tail r few =
    let run = run_whole is_lead tail r.1 in
    step_done room end ls (ap is_empty (ap (after_while is_lead) r.0 ∙ run.1)) ∙ ap (λ (l : List Line). Ok (record { blocks = []; tail = l })) (ap (while_of is_lead) r.0 ∙ run.0)
blocks_complete zero end ls (b ∷ bs) tail r few = absurd (omega arith)
blocks_complete (suc room) end ls (b ∷ bs) tail r few =
    let block = block_complete end ls r.0.0 b r.0.1 in
    step_ok room end ls b r.0.0 block.0 block.1 ∙ ap (λ (later : Result PlainScript ScriptFault). later >>= λ others. Ok (behind (b ∷ []) others)) (blocks_complete room end r.0.0 bs tail (r.0.2, r.1) (omega arith))
