use Rattle.std.proofs.Common.{◌≡◌, ℕ, ◌+◌, ◌<◌, true, Ok, List, ◌++◌, ◌∷◌, [], ◌-◌, length, drop, sym, ap, subst, ◌∙◌, arith}
use Rattle.std.specs.Prelude.{vec_len}
use Rattle.std.proofs.lemmas.List.{length-drop}
use Rattle.std.proofs.lemmas.Result.{err_from_is_err_and}
use Rattle.rb_script.specs.declared.limits.TheConstants.{MAX_DIRECTIVES}
use Rattle.std.specs.List.{list_all, AllByRecursion}
use Rattle.rb_script.specs.Lines.{Line}
use Rattle.rb_script.specs.Marks.{is_lead}
use Rattle.rb_script.specs.Valid.{IsLine}
use Rattle.rb_script.specs.Flat.{between}
use Rattle.rb_script.specs.Shared.{values}
use Rattle.rb_script.specs.Results.{Fails}
use Rattle.rb_script.specs.Script.{PlainBlock, block_text}
use Rattle.rb_script.specs.Reading.{capped}
use Rattle.rb_script.specs.Blocks.{is_empty, from_head, blocks_at}
use Rattle.rb_script.proofs.BlocksLaws.{with_blocks, blocks_more, blocks_fail, blocks_done, blocks_full, left_none, left_some, same_block, leads_of, begins_from, next_sound}
use Rattle.rb_script.proofs.ValidLaws.{split_lines, block_valid}
use Rattle.rb_script.proofs.LengthLaws.{blocks_len, blocks-push-length, text-length}
use Rattle.rb_script.proofs.HeadLineLaws.{HeadsSoFar, one_more_head}
use Rattle.rb_script.proofs.reading.blocks.Goals as goal

pub returns-then-start-len-clause-gives : goal.returns-then-start-len-clause-gives
returns-then-start-len-clause-gives c =
    let all = c.args.all.now in
    let ls = drop c.loop-alloc.at all in
    blocks_done MAX_DIRECTIVES (values c.loop-alloc.found.items) (vec_len c.loop-alloc.found) (1 + length all) ls _ c.loop-alloc.invariant.read (left_none all ls c.run-start.result c.run-start.ensures.rest (omega arith))
    ∙ ap (λ l. Ok (record { blocks = values c.loop-alloc.found.items; tail = l })) (sym (c.in_ok-tail.ensures ∙ c.run-start.ensures.run))

pub returns-then-start-len-clause-len : goal.returns-then-start-len-clause-len
returns-then-start-len-clause-len c =
    let whole = text-length (record { blocks = values c.loop-alloc.found.items; tail = c.in_ok-tail.tail }) in
    omega (arith, whole, ap length c.text.ensures, c.saturating_add.ensures, c.loop-alloc.invariant.len)

pub returns-then-len-eq-MAX_DIRECTIVES-clause-gives : goal.returns-then-len-eq-MAX_DIRECTIVES-clause-gives
returns-then-len-eq-MAX_DIRECTIVES-clause-gives c =
    let all = c.args.all.now in
    let ls = drop c.loop-alloc.at all in
    let some : c.run-start.result < length all = omega arith in
    blocks_full MAX_DIRECTIVES (values c.loop-alloc.found.items) (vec_len c.loop-alloc.found) (1 + length all) ls _ c.loop-alloc.invariant.read (sym c.len-in-loop-alloc.ensures ∙ c.if-len-eq-MAX_DIRECTIVES.true)
    (left_some all ls c.run-start.result c.run-start.ensures.rest some)

pub block-requires-clause-lead : goal.block-requires-clause-lead
block-requires-clause-lead c = subst (λ (lead : List Line). list_all is_lead lead ≡ true) (sym c.run-start.ensures.run) (leads_of (drop c.loop-alloc.at c.args.all.now))

pub block-requires-clause-lead_lines : goal.block-requires-clause-lead_lines
block-requires-clause-lead_lines c = subst (AllByRecursion IsLine) (sym c.run-start.ensures.run) (split_lines (drop c.loop-alloc.at c.args.all.now) c.loop-alloc.invariant.lines_left).0

pub block-requires-clause-lines : goal.block-requires-clause-lines
block-requires-clause-lines c = rw c.run-start.ensures.rest (split_lines (drop c.loop-alloc.at c.args.all.now) c.loop-alloc.invariant.lines_left).1

pub block-requires-clause-head : goal.block-requires-clause-head
block-requires-clause-head c =
    let all = c.args.all.now in
    let start = c.run-start.result in
    let some : start < length all = omega arith in
    begins_from (drop c.loop-alloc.at all) (drop start all) (sym c.run-start.ensures.rest) (ap is_empty c.run-start.ensures.rest ∙ left_some all (drop c.loop-alloc.at all) start c.run-start.ensures.rest some)

pub returns-in_err-block-clause-gives : goal.returns-in_err-block-clause-gives
returns-in_err-block-clause-gives c =
    let p = err_from_is_err_and c.from_residual-in_err-block.result c.from_residual-in_err-block.ensures.1 in
    let all = c.args.all.now in
    let ls = drop c.loop-alloc.at all in
    let start = c.run-start.result in
    let some : start < length all = omega arith in
    let same = same_block (1 + length all) (between c.loop-alloc.at start all) (drop start all) ls c.run-start.ensures.run c.run-start.ensures.rest in
    let failed = subst (λ r. Fails c.in_err-block.field-0.0 r) same c.in_err-block.ensures.gives in
    rw (p.1, p.2) (blocks_fail MAX_DIRECTIVES (values c.loop-alloc.found.items) (vec_len c.loop-alloc.found) (1 + length all) ls _ c.loop-alloc.invariant.read c.in_err-block.field-0.0 (omega arith)
    (left_some all ls start c.run-start.ensures.rest some) failed)

pub loop-alloc-preserved : goal.loop-alloc-preserved
loop-alloc-preserved c =
    let all = c.args.all.now in
    let ls = drop c.loop-alloc.at all in
    let start = c.run-start.result in
    let after = drop c.in_ok-block.after all in
    let within : start < length all = omega arith in
    let some = left_some all ls start c.run-start.ensures.rest within in
    let same = same_block (1 + length all) (between c.loop-alloc.at start all) (drop start all) ls c.run-start.ensures.run c.run-start.ensures.rest in
    let next = sym same ∙ c.in_ok-block.ensures.gives in
    let sound = next_sound (1 + length all) ls after c.in_ok-block.block.value some next in
    let line : (start + 1) + length (from_head ls) ≡ 1 + length all = omega (arith, ap length c.run-start.ensures.rest, length-drop start all) in
    let headed = one_more_head 1 all (values c.loop-alloc.found.items) ls c.loop-alloc.heads.items c.loop-alloc.invariant.heads c.in_ok-block.block.value after (start + 1) sound line in
    let pushed = c.in_ok-push_block.ensures.items in
    let so_far = values c.loop-alloc.found.items in
    let block_len = c.text_len.ensures.len ∙ ap (λ (b : PlainBlock). capped (length (block_text b))) c.deref.ensures in
    let longer : c.saturating_add-text_len.result ≡ capped (blocks_len (so_far ++ c.in_ok-block.block.value ∷ [])) =
    omega (arith, c.loop-alloc.invariant.len, c.saturating_add-text_len.ensures, block_len, blocks-push-length so_far c.in_ok-block.block.value) in
    record {
      within = c.in_ok-block.ensures.within;
      read = ap (λ bs. with_blocks bs (blocks_at (MAX_DIRECTIVES - vec_len c.push_block.new.found) (1 + length all) after)) pushed
          ∙ ap (λ k. with_blocks (values c.loop-alloc.found.items ++ c.in_ok-block.block.value ∷ []) (blocks_at (MAX_DIRECTIVES - k) (1 + length all) after)) c.in_ok-push_block.ensures.len
          ∙ blocks_more MAX_DIRECTIVES (values c.loop-alloc.found.items) (vec_len c.loop-alloc.found) (1 + length all) ls _ c.loop-alloc.invariant.read c.in_ok-block.block.value after (omega arith) some next;
      lines_left = (block_valid ls after c.in_ok-block.block.value c.loop-alloc.invariant.lines_left sound).1;
      few = omega (arith, c.in_ok-push_block.ensures.len);
      len = longer ∙ ap (λ (bs : List PlainBlock). capped (blocks_len bs)) (sym pushed);
      heads =
          subst (λ (bs : List PlainBlock). HeadsSoFar 1 all bs after c.push.new.self.items) (sym pushed)
          (subst (λ (ns : List ℕ). HeadsSoFar 1 all (values c.loop-alloc.found.items ++ c.in_ok-block.block.value ∷ []) after ns) (sym c.in_ok-push.ensures.items) headed);
    }
