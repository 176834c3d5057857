use Rattle.std.proofs.Common.{◌≡◌, List, [], ℕ, ◌+◌, ◌-◌, min, ap}
use Rattle.std.proofs.lemmas.Result.{err_from_is_err_and}
use Rattle.rb_script.specs.declared.edit.Edit.TheVariants.{Replace}
use Rattle.rb_script.specs.Lines.{Line}
use Rattle.rb_script.specs.Edits.{edited}
use Rattle.rb_script.proofs.EditedLaws.{refused, exhausted, place_refused, no_block_there, Counts, too_long, text_fits, fits_grown, with_replaced, old_fits, there_within, replace_fitting, replace_counts, replace_valid}
use Rattle.rb_script.proofs.script.Script.replaced.Goals as goal
use Rattle.rb_script.proofs.script.Script.replaced.Goals.{After-text_len-3}

-- what was counted is the length of the text with the block in place of the old one
counts : (c : After-text_len-3) (n : ℕ) → n ≡ min (c.text_len.result - c.text_len-2.result + c.text_len-3.result) 18446744073709551615 → (outputs : List (List Line)) → Counts (edited c.args.self.now (Replace c.args.place c.args.block.now) outputs) (with_replaced c.args.self.now c.args.place c.args.block.now) n
counts c n is outputs =
    let s = c.args.self.now in
    let k = c.args.place in
    let old = c.in-Some.old.now in
    let there = c.in-Some.ensures in
    let b = c.args.block.now in
    replace_counts s k old there b (replace_fitting s k old there b outputs) c.text_len.result c.text_len-2.result c.text_len-3.result n c.text_len.ensures.valid c.text_len.ensures.len c.text_len-2.ensures.len c.text_len-3.ensures.len is

pub returns-in_default : goal.returns-in_default
returns-in_default c = λ outputs. refused _ _ (place_refused c.args.self.now (Replace c.args.place c.args.block.now) outputs (no_block_there c.args.self.now.blocks c.args.place c.in_default.ensures))

pub overflow_sub-rest : goal.overflow_sub-rest
overflow_sub-rest c = old_fits c.args.self.now c.args.place c.in-Some.old.now c.in-Some.ensures c.text_len.result c.text_len-2.result c.text_len.ensures.len c.text_len-2.ensures.len

pub returns-then-text_len-gt-MAX_SCRIPT : goal.returns-then-text_len-gt-MAX_SCRIPT
returns-then-text_len-gt-MAX_SCRIPT c = λ outputs. too_long (counts (goal.at.returns-then-text_len-gt-MAX_SCRIPT c).After-text_len-3 _ c.saturating_add-text_len.ensures outputs) c.if-text_len-gt-MAX_SCRIPT.true

pub returns-in_err-copy : goal.returns-in_err-copy
returns-in_err-copy c =
    let p = err_from_is_err_and c.from_residual.result c.from_residual.ensures.1 in
    rw (p.1, p.2) (λ outputs. exhausted _ _ (text_fits (counts (goal.at.returns-in_err-copy c).After-text_len-3 _ c.saturating_add-text_len.ensures outputs) c.if-text_len-gt-MAX_SCRIPT.false))

pub splice-requires : goal.splice-requires
splice-requires c =
    let old = c.in-Some.old.now in
    let there = c.in-Some.ensures in
    let counted = counts (goal.at.splice-requires c).After-text_len-3 _ c.saturating_add-text_len.ensures [] in
    let inside = there_within c.args.self.now c.args.place old there in
    record {
      from = inside.0;
      to = inside.1;
      kept = replace_valid c.args.self.now c.args.place old there c.args.block.now c.in_ok-copy.copy c.in_ok-copy.ensures c.text_len.ensures.valid c.text_len-3.ensures.valid counted c.if-text_len-gt-MAX_SCRIPT.false;
    }

pub returns : goal.returns
returns c = λ outputs.
    fits_grown c.splice.result _ (counts (goal.at.returns c).After-text_len-3 _ c.saturating_add-text_len.ensures outputs) c.if-text_len-gt-MAX_SCRIPT.false (ap (with_replaced c.args.self.now c.args.place) c.in_ok-copy.ensures) c.splice.ensures.ok c.splice.ensures.err
