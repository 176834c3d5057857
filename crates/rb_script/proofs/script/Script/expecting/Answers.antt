use Rattle.std.proofs.Common.{◌≡◌, List, [], ℕ, ◌+◌, ◌-◌, min, not, true, sym, ap, ◌∙◌}
use Rattle.std.proofs.lemmas.Result.{err_from_is_err_and}
use Rattle.rb_script.specs.declared.edit.Edit.TheVariants.{Expect}
use Rattle.rb_script.specs.Lines.{Line}
use Rattle.rb_script.specs.Script.{expecting}
use Rattle.rb_script.specs.Edits.{edited, is_expectation}
use Rattle.rb_script.proofs.SharedLaws.{expecting_valid}
use Rattle.rb_script.proofs.EditedLaws.{refused, exhausted, place_refused, expectation_refused, no_block_there, place_there, Counts, too_long, text_fits, fits_grown, with_replaced, old_fits, there_within, expect_fitting, replace_counts, replace_valid}
use Rattle.rb_script.proofs.script.Script.expecting.Goals as goal
use Rattle.rb_script.proofs.script.Script.expecting.Goals.{After-text_len_with}

-- the lines can be an expectation
good : (c : After-text_len_with) → is_expectation c.args.lines.now ≡ true
good c = sym c.is_expectation.ensures ∙ c.if-not-is_expectation.false

-- what was counted is the length of the text with these lines in place of the old expectation
counts : (c : After-text_len_with) (n : ℕ) → n ≡ min (c.text_len.result - c.text_len-2.result + c.text_len_with.result) 18446744073709551615 → (outputs : List (List Line))
    → Counts (edited c.args.self.now (Expect c.args.place c.args.lines.now) outputs) (with_replaced c.args.self.now c.args.place (expecting c.in-Some.old.now c.args.lines.now)) n
counts c n is outputs =
    let s = c.args.self.now in
    let k = c.args.place in
    let old = c.in-Some.old.now in
    let there = c.in-Some.ensures in
    let lines = c.args.lines.now in
    replace_counts s k old there (expecting old lines) (expect_fitting s k old there lines outputs (good c)) c.text_len.result c.text_len-2.result c.text_len_with.result n c.text_len.ensures.valid c.text_len.ensures.len c.text_len-2.ensures.len c.text_len_with.ensures is

pub returns-in_default : goal.returns-in_default
returns-in_default c = λ outputs. refused _ _ (place_refused c.args.self.now (Expect c.args.place c.args.lines.now) outputs (no_block_there c.args.self.now.blocks c.args.place c.in_default.ensures))

pub returns-then-not-is_expectation : goal.returns-then-not-is_expectation
returns-then-not-is_expectation c = λ outputs.
    refused _ _ (expectation_refused c.args.self.now (Expect c.args.place c.args.lines.now) outputs (place_there c.args.self.now c.args.place c.in-Some.old.now c.in-Some.ensures) (ap not (sym c.is_expectation.ensures ∙ c.if-not-is_expectation.true)))

pub overflow_sub-rest : goal.overflow_sub-rest
overflow_sub-rest c = old_fits c.args.self.now c.args.place c.in-Some.old.now c.in-Some.ensures c.text_len.result c.text_len-2.result c.text_len.ensures.len c.text_len-2.ensures.len

pub returns-then-text_len-gt-MAX_SCRIPT : goal.returns-then-text_len-gt-MAX_SCRIPT
returns-then-text_len-gt-MAX_SCRIPT c = λ outputs. too_long (counts (goal.at.returns-then-text_len-gt-MAX_SCRIPT c).After-text_len_with _ c.saturating_add-text_len.ensures outputs) c.if-text_len-gt-MAX_SCRIPT.true

pub returns-in_err-block : goal.returns-in_err-block
returns-in_err-block c =
    let p = err_from_is_err_and c.from_residual.result c.from_residual.ensures.1 in
    rw (p.1, p.2) (λ outputs. exhausted _ _ (text_fits (counts (goal.at.returns-in_err-block c).After-text_len_with _ c.saturating_add-text_len.ensures outputs) c.if-text_len-gt-MAX_SCRIPT.false))

pub splice-requires : goal.splice-requires
splice-requires c =
    let old = c.in-Some.old.now in
    let there = c.in-Some.ensures in
    let lines = c.args.lines.now in
    let at = (goal.at.splice-requires c).After-text_len_with in
    let inside = there_within c.args.self.now c.args.place old there in
    let counted = counts at _ c.saturating_add-text_len.ensures [] in
    let block = expecting_valid old lines c.text_len-2.ensures.valid (good at) in
    record {
      from = inside.0;
      to = inside.1;
      kept = replace_valid c.args.self.now c.args.place old there (expecting old lines) c.in_ok-block.block c.in_ok-block.ensures c.text_len.ensures.valid block counted c.if-text_len-gt-MAX_SCRIPT.false;
    }

pub returns : goal.returns
returns c = λ outputs.
    fits_grown c.splice.result _ (counts (goal.at.returns c).After-text_len_with _ c.saturating_add-text_len.ensures outputs) c.if-text_len-gt-MAX_SCRIPT.false (ap (with_replaced c.args.self.now c.args.place) c.in_ok-block.ensures) c.splice.ensures.ok c.splice.ensures.err
