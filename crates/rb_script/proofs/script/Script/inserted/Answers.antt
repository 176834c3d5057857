use Rattle.std.proofs.Common.{◌≡◌, ◌<◌, ◌⊎◌, List, [], ℕ, ◌+◌, length, min, refl, ap, inl, inr, arith}
use Rattle.std.proofs.lemmas.Bool.{le-leb}
use Rattle.std.proofs.lemmas.Result.{err_from_is_err_and}
use Rattle.rb_script.specs.declared.edit.Edit.TheVariants.{Insert}
use Rattle.rb_script.specs.Lines.{Line}
use Rattle.rb_script.specs.Edits.{edited}
use Rattle.rb_script.proofs.EditedLaws.{refused, exhausted, nowhere, place_refused, room_refused, Counts, too_long, text_fits, fits_grown, with_inserted, place_so, insert_counts, insert_valid}
use Rattle.rb_script.proofs.script.Script.inserted.Goals as goal
use Rattle.rb_script.proofs.script.Script.inserted.Goals.{After-text_len-2, then-place-eq0-via-then-place-eq0, then-place-eq0-via-else-place-eq0+then-place-count}

-- what was counted is the length of the text with the block put in
counts : (c : After-text_len-2) (n : ℕ) → n ≡ min (c.text_len.result + c.text_len-2.result) 18446744073709551615 → (outputs : List (List Line)) → Counts (edited c.args.self.now (Insert c.args.place c.args.block.now) outputs) (with_inserted c.args.self.now c.args.place c.args.block.now) n
counts c n is outputs =
    insert_counts c.args.self.now c.args.place c.args.block.now outputs c.if-place-eq0.false (omega arith) (omega arith) n c.text_len.result c.text_len-2.result is c.text_len.ensures.len c.text_len-2.ensures.len

pub returns-then-place-eq0 : goal.returns-then-place-eq0
returns-then-place-eq0 c =
    let out : (c.args.place ≡ 0) ⊎ (length c.args.self.now.blocks + 1 < c.args.place) = elim c.then-place-eq0.branch [
      | then-place-eq0-via-then-place-eq0 w ↦ inl w.if-place-eq0.true
      | then-place-eq0-via-else-place-eq0+then-place-count w ↦ inr (omega arith)
    ] in
    λ outputs. refused _ _ (place_refused c.args.self.now (Insert c.args.place c.args.block.now) outputs (nowhere c.args.place (length c.args.self.now.blocks + 1) out))

pub returns-then-count-ge-MAX_DIRECTIVES : goal.returns-then-count-ge-MAX_DIRECTIVES
returns-then-count-ge-MAX_DIRECTIVES c = λ outputs.
    refused _ _ (room_refused c.args.self.now (Insert c.args.place c.args.block.now) outputs (place_so c.args.self.now c.args.place c.args.block.now outputs c.if-place-eq0.false (omega arith)) refl (le-leb _ _ (omega arith)))

pub returns-then-text_len-gt-MAX_SCRIPT : goal.returns-then-text_len-gt-MAX_SCRIPT
returns-then-text_len-gt-MAX_SCRIPT c = λ outputs. too_long (counts (goal.at.returns-then-text_len-gt-MAX_SCRIPT c).After-text_len-2 _ c.saturating_add-text_len.ensures outputs) c.if-text_len-gt-MAX_SCRIPT.true

pub returns-in_err-copy : goal.returns-in_err-copy
returns-in_err-copy c =
    let p = err_from_is_err_and c.from_residual.result c.from_residual.ensures.1 in
    rw (p.1, p.2) (λ outputs. exhausted _ _ (text_fits (counts (goal.at.returns-in_err-copy c).After-text_len-2 _ c.saturating_add-text_len.ensures outputs) c.if-text_len-gt-MAX_SCRIPT.false))

pub splice-requires-clause-kept : goal.splice-requires-clause-kept
splice-requires-clause-kept c =
    insert_valid c.args.self.now c.args.place c.args.block.now [] c.if-place-eq0.false (omega arith) (omega arith) c.in_ok-copy.copy c.in_ok-copy.ensures c.text_len.ensures.valid c.text_len-2.ensures.valid
    (counts (goal.at.splice-requires-clause-kept c).After-text_len-2 _ c.saturating_add-text_len.ensures []) c.if-text_len-gt-MAX_SCRIPT.false

pub returns : goal.returns
returns c = λ outputs.
    fits_grown c.splice.result _ (counts (goal.at.returns c).After-text_len-2 _ c.saturating_add-text_len.ensures outputs) c.if-text_len-gt-MAX_SCRIPT.false (ap (with_inserted c.args.self.now c.args.place) c.in_ok-copy.ensures) c.splice.ensures.ok c.splice.ensures.err
