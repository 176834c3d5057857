-- What is made of a command's lines, and of the edit.
use Rattle.std.proofs.Common.{◌≡◌, ℕ, ◌≤◌, ◌⊎◌, inl, inr, Bool, true, false, List, Result, Ok, Err, ap, sym, subst, ◌∙◌, length, arith}
use Rattle.std.specs.Prelude.{nat_lt, MatchBool}
use Rattle.std.proofs.lemmas.Bool.Decides.{nat_tests}
use Rattle.rb_script.specs.declared.limits.TheConstants.{MAX_SCRIPT}
use Rattle.rb_script.specs.declared.fault.EditFault.{EditFault}
use Rattle.rb_script.specs.declared.fault.EditFault.TheVariants as edit_faults
use Rattle.rb_script.specs.declared.fault.ScriptFault.{ScriptFault}
use Rattle.rb_script.specs.declared.edit.Edit.{Edit}
use Rattle.rb_script.specs.declared.edit.Edit.TheVariants as edits
use Rattle.rb_script.specs.Lines.{Line, text_of}
use Rattle.rb_script.specs.Script.{PlainBlock, PlainScript}
use Rattle.rb_script.specs.Reading.{block_of, Fails, capped}
use Rattle.rb_script.specs.Edits.{edited}
use Rattle.rb_script.proofs.ResultLaws.{fails_through}
use Rattle.rb_bench.specs.declared.command.Purpose.{Purpose}
use Rattle.rb_bench.specs.declared.command.Purpose.TheVariants.{Insert, Replace, Expect}
use Rattle.rb_replay.specs.Run.{outputs}
use Rattle.rb_replay.specs.Holding.{Holding}
use Rattle.rb_bench.specs.Names.{edit_name}
use Rattle.rb_bench.specs.Responses.{block_edit, edit_of, refused, Says, AnswersMade, AnswersEdit, AnswersBlock, AnswersGiven}

pub insert_of : (purpose : Purpose) (place : ℕ) (given : List Line) → purpose ≡ Insert → edit_of purpose place given ≡ block_edit (λ b. edits.Insert place b) (block_of (text_of given))
unfolding edit_of
insert_of purpose place given e = ap (λ k. edit_of k place given) e

pub replace_of : (purpose : Purpose) (place : ℕ) (given : List Line) → purpose ≡ Replace → edit_of purpose place given ≡ block_edit (λ b. edits.Replace place b) (block_of (text_of given))
unfolding edit_of
replace_of purpose place given e = ap (λ k. edit_of k place given) e

pub expect_of : (purpose : Purpose) (place : ℕ) (given : List Line) → purpose ≡ Expect → edit_of purpose place given ≡ Ok (edits.Expect place given)
unfolding edit_of
expect_of purpose place given e = ap (λ k. edit_of k place given) e

-- a block's fault is the edit's
pub block_fails : (f : PlainBlock → Edit) (fault : ScriptFault) (bytes text : List ℕ) (made : Result Edit ScriptFault) → made ≡ block_edit f (block_of text) → bytes ≡ text → Fails fault (block_of bytes) → Fails fault made
block_fails f fault bytes text made e same h =
    fails_through fault (block_of bytes) made h (λ is. e ∙ ap (λ b. block_edit f (block_of b)) (sym same) ∙ ap (block_edit f) is)

-- and its block is the edit's
pub block_made : (f : PlainBlock → Edit) (b : PlainBlock) (bytes text : List ℕ) (made : Result Edit ScriptFault) → made ≡ block_edit f (block_of text) → bytes ≡ text → block_of bytes ≡ Ok b → made ≡ Ok (f b)
block_made f b bytes text made e same h = e ∙ ap (λ b. block_edit f (block_of b)) (sym same) ∙ ap (block_edit f) h

-- ---- answers

-- Where memory refused an edit, that is said; else it is answered as if there had been memory.
made_either : (h : Holding) (edit : Edit) (made : Result PlainScript EditFault) (no_memory : Bool) (answer : List ℕ) (after : Holding) → AnswersMade h edit made no_memory answer after
    → AnswersMade h edit made false answer after ⊎ Says (refused (edit_name edit_faults.OutOfMemory)) h answer after
made_either h edit (Err fault) no_memory answer after p = inl p
made_either h edit (Ok new) true answer after p = inr p
made_either h edit (Ok new) false answer after p = inl p

pub short_text : (n len : ℕ) → len ≡ capped n → len ≤ MAX_SCRIPT → nat_lt MAX_SCRIPT n ≡ false
short_text n len e le = grind (arith, nat_tests)

-- the edit of the lines that were given
pub given_made : (h : Holding) (purpose : Purpose) (place : ℕ) (ls : List Line) (answer : List ℕ) (after : Holding) (edit : Edit) → nat_lt MAX_SCRIPT (length (text_of ls)) ≡ false → edit_of purpose place ls ≡ Ok edit
    → (no_memory : Bool) × AnswersEdit h edit no_memory answer after → (no_memory : Bool) × AnswersGiven h purpose place ls no_memory answer after
given_made h purpose place ls answer after edit short e (no_memory, p) =
    let said = Says (refused (edit_name edit_faults.OutOfMemory)) h answer after in
    let long = Says (refused (edit_name edit_faults.TooLong)) h answer after in
    elim (made_either h edit (edited h.script edit (outputs h.script)) no_memory answer after p) [
      | inl q ↦ (false, subst (λ (t : Bool). MatchBool t long (AnswersBlock h (edit_of purpose place ls) answer after)) (sym short) (subst (λ (m : Result Edit ScriptFault). AnswersBlock h m answer after) (sym e) q))
      | inr q ↦ (true, subst (λ (t : Bool). MatchBool t long said) (sym short) q)
    ]
