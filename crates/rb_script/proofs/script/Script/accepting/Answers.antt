use Rattle.std.proofs.Common.{◌≡◌, ℕ, not, length, refl, sym, ap, ◌∙◌}
use Rattle.rb_script.specs.declared.edit.Edit.TheVariants.{Accept}
use Rattle.rb_script.specs.Script.{text, with_outputs}
use Rattle.rb_script.specs.Reading.{capped}
use Rattle.rb_script.specs.Edits.{edited}
use Rattle.rb_script.proofs.EditedLaws.{refused, expectation_refused, allowed_is, Counts, too_long, fits_grown}
use Rattle.rb_script.proofs.script.Script.accepting.Goals as goal
use Rattle.rb_script.proofs.script.Script.accepting.Goals.{Else-not-are_expectations}

-- what was counted is the length of the text with these outputs
counts : (c : Else-not-are_expectations) (n : ℕ) → n ≡ capped (length (text (with_outputs c.args.self.now c.args.outputs.now))) → Counts (edited c.args.self.now Accept c.args.outputs.now) (with_outputs c.args.self.now c.args.outputs.now) n
counts c n is = record { is = allowed_is c.args.self.now Accept c.args.outputs.now refl (ap not (sym c.are_expectations.ensures ∙ c.if-not-are_expectations.false)) refl; counted = is }

pub returns-then-not-are_expectations : goal.returns-then-not-are_expectations
returns-then-not-are_expectations c = refused _ _ (expectation_refused c.args.self.now Accept c.args.outputs.now refl (ap not (sym c.are_expectations.ensures ∙ c.if-not-are_expectations.true)))

pub returns-then-text_len-gt-MAX_SCRIPT : goal.returns-then-text_len-gt-MAX_SCRIPT
returns-then-text_len-gt-MAX_SCRIPT c = too_long (counts (goal.at.returns-then-text_len-gt-MAX_SCRIPT c).Else-not-are_expectations _ c.text_len_with-text_len.ensures) c.if-text_len-gt-MAX_SCRIPT.true

pub returns : goal.returns
returns c = fits_grown c.with_outputs.result _ (counts (goal.at.returns c).Else-not-are_expectations _ c.text_len_with-text_len.ensures) c.if-text_len-gt-MAX_SCRIPT.false refl c.with_outputs.ensures.ok c.with_outputs.ensures.err
