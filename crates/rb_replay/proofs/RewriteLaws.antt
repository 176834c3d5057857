-- What a rewritten script reads as.
use Rattle.std.proofs.Common.{◌≡◌, ◌∙◌, ℕ, List, [], Ok, ap, subst}
use Rattle.rb_script.specs.Script.{PlainScript, text}
use Rattle.rb_script.specs.Reads.{Reads}
use Rattle.rb_script.specs.Valid.{IsScript}
use Rattle.rb_script.specs.Edits.{edited}
use Rattle.rb_script.specs.declared.edit.Edit.TheVariants.{Accept}
use Rattle.rb_script.proofs.ScriptLaws.{reads_once}
use Rattle.rb_script.proofs.TextLaws.{text_reads}
use Rattle.rb_replay.specs.Run.{outputs}
use Rattle.rb_replay.specs.Report.{mismatches, rewritten}
use Rattle.rb_replay.proofs.ChangeLaws.{accepted, accept-none}

rewritten-text : (s new : PlainScript) → edited s Accept (outputs s) ≡ Ok new → rewritten s ≡ text new
unfolding rewritten
rewritten-text s new e = ap text (accepted s new (outputs s) e)

pub rewritten-reads : (s new t : PlainScript) → edited s Accept (outputs s) ≡ Ok new → IsScript new → Reads (rewritten s) t → (t ≡ new) × (mismatches t ≡ [])
rewritten-reads s new t e held r =
    let same = rewritten-text s new e in
    let is : t ≡ new = reads_once (text new) t new (subst (λ (b : List ℕ). Reads b t) same r) (text_reads new held) in
    (is, ap mismatches is ∙ accept-none s new e)

pub rewritten-read : (s new : PlainScript) → edited s Accept (outputs s) ≡ Ok new → IsScript new → Reads (rewritten s) new
rewritten-read s new e held = let same = rewritten-text s new e in rw same (text_reads new held)
