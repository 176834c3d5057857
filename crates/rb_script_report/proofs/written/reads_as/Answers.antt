use Rattle.std.proofs.Common.{◌≡◌, ◌∙◌, ap, sym, subst}
use Rattle.std.proofs.lemmas.Slice.Eq.{bytes_eq-Decides}
use Rattle.rb_script.specs.Script.{PlainScript, text}
use Rattle.rb_script.specs.Reads.{Reads}
use Rattle.rb_script.proofs.ScriptLaws.{reads_once}
use Rattle.rb_script.proofs.ValidLaws.{read_valid}
use Rattle.rb_script_report.proofs.AcceptLaws.{text_once}
use Rattle.rb_script_report.proofs.written.reads_as.Goals as goal

pub returns-in_ok-text-in-Ok : goal.returns-in_ok-text-in-Ok
returns-in_ok-text-in-Ok c = λ s valid is.
    let script : PlainScript = c.in-Ok.script in
    let found : Reads c.args.bytes.now script = c.in-Ok.ensures.found in
    let written : c.as_slice.result.now ≡ text script = c.as_slice.ensures.value ∙ c.in_ok-text-in-Ok.ensures in
    let decides = bytes_eq-Decides c.as_slice.result.now c.args.wanted.now in (
      λ yes.
          let one : text script ≡ text s = sym written ∙ decides.0 (sym c.is_same_text.ensures ∙ yes) ∙ is in
          subst (λ (x : PlainScript). Reads c.args.bytes.now x) (text_once script s (read_valid c.args.bytes.now script found) valid one) found,
      λ reads. c.is_same_text.ensures ∙ decides.1 (written ∙ ap text (reads_once c.args.bytes.now script s found reads) ∙ sym is),
    )
