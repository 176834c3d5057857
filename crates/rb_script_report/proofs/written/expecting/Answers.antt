use Rattle.std.proofs.Common.{◌≡◌, IfOk, IfErr, subst}
use Rattle.rb_script.specs.Script.{PlainScript, with_outputs}
use Rattle.rb_script.proofs.ScriptLaws.{reads_once}
use Rattle.rb_script.specs.declared.edit.Edit.TheVariants.{Accept}
use Rattle.rb_script.specs.Edits.{edited, EditFails}
use Rattle.rb_script_report.proofs.AcceptLaws.{made_of, fails_of}
use Rattle.rb_script_report.proofs.written.expecting.Goals as goal

pub returns-in-Ok-clause-made : goal.returns-in-Ok-clause-made
returns-in-Ok-clause-made c = λ s reads.
    let script : PlainScript = c.in-Ok.script in
    let same : script ≡ s = reads_once c.args.bytes.now script s c.in-Ok.ensures.found reads in
    subst (λ (x : PlainScript). IfOk c.edited.result (λ new. new ≡ with_outputs x c.args.expected.now)) same (made_of c.edited.result script c.args.expected.now c.edited.ensures.exact)

pub returns-in-Ok-clause-refused : goal.returns-in-Ok-clause-refused
returns-in-Ok-clause-refused c = λ s reads.
    let script : PlainScript = c.in-Ok.script in
    let same : script ≡ s = reads_once c.args.bytes.now script s c.in-Ok.ensures.found reads in
    subst (λ (x : PlainScript). IfErr c.edited.result (λ fault. EditFails fault (edited x Accept c.args.expected.now))) same (fails_of c.edited.result script c.args.expected.now c.edited.ensures.exact)
