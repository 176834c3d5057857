use Rattle.std.proofs.Common.{◌≡◌, ◌+◌, ◌≤◌, ℕ, List, length, arith, ap, ◌∙◌}
use Rattle.std.specs.Prelude.{map, Result, IsErrAnd, IfErr}
use Rattle.std.proofs.lemmas.Result.{err_from_is_err_and}
use Rattle.rb_script.specs.Script.{PlainScript}
use Rattle.rb_script.specs.Reads.{Reads}
use Rattle.rb_script.proofs.ScriptLaws.{reads_once}
use Rattle.rb_replay.specs.declared.fault.StartFault.{StartFault}
use Rattle.rb_replay.specs.declared.fault.StartFault.TheVariants.{OutOfMemory}
use Rattle.rb_replay.specs.Start.{RisesFor}
use Rattle.rb_replay.proofs.RunLaws.{length-outputs}
use Rattle.rb_replay.proofs.DifferingLaws.{differing-all}
use Rattle.rb_replay.proofs.FreshLaws.{fresh-whole}
use Rattle.rb_replay.proofs.session.Session.begin.Goals as goal

-- want of memory once the script is read
short : {T : Type 0} (bytes : List ℕ) (script : PlainScript) (r : Result T StartFault) (before count : ℕ) → Reads bytes script → IsErrAnd r (λ e. e ≡ OutOfMemory) → count ≤ before + length script.blocks
    → IfErr r (λ fault. RisesFor fault bytes before count)
short bytes script r before count found failed few =
    let p = err_from_is_err_and r failed in
    rw (p.1, p.2) (
      λ s reads. let same : s ≡ script = reads_once bytes s script reads found in rw same few,
      λ none. absurd (none script found),
    )

pub returns-in_err-running-clause-risen : goal.returns-in_err-running-clause-risen
returns-in_err-running-clause-risen g c =
    short c.args.bytes.now c.in_ok-script.script c.from_residual-in_err-running.result _ _ c.in_ok-script.ensures.found c.from_residual-in_err-running.ensures.1 c.in_err-running.ensures.refused

pub returns-in_err-outputs-clause-risen : goal.returns-in_err-outputs-clause-risen
returns-in_err-outputs-clause-risen g c =
    short c.args.bytes.now c.in_ok-script.script c.from_residual-in_err-outputs.result _ _ c.in_ok-script.ensures.found c.from_residual-in_err-outputs.ensures.1 (omega (arith, c.in_ok-running.ensures.counted))

pub returns-in_err-mismatches-clause-risen : goal.returns-in_err-mismatches-clause-risen
returns-in_err-mismatches-clause-risen g c =
    short c.args.bytes.now c.in_ok-script.script c.from_residual-in_err-mismatches.result _ _ c.in_ok-script.ensures.found c.from_residual-in_err-mismatches.ensures.1 (omega (arith, c.in_ok-running.ensures.counted))

pub list_differing-requires-clause-there : goal.list_differing-requires-clause-there
list_differing-requires-clause-there g c =
    omega (arith, c.len.ensures, ap length (c.in_ok-outputs.ensures ∙ c.in_ok-running.ensures.outputs), length-outputs c.in_ok-script.script)

pub invariant_of-result : goal.invariant_of-result
invariant_of-result g c =
    let found : Reads c.args.bytes.now c.in_ok-script.script = c.in_ok-script.ensures.found in
    let answered = c.in_ok-outputs.ensures ∙ c.in_ok-running.ensures.outputs in
    fresh-whole c.in_ok-script.script c.args.checkpoint_interval c.in_ok-outputs.outputs c.in_ok-mismatches.mismatches.items c.in_ok-running.running.points.items (map g.M.Machine.meaning c.in_ok-running.running.kept.items)
    c.requires.checkpoint_interval found.few answered (c.in_ok-mismatches.ensures ∙ differing-all c.in_ok-script.script c.in_ok-outputs.outputs c.len.result answered c.len.ensures) c.in_ok-running.ensures.points c.in_ok-running.ensures.states

pub returns-clause-run : goal.returns-clause-run
returns-clause-run g c =
    let found : Reads c.args.bytes.now c.in_ok-script.script = c.in_ok-script.ensures.found in
    let answered = c.in_ok-outputs.ensures ∙ c.in_ok-running.ensures.outputs in
    fresh-whole c.in_ok-script.script c.args.checkpoint_interval c.in_ok-outputs.outputs c.in_ok-mismatches.mismatches.items c.in_ok-running.running.points.items (map g.M.Machine.meaning c.in_ok-running.running.kept.items)
    c.requires.checkpoint_interval found.few answered (c.in_ok-mismatches.ensures ∙ differing-all c.in_ok-script.script c.in_ok-outputs.outputs c.len.result answered c.len.ensures) c.in_ok-running.ensures.points c.in_ok-running.ensures.states
