use Rattle.std.proofs.Common.{[], List, ℕ, Some, refl, ap, sym}
use Rattle.std.specs.List.{flat_map}
use Rattle.rb_check.specs.ScriptTexts.{by_lines, by_none, matched_text, unasked}
use Rattle.rb_report.specs.declared.check.failure.Failure.TheVariants.{NotWritten}
use Rattle.rb_check.specs.Subjects.{plain_of}
use Rattle.rb_check.specs.Targets.{AreNamedLines, no_directive_failure}
use Rattle.rb_check.proofs.ShownLaws.{goes_nothing}
use Rattle.rb_check.proofs.TargetLaws.{not_found}
use Rattle.rb_check.proofs.picking.named_heads.Goals as goal

pub returns-then-not-asked-clause-named : goal.returns-then-not-asked-clause-named
returns-then-not-asked-clause-named g c = ([], unasked c.if-not-asked.true refl refl, goes_nothing _ _)

pub returns-in_default-clause-named : goal.returns-in_default-clause-named
returns-in_default-clause-named g c = ([], by_none c.if-not-asked.false (rw c.in_default.is at c.in_ok-lines.ensures) refl refl, goes_nothing _ _)

pub returns-in-Ok-clause-named : goal.returns-in-Ok-clause-named
returns-in-Ok-clause-named g c =
    let subject = c.args.subject.now in
    let picked = rw c.deref.ensures.value at c.in-Ok.ensures.picked in (
      flat_map (matched_text c.args.report.now.state.form (plain_of subject)) picked.places,
      by_lines c.in-Some.lines.items picked.places c.if-not-asked.false (rw c.in-Some.is at c.in_ok-lines.ensures) picked.named (ap (λ (heads : List ℕ). Some heads) picked.picked_are) refl,
      picked.out,
    )

pub returns-clause-failed : goal.returns-clause-failed
returns-clause-failed g c =
    let subject = c.args.subject.now in
    not_found (λ (lines : List ℕ). AreNamedLines (g.S.System.tells_one c.args.system.now) subject.path.now c.args.asked.now.targets.now (Some lines)) c.in-Some.lines.items subject.layout.now.heads.items NotWritten (no_directive_failure c.args.asked.now.accepts) c.in-Err.error
    (rw c.in-Some.is at c.in_ok-lines.ensures) (sym (ap no_directive_failure c.if-not-asked.false)) (rw c.deref.ensures.value at c.in-Err.ensures.failed)
