use Rattle.std.proofs.Common.{◌∙◌, ℕ, List, Some, ap, sym, zero-add}
use Rattle.std.specs.Prelude.{slice_get}
use Rattle.rb_script.specs.Lines.{Line}
use Rattle.rb_replay.specs.Run.{outputs}
use Rattle.rb_check.specs.Subjects.{ran_at}
use Rattle.rb_check.proofs.RunLaws.{run_at}
use Rattle.rb_check.proofs.ran_directive.directive_at.Goals as goal

pub returns-clause-run : goal.returns-clause-run
returns-clause-run g c =
    let subject = c.args.subject.now in
    let s = subject.session.now.script in
    let i = c.args.index in
    let line = sym (ap (λ (hs : List ℕ). slice_get hs i) c.as_slice.ensures.value) ∙ c.number_at.ensures in
    run_at subject.whys.now 0 i subject.layout.now.heads.items s.blocks (outputs s) c.number_at.result c.block_at.result.now c.output_at.result.now line c.block_at.ensures c.output_at.ensures
    ∙ ap (λ (k : ℕ). Some (ran_at subject.whys.now k c.number_at.result c.block_at.result.now c.output_at.result.now)) (zero-add i)
    ∙ ap (λ (why : List Line). Some (record { index = i; line = c.number_at.result; block = c.block_at.result.now; output = c.output_at.result.now; why = why })) (sym c.why_at.ensures)
