use Rattle.std.proofs.Common.{◌∙◌, ap}
use Rattle.rb_editor.specs.Layouts.{PlainRun}
use Rattle.rb_editor.proofs.FindingLaws.{of_run}
use Rattle.rb_editor.proofs.actions.findings.of_read.Goals as goal

pub returns : goal.returns
returns g c =
    of_run _ _ c.args.document.text.now _ c.session.result.now.script c.layout-layout.result.now c.as_slice-heads.result.now c.as_slice.result.now c.in_ok-list.list.items c.add_slips.new.list.items
    c.layout-layout.ensures (ap (λ (r : PlainRun). r.bytes) c.take_comparisons-comparisons.ensures ∙ c.in_ok-run.ensures.text) c.session.ensures c.as_slice-heads.ensures.value c.as_slice.ensures.value
    c.in_ok-list.ensures c.in_ok-add_slips.ensures
