use Rattle.std.proofs.Common.{◌∙◌, ◌++◌, ℕ, List, ap, sym, arith}
use Rattle.rb_report.proofs.CellLaws.{then_is}
use Rattle.rb_editor.proofs.SomeRowLaws.{added, of_full, of_rows}
use Rattle.rb_editor.proofs.actions.some_rows.add_rows_in.Goals as goal

pub machine_in_session-requires-clause-few : goal.machine_in_session-requires-clause-few
machine_in_session-requires-clause-few c = omega (arith, c.first_of-from.ensures.within, c.len-count.ensures.len, c.len-count.ensures.fresh.few)

pub returns-in-Some : goal.returns-in-Some
returns-in-Some c =
    let run = c.args.run.now in
    then_is c.add_steps.result c.add_steps.new.out.items _ _ c.add_steps.ensures
    (ap (λ (l : List ℕ). c.args.out.now.items ++ l)
    (of_rows run.encoding c.args.span c.args.uri.now run.bytes run.script c.session-session.result.now.script c.layout-layout.result.now c.as_slice-heads.result.now c.as_slice-warnings.result.now
    c.len-count.result c.first_of-from.result c.end_of-to.result c.in-Some.rows c.layout-layout.ensures c.session-session.ensures c.as_slice-heads.ensures.value c.as_slice-warnings.ensures.value
    c.len-count.ensures.len c.first_of-from.ensures.value c.end_of-to.ensures.value (sym c.in-Some.is ∙ c.in_ok-rows.ensures.rows)))

pub returns-in-None : goal.returns-in-None
returns-in-None c =
    let run = c.args.run.now in
    added c.extend_from_slice.result c.extend_from_slice.new.self.items _ _ _ c.extend_from_slice.ensures.items
    (ap (λ (l : List ℕ). c.args.out.now.items ++ l)
    (of_full run.encoding c.args.span c.args.uri.now run.bytes run.script c.session-session.result.now.script c.layout-layout.result.now c.as_slice-heads.result.now c.as_slice-warnings.result.now
    c.len-count.result c.first_of-from.result c.end_of-to.result c.layout-layout.ensures c.session-session.ensures c.as_slice-heads.ensures.value c.as_slice-warnings.ensures.value
    c.len-count.ensures.len c.first_of-from.ensures.value c.end_of-to.ensures.value (sym c.in-None.is ∙ c.in_ok-rows.ensures.rows)))
