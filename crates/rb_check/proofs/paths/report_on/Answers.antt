use Rattle.std.proofs.Common.{◌∙◌, ap}
use Rattle.rb_report.specs.declared.check.totals.Totals.{Totals}
use Rattle.rb_check.specs.Lost.{lost_results}
use Rattle.rb_check.specs.Results.{counts_of}
use Rattle.rb_check.proofs.ReportLaws.{whole_report}
use Rattle.rb_check.proofs.paths.report_on.Goals as goal

pub returns : goal.returns
returns g c =
    let found = c.find-found.result in
    let begun = rw (c.new-check.ensures.state, c.new-check.ensures.output) at c.begin.ensures in
    let counts = c.tell_lost.ensures.counts ∙ ap (λ (t : Totals). counts_of t (lost_results found)) c.new-check.ensures.counts in
    let checked = rw c.as_slice-scripts.ensures.value at c.check_each.ensures in
    let ended = rw c.as_slice-scripts.ensures.value at c.end.ensures.shown in
    whole_report g.W.Sink.held c.args.asked.now found c.milliseconds-milliseconds.result c.tell_lost.new.check c.check_each.new.check c.end.new.check (record { file_cmp = _; folder_cmp = _; kept = c.find-found.ensures.kept; walked = c.find-found.ensures.walked }) begun counts (c.tell_lost.ensures.listed ∙ c.new-check.ensures.listed)
    c.tell_lost.ensures.shown checked c.end.ensures.results ended
