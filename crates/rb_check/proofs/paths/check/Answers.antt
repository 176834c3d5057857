use Rattle.rb_check.proofs.paths.check.Goals as goal

pub returns-clause-counted : goal.returns-clause-counted
returns-clause-counted g c = record {
  end = c.report_on-check.result.report.state;
  counts = c.report_on-check.result.results.counts;
  text = c.report_on-check.ensures.0;
  report = c.report_on-check.ensures.1;
  own_are = λ memory. (c.report_on-check.ensures.2.out memory).own;
  is = c.status.ensures.counts;
}
