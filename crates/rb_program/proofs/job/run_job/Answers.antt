use Rattle.rb_program.proofs.job.run_job.Goals as goal

pub returns-then-eq-clause-answered : goal.returns-then-eq-clause-answered
returns-then-eq-clause-answered g c = λ right. record {
  of_input = λ e. (c.reader.result, c.run_from.new.source.0, c.run_from.ensures.answered right);
  of_file = λ e. absurd cc;
}
