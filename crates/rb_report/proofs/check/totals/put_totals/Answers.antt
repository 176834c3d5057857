use Rattle.rb_report.proofs.check.totals.put_totals.Goals as goal

pub returns-clause-wrote : goal.returns-clause-wrote
returns-clause-wrote g c = rw (c.noun.ensures, c.noun-2.ensures, c.noun-3.ensures, c.noun-4.ensures, c.noun-5.ensures) at c.put_pieces.ensures.wrote
