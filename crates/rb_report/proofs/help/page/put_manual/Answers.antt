use Rattle.rb_text.proofs.SentLaws.{and_then, no_more}
use Rattle.rb_report.specs.Manual.{pages, manual_text}
use Rattle.rb_report.proofs.help.page.put_manual.Goals as goal

pub returns-in_err-put_lines-clause-wrote : goal.returns-in_err-put_lines-clause-wrote
unfolding manual_text pages
returns-in_err-put_lines-clause-wrote g c = no_more _ _ _ _ _ c.from_residual.ensures.0 c.in_err-put_lines.ensures.wrote

pub returns-clause-wrote : goal.returns-clause-wrote
unfolding manual_text pages
returns-clause-wrote g c = and_then _ _ _ _ _ _ c.in_ok-put_lines.ensures.wrote c.put.ensures.wrote
