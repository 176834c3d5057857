use Rattle.std.proofs.Common.{sym}
use Rattle.rb_lsp.proofs.PlainLaws.{from_last, from_none}
use Rattle.rb_lsp.proofs.document.line_table.last_start.Goals as goal

pub returns-in-Some-clause-value : goal.returns-in-Some-clause-value
returns-in-Some-clause-value c = sym (from_last c.args.text.now c.in-Some.end c.in-Some.ensures.0 c.in-Some.ensures.1).start

pub returns-in-Some-clause-few : goal.returns-in-Some-clause-few
returns-in-Some-clause-few c = (from_last c.args.text.now c.in-Some.end c.in-Some.ensures.0 c.in-Some.ensures.1).few

pub returns-in-None-clause-value : goal.returns-in-None-clause-value
returns-in-None-clause-value c = sym (from_none c.args.text.now c.in-None.ensures).start

pub returns-in-None-clause-few : goal.returns-in-None-clause-few
returns-in-None-clause-few c = (from_none c.args.text.now c.in-None.ensures).few
