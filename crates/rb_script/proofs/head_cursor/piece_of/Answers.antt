use Rattle.rb_script.proofs.TokenLaws.{joined_more, joined_last, body_of_line, whole_line, part_fits}
use Rattle.rb_script.proofs.head_cursor.piece_of.Goals as goal

pub returns-in-Some-clause-joined : goal.returns-in-Some-clause-joined
returns-in-Some-clause-joined c = joined_more c.args.head.now c.args.line c.line-text.result.now c.line-text.ensures c.in-Some.ensures.0 c.in-Some.body.now c.in-Some.ensures.1

pub returns-in-Some-clause-part : goal.returns-in-Some-clause-part
returns-in-Some-clause-part c = body_of_line c.args.head.now c.args.line c.line-text.result.now c.line-text.ensures c.in-Some.ensures.0 c.in-Some.body.now c.in-Some.ensures.1

pub returns-in-Some-clause-fits : goal.returns-in-Some-clause-fits
returns-in-Some-clause-fits c =
    part_fits c.in-Some.body.now _ (body_of_line c.args.head.now c.args.line c.line-text.result.now c.line-text.ensures c.in-Some.ensures.0 c.in-Some.body.now c.in-Some.ensures.1)

pub returns-in-None-clause-joined : goal.returns-in-None-clause-joined
returns-in-None-clause-joined c = joined_last c.args.head.now c.args.line c.line-text.result.now c.line-text.ensures c.in-None.ensures

pub returns-in-None-clause-part : goal.returns-in-None-clause-part
returns-in-None-clause-part c = whole_line c.args.head.now c.args.line c.line-text.result.now c.line-text.ensures

pub returns-in-None-clause-fits : goal.returns-in-None-clause-fits
returns-in-None-clause-fits c = part_fits c.line-text.result.now _ (whole_line c.args.head.now c.args.line c.line-text.result.now c.line-text.ensures)
