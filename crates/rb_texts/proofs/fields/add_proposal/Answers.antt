use Rattle.std.proofs.lemmas.Result.{on_ok_weaker}
use Rattle.rb_texts.proofs.PieceLaws.{added_twice}
use Rattle.rb_texts.proofs.fields.add_proposal.Goals as goal

pub returns : goal.returns
returns c = on_ok_weaker c.add_body.result (λ e. added_twice c.args.line.now c.add_bytes.new.line c.add_body.new.line _ _ c.in_ok-add_bytes.ensures e) c.add_body.ensures
