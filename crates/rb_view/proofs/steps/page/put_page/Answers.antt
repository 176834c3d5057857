use Rattle.rb_text.proofs.SentLaws.{and_then, no_more}
use Rattle.rb_view.proofs.steps.page.put_page.Goals as goal

pub returns-in_err-put_pieces-clause-wrote : goal.returns-in_err-put_pieces-clause-wrote
returns-in_err-put_pieces-clause-wrote g c = no_more _ _ _ _ _ c.from_residual.ensures.0 c.in_err-put_pieces.ensures.wrote

pub returns-in_err-put_steps-clause-wrote : goal.returns-in_err-put_steps-clause-wrote
returns-in_err-put_steps-clause-wrote g c =
    and_then _ _ _ _ _ _ c.in_ok-put_pieces.ensures.wrote (no_more _ _ _ _ _ c.from_residual-in_err-put_steps.ensures.0 c.in_err-put_steps.ensures.wrote)

pub returns-clause-wrote : goal.returns-clause-wrote
returns-clause-wrote g c = and_then _ _ _ _ _ _ c.in_ok-put_pieces.ensures.wrote (and_then _ _ _ _ _ _ c.in_ok-put_steps.ensures.wrote c.put_pieces-2.ensures.wrote)
