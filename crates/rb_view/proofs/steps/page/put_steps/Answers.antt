use Rattle.rb_text.proofs.SentLaws.{and_then, no_more}
use Rattle.rb_view.proofs.steps.page.put_steps.Goals as goal

pub returns-in_err-put_row-clause-wrote : goal.returns-in_err-put_row-clause-wrote
returns-in_err-put_row-clause-wrote g c = no_more _ _ _ _ _ c.from_residual.ensures.0 c.in_err-put_row.ensures.wrote

pub returns-in_err-put_texts-clause-wrote : goal.returns-in_err-put_texts-clause-wrote
returns-in_err-put_texts-clause-wrote g c =
    and_then _ _ _ _ _ _ c.in_ok-put_row.ensures.wrote (no_more _ _ _ _ _ c.from_residual-in_err-put_texts.ensures.0 c.in_err-put_texts.ensures.wrote)

pub returns-clause-wrote : goal.returns-clause-wrote
returns-clause-wrote g c = and_then _ _ _ _ _ _ c.in_ok-put_row.ensures.wrote (and_then _ _ _ _ _ _ c.in_ok-put_texts.ensures.wrote c.put_end.ensures.wrote)
