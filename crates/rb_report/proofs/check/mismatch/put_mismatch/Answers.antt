use Rattle.rb_text.proofs.SentLaws.{and_then, no_more}
use Rattle.rb_report.proofs.check.mismatch.put_mismatch.Goals as goal

pub returns-in_err-put_heading-clause-wrote : goal.returns-in_err-put_heading-clause-wrote
returns-in_err-put_heading-clause-wrote g c = no_more _ _ _ _ _ c.from_residual.ensures.0 c.in_err-put_heading.ensures.wrote

pub returns-in_err-put-clause-wrote : goal.returns-in_err-put-clause-wrote
returns-in_err-put-clause-wrote g c = and_then _ _ _ _ _ _ c.in_ok-put_heading.ensures.wrote (no_more _ _ _ _ _ c.from_residual-in_err-put.ensures.0 c.in_err-put.ensures.wrote)

pub returns-in_err-put_laid_out_diff-clause-wrote : goal.returns-in_err-put_laid_out_diff-clause-wrote
returns-in_err-put_laid_out_diff-clause-wrote g c =
    and_then _ _ _ _ _ _ c.in_ok-put_heading.ensures.wrote (and_then _ _ _ _ _ _ c.in_ok-put.ensures.wrote (no_more _ _ _ _ _ c.from_residual-in_err-put_laid_out_diff.ensures.0 c.in_err-put_laid_out_diff.ensures.wrote))

pub returns-in_err-put_hint-clause-wrote : goal.returns-in_err-put_hint-clause-wrote
returns-in_err-put_hint-clause-wrote g c =
    and_then _ _ _ _ _ _ c.in_ok-put_heading.ensures.wrote
    (and_then _ _ _ _ _ _ c.in_ok-put.ensures.wrote (and_then _ _ _ _ _ _ c.in_ok-put_laid_out_diff.ensures.wrote (no_more _ _ _ _ _ c.from_residual-in_err-put_hint.ensures.0 c.in_err-put_hint.ensures.wrote)))

pub returns-clause-wrote : goal.returns-clause-wrote
returns-clause-wrote g c =
    and_then _ _ _ _ _ _ c.in_ok-put_heading.ensures.wrote (and_then _ _ _ _ _ _ c.in_ok-put.ensures.wrote (and_then _ _ _ _ _ _ c.in_ok-put_laid_out_diff.ensures.wrote (and_then _ _ _ _ _ _ c.in_ok-put_hint.ensures.wrote c.put-2.ensures.wrote)))
