use Rattle.std.proofs.Common.{ℕ, List, [], ◌∷◌, ◌++◌, subst, sym}
use Rattle.std.specs.Prelude.{codes}
use Rattle.rb_script.specs.Writes.{Writes}
use Rattle.rb_vocab.specs.declared.directive_error.DirectiveError.{DirectiveError}
use Rattle.rb_texts.specs.Errors.{error_text, word_text}
use Rattle.rb_view.specs.ItemRows.{error_row}
use Rattle.rb_view.specs.Rows.{next_text, row, text}
use Rattle.rb_view.proofs.rows.item.put_error.Goals as goal

pub returns-in-UnsupportedOption-clause-wrote : goal.returns-in-UnsupportedOption-clause-wrote
unfolding error_text
returns-in-UnsupportedOption-clause-wrote g c = subst (λ (e : DirectiveError). Writes c.put_quoting-in-UnsupportedOption.result (g.S.Sink.held c.args.sink.now) (g.S.Sink.held c.put_quoting-in-UnsupportedOption.new.sink) (next_text (error_row e))) (sym c.in-UnsupportedOption.is) (subst (λ (t : List ℕ). Writes c.put_quoting-in-UnsupportedOption.result (g.S.Sink.held c.args.sink.now) (g.S.Sink.held c.put_quoting-in-UnsupportedOption.new.sink) (next_text (row (codes "error") (text (codes "unsupported option " ++ word_text t) ∷ [])))) c.bytes-in-UnsupportedOption.ensures c.put_quoting-in-UnsupportedOption.ensures.wrote)

pub returns-in-NoSuchNode-clause-wrote : goal.returns-in-NoSuchNode-clause-wrote
unfolding error_text
returns-in-NoSuchNode-clause-wrote g c = subst (λ (e : DirectiveError). Writes c.put_next.result (g.S.Sink.held c.args.sink.now) (g.S.Sink.held c.put_next.new.sink) (next_text (error_row e))) (sym c.in-NoSuchNode.is) c.put_next.ensures.wrote

pub returns-in-IndexTooLow-clause-wrote : goal.returns-in-IndexTooLow-clause-wrote
unfolding error_text
returns-in-IndexTooLow-clause-wrote g c = subst (λ (e : DirectiveError). Writes c.put_sentence-in-IndexTooLow.result (g.S.Sink.held c.args.sink.now) (g.S.Sink.held c.put_sentence-in-IndexTooLow.new.sink) (next_text (error_row e))) (sym c.in-IndexTooLow.is) c.put_sentence-in-IndexTooLow.ensures.wrote

pub returns-in-AlreadyCompacted-clause-wrote : goal.returns-in-AlreadyCompacted-clause-wrote
unfolding error_text
returns-in-AlreadyCompacted-clause-wrote g c = subst (λ (e : DirectiveError). Writes c.put_sentence-in-AlreadyCompacted.result (g.S.Sink.held c.args.sink.now) (g.S.Sink.held c.put_sentence-in-AlreadyCompacted.new.sink) (next_text (error_row e))) (sym c.in-AlreadyCompacted.is) c.put_sentence-in-AlreadyCompacted.ensures.wrote

pub returns-in-IndexPastApplied-clause-wrote : goal.returns-in-IndexPastApplied-clause-wrote
unfolding error_text
returns-in-IndexPastApplied-clause-wrote g c = subst (λ (e : DirectiveError). Writes c.put_sentence-in-IndexPastApplied.result (g.S.Sink.held c.args.sink.now) (g.S.Sink.held c.put_sentence-in-IndexPastApplied.new.sink) (next_text (error_row e))) (sym c.in-IndexPastApplied.is) c.put_sentence-in-IndexPastApplied.ensures.wrote

pub returns-in-FirstVersionTakesOne-clause-wrote : goal.returns-in-FirstVersionTakesOne-clause-wrote
unfolding error_text
returns-in-FirstVersionTakesOne-clause-wrote g c = subst (λ (e : DirectiveError). Writes c.put_sentence-in-FirstVersionTakesOne.result (g.S.Sink.held c.args.sink.now) (g.S.Sink.held c.put_sentence-in-FirstVersionTakesOne.new.sink) (next_text (error_row e))) (sym c.in-FirstVersionTakesOne.is) c.put_sentence-in-FirstVersionTakesOne.ensures.wrote
