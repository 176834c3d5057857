use Rattle.std.proofs.Common.{◌++◌, ◌∙◌, ap}
use Rattle.std.proofs.lemmas.Result.{on_ok_weaker}
use Rattle.rb_texts.proofs.PieceLaws.{added_twice}
use Rattle.rb_texts.proofs.texts.add_log_entry.Goals as goal

pub returns : goal.returns
returns c =
    on_ok_weaker c.add_bytes.result
    (λ e. added_twice c.args.line.now c.add_entry.new.line c.add_bytes.new.line _ _ c.in_ok-add_entry.ensures (e ∙ ap (λ l. c.add_entry.new.line ++ l) c.shown_if.ensures))
    c.add_bytes.ensures
