use Rattle.std.proofs.Common.{◌∙◌, ◌++◌, ap}
use Rattle.std.proofs.lemmas.Result.{on_ok_weaker}
use Rattle.rb_texts.proofs.TextLaws.{config_joined}
use Rattle.rb_texts.proofs.configs.add_config.Goals as goal

pub returns : goal.returns
returns c =
    on_ok_weaker c.add_bytes.result
    (λ e. config_joined c.args.line.now c.add_pieces.new.line c.add_part.new.line c.add_part-2.new.line c.add_part-3.new.line c.add_bytes.new.line c.args.config.now
    (rw c.as_slice.ensures.ids at c.in_ok-add_pieces.ensures) (rw c.as_slice-2.ensures.ids at c.in_ok-add_part.ensures)
    (rw c.as_slice-3.ensures.ids at c.in_ok-add_part-2.ensures) (rw c.as_slice-4.ensures.ids at c.in_ok-add_part-3.ensures)
    (e ∙ ap (λ l. c.add_part-3.new.line ++ l) c.shown_if.ensures)) c.add_bytes.ensures
