use Rattle.std.proofs.Common.{sym, ◌∙◌}
use Rattle.std.proofs.lemmas.Result.{on_ok_weaker}
use Rattle.rb_texts.specs.Items.{plain_item}
use Rattle.rb_texts.proofs.TextLaws.{line_joined}
use Rattle.rb_texts.proofs.texts.put.Goals as goal

pub returns : goal.returns
returns c =
    on_ok_weaker c.push_written.result
    (line_joined c.args.lines.now c.push_written.new.self c.args.level (plain_item c.args.item.now) (sym c.is_shown.ensures ∙ c.if-not-is_shown.false))
    c.push_written.ensures
