use Rattle.std.specs.List.{flat_map}
use Rattle.std.proofs.lemmas.Result.{on_ok_weaker}
use Rattle.rb_check.specs.Commands.{piece_text}
use Rattle.rb_check.proofs.FormatLaws.{said_with}
use Rattle.rb_check.proofs.command.add_command.Goals as goal

pub returns : goal.returns
returns c =
    on_ok_weaker c.add_pieces-2.result
    (said_with c.args.text.now.items c.add_pieces.new.text.items c.add_pieces-2.new.text.items c.args.command.now c.args.path.now c.args.line c.args.title.now
    (flat_map piece_text c.args.message.now) c.in_ok-add_pieces.ensures)
    c.add_pieces-2.ensures
