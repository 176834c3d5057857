use Rattle.rb_args.proofs.commands.LineCommandLinePart.added.Goals as goal

pub returns : goal.returns
returns c = λ local. c.with_made.ensures _ local c.line_command.ensures
