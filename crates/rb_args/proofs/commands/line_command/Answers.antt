use Rattle.rb_args.proofs.commands.line_command.Goals as goal

pub returns : goal.returns
returns c = c.with_parts.ensures _ (record { app = c.helped_command.ensures.app; local = c.helped_command.ensures.local })
