use Rattle.rb_args.proofs.commands.raftbench_command.Goals as goal

-- the lines of the table are those of the command line
pub returns : goal.returns
returns c = (c.with_parts.ensures _ (record { app = c.bare_command.ensures.app; local = c.bare_command.ensures.local })).app
