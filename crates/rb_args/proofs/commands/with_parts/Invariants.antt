-- The parts so far are made.
use Rattle.std.proofs.Common.{fold, take}
use Rattle.clap.specs.Words.{App}
use Rattle.rb_args.specs.CommandLine.{IsMade}
use Rattle.rb_args.proofs.commands.with_parts.Given as goal

abbrev pub invariant-loop-part : goal.invariant-loop-part
invariant-loop-part g l = (app : App) → IsMade l.initial.made app → IsMade l.made (fold g.P.CommandLinePart.added app (take l.part-index l.parts))
