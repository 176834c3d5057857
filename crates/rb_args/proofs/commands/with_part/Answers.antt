use Rattle.std.proofs.Common.{Ok, subst}
use Rattle.clap.specs.Words.{App}
use Rattle.rb_args.specs.CommandLine.{IsMade}
use Rattle.rb_args.proofs.commands.with_part.Goals as goal

pub returns : goal.returns
returns g c = λ app made.
    let whole : IsMade (Ok c.in_ok-command.command) app = subst (λ m. IsMade m app) c.in_ok-command.was made in
    subst (λ (a : App). IsMade c.added.result (g.P.CommandLinePart.added a c.args.part)) whole.app (c.added.ensures whole.local)
