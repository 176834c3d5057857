use Rattle.std.proofs.Common.{◌∙◌, ◌||◌, Ok, ap, ap₂, subst}
use Rattle.std.proofs.lemmas.Result.{IfOk-weaker}
use Rattle.clap.specs.Words.{App, app_of, with_subcommand}
use Rattle.rb_args.specs.CommandLine.{IsMade}
use Rattle.rb_args.proofs.commands.with_made.Goals as goal

pub returns : goal.returns
returns c = λ sub local added.
    let one : IsMade (Ok c.in_ok-one.one) sub = subst (λ m. IsMade m sub) c.in_ok-one.was added in
    record {
      app = IfOk-weaker c.subcommand.result _ _ (λ all adds. adds.shape one.local ∙ ap (λ (a : App). with_subcommand (app_of c.args.command) a.top) one.app) c.subcommand.ensures;
      local = IfOk-weaker c.subcommand.result _ _ (λ all adds. adds.globals ∙ ap₂ ◌||◌ local one.local) c.subcommand.ensures;
    }
