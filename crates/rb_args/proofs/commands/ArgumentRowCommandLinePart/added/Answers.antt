use Rattle.std.proofs.Common.{◌∙◌, ◌||◌, ap, ap₂}
use Rattle.std.proofs.lemmas.Result.{IfOk-weaker}
use Rattle.clap.specs.Words.{app_of, with_rule}
use Rattle.rb_args.proofs.commands.ArgumentRowCommandLinePart.added.Goals as goal

pub returns : goal.returns
returns c = λ local.
    record {
      app = IfOk-weaker c.arg.result _ _ (λ all adds. adds.shape c.argument.ensures.local ∙ ap (with_rule (app_of c.args.command)) c.argument.ensures.rule) c.arg.ensures;
      local = IfOk-weaker c.arg.result _ _ (λ all adds. adds.globals ∙ ap₂ ◌||◌ local c.argument.ensures.local) c.arg.ensures;
    }
