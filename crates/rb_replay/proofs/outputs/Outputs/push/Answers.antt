use Rattle.std.proofs.Common.{◌∷◌, [], ◌++◌, ◌∙◌, List, ap}
use Rattle.rb_script.specs.Lines.{Line}
use Rattle.rb_script.proofs.SharedLaws.{pushed}
use Rattle.rb_replay.proofs.outputs.Outputs.push.Goals as goal

pub returns : goal.returns
returns c =
    pushed c.self.inside.shared.items c.push.new.self.items c.in_ok-new.field-0 c.args.output c.in_ok-push.ensures.items c.in_ok-new.ensures.ok
    ∙ ap (λ (os : List (List Line)). os ++ c.args.output ∷ []) c.self.view_is
