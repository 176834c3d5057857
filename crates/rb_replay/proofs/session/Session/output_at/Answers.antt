use Rattle.std.proofs.Common.{◌≡◌, List, Some, ap, sym, ◌∙◌, length, arith}
use Rattle.std.specs.Prelude.{slice_get}
use Rattle.rb_script.specs.Lines.{Line}
use Rattle.rb_replay.specs.Run.{outputs}
use Rattle.rb_replay.proofs.RunLaws.{length-outputs}
use Rattle.rb_replay.proofs.FreshLaws.{held-outputs}
use Rattle.rb_replay.proofs.session.Session.output_at.Goals as goal

pub at-requires : goal.at-requires
at-requires g c =
    let held : c.self.inside.outputs ≡ outputs c.args.self.now.script = held-outputs c.self.view_is c.self.invariant in
    omega (arith, ap length held, length-outputs c.args.self.now.script, c.requires)

pub returns : goal.returns
returns g c =
    let held : c.self.inside.outputs ≡ outputs c.args.self.now.script = held-outputs c.self.view_is c.self.invariant in
    ap (λ (os : List (List Line)). slice_get os c.args.index) (sym held) ∙ c.at.ensures ∙ ap Some (sym c.deref.ensures)
