use Rattle.std.proofs.Common.{◌≡◌, arith, ◌++◌, ◌∷◌, []}
use Rattle.std.proofs.lemmas.Grind.{common_steps}
use Rattle.rb_replay.proofs.PaceLaws.{paced_push}
use Rattle.rb_replay.proofs.run.Run.retain_checkpoint.Goals as goal

pub returns-clause-paced : goal.returns-clause-paced
returns-clause-paced g c =
    let grown : c.push-2.new.self.items ≡ c.args.self.now.points.items ++ c.args.self.now.at ∷ [] = grind (arith, common_steps) in
    rw grown (paced_push c.args.self.now.checkpoint_interval c.args.self.now.from c.args.self.now.at c.args.self.now.until_checkpoint c.args.self.now.points.items c.requires.spaced (omega arith) c.requires.paced)
