use Rattle.std.proofs.Common.{◌≡◌, ◌∷◌, ◌++◌, [], true, subst, arith}
use Rattle.std.proofs.lemmas.Grind.{common_steps}
use Rattle.rb_files.specs.Finds.{IsKept}
use Rattle.rb_files.proofs.FindLaws.{one_more_kept}
use Rattle.rb_files.proofs.finding.Search.take.Goals as goal

pub returns-clause-found : goal.returns-clause-found
returns-clause-found c =
    let one : c.push.new.self.items ≡ c.args.self.now.found.scripts.items ++ c.args.path ∷ [] = grind (arith, common_steps) in
    let kept : c.is_kept.result ≡ true = grind arith in
    one_more_kept c.args.words.now c.args.self.now.found c.args.path c.push.new.self c.requires
    (subst (IsKept c.args.words.now) c.as_str.ensures.value (c.is_kept.ensures.0 kept)) one
