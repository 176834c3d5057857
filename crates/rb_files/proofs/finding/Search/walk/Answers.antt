use Rattle.std.proofs.Common.{◌≡◌, ◌++◌, ◌∷◌, [], zero, refl, arith}
use Rattle.std.proofs.lemmas.Grind.{common_steps}
use Rattle.rb_files.specs.declared.finding.Search.{Search}
use Rattle.rb_files.specs.contracts.entry.FileIdOrd.TheImpl as files
use Rattle.rb_files.specs.contracts.entry.FolderIdOrd.TheImpl as folders
use Rattle.rb_files.proofs.WalkLaws.{walks_on}
use Rattle.rb_files.proofs.finding.Search.walk.Goals as goal

pub loop-init : goal.loop-init
loop-init g c = record { found = c.requires; walked = (zero, refl) }

pub loop-preserved : goal.loop-preserved
loop-preserved g c =
    let mid : Search = c.loop.self in
    let rest : Search = record c.loop.self { waiting = c.pop.new.self } in
    let popped : mid.waiting.items ≡ rest.waiting.items ++ c.in-Some.next ∷ [] = grind (arith, common_steps) in
    record {
      found = c.look_at.ensures.found;
      walked = walks_on (g.T.Tree.entries c.args.tree.now) (g.T.Tree.ignores c.args.tree.now) (g.T.Tree.listings c.args.tree.now) files.cmp-value.it folders.cmp-value.it c.args.words.now c.in-Some.next c.args.self.now mid rest c.look_at.new.self c.loop.invariant.walked refl popped c.in_ok-look_at.ensures.looked;
    }

pub returns-in_default-clause-walked : goal.returns-in_default-clause-walked
returns-in_default-clause-walked g c =
    let over : c.loop.self.waiting.items ≡ [] = grind (arith, common_steps) in
    (c.loop.self, c.loop.invariant.walked, over, refl)
