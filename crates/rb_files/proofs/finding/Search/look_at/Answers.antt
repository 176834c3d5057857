use Rattle.std.proofs.Common.{ℕ, List, Ok, Err, subst}
use Rattle.rb_files.proofs.WalkLaws.{because}
use Rattle.rb_files.proofs.finding.Search.look_at.Goals as goal

pub returns-in-Ok-clause-looked : goal.returns-in-Ok-clause-looked
returns-in-Ok-clause-looked g c = because c.look_in.result _ _ (λ f. (Ok c.in-Ok.entry, subst (λ (p : List ℕ). g.T.Tree.entries c.args.tree.now p (Ok c.in-Ok.entry)) c.as_str.ensures.value c.in-Ok.ensures.told, f)) c.look_in.ensures.follows

pub returns-in-Err-clause-looked : goal.returns-in-Err-clause-looked
returns-in-Err-clause-looked g c = because c.miss.result _ _ (λ f. (Err c.in-Err.error, subst (λ (p : List ℕ). g.T.Tree.entries c.args.tree.now p (Err c.in-Err.error)) c.as_str.ensures.value c.in-Err.ensures.told, f)) c.miss.ensures.missed
