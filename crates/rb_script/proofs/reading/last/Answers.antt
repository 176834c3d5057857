use Rattle.std.proofs.Common.{◌≡◌, List, [], ◌∷◌, ◌++◌, length, length-append, ap, sym, ◌∙◌, arith}
use Rattle.std.specs.declared.rc.Rc.{Rc}
use Rattle.std.specs.declared.alloc.Global.{Global}
use Rattle.rb_script.specs.Script.{PlainBlock}
use Rattle.rb_script.specs.Shared.{values}
use Rattle.rb_script.proofs.ResultLaws.{done}
use Rattle.rb_script.proofs.SharedLaws.{values-length}
use Rattle.rb_script.proofs.reading.last.Goals as goal

-- the last of one is the one
sole : (front ps : List (Rc PlainBlock Global)) (p : Rc PlainBlock Global) (b : PlainBlock) → ps ≡ front ++ p ∷ [] → values ps ≡ b ∷ [] → p.value ≡ b
sole [] ps p b e is = let one : p.value ∷ [] ≡ b ∷ [] = sym (ap values e) ∙ is in cc
sole (q ∷ front) ps p b e is = absurd (omega (arith, ap length is, values-length ps, ap length e, length-append front (p ∷ [])))

pub returns-in-Some : goal.returns-in-Some
returns-in-Some c = λ b is. ap done (sym (c.in_ok-unshared-in-Some.ensures ∙ sole c.pop.new.self.items c.args.blocks.items c.in-Some.block b c.in-Some.ensures.items is))
