use Rattle.rb_script.proofs.FrontLaws.{front_plain}
use Rattle.rb_script.proofs.block.Block.directive.Goals as goal

pub returns-clause-whole : goal.returns-clause-whole
returns-clause-whole c = rw (c.new.ensures, ← c.self.view_is) (front_plain c.self.inside.front c.self.inside.expected c.self.invariant.tokens)
