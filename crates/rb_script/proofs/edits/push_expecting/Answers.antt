use Rattle.rb_script.specs.Script.{expecting}
use Rattle.rb_script.proofs.SharedLaws.{pushed}
use Rattle.rb_script.proofs.edits.push_expecting.Goals as goal

pub returns : goal.returns
returns c = pushed c.args.made.now.items c.push.new.self.items c.in_ok-expecting.field-0 (expecting c.args.block.now.value c.args.output.now) c.in_ok-push.ensures.items c.in_ok-expecting.ensures
