use Rattle.indexmap.specs.Layout.{length-set_value_at}
use Rattle.rb_tracker.proofs.tracker.Tracker.set_active.Goals as goal

pub returns-clause-within : goal.returns-clause-within
returns-clause-within c = length-set_value_at c.args.self.now.views c.args.i c.set_active.new.self
