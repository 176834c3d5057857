use Rattle.std.proofs.Common.{◌∙◌}
use Rattle.rb_tracker.proofs.WindowLaws.{freed_rest}
use Rattle.rb_tracker.proofs.window.Window.free_through.Goals as goal

pub returns-else-index_at-index : goal.returns-else-index_at-index
returns-else-index_at-index c =
    freed_rest c.loop-self.self c.args.index c.index_at.result c.index_at.ensures c.if-index_at-index.false c.len.ensures.ascending ∙ c.loop-self.invariant
