use Rattle.rb_view.proofs.StateLaws.{none_kept_of_same}
use Rattle.rb_view.proofs.steps.node.keep_if_changed.Goals as goal

pub returns-then-is_seen_same : goal.returns-then-is_seen_same
returns-then-is_seen_same g c = none_kept_of_same c.args.known c.args.old.now c.args.new.now c.args.texts.now (c.is_seen_same.ensures c.if-is_seen_same.true)
