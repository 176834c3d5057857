use Rattle.std.proofs.Common.{sym, ◌∙◌}
use Rattle.rb_script.specs.ByteClasses.{is_of}
use Rattle.rb_script.proofs.TokenLaws.{skip_more, skip_stop, skip_nil}
use Rattle.rb_script.proofs.head_cursor.HeadCursor.skip.Goals as goal

pub loop-b-preserved : goal.loop-b-preserved
loop-b-preserved c = record {
  left = skip_more (is_of c.args.class) c.loop-b.self.left c.in-Some.b c.in-Some.ensures c.advance.new.self.left _ (sym c.has.ensures ∙ c.if-not-has.false) c.advance.ensures.left c.loop-b.invariant.left;
  head = c.advance.ensures.head ∙ c.loop-b.invariant.head;
}

pub returns-then-not-has-clause-left : goal.returns-then-not-has-clause-left
returns-then-not-has-clause-left c =
    skip_stop (is_of c.args.class) c.loop-b.self.left c.in-Some.b c.in-Some.ensures _ (sym c.has.ensures ∙ c.if-not-has.true) c.loop-b.invariant.left

pub returns-in_default-clause-left : goal.returns-in_default-clause-left
returns-in_default-clause-left c = skip_nil (is_of c.args.class) c.loop-b.self.left _ c.in_default.ensures c.loop-b.invariant.left
