use Rattle.std.proofs.Common.{refl, ◌++◌, ◌∷◌, [], ◌∙◌}
use Rattle.rb_script.specs.Runs.{while_of}
use Rattle.rb_script.specs.ByteClasses.{is_piece}
use Rattle.rb_script.proofs.ArgumentLaws.{values_found, values_bad, values_none, values_more, values_shorter, keeps_token}
use Rattle.rb_script.proofs.tokens.list.Goals as goal

pub returns-in_default-clause-gives : goal.returns-in_default-clause-gives
returns-in_default-clause-gives c = values_none c.loop-b.invariant.0 c.loop-b.at.left c.skip.new.self.left _ c.skip.ensures.left c.loop-b.invariant.2 c.in_default.ensures

pub returns-then-b-eq40-clause-gives : goal.returns-then-b-eq40-clause-gives
returns-then-b-eq40-clause-gives c =
    values_bad c.loop-b.invariant.0 c.loop-b.at.left c.skip.new.self.left _ c.skip.ensures.left c.loop-b.invariant.2 c.in-Some.b c.in-Some.ensures c.if-b-eq40.true

pub returns-then-b-eq41-clause-gives : goal.returns-then-b-eq41-clause-gives
returns-then-b-eq41-clause-gives c = (
  c.loop-b.invariant.0,
  values_found c.loop-b.invariant.0 c.loop-b.at.left c.skip.new.self.left _ c.skip.ensures.left c.loop-b.invariant.2 c.in-Some.b c.advance.new.self.left c.in-Some.ensures c.if-b-eq41.true c.advance.ensures.left,
  c.loop-b.invariant.1,
)

pub loop-b-smaller : goal.loop-b-smaller
loop-b-smaller c =
    values_shorter c.loop-b.invariant.0 c.loop-b.at.left c.skip.new.self.left _ c.skip.ensures.left c.loop-b.invariant.2 c.in-Some.b c.take-value.new.self.left c.in-Some.ensures c.if-b-eq40.false c.if-b-eq41.false c.take-value.ensures.left

pub loop-b-preserved : goal.loop-b-preserved
loop-b-preserved c =
    let so_far = c.loop-b.invariant.0 in
    let value = while_of is_piece c.skip.new.self.left in
    let same = c.skip.ensures.head ∙ c.loop-b.invariant.3 in (
      so_far ++ value ∷ [],
      keeps_token c.args.at.now.head c.skip.new.self.head c.loop-b.found c.in_ok-found.found so_far c.take-value.result value same c.loop-b.invariant.1 c.take-value.ensures.token c.take-value.ensures.part c.in_ok-found.ensures,
      values_more so_far c.loop-b.at.left c.skip.new.self.left _ c.skip.ensures.left c.loop-b.invariant.2 c.in-Some.b value c.take-value.new.self.left c.in-Some.ensures c.if-b-eq40.false c.if-b-eq41.false refl c.take-value.ensures.left,
      c.take-value.ensures.head ∙ same,
    )
