use Rattle.std.proofs.Common.{◌≡◌, ◌++◌, ◌∷◌, [], true, ap, sym, ◌∙◌}
use Rattle.std.specs.Prelude.{slice_get}
use Rattle.std.specs.Option.{is_some}
use Rattle.std.proofs.lemmas.Result.{err_from_is_err_and}
use Rattle.rb_script.specs.Marks.{is_space}
use Rattle.rb_script.proofs.TokenLaws.{begins_at, begins_nowhere}
use Rattle.rb_script.proofs.RunLaws.{begins_by}
use Rattle.rb_script.proofs.ArgumentLaws.{arguments_found, arguments_bad, argument_bad, argument_fails, arguments_more, arguments_shorter}
use Rattle.rb_script.proofs.tokens.arguments.Goals as goal
use Rattle.rb_script.proofs.tokens.arguments.Goals.{in_default-via-in-Some+else-is_space, in_default-via-in_default}

pub returns-then-is_none : goal.returns-then-is_none
returns-then-is_none c =
    let at = c.loop-alloc.at.left in
    record {
      gives = (
        c.loop-alloc.invariant.0,
        arguments_found c.loop-alloc.invariant.0 at c.skip.new.self.left _ c.skip.ensures.left c.loop-alloc.invariant.2 (ap is_some (sym c.peek.ensures) ∙ c.if-is_none.ensures),
        c.loop-alloc.invariant.1,
      );
    }

pub returns-in_err-argument-in-Some : goal.returns-in_err-argument-in-Some
returns-in_err-argument-in-Some c =
    let at = c.loop-alloc.at.left in
    let p = err_from_is_err_and c.from_residual.result c.from_residual.ensures.1 in
    let space = begins_at is_space at c.in-Some.b c.in-Some.ensures ∙ sym c.is_space.ensures ∙ c.if-is_space.true in
    rw (p.1, p.2) (record {
      gives = argument_fails c.skip.new.self.head c.argument.new.at.left _ _ c.in_err-argument-in-Some.field-0.0
          (argument_bad c.loop-alloc.invariant.0 at c.skip.new.self.left _ c.skip.ensures.left c.loop-alloc.invariant.2 (ap is_some (sym c.peek.ensures) ∙ c.if-is_none.ensures) space)
          c.in_err-argument-in-Some.ensures.gives;
    })

pub loop-alloc-smaller : goal.loop-alloc-smaller
loop-alloc-smaller c =
    let at = c.loop-alloc.at.left in
    let space = begins_at is_space at c.in-Some.b c.in-Some.ensures ∙ sym c.is_space.ensures ∙ c.if-is_space.true in
    let gives = c.in_ok-argument-in-Some.ensures.gives in
    arguments_shorter c.loop-alloc.invariant.0 at c.skip.new.self.left _ c.skip.ensures.left c.loop-alloc.invariant.2 gives.0 c.argument.new.at.left space gives.1

pub loop-alloc-preserved : goal.loop-alloc-preserved
loop-alloc-preserved c =
    let at = c.loop-alloc.at.left in
    let so_far = c.loop-alloc.invariant.0 in
    let space = begins_at is_space at c.in-Some.b c.in-Some.ensures ∙ sym c.is_space.ensures ∙ c.if-is_space.true in
    let gives = c.in_ok-argument-in-Some.ensures.gives in
    let same = c.skip.ensures.head ∙ c.loop-alloc.invariant.3 in (
      so_far ++ gives.0 ∷ [],
      c.in_ok-found-in-Some.ensures c.args.at.now.head so_far gives.0 c.loop-alloc.invariant.1 (rw same at gives.2),
      arguments_more so_far at c.skip.new.self.left _ c.skip.ensures.left c.loop-alloc.invariant.2 gives.0 c.argument.new.at.left (ap is_some (sym c.peek.ensures) ∙ c.if-is_none.ensures) space gives.1,
      c.argument.ensures.head ∙ same,
    )

pub returns-in_default : goal.returns-in_default
returns-in_default c =
    let at = c.loop-alloc.at.left in
    let some : is_some (slice_get c.skip.new.self.left 0) ≡ true = ap is_some (sym c.peek.ensures) ∙ c.if-is_none.ensures in
    let bad = arguments_bad c.loop-alloc.invariant.0 at c.skip.new.self.left _ c.skip.ensures.left c.loop-alloc.invariant.2 some in
    elim c.in_default.branch [
      | in_default-via-in-Some+else-is_space w ↦ record { gives = bad (begins_at is_space at w.in-Some.b w.in-Some.ensures ∙ sym w.is_space.ensures ∙ w.if-is_space.false) }
      | in_default-via-in_default w ↦ record { gives = bad (ap (begins_by is_space) (begins_nowhere at w.in_default.ensures)) }
    ]
