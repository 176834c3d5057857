use Rattle.std.proofs.Common.{length, ap, arith, ◌∙◌}
use Rattle.rb_script.specs.Marks.{is_space}
use Rattle.rb_script.specs.Flat.{between}
use Rattle.rb_script.specs.Joined.{joined}
use Rattle.rb_script.specs.Runs.{after_while}
use Rattle.rb_script.proofs.BetweenLaws.{length-between}
use Rattle.rb_script.proofs.ArgumentLaws.{head_found, head_too_long}
use Rattle.rb_script.proofs.tokens.tokens_of.Goals as goal

pub returns-in-Ok-Some : goal.returns-in-Ok-Some
returns-in-Ok-Some c =
    let head = between c.args.start c.args.end c.args.all.now in
    let same = c.skip.ensures.head ∙ c.new-at.ensures.head ∙ c.in_ok-head.ensures in
    let gap = c.skip.ensures.left ∙ ap (after_while is_space) (c.new-at.ensures.left ∙ ap joined c.in_ok-head.ensures) in
    record {
      gives = head_found head c.args.number (joined head) c.skip.new.self.left c.take-name.new.self.left c.take-name.result gap (rw same at c.take-name.ensures.token) c.take-name.ensures.left (rw same at c.take-name.ensures.part) c.if-name.false c.in-Ok-Some.args
          (rw (c.in-Ok-Some.field-0-is, c.take-name.ensures.head, same) at c.in-Ok-Some.ensures.gives);
    }

pub returns-in-Ok-None : goal.returns-in-Ok-None
returns-in-Ok-None c =
    let head = between c.args.start c.args.end c.args.all.now in
    let same = c.skip.ensures.head ∙ c.new-at.ensures.head ∙ c.in_ok-head.ensures in
    let gap = c.skip.ensures.left ∙ ap (after_while is_space) (c.new-at.ensures.left ∙ ap joined c.in_ok-head.ensures) in
    record {
      gives = head_too_long head c.args.number (joined head) c.skip.new.self.left c.take-name.new.self.left c.take-name.result gap (rw same at c.take-name.ensures.token) c.take-name.ensures.left (rw same at c.take-name.ensures.part) c.if-name.false
          (rw c.in-Ok-None.field-0-is at c.in-Ok-None.ensures.gives);
    }

pub new-at-requires-clause-there : goal.new-at-requires-clause-there
new-at-requires-clause-there c =
    omega (arith, c.requires.there, ap length c.in_ok-head.ensures, length-between c.args.start c.args.end c.args.all.now c.requires.within)

pub new-at-requires-clause-few : goal.new-at-requires-clause-few
new-at-requires-clause-few c =
    omega (arith, c.requires.few, ap length c.in_ok-head.ensures, length-between c.args.start c.args.end c.args.all.now c.requires.within)
