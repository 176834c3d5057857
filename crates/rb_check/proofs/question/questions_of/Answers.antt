use Rattle.std.proofs.Common.{List, ◌++◌, arith, ap}
use Rattle.rb_check.specs.declared.question.ReviewQuestion.{ReviewQuestion}
use Rattle.rb_check.specs.Reviews.{question_of, questions_of}
use Rattle.rb_check.specs.Subjects.{plain_of, plain_ran, runs_of}
use Rattle.rb_check.proofs.RunLaws.{each_all, each_more, runs_end}
use Rattle.rb_check.proofs.question.questions_of.Goals as goal

pub loop-i-init : goal.loop-i-init
loop-i-init g c = ap (λ (qs : List ReviewQuestion). qs ++ questions_of c.args.asked.now c.args.picked (plain_of c.args.subject.now)) c.new-questions.ensures.items

pub loop-i-preserved : goal.loop-i-preserved
loop-i-preserved g c =
    let about = plain_of c.args.subject.now in
    let asked = c.args.asked.now in
    each_more (question_of asked.accepts_errors c.args.picked about.layout.text) (runs_of about) c.loop-i.i (plain_ran c.directive_at-ran.result) c.loop-i.questions.items c.add_question.new.questions.items (questions_of asked c.args.picked about)
    c.directive_at-ran.ensures.run c.in_ok-add_question.ensures c.loop-i.invariant

pub returns : goal.returns
returns g c =
    let about = plain_of c.args.subject.now in
    let asked = c.args.asked.now in
    each_all (question_of asked.accepts_errors c.args.picked about.layout.text) (runs_of about) c.loop-i.i c.loop-i.questions.items (questions_of asked c.args.picked about)
    (runs_end about c.loop-i.i (omega (arith, c.loop-i-test.false, c.len-i-end.ensures.len))) c.loop-i.invariant
