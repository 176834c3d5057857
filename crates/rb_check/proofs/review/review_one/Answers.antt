use Rattle.std.proofs.Common.{[]}
use Rattle.rb_check.specs.Subjects.{plain_of}
use Rattle.rb_check.proofs.AskingLaws.{none_asked, one_asked}
use Rattle.rb_check.proofs.ShownLaws.{goes_nothing, ok_so, on_err, part_nothing}
use Rattle.rb_check.proofs.review.review_one.Goals as goal

pub returns-in-Each-clause-shown : goal.returns-in-Each-clause-shown
returns-in-Each-clause-shown g c =
    rw c.in-Each.is (ok_so c.ask_about.result (λ asked. (asked.0, one_asked (plain_of c.args.subject.now) c.args.count c.args.number c.args.question asked.0 asked.1, asked.2)) c.ask_about.ensures.shown)

pub returns-in_ok-take_rest-in-Rest-clause-shown : goal.returns-in_ok-take_rest-in-Rest-clause-shown
returns-in_ok-take_rest-in-Rest-clause-shown g c = rw c.in-Rest.is ([], none_asked (plain_of c.args.subject.now) c.args.count c.args.number, goes_nothing _ _)

pub returns-in_err-take_rest-in-Rest-clause-part : goal.returns-in_err-take_rest-in-Rest-clause-part
returns-in_err-take_rest-in-Rest-clause-part g c = on_err c.from_residual.result (part_nothing _ _)

pub returns-in-Skipped-clause-shown : goal.returns-in-Skipped-clause-shown
returns-in-Skipped-clause-shown g c = rw c.in-Skipped.is ([], none_asked (plain_of c.args.subject.now) c.args.count c.args.number, goes_nothing _ _)

pub returns-in-Over-clause-shown : goal.returns-in-Over-clause-shown
returns-in-Over-clause-shown g c = rw c.in-Over.is ([], none_asked (plain_of c.args.subject.now) c.args.count c.args.number, goes_nothing _ _)
