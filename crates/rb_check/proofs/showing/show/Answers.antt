use Rattle.std.proofs.Common.{◌∙◌, sym}
use Rattle.rb_check.specs.Subjects.{plain_of}
use Rattle.rb_check.proofs.QuietLaws.{report_none}
use Rattle.rb_check.proofs.ShownLaws.{along, goes_nothing}
use Rattle.rb_check.proofs.showing.show.Goals as goal

pub returns-then-is_quiet-clause-shown : goal.returns-then-is_quiet-clause-shown
returns-then-is_quiet-clause-shown g c =
    along (sym (report_none c.args.asked.now (plain_of c.args.subject.now) (sym c.may_be_empty.ensures ∙ c.if-may_be_empty.true) (c.is_quiet.ensures c.if-is_quiet.true))) (goes_nothing _ _)
