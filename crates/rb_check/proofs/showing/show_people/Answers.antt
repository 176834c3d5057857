use Rattle.std.proofs.Common.{ℕ, List, ap}
use Rattle.rb_check.specs.ScriptTexts.{people_report}
use Rattle.rb_check.specs.Subjects.{plain_of}
use Rattle.rb_check.proofs.ShownLaws.{goes_nowhere_at, goes_showed, if_along}
use Rattle.rb_check.proofs.showing.show_people.Goals as goal

pub returns-then-not-is_open-clause-shown : goal.returns-then-not-is_open-clause-shown
returns-then-not-is_open-clause-shown g c = goes_nowhere_at _ _ _ _ _ c.is_open.result c.is_open.ensures.state (ap g.W.Sink.held c.is_open.ensures.output) c.is_open.ensures.value c.if-not-is_open.true

pub returns-clause-shown : goal.returns-clause-shown
returns-clause-shown g c =
    let about = plain_of c.args.subject.now in
    if_along c.showed.result _ _ _ _ _ _ (ap (λ (p : List ℕ). people_report c.args.shown (record about { path = p })) c.as_bytes.ensures.value)
    (goes_showed _ _ _ _ _ _ _ _ c.put_checked-written.result c.showed.result c.is_open.result c.is_open.ensures.state (ap g.W.Sink.held c.is_open.ensures.output) c.is_open.ensures.value
    c.if-not-is_open.false c.put_checked-written.ensures.wrote c.showed.ensures.shown)
