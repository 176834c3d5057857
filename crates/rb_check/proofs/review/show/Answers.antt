use Rattle.std.proofs.Common.{ℕ, List, ap}
use Rattle.rb_check.specs.Asking.{subject_text}
use Rattle.rb_check.specs.Subjects.{plain_of}
use Rattle.rb_check.proofs.ShownLaws.{goes_both, goes_cut, goes_nowhere_at, if_along}
use Rattle.rb_check.proofs.review.show.Goals as goal

pub returns-then-not-is_open-clause-shown : goal.returns-then-not-is_open-clause-shown
returns-then-not-is_open-clause-shown g c = goes_nowhere_at _ _ _ _ _ c.is_open.result c.is_open.ensures.state (ap g.W.Sink.held c.is_open.ensures.output) c.is_open.ensures.value c.if-not-is_open.true

pub returns-in_default-clause-shown : goal.returns-in_default-clause-shown
returns-in_default-clause-shown g c =
    goes_cut _ _ _ _ _ _ _ _ _ c.showed.result c.is_open.result c.put_comment.result c.is_open.ensures.state (ap g.W.Sink.held c.is_open.ensures.output) c.is_open.ensures.value c.if-not-is_open.false
    c.put_comment.ensures.wrote c.showed.ensures.shown

pub returns-clause-shown : goal.returns-clause-shown
returns-clause-shown g c =
    let about = plain_of c.args.subject.now in
    if_along c.showed-2.result _ _ _ _ _ _ (ap (λ (p : List ℕ). subject_text (record about { path = p }) c.args.question) c.as_bytes.ensures.value)
    (goes_both _ _ _ _ _ _ _ _ _ c.showed-2.result c.is_open.result _ c.put_alone-shown.result c.is_open.ensures.state (ap g.W.Sink.held c.is_open.ensures.output) c.is_open.ensures.value c.if-not-is_open.false
    c.in-Ok.ensures.wrote c.put_alone-shown.ensures.wrote c.showed-2.ensures.shown)
