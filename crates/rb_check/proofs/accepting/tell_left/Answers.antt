use Rattle.std.proofs.Common.{◌∙◌, ℕ, List, ap, sym}
use Rattle.rb_replay.specs.Run.{outputs}
use Rattle.rb_text.proofs.SentLaws.{writes_along}
use Rattle.rb_script_report.specs.Accepting.{all_left}
use Rattle.rb_check.proofs.ShownLaws.{all_listed, along, goes_nothing, goes_nowhere_at, goes_shown, none_listed}
use Rattle.rb_check.proofs.accepting.tell_left.Goals as goal

pub returns-then-is_for_programs : goal.returns-then-is_for_programs
returns-then-is_for_programs g c =
    let subject = c.args.subject.now in
    let s = subject.session.now.script in
    let text = all_left c.args.wanted subject.layout.now.text subject.path.now subject.layout.now.heads.items s.blocks (outputs s) in
    along (sym (none_listed c.args.report.now.state.form.format text (sym c.is_for_programs.ensures ∙ c.if-is_for_programs.true))) (goes_nothing _ _)

pub returns-then-not-is_open : goal.returns-then-not-is_open
returns-then-not-is_open g c = goes_nowhere_at _ _ _ _ _ c.is_open.result c.is_open.ensures.state (ap g.W.Sink.held c.is_open.ensures.output) c.is_open.ensures.value c.if-not-is_open.true

pub returns : goal.returns
returns g c =
    let subject = c.args.subject.now in
    let s = subject.session.now.script in
    let text = λ (p : List ℕ). all_left c.args.wanted subject.layout.now.text p subject.layout.now.heads.items s.blocks (outputs s) in
    along (sym (all_listed c.args.report.now.state.form.format (text subject.path.now) (sym c.is_for_programs.ensures ∙ c.if-is_for_programs.false)))
    (goes_shown _ _ _ _ _ _ _ _ c.put_left_errors-written.result c.is_open.result c.is_open.ensures.state (ap g.W.Sink.held c.is_open.ensures.output) c.is_open.ensures.value
    c.if-not-is_open.false (writes_along c.put_left_errors-written.result _ _ _ _ (ap text c.as_bytes-path.ensures.value) c.put_left_errors-written.ensures.wrote) c.wrote.ensures.shown)
