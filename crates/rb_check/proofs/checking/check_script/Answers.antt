use Rattle.std.proofs.Common.{◌≡◌, ◌∙◌, ℕ, List, refl, subst, ap, sym}
use Rattle.std.proofs.lemmas.Result.{err_from_is_err_and}
use Rattle.rb_script.specs.Reading.{read_of}
use Rattle.rb_replay.specs.declared.fault.StartFault.{StartFault}
use Rattle.rb_replay.specs.Start.{TellsStartFault}
use Rattle.rb_check.specs.declared.remark.Remark.TheVariants as remarks
use Rattle.rb_check.specs.declared.report_state.ReportState.{ReportState}
use Rattle.rb_check.specs.declared.visible.Showing.{Showing}
use Rattle.rb_check.specs.Endings.{IsAnswered}
use Rattle.rb_check.specs.Reported.{missed, ran, refused}
use Rattle.rb_check.specs.Visible.{showing_of_lines}
use Rattle.rb_check.specs.Shown.{colors_in, remark_text, shown_in}
use Rattle.rb_check.specs.Subjects.{PlainChecked}
use Rattle.rb_check.proofs.ReportLaws.{nothing_heeded, part_heeded}
use Rattle.rb_check.proofs.ShownLaws.{along, goes_heeded, on_err}
use Rattle.rb_check.proofs.checking.check_script.Goals as goal

pub returns-in-Err-Script-clause-reported : goal.returns-in-Err-Script-clause-reported
returns-in-Err-Script-clause-reported g c =
    let bytes = c.deref.result.now in
    let read = subst (λ (b : List ℕ). g.S.System.has_read c.args.system.now c.args.path.now b) (sym c.deref.ensures.value) c.in_ok-text.ensures.read in
    let fault = c.in-Err-Script.fault in
    let path = c.args.path.now in (
      remark_text c.args.report.now.state.form path (remarks.Refused fault),
      refused bytes fault read (subst (λ (f : StartFault). TellsStartFault f (read_of bytes)) c.in-Err-Script.field-0-is c.in-Err-Script.ensures.refused) refl refl refl,
      along (ap (λ (p : List ℕ). remark_text c.heed.new.self.state.form p (remarks.Refused fault)) c.as_bytes-in-Err-Script.ensures.value ∙ ap (λ (v : ReportState). remark_text v.form path (remarks.Refused fault)) c.heed.ensures.state)
          (goes_heeded c.heed.ensures.state c.heed.ensures.held c.remark.ensures.shown),
    )

pub returns-clause-reported : goal.returns-clause-reported
returns-clause-reported g c =
    let asked = c.args.asked.now in
    let run = c.in-Ok.run' in
    let read = subst (λ (b : List ℕ). g.S.System.has_read c.args.system.now c.args.path.now b) (sym c.deref.ensures.value) c.in_ok-text.ensures.read in
    let answered = c.in_ok-ran.ensures.answered in
    let same : c.heed-2.new.self.state ≡ c.args.report.now.state = c.heed-2.ensures.state ∙ c.heed.ensures.state in
    let showing = c.heed-2.ensures.harmless in
    let script : PlainChecked = record { path = c.args.path.now; layout = run.layout; whys = c.deref-2.result.now; script = run.session.script; colors = c.colors.result } in (
      answered.0,
      ran c.deref.result.now script c.in_ok-ran.ran read (record {
        path_is = refl;
        layout_is = c.in-Ok.ensures.script;
        whys_are = c.deref-2.ensures.value ∙ c.in-Ok.ensures.whys;
        colors_are = c.colors.ensures ∙ ap (λ (s : Showing). colors_in s asked.colors) (showing.1 ∙ ap (λ (s : Showing). shown_in c.heed.new.self.state.form.format c.as_bytes-2.result.now s) showing.3 ∙ ap (λ (p : List ℕ). shown_in c.heed.new.self.state.form.format p (showing_of_lines run.layout.text)) c.as_bytes-2.ensures.value ∙ ap (λ (v : ReportState). shown_in v.form.format c.args.path.now (showing_of_lines run.layout.text)) c.heed.ensures.state);
      }) (subst (λ (v : ReportState). IsAnswered (g.S.System.tells_one c.args.system.now) asked (g.P.Person.is_known c.args.reviewer.now.person) (g.P.Person.left c.args.reviewer.now.person) v.form script c.args.reviewer.now.review c.answer.new.reviewer.review c.in_ok-ran.ran answered.0) same answered.1) refl,
      goes_heeded c.heed.ensures.state c.heed.ensures.held (goes_heeded c.heed-2.ensures.state c.heed-2.ensures.held answered.2),
    )

pub returns-in_err-text-clause-part : goal.returns-in_err-text-clause-part
returns-in_err-text-clause-part g c = on_err c.from_residual.result (nothing_heeded c.heed.ensures.state c.heed.ensures.held)

pub returns-in_err-found-clause-part : goal.returns-in_err-found-clause-part
returns-in_err-found-clause-part g c =
    on_err c.from_residual-in_err-found.result (part_heeded c.heed.ensures.state c.heed.ensures.held (nothing_heeded c.heed-2.ensures.state c.heed-2.ensures.held))

pub returns-in_err-ran-clause-part : goal.returns-in_err-ran-clause-part
returns-in_err-ran-clause-part g c =
    on_err c.from_residual-in_err-ran.result (part_heeded c.heed.ensures.state c.heed.ensures.held (part_heeded c.heed-2.ensures.state c.heed-2.ensures.held c.in_err-ran.ensures.part))

pub returns-in_err-ran-clause-fails : goal.returns-in_err-ran-clause-fails
returns-in_err-ran-clause-fails g c =
    let run = c.in-Ok.run' in
    let read = subst (λ (b : List ℕ). g.S.System.has_read c.args.system.now c.args.path.now b) (sym c.deref.ensures.value) c.in_ok-text.ensures.read in
    let p = err_from_is_err_and c.from_residual-in_err-ran.result c.from_residual-in_err-ran.ensures.1 in
    rw (p.1, p.2) (missed c.deref.result.now run.session.script run.layout read c.in-Ok.ensures.script c.in_err-ran.ensures.missed)
