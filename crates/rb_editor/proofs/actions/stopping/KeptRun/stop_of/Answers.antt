use Rattle.std.proofs.Common.{◌≡◌, ◌∙◌, ℕ, List, true, subst, sym}
use Rattle.std.proofs.lemmas.Slice.Eq.{bytes_eq-Decides}
use Rattle.rb_editor.specs.Stops.{is_head}
use Rattle.rb_editor.proofs.StopLaws.{may_stop_of}
use Rattle.rb_editor.proofs.actions.stopping.KeptRun.stop_of.Goals as goal

pub returns-in-Some-clause-head : goal.returns-in-Some-clause-head
returns-in-Some-clause-head g c =
    let last = c.in-Some.stopped in
    may_stop_of c.args.text.now last.index last.stop
    (subst (λ (text : List ℕ). is_head text last.index last.stop.line ≡ true)
    (sym c.as_slice.ensures.value ∙ (bytes_eq-Decides c.as_slice.result.now c.args.text.now).0 (sym c.eq.ensures ∙ c.if-eq.true)) last.head)
