use Rattle.std.proofs.Common.{◌≡◌, get_or, ◌∙◌, ap, sym}
use Rattle.rb_directive.specs.declared.requests.MailChoice.{MailChoice}
use Rattle.rb_directive.specs.Requests.{all_mail}
use Rattle.rb_machine.specs.Deliveries.{delivered}
use Rattle.rb_machine.specs.Observers.{Watched, watched, after}
use Rattle.rb_machine.specs.Rounds.{has_mail}
use Rattle.rb_cluster.proofs.EachLaws.{each_next}
use Rattle.rb_cluster.proofs.MailLaws.{no_mail_after, delivered_none}
use Rattle.rb_cluster.proofs.cluster.Cluster.deliver_to_each.Goals as goal
use Rattle.rb_cluster.proofs.cluster.Cluster.deliver_to_each.Goals.{then-has+in_ok-deliver, else-has}

pub loop-id-preserved : goal.loop-id-preserved
loop-id-preserved g c =
    let before = watched c.loop-id.self (g.O.Observer.meaning c.loop-id.observer) in
    let next = watched c.if-has.self (g.O.Observer.meaning c.if-has.observer) in
    let id = get_or c.args.ids.now c.loop-id.id-index 0 in
    let goes = each_next g.O.Observer.taking g.O.Observer.settling (delivered all_mail) c.args.ids.now c.loop-id.id-index 0 before next c.loop-id-test.true in
    elim c.if-has.branch [
      | then-has+in_ok-deliver w ↦
          (let is : next ≡ after g.O.Observer.taking g.O.Observer.settling (g.O.Observer.meaning c.loop-id.observer) (delivered all_mail c.loop-id.self id) =
          ap (λ s. watched s (g.O.Observer.meaning c.if-has.observer)) w.self-is ∙ ap (λ o. watched w.deliver.new.self (g.O.Observer.meaning o)) w.observer-is ∙ w.in_ok-deliver.ensures
          ∙ ap (λ (x : MailChoice). after g.O.Observer.taking g.O.Observer.settling (g.O.Observer.meaning c.loop-id.observer) (delivered x c.loop-id.self id)) c.all-all.ensures in record {
            rest = c.loop-id.invariant.rest ∙ goes is;
            unmarked = λ other h. ap (λ (s : Watched _). has_mail s.cluster.pending other) is ∙ no_mail_after c.loop-id.self id other (c.loop-id.invariant.unmarked other h);
          })
      | else-has w ↦
          (let is : next ≡ before = ap (λ s. watched s (g.O.Observer.meaning c.if-has.observer)) w.self-is ∙ ap (λ o. watched c.loop-id.self (g.O.Observer.meaning o)) w.observer-is in
          let none : has_mail c.loop-id.self.pending id ≡ _ = c.loop-id.invariant.unmarked id (sym c.has.ensures ∙ w.if-has.false) in record {
            rest = c.loop-id.invariant.rest ∙ goes (is ∙ ap (after g.O.Observer.taking g.O.Observer.settling (g.O.Observer.meaning c.loop-id.observer)) (sym (delivered_none c.loop-id.self id none)));
            unmarked = λ other h. ap (λ (s : Watched _). has_mail s.cluster.pending other) is ∙ c.loop-id.invariant.unmarked other h;
          })
    ]
