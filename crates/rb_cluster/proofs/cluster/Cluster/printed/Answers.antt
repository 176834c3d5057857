use Rattle.std.proofs.Common.{◌≡◌, ◌∙◌, List, ap, subst}
use Rattle.std.specs.Prelude.{IfOk}
use Rattle.rb_script.specs.Lines.{Line}
use Rattle.rb_script.specs.Tokens.{plain}
use Rattle.rb_machine.specs.Observers.{Watched}
use Rattle.rb_machine.specs.Outcome.{execution}
use Rattle.rb_machine.specs.Printing.{at_level, with_item}
use Rattle.rb_machine.proofs.EffectLaws.{items_seen}
use Rattle.rb_cluster.proofs.PrintLaws.{printed_is}
use Rattle.rb_cluster.proofs.cluster.Cluster.printed.Goals as goal

pub returns-clause-output : goal.returns-clause-output
returns-clause-output g c =
    let e = execution c.args.self.now (plain c.args.directive.now) in
    subst (λ (ls : List Line). IfOk c.or_ok.result (λ lines. lines ≡ ls))
    (printed_is c.new-printed.result c.run_watched.new.observer e c.new-printed.ensures
    (ap (λ (w : Watched _). w.by) c.in_ok-run_watched.ensures ∙ items_seen with_item (at_level c.new-printed.result e.level) e.observed)) c.or_ok.ensures
