use Rattle.std.proofs.Common.{◌≡◌, List, [], ◌∷◌, ◌++◌, Option, ap, subst}
use Rattle.std.specs.Prelude.{OnOk}
use Rattle.rb_script.specs.Lines.{Line}
use Rattle.rb_script.specs.Tokens.{plain}
use Rattle.rb_machine.specs.declared.printed.PrintedLines.{PrintedLines}
use Rattle.rb_machine.specs.Observers.{Watched}
use Rattle.rb_machine.specs.Outcome.{execution, outcome}
use Rattle.rb_machine.specs.Printing.{at_level, with_item}
use Rattle.rb_machine.proofs.EffectLaws.{each_seen}
use Rattle.rb_cluster.proofs.PrintLaws.{printed_is}
use Rattle.rb_script_report.specs.declared.reasons.LineReasons.{LineReasons}
use Rattle.rb_bench.specs.Reasons.{listed, with_level, with_reason}
use Rattle.rb_bench.proofs.ReasonLaws.{reasons_given}
use Rattle.rb_bench.proofs.runner.Runner.run_directive.Goals as goal

pub returns-clause-outputs : goal.returns-clause-outputs
unfolding outcome
returns-clause-outputs g c =
    let e = execution c.args.cluster.now (plain c.args.directive.now) in
    let first = c.new-observer.result in
    let last = c.run_counted.new.observer in
    let seen = each_seen with_item with_reason (at_level first.printed e.level) last.printed (with_level first.reasons e.level) last.reasons e.observed
    (ap (λ (w : Watched (PrintedLines × Option LineReasons)). w.by) c.in_ok-run_counted.ensures.watched) in
    subst (λ (ls : List Line). OnOk c.push.result (c.push.new.self.outputs ≡ c.args.ran.now.outputs ++ ls ∷ [])) (printed_is first.printed last.printed e c.new-observer.ensures.printed seen.0) c.push.ensures.outputs

pub returns-clause-whys : goal.returns-clause-whys
returns-clause-whys g c =
    let e = execution c.args.cluster.now (plain c.args.directive.now) in
    let first = c.new-observer.result in
    let last = c.run_counted.new.observer in
    let seen = each_seen with_item with_reason (at_level first.printed e.level) last.printed (with_level first.reasons e.level) last.reasons e.observed
    (ap (λ (w : Watched (PrintedLines × Option LineReasons)). w.by) c.in_ok-run_counted.ensures.watched) in
    subst (λ (ls : Option (List Line)). OnOk c.push.result (c.push.new.self.whys.items ≡ c.args.ran.now.whys.items ++ listed ls))
    (reasons_given c.args.explains first.reasons last.reasons e c.new-observer.ensures.reasons seen.1) c.push.ensures.whys
