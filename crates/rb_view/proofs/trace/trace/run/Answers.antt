use Rattle.std.proofs.Common.{◌∙◌, ap}
use Rattle.std.specs.Prelude.{fold}
use Rattle.rb_script.specs.Directive.{PlainDirective}
use Rattle.rb_script.specs.Tokens.{plain}
use Rattle.rb_machine.specs.declared.printed.PrintedLines.{PrintedLines}
use Rattle.rb_machine.specs.Observers.{Watched}
use Rattle.rb_machine.specs.Outcome.{execution, shown_items, lines_at, outcome}
use Rattle.rb_machine.specs.Printing as printing
use Rattle.rb_cluster.proofs.PrintLaws.{printed_is}
use Rattle.rb_machine.proofs.EffectLaws.{each_seen}
use Rattle.rb_view.specs.declared.trace.tracer.Tracer.{Tracer}
use Rattle.rb_view.specs.Traces.{at_level, with_item}
use Rattle.rb_view.proofs.trace.trace.run.Goals as goal

pub returns-clause-output : goal.returns-clause-output
unfolding outcome
returns-clause-output g c =
    let e = execution c.args.cluster (plain c.directive.result) in
    let seen = each_seen printing.with_item with_item (printing.at_level c.new.result e.level) c.run_counted.new.observer.first (at_level c.args.tracer e.level) c.run_counted.new.observer.second e.observed
    (ap (λ (w : Watched (PrintedLines × Tracer)). w.by) c.in_ok-run_counted.ensures.watched) in
    c.in_ok-or_ok.ensures ∙ printed_is c.new.result c.run_counted.new.observer.first e c.new.ensures seen.0
    ∙ ap (λ (d : PlainDirective). lines_at (execution c.args.cluster d).level (shown_items (execution c.args.cluster d))) c.directive.ensures.whole

pub returns-clause-tracer : goal.returns-clause-tracer
returns-clause-tracer g c =
    let e = execution c.args.cluster (plain c.directive.result) in
    let seen = each_seen printing.with_item with_item (printing.at_level c.new.result e.level) c.run_counted.new.observer.first (at_level c.args.tracer e.level) c.run_counted.new.observer.second e.observed
    (ap (λ (w : Watched (PrintedLines × Tracer)). w.by) c.in_ok-run_counted.ensures.watched) in
    seen.1 ∙ ap (λ (d : PlainDirective). fold with_item c.args.tracer (shown_items (execution c.args.cluster d))) c.directive.ensures.whole
