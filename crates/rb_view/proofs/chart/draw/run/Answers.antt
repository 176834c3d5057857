use Rattle.std.proofs.Common.{◌≡◌, ◌∙◌, List, [], ap}
use Rattle.rb_script.specs.Tokens.{plain}
use Rattle.rb_machine.specs.declared.printed.PrintedLines.{PrintedLines}
use Rattle.rb_machine.specs.Observers.{Watched}
use Rattle.rb_machine.specs.Outcome.{Execution, execution, shown_items, lines_at, or_ok, outcome}
use Rattle.rb_machine.specs.Printing.{at_level, with_item}
use Rattle.rb_cluster.proofs.PrintLaws.{printed_is}
use Rattle.rb_view.specs.Drawn.{PlainView, beginning, seeing, shown, view_of}
use Rattle.rb_machine.proofs.EffectLaws.{each_seen}
use Rattle.rb_view.proofs.chart.draw.run.Goals as goal

pub returns-clause-output : goal.returns-clause-output
unfolding outcome
returns-clause-output g c =
    let e = execution c.args.cluster.now (plain c.directive.result) in
    let first = c.args.both.now.first in
    let seen = each_seen with_item seeing (at_level first e.level) c.run_counted.new.observer.first (beginning (view_of c.args.both.now.second)) (view_of c.run_counted.new.observer.second) e.observed
    (ap (λ (w : Watched (PrintedLines × PlainView)). w.by) c.in_ok-run_counted.ensures.watched) in
    c.in_ok-output.ensures ∙ ap (λ (p : PrintedLines). or_ok p.level p.lines) c.replace-printed.ensures.value ∙ printed_is first c.run_counted.new.observer.first e c.requires seen.0
    ∙ ap (λ (x : Execution). lines_at x.level (shown_items x)) (ap (execution c.args.cluster.now) c.directive.ensures.whole)

pub returns-clause-shown : goal.returns-clause-shown
returns-clause-shown g c =
    let e = execution c.args.cluster.now (plain c.directive.result) in
    let first = c.args.both.now.first in
    let seen = each_seen with_item seeing (at_level first e.level) c.run_counted.new.observer.first (beginning (view_of c.args.both.now.second)) (view_of c.run_counted.new.observer.second) e.observed
    (ap (λ (w : Watched (PrintedLines × PlainView)). w.by) c.in_ok-run_counted.ensures.watched) in
    seen.1 ∙ ap (shown (view_of c.args.both.now.second)) (ap (execution c.args.cluster.now) c.directive.ensures.whole)
