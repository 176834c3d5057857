use Rattle.std.proofs.Common.{◌∙◌, List, ap, ap₂, sym}
use Rattle.rb_script.specs.Tokens.{plain}
use Rattle.rb_node.specs.Node.{PlainNode}
use Rattle.rb_machine.specs.declared.printed.PrintedLines.{PrintedLines}
use Rattle.rb_machine.specs.Observers.{Watched}
use Rattle.rb_machine.specs.Outcome.{Execution, execution, shown_items, lines_at, outcome}
use Rattle.rb_cluster.proofs.PrintLaws.{printed_is}
use Rattle.rb_view.specs.Committed.{keeps_commits}
use Rattle.rb_view.specs.PageRoom.{held}
use Rattle.rb_view.specs.Watching.{Watching, observed_texts, shows_bytes, written_last}
use Rattle.rb_view.proofs.GoneOnLaws.{goes_on}
use Rattle.rb_view.proofs.WatchLaws.{run_seen}
use Rattle.rb_view.proofs.steps.step.run.Goals as goal

pub returns-clause-output : goal.returns-clause-output
unfolding outcome
returns-clause-output g c =
    let e = execution c.in_ok-after.after (plain c.directive.result) in
    let seen = run_seen c.new-printed.result c.run_counted.new.observer.first c.in_ok-rows.rows.texts c.run_counted.new.observer.second.texts c.in_ok-rows.rows.nodes.items c.run_counted.new.observer.second.nodes.items c.in_ok-rows.rows.keeps c.run_counted.new.observer.second.keeps e
    (ap (λ (w : Watched (PrintedLines × Watching)). w.by) c.in_ok-run_counted.ensures.watched) c.in_ok-rows.ensures.texts (λ keeps. goes_on c.args.cluster.now c.in_ok-after.after c.in_ok-rows.rows.nodes.items (plain c.directive.result) c.in_ok-after.ensures c.in_ok-rows.ensures.nodes
    (ap (keeps_commits c.args.cluster.now.nodes) c.directive.ensures.whole ∙ sym c.keeps_commits-keeps.ensures ∙ sym c.in_ok-rows.ensures.keeps ∙ keeps)) in
    c.in_ok-output.ensures ∙ printed_is c.new-printed.result c.run_counted.new.observer.first e c.new-printed.ensures seen.printed
    ∙ ap (λ (x : Execution). lines_at x.level (shown_items x)) (ap₂ execution c.in_ok-after.ensures c.directive.ensures.whole)

pub returns-clause-texts : goal.returns-clause-texts
returns-clause-texts g c =
    let e = execution c.in_ok-after.after (plain c.directive.result) in
    let seen = run_seen c.new-printed.result c.run_counted.new.observer.first c.in_ok-rows.rows.texts c.run_counted.new.observer.second.texts c.in_ok-rows.rows.nodes.items c.run_counted.new.observer.second.nodes.items c.in_ok-rows.rows.keeps c.run_counted.new.observer.second.keeps e
    (ap (λ (w : Watched (PrintedLines × Watching)). w.by) c.in_ok-run_counted.ensures.watched) c.in_ok-rows.ensures.texts (λ keeps. goes_on c.args.cluster.now c.in_ok-after.after c.in_ok-rows.rows.nodes.items (plain c.directive.result) c.in_ok-after.ensures c.in_ok-rows.ensures.nodes
    (ap (keeps_commits c.args.cluster.now.nodes) c.directive.ensures.whole ∙ sym c.keeps_commits-keeps.ensures ∙ sym c.in_ok-rows.ensures.keeps ∙ keeps)) in
    c.into_parts-texts.ensures.texts ∙ seen.texts_are ∙ ap (λ (ns : List PlainNode). held (observed_texts ns e.observed)) c.in_ok-rows.ensures.nodes
    ∙ ap (λ (x : Execution). held (observed_texts c.args.cluster.now.nodes x.observed)) (ap₂ execution c.in_ok-after.ensures c.directive.ensures.whole)

pub returns-clause-nodes : goal.returns-clause-nodes
returns-clause-nodes g c =
    let e = execution c.in_ok-after.after (plain c.directive.result) in
    let seen = run_seen c.new-printed.result c.run_counted.new.observer.first c.in_ok-rows.rows.texts c.run_counted.new.observer.second.texts c.in_ok-rows.rows.nodes.items c.run_counted.new.observer.second.nodes.items c.in_ok-rows.rows.keeps c.run_counted.new.observer.second.keeps e
    (ap (λ (w : Watched (PrintedLines × Watching)). w.by) c.in_ok-run_counted.ensures.watched) c.in_ok-rows.ensures.texts (λ keeps. goes_on c.args.cluster.now c.in_ok-after.after c.in_ok-rows.rows.nodes.items (plain c.directive.result) c.in_ok-after.ensures c.in_ok-rows.ensures.nodes
    (ap (keeps_commits c.args.cluster.now.nodes) c.directive.ensures.whole ∙ sym c.keeps_commits-keeps.ensures ∙ sym c.in_ok-rows.ensures.keeps ∙ keeps)) in
    ap (λ v. v.items) c.into_parts-texts.ensures.nodes ∙ seen.nodes ∙ ap (λ (ns : List PlainNode). written_last ns e.observed) c.in_ok-rows.ensures.nodes
    ∙ ap (λ (x : Execution). written_last c.args.cluster.now.nodes x.observed) (ap₂ execution c.in_ok-after.ensures c.directive.ensures.whole)

pub returns-clause-bytes : goal.returns-clause-bytes
returns-clause-bytes g c =
    let e = execution c.in_ok-after.after (plain c.directive.result) in
    let seen = run_seen c.new-printed.result c.run_counted.new.observer.first c.in_ok-rows.rows.texts c.run_counted.new.observer.second.texts c.in_ok-rows.rows.nodes.items c.run_counted.new.observer.second.nodes.items c.in_ok-rows.rows.keeps c.run_counted.new.observer.second.keeps e
    (ap (λ (w : Watched (PrintedLines × Watching)). w.by) c.in_ok-run_counted.ensures.watched) c.in_ok-rows.ensures.texts (λ keeps. goes_on c.args.cluster.now c.in_ok-after.after c.in_ok-rows.rows.nodes.items (plain c.directive.result) c.in_ok-after.ensures c.in_ok-rows.ensures.nodes
    (ap (keeps_commits c.args.cluster.now.nodes) c.directive.ensures.whole ∙ sym c.keeps_commits-keeps.ensures ∙ sym c.in_ok-rows.ensures.keeps ∙ keeps)) in
    ap (λ (x : Execution). shows_bytes x.observed) (sym (ap₂ execution c.in_ok-after.ensures c.directive.ensures.whole)) ∙ seen.bytes
