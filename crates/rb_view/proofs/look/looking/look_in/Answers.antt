use Rattle.std.proofs.Common.{◌≡◌, ◌++◌, ◌∙◌, ap, ℕ, List, min, length}
use Rattle.std.specs.Prelude.{codes}
use Rattle.rb_script.specs.Lines.{Line}
use Rattle.rb_view.specs.Looks.{asked, of_nodes, section, all_dropped}
use Rattle.rb_view.specs.declared.look.looking.TheConstants.{MOST_NODES}
use Rattle.rb_view.proofs.LookLaws.{three_parts}
use Rattle.rb_view.proofs.look.looking.look_in.Goals as goal

pub returns : goal.returns
returns g c =
    let m = g.M.Machine.meaning c.args.machine.now in
    let count : c.min-count.result ≡ min (length m.nodes) MOST_NODES = c.min-count.ensures ∙ ap (λ (n : ℕ). min n MOST_NODES) c.count.ensures in
    three_parts (asked m (codes "raft-state")) (of_nodes m 1 (min (length m.nodes) MOST_NODES)) (section m (codes "on their way") all_dropped (codes "drop "))
    c.add_answer.new.lines c.add_nodes.new.lines c.add_in_flight.new.lines
    (c.in_ok-add_answer.ensures.added ∙ ap (λ (ls : List Line). ls ++ asked m (codes "raft-state")) c.new-lines.ensures)
    (c.in_ok-add_nodes.ensures.added ∙ ap (λ (n : ℕ). c.add_answer.new.lines ++ of_nodes m 1 n) count)
    c.in_ok-add_in_flight.ensures
