use Rattle.std.proofs.Common.{◌≡◌, List, Result, Ok, Err, subst}
use Rattle.std.specs.Prelude.{IfOk, OnOk}
use Rattle.rb_script.specs.Lines.{Line}
use Rattle.rb_script.specs.Tokens.{plain}
use Rattle.rb_machine.specs.Outcome.{execution}
use Rattle.rb_cluster.proofs.PrintLaws.{printed_is}
use Rattle.rb_editor.specs.declared.actions.bounded.CountedLines.{CountedLines}
use Rattle.rb_editor.proofs.WorkLaws.{counted_by, printed_by}
use Rattle.rb_editor.proofs.actions.bounded.BoundedCluster.printed.Goals as goal

-- what is known of a call that went well
on_ok : {X E : Type 0} (r : Result X E) (x : X) (P : Type 0) → r ≡ Ok x → OnOk r P → P
on_ok (Ok y) x P is h = h
on_ok (Err e) x P is h = absurd cc

always : {X E : Type 0} (r : Result X E) (P : Type 0) → P → OnOk r P
always (Ok y) P p = p
always (Err e) P p = tt

pub returns-clause-output : goal.returns-clause-output
returns-clause-output c =
    let e = execution c.args.self.now.cluster (plain c.args.directive.now) in
    let first : CountedLines = record { printed = c.new.result; work = c.begun.result; bound = c.bound.result } in
    let ran = on_ok c.run_watched-ran.result _ _ c.in_ok-ran.was c.run_watched-ran.ensures in
    subst (λ (ls : List Line). IfOk c.or_ok.result (λ lines. lines ≡ ls))
    (printed_is c.new.result c.run_watched-ran.new.observer.printed e c.new.ensures (printed_by first c.run_watched-ran.new.observer _ e ran)) c.or_ok.ensures

pub returns-clause-work : goal.returns-clause-work
returns-clause-work c =
    let e = execution c.args.self.now.cluster (plain c.args.directive.now) in
    let first : CountedLines = record { printed = c.new.result; work = c.begun.result; bound = c.bound.result } in
    let ran = on_ok c.run_watched-ran.result _ _ c.in_ok-ran.was c.run_watched-ran.ensures in
    always c.or_ok.result _ (counted_by (plain c.args.directive.now) c.args.self.now.work first c.run_watched-ran.new.observer _ e c.begun.ensures ran)
