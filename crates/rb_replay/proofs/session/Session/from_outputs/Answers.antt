use Rattle.std.proofs.Common.{◌∷◌, [], ◌++◌, ◌∙◌, ℕ, List, length, arith, ap}
use Rattle.rb_replay.proofs.RunLaws.{length-outputs}
use Rattle.rb_replay.proofs.DifferingLaws.{differing-all}
use Rattle.rb_replay.proofs.FreshLaws.{fresh-outputs}
use Rattle.rb_replay.proofs.session.Session.from_outputs.Goals as goal

pub list_differing-requires-clause-there : goal.list_differing-requires-clause-there
list_differing-requires-clause-there g c =
    omega (arith, c.len.ensures, ap length (c.in_ok-outputs.ensures ∙ c.requires.outputs), length-outputs c.args.script)

pub invariant_of-result : goal.invariant_of-result
invariant_of-result g c =
    let s = c.args.script in
    let m = c.in_ok-empty.field-0 in
    let answered = c.in_ok-outputs.ensures ∙ c.requires.outputs in
    fresh-outputs g.M.Machine.meaning s c.in_ok-outputs.outputs c.in_ok-mismatches.mismatches.items c.push.new.self.items c.push-2.new.self.items m c.requires.few answered
    (c.in_ok-mismatches.ensures ∙ differing-all s c.in_ok-outputs.outputs c.len.result answered c.len.ensures)
    (c.in_ok-push.ensures.items ∙ ap (λ (ps : List ℕ). ps ++ 0 ∷ []) c.new-points.ensures.items) (c.in_ok-push-2.ensures.items ∙ ap (λ (ms : List _). ms ++ m ∷ []) c.new-kept.ensures.items) c.in_ok-empty.ensures

pub returns-clause-run : goal.returns-clause-run
returns-clause-run g c = invariant_of-result g c
