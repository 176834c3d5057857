use Rattle.std.proofs.Common.{◌≡◌, ℕ, ◌∷◌, [], true, refl, sym, ap, subst, ◌∙◌, arith}
use Rattle.std.specs.List.{list_all}
use Rattle.std.proofs.lemmas.Bool.{and_from}
use Rattle.std.proofs.lemmas.List.{drop_all}
use Rattle.std.proofs.lemmas.List.Folds.{list_all-append}
use Rattle.rb_script.specs.Flat.{between}
use Rattle.rb_script.specs.Marks.{in_run}
use Rattle.rb_script.specs.Found.{RunsTo}
use Rattle.rb_script.proofs.ListLaws.{drop_there}
use Rattle.rb_script.proofs.RunLaws.{begins_by}
use Rattle.rb_script.proofs.BetweenLaws.{between_more}
use Rattle.rb_script.proofs.ReadingLaws.{run_stops}
use Rattle.rb_script.proofs.reading.run.Goals as goal

pub loop-at-preserved : goal.loop-at-preserved
loop-at-preserved c =
    let p = in_run c.args.kind in
    let start = c.args.start in
    let at = c.loop-at.at in
    let line = c.line.result.now in
    let so_far = between start at c.args.all.now in
    record {
      order = omega (arith, c.loop-at.invariant.order);
      within = omega arith;
      passes = ap (list_all p) (between_more start at c.args.all.now line c.loop-at.invariant.order c.line.ensures) ∙ list_all-append p so_far (line ∷ [])
          ∙ and_from (list_all p so_far) (list_all p (line ∷ [])) c.loop-at.invariant.passes (and_from (p line) true (sym c.has.ensures ∙ c.if-not-has.false) refl);
    }

pub returns-then-not-has : goal.returns-then-not-has
returns-then-not-has c =
    let p = in_run c.args.kind in
    let all = c.args.all.now in
    let at = c.loop-at.at in
    let stops = ap (begins_by p) (drop_there all at c.line.result.now c.line.ensures) ∙ sym c.has.ensures ∙ c.if-not-has.true in
    run_stops p all c.args.start at c.loop-at.invariant.order c.loop-at.invariant.within c.loop-at.invariant.passes stops

pub returns : goal.returns
returns c =
    let p = in_run c.args.kind in
    let all = c.args.all.now in
    let at = c.loop-at.at in
    let same : at ≡ c.len.result = omega (arith, c.len.ensures, c.loop-at.invariant.within) in
    subst (λ (n : ℕ). RunsTo p all c.args.start n) same
    (run_stops p all c.args.start at c.loop-at.invariant.order c.loop-at.invariant.within c.loop-at.invariant.passes (ap (begins_by p) (drop_all at all (omega arith))))
