use Rattle.std.proofs.Common.{◌≡◌, ◌||◌, ℕ, ◌∷◌, [], false, true, refl, sym, ap, subst, ◌∙◌, arith, not}
use Rattle.std.specs.List.{list_all}
use Rattle.std.proofs.lemmas.Bool.{and_from}
use Rattle.std.proofs.lemmas.List.{drop_all}
use Rattle.std.proofs.lemmas.List.Folds.{list_all-append}
use Rattle.std.proofs.lemmas.List.Recursion.{or_push}
use Rattle.rb_script.specs.Lines.{Line}
use Rattle.rb_script.specs.Flat.{between}
use Rattle.rb_script.specs.Found.{RunsTo}
use Rattle.rb_script.specs.Marks.{is_blank, is_plain, is_rule}
use Rattle.rb_script.specs.Script.{needs_double}
use Rattle.rb_script.proofs.ListLaws.{drop_there}
use Rattle.rb_script.proofs.RunLaws.{begins_by}
use Rattle.rb_script.proofs.BetweenLaws.{between_more}
use Rattle.rb_script.proofs.ReadingLaws.{run_stops}
use Rattle.rb_script.proofs.reading.plain_run.Goals as goal

pub loop-at-preserved : goal.loop-at-preserved
loop-at-preserved c =
    let start = c.args.start in
    let at = c.loop-at.at in
    let all = c.args.all.now in
    let line = c.line-line.result.now in
    let so_far = between start at all in
    let more = between_more start at all line c.loop-at.invariant.order c.line-line.ensures in
    let no_blank : is_blank line ≡ false = sym c.is_blank.ensures ∙ c.if-is_blank.false in
    record {
      order = omega (arith, c.loop-at.invariant.order);
      within = omega arith;
      passes = ap (list_all is_plain) more ∙ list_all-append is_plain so_far (line ∷ [])
          ∙ and_from (list_all is_plain so_far) (list_all is_plain (line ∷ [])) c.loop-at.invariant.passes (and_from (is_plain line) true (ap not no_blank) refl);
      form = ap (λ t. t || c.is_rule-is_double.result) c.loop-at.invariant.form
          ∙ ap (λ t. needs_double so_far || t) (c.is_rule-is_double.ensures ∙ sym (ap (λ t. t || is_rule line) no_blank))
          ∙ sym (ap needs_double more ∙ or_push needs_double (λ (l : Line). is_blank l || is_rule l) refl (λ l ls. refl) so_far line);
    }

pub returns-then-is_blank-clause-run : goal.returns-then-is_blank-clause-run
returns-then-is_blank-clause-run c =
    let all = c.args.all.now in
    let at = c.loop-at.at in
    let stops = ap (begins_by is_plain) (drop_there all at c.line-line.result.now c.line-line.ensures) ∙ ap not (sym c.is_blank.ensures ∙ c.if-is_blank.true) in
    run_stops is_plain all c.args.start at c.loop-at.invariant.order c.loop-at.invariant.within c.loop-at.invariant.passes stops

pub returns-clause-run : goal.returns-clause-run
returns-clause-run c =
    let all = c.args.all.now in
    let at = c.loop-at.at in
    let same : at ≡ c.len.result = omega (arith, c.len.ensures, c.loop-at.invariant.within) in
    subst (λ (n : ℕ). RunsTo is_plain all c.args.start n) same
    (run_stops is_plain all c.args.start at c.loop-at.invariant.order c.loop-at.invariant.within c.loop-at.invariant.passes (ap (begins_by is_plain) (drop_all at all (omega arith))))
