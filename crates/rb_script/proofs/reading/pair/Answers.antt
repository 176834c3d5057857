use Rattle.std.proofs.Common.{◌≡◌, ◌&&◌, false, ℕ, ◌+◌, drop, sym, ap, ◌∙◌, arith}
use Rattle.std.proofs.lemmas.Bool.{and_left, and_right}
use Rattle.std.proofs.lemmas.List.{drop_all, drop-drop}
use Rattle.rb_script.specs.Flat.{between}
use Rattle.rb_script.specs.Marks.{is_rule}
use Rattle.rb_script.specs.Reads.{begins_rule}
use Rattle.rb_script.proofs.BetweenLaws.{between_more}
use Rattle.rb_script.proofs.ListLaws.{drop_there}
use Rattle.rb_script.proofs.ReadingLaws.{pair_more, pair_found, pair_end}
use Rattle.rb_script.proofs.reading.pair.Goals as goal
use Rattle.rb_script.proofs.reading.pair.Goals.{then-is_rule+in_default, else-is_rule}

pub loop-at-preserved : goal.loop-at-preserved
loop-at-preserved c =
    let all = c.args.all.now in
    let start = c.args.start in
    let at = c.loop-at.at in
    let line = c.line.result.now in
    let after = drop (at + 1) all in
    let no_pair : (is_rule line && begins_rule after) ≡ false = elim c.if-is_rule.branch [
      | then-is_rule+in_default w ↦ and_right (is_rule line) (begins_rule after) w.in_default.ensures.none
      | else-is_rule w ↦ and_left (is_rule line) (begins_rule after) (sym c.is_rule.ensures ∙ w.if-is_rule.false)
    ] in
    record {
      order = omega (arith, c.loop-at.invariant.order);
      within = omega arith;
      found = pair_more (drop at all) after line (drop_there all at line c.line.ensures) (between start at all) (between start (at + 1) all) _ no_pair (between_more start at all line c.loop-at.invariant.order c.line.ensures) c.loop-at.invariant.found;
    }

pub returns-in-Some-clause-found : goal.returns-in-Some-clause-found
returns-in-Some-clause-found c =
    let all = c.args.all.now in
    let start = c.args.start in
    let at = c.loop-at.at in
    let line = c.line.result.now in
    pair_found (drop at all) (drop (at + 1) all) line (drop_there all at line c.line.ensures) (between start at all) (drop c.in-Some.after all) _ (sym c.is_rule.ensures ∙ c.if-is_rule.true) c.in-Some.ensures.found.0
    (ap (λ (n : ℕ). drop n all) c.in-Some.ensures.found.1 ∙ sym (drop-drop 1 (at + 1) all)) c.loop-at.invariant.found

pub returns-clause-found : goal.returns-clause-found
returns-clause-found c =
    let all = c.args.all.now in
    let at = c.loop-at.at in
    pair_end (drop at all) (between c.args.start at all) _ (drop_all at all (omega arith)) c.loop-at.invariant.found
