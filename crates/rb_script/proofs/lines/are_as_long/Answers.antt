use Rattle.std.proofs.Common.{◌-◌, ◌<◌, length, get_or, arith, ap, sym, ◌∙◌}
use Rattle.std.proofs.lemmas.List.{length-map, get_or-map, take_more_same}
use Rattle.rb_script.specs.Flat.{from_start}
use Rattle.rb_script.proofs.lines.are_as_long.Goals as goal

pub loop-i-preserved : goal.loop-i-preserved
loop-i-preserved c =
    let ends = c.args.ends.now in
    let others = c.args.others.now in
    let i = c.loop-i.i in
    let one : i < length (from_start c.args.start ends) = omega (arith, c.loop-i-test.true, length-map ends (λ e. e - c.args.start)) in
    let there : i < length others = omega (arith, c.loop-i-test.true, c.if-ends-others.false) in
    let two : i < length (from_start c.args.other_start others) = omega (arith, there, length-map others (λ e. e - c.args.other_start)) in
    take_more_same (from_start c.args.start ends) (from_start c.args.other_start others) i 0 one two c.loop-i.invariant
    (get_or-map (λ e. e - c.args.start) ends i 0 0 c.loop-i-test.true ∙ sym c.saturating_sub.ensures ∙ c.if-saturating_sub.false ∙ c.saturating_sub-in-loop-i.ensures ∙ sym (get_or-map (λ e. e - c.args.other_start) others i 0 0 there))

pub returns-then-saturating_sub : goal.returns-then-saturating_sub
returns-then-saturating_sub c =
    let ends = c.args.ends.now in
    let others = c.args.others.now in
    let i = c.loop-i.i in
    let there : i < length others = omega (arith, c.loop-i-test.true, c.if-ends-others.false) in (
      λ t. absurd (cc),
      λ e. absurd (c.if-saturating_sub.true
          (c.saturating_sub.ensures ∙ sym (get_or-map (λ e. e - c.args.start) ends i 0 0 c.loop-i-test.true) ∙ ap (λ l. get_or l i 0) e ∙ get_or-map (λ e. e - c.args.other_start) others i 0 0 there ∙ sym c.saturating_sub-in-loop-i.ensures)),
    )
