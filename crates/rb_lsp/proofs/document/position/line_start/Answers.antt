use Rattle.std.proofs.Common.{◌≡◌, suc, ◌-◌, ◌<◌, arith, sym, ap, ◌∙◌, ◌+◌, ℕ, length, drop, length-drop}
use Rattle.std.proofs.lemmas.List.{take_rest}
use Rattle.rb_lsp.specs.Places.{line_start}
use Rattle.rb_lsp.proofs.PlaceLaws.{first_line, line_past, line_ended, line_going, line_skipped}
use Rattle.rb_lsp.proofs.document.position.line_start.Goals as goal
use Rattle.rb_lsp.proofs.document.position.line_start.Goals.{then-ends_line, else-ends_line}

pub loop-left-preserved : goal.loop-left-preserved
loop-left-preserved c =
    let is : c.loop-left.left ≡ suc (c.loop-left.left - 1) = omega arith in
    let end = c.loop-left.at + c.line_len.result in
    let within = rw take_rest at c.line_len.ensures.within in
    let inside : end < length c.args.text.now = omega (arith, within, length-drop c.loop-left.at c.args.text.now) in
    let passed = line_skipped c.loop-left.left c.loop-left.at c.line_len.result c.args.text.now c.loop-left-test.true within (rw take_rest at c.line_len.ensures.before) in
    record {
      within = omega (arith, inside);
      value = elim c.if-ends_line.branch [
        | then-ends_line w ↦ omega (arith, c.loop-left.invariant.value, passed, ap (λ (m : ℕ). line_start m (drop (end + 1) c.args.text.now)) w.left-is, line_ended c.loop-left.left (c.loop-left.left - 1) end c.args.text.now inside is (rw take_rest at (sym c.ends_line.ensures ∙ w.if-ends_line.true)))
        | else-ends_line w ↦ omega (arith, c.loop-left.invariant.value, passed, ap (λ (m : ℕ). line_start m (drop (end + 1) c.args.text.now)) w.left-is, line_going c.loop-left.left (c.loop-left.left - 1) end c.args.text.now inside is (rw take_rest at (sym c.ends_line.ensures ∙ w.if-ends_line.false)))
      ];
    }

pub returns-then-end-text-clause-value : goal.returns-then-end-text-clause-value
returns-then-end-text-clause-value c =
    let within = rw take_rest at c.line_len.ensures.within in
    omega (
      arith,
      c.loop-left.invariant.value,
      line_skipped c.loop-left.left c.loop-left.at c.line_len.result c.args.text.now c.loop-left-test.true within (rw take_rest at c.line_len.ensures.before),
      line_past c.loop-left.left (c.loop-left.at + c.line_len.result) c.args.text.now (omega arith),
    )

pub returns-else-at-text-clause-value : goal.returns-else-at-text-clause-value
returns-else-at-text-clause-value c = omega (arith, c.loop-left.invariant.value, line_past c.loop-left.left c.loop-left.at c.args.text.now (omega arith))

pub returns-after-loop-left-clause-value : goal.returns-after-loop-left-clause-value
returns-after-loop-left-clause-value c =
    let none : c.loop-left.left ≡ 0 = omega arith in
    omega (arith, c.loop-left.invariant.value, ap (λ (n : ℕ). line_start n (drop c.loop-left.at c.args.text.now)) none, first_line (drop c.loop-left.at c.args.text.now))
