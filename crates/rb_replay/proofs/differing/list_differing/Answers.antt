use Rattle.std.proofs.Common.{◌≡◌, ◌+◌, ◌-◌, ◌++◌, ◌∷◌, [], drop, take, arith, ap, ap₂, sym, ◌∙◌, append_assoc, append-nil, ℕ, List}
use Rattle.std.proofs.lemmas.Grind.{common_steps}
use Rattle.rb_replay.specs.Report.{differing, same_lines}
use Rattle.rb_replay.proofs.DifferingLaws.{differing_same, differing_other, differing_none}
use Rattle.rb_replay.proofs.differing.list_differing.Goals as goal
use Rattle.rb_replay.proofs.differing.list_differing.Goals.{then-not-is_same+in_ok-push, else-not-is_same}

pub loop-i-preserved : goal.loop-i-preserved
loop-i-preserved c =
    let bs = c.args.script.now.blocks in
    let os = c.args.outputs.now in
    let b = c.block_at-block.result.now in
    let o = c.at-output.result.now.value in
    let rest = differing (c.loop-i.i + 1 + 1) (drop (c.loop-i.i + 1) bs) (take (c.args.to - (c.loop-i.i + 1)) (drop (c.loop-i.i + 1) os)) in
    let tested : same_lines c.block_at-block.result.now.expected c.at-output.result.now.value ≡ c.is_same.result = ap₂ same_lines (sym c.expected.ensures) (sym c.deref.ensures) ∙ sym c.is_same.ensures in
    elim c.if-not-is_same.branch [
      | then-not-is_same+in_ok-push w ↦
          let grown : w.push.new.self.items ≡ c.loop-i.places.items ++ (c.loop-i.i + 1) ∷ [] = grind (arith, common_steps) in
          let step = differing_other c.args.to c.loop-i.i bs os b o c.loop-i-test.true c.block_at-block.ensures c.at-output.ensures (tested ∙ w.if-not-is_same.true) in
          rw w.places-is
          (ap (λ (xs : List ℕ). xs ++ rest) grown ∙ append_assoc c.loop-i.places.items ((c.loop-i.i + 1) ∷ []) rest
          ∙ sym (ap (λ (xs : List ℕ). c.loop-i.places.items ++ xs) step) ∙ c.loop-i.invariant)
      | else-not-is_same w ↦
          let step = differing_same c.args.to c.loop-i.i bs os b o c.loop-i-test.true c.block_at-block.ensures c.at-output.ensures (tested ∙ w.if-not-is_same.false) in
          rw w.places-is (sym (ap (λ (xs : List ℕ). c.loop-i.places.items ++ xs) step) ∙ c.loop-i.invariant)
    ]

pub returns : goal.returns
returns c =
    let bs = drop c.loop-i.i c.args.script.now.blocks in
    let none : c.args.to - c.loop-i.i ≡ 0 = omega (arith, c.loop-i-test.false) in
    let last = ap (λ (n : ℕ). differing (c.loop-i.i + 1) bs (take n (drop c.loop-i.i c.args.outputs.now))) none ∙ differing_none (c.loop-i.i + 1) bs in
    sym (append-nil c.loop-i.places.items) ∙ sym (ap (λ (ps : List ℕ). c.loop-i.places.items ++ ps) last) ∙ c.loop-i.invariant
