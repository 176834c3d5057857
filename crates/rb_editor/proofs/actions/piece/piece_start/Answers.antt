use Rattle.std.proofs.Common.{◌∙◌, ℕ, ◌+◌, ◌≤◌, Bool, true, false, drop, get_or, length, ap, sym, arith}
use Rattle.std.specs.Prelude.{if◌then◌else◌}
use Rattle.rb_editor.specs.Selections.{inside_after, piece_start}
use Rattle.rb_editor.proofs.SelectionLaws.{start_all, start_more}
use Rattle.rb_editor.proofs.actions.piece.piece_start.Goals as goal

either_within : (is : Bool) (next start most : ℕ) → next ≤ most → start ≤ most → (if is then next else start) ≤ most
either_within true next start most one other = one
either_within false next start most one other = other

pub loop-at-preserved : goal.loop-at-preserved
loop-at-preserved c =
    let bytes = c.args.bytes.now in
    let i = c.loop-at.at in
    let is = c.next_start-start.ensures in
    record {
      same = ap (λ (t : Bool). piece_start c.args.kind c.next_start-start.result (i + 1) t (drop (i + 1) bytes)) c.inside_after-inside.ensures
          ∙ ap (λ (n : ℕ). piece_start c.args.kind n (i + 1) (inside_after c.loop-at.inside (get_or bytes i 0)) (drop (i + 1) bytes)) (is ∙ ap (λ (t : Bool). if t then i + 1 else c.loop-at.start) c.ends.ensures)
          ∙ start_more c.args.kind c.loop-at.start c.loop-at.inside bytes i 0 c.loop-at-test.true
          ∙ c.loop-at.invariant.same;
      within = omega (arith, is, either_within c.ends.result (i + 1) c.loop-at.start (length bytes) (omega (arith, c.loop-at-test.true)) c.loop-at.invariant.within);
    }

pub returns-clause-value : goal.returns-clause-value
returns-clause-value c = sym (start_all c.args.kind c.loop-at.start c.loop-at.inside c.args.bytes.now c.loop-at.at c.loop-at-test.false) ∙ c.loop-at.invariant.same
