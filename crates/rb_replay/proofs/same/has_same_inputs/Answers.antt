use Rattle.std.proofs.Common.{◌≡◌, ◌∙◌, ℕ, Bool, true, false, List, [], length, get_or, refl, sym, arith, below_more}
use Rattle.std.specs.Prelude.{not}
use Rattle.std.specs.Str.{bytes_eq}
use Rattle.std.proofs.lemmas.List.{ext_get_or}
use Rattle.std.proofs.lemmas.Option.{get_or_from_slice_get}
use Rattle.std.proofs.lemmas.Slice.Eq.{bytes_eq-Decides}
use Rattle.rb_replay.proofs.same.has_same_inputs.Goals as goal

-- what a test for a difference says that failed
not_other : (xs ys : List ℕ) (t : Bool) → t ≡ not (bytes_eq xs ys) → t ≡ false → xs ≡ ys
not_other xs ys t is failed = (bytes_eq-Decides xs ys).0 (yes (bytes_eq xs ys) (sym is ∙ failed))
  where
    yes : (b : Bool) → not b ≡ false → b ≡ true
    yes true e = refl
    yes false e = absurd cc

pub loop-i-preserved : goal.loop-i-preserved
loop-i-preserved c =
    let first : get_or c.args.a.now.inputs c.loop-i.i [] ≡ c.input.result.now = get_or_from_slice_get c.args.a.now.inputs c.loop-i.i c.input.result.now [] c.input.ensures in
    let second : get_or c.args.b.now.inputs c.loop-i.i [] ≡ c.input-in-loop-i.result.now = get_or_from_slice_get c.args.b.now.inputs c.loop-i.i c.input-in-loop-i.result.now [] c.input-in-loop-i.ensures in
    below_more (λ (k : ℕ). get_or c.args.a.now.inputs k [] ≡ get_or c.args.b.now.inputs k []) c.loop-i.i c.loop-i.invariant
    (first ∙ not_other c.input.result.now c.input-in-loop-i.result.now c.ne.result c.ne.ensures c.if-ne.false ∙ sym second)

pub returns : goal.returns
returns c =
    let long : length c.args.a.now.inputs ≡ length c.args.b.now.inputs = omega arith in
    (λ _. ext_get_or [] c.args.a.now.inputs c.args.b.now.inputs long (λ k lt. c.loop-i.invariant k (omega arith)), λ _. refl)
