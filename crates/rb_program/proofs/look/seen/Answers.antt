use Rattle.std.proofs.Common.{◌≡◌, ◌-◌, ℕ, List, Some, subst, sym, arith}
use Rattle.std.specs.Prelude.{slice_get}
use Rattle.std.specs.List.Sorted.{IsNonDecreasing}
use Rattle.rb_check.specs.Place.{ArePartedAt}
use Rattle.rb_program.proofs.LookLaws.{in_order, within}
use Rattle.rb_program.proofs.look.seen.Goals as goal

pub look-requires-clause-there : goal.look-requires-clause-there
look-requires-clause-there c =
    let at = subst (λ (heads : List ℕ). slice_get heads (c.in-Some.place - 1) ≡ Some c.in-Some.head) c.as_slice-heads.ensures.value c.in-Some.ensures.head.1 in
    within _ _ _ c.in-Some.place c.in-Some.head c.requires.heads c.in-Some.ensures.head.0 at

pub look-requires-clause-few : goal.look-requires-clause-few
look-requires-clause-few c =
    let at = subst (λ (heads : List ℕ). slice_get heads (c.in-Some.place - 1) ≡ Some c.in-Some.head) c.as_slice-heads.ensures.value c.in-Some.ensures.head.1 in
    let inside = within _ _ _ c.in-Some.place c.in-Some.head c.requires.heads c.in-Some.ensures.head.0 at in
    omega (arith, inside, c.requires.few)

pub returns : goal.returns
returns c =
    let same = c.as_slice-heads.ensures.value in
    let at = subst (λ (heads : List ℕ). slice_get heads (c.in-Some.place - 1) ≡ Some c.in-Some.head) same c.in-Some.ensures.head.1 in
    let order = subst (λ (heads : List ℕ). IsNonDecreasing heads) (sym same) (in_order _ _ _ c.requires.heads) in (
      record {
        from_1 = c.in-Some.ensures.head.0;
        last = subst (λ (heads : List ℕ). ArePartedAt heads c.args.line c.in-Some.place) same (c.in-Some.ensures.last order);
        head_is = at;
        lines_are = c.in_ok-lines.ensures;
      },
      within _ _ _ c.in-Some.place c.in-Some.head c.requires.heads c.in-Some.ensures.head.0 at,
    )

pub returns-in_default : goal.returns-in_default
returns-in_default c =
    let same = c.as_slice-heads.ensures.value in
    let order = subst (λ (heads : List ℕ). IsNonDecreasing heads) (sym same) (in_order _ _ _ c.requires.heads) in
    subst (λ (heads : List ℕ). ArePartedAt heads c.args.line 0) same (c.in_default.ensures.last order)
