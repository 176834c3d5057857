use Rattle.std.proofs.Common.{◌≡◌, ◌++◌, ◌∷◌, [], ◌<◌, ◌-◌, length, arith, subst, sym, refl, length-append}
use Rattle.circular_buffer.specs.Buffer.{keep_last}
use Rattle.rb_tracker.specs.Sets.{AreBelow}
use Rattle.rb_tracker.specs.Windows.{PlainWindow}
use Rattle.rb_tracker.proofs.WindowLaws.{ascending_push}
use Rattle.rb_tracker.proofs.window.Window.push.Goals as goal

pub invariant_of-self : goal.invariant_of-self
invariant_of-self c =
    let items = c.self.inside.ring.items in
    let capacity = c.self.inside.ring.capacity in
    let index = c.args.index in
    let room : length items < capacity = subst (λ (w : PlainWindow). length w.in_flight < w.capacity) (sym c.self.view_is) c.requires.room in
    let above : AreBelow index items = subst (λ (w : PlainWindow). AreBelow index w.in_flight) (sym c.self.view_is) c.requires.above in
    let none : length (items ++ index ∷ []) - capacity ≡ 0 = omega (arith, length-append items (index ∷ [])) in
    let kept : keep_last capacity (items ++ index ∷ []) ≡ items ++ index ∷ [] = rw none refl in
    rw (c.push_back.ensures.items, kept) record {
      within = omega (arith, length-append items (index ∷ []));
      ascending = ascending_push items index c.self.invariant.ascending above;
    }
