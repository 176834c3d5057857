use Rattle.std.proofs.Common.{◌≡◌, ◌+◌, ◌≤◌, ◌∙◌, ap, ℕ, take, drop}
use Rattle.std.specs.Prelude.{filter, nat_lt, nat_le}
use Rattle.rb_replay.specs.Holding.{Holding}
use Rattle.rb_replay.specs.Reuse.{change_by}
use Rattle.rb_replay.specs.Splices.{IsNext}
use Rattle.rb_replay.proofs.ReadyLaws.{bounds-order, kept-rising}
use Rattle.rb_replay.proofs.NextLaws.{next-order}
use Rattle.rb_replay.proofs.session.Session.rejoin.Goals as goal

pub count_below-requires : goal.count_below-requires
count_below-requires g c = rw c.deref.ensures.value (kept-rising c.self.inside.checkpoint_interval _ c.self.inside.points.items c.self.invariant.near)

pub count_below-requires-2 : goal.count_below-requires-2
count_below-requires-2 g c = rw c.deref-2.ensures.value (kept-rising c.self.inside.checkpoint_interval _ c.self.inside.points.items c.self.invariant.near)

pub returns : goal.returns
returns g c =
    let placed : c.deref.result.now ≡ c.args.self.now.points = c.deref.ensures.value ∙ ap (λ (h : Holding). h.points) c.self.view_is in
    let placed-2 : c.deref-2.result.now ≡ c.args.self.now.points = c.deref-2.ensures.value ∙ ap (λ (h : Holding). h.points) c.self.view_is in
    let one : IsNext c.args.self.now.points c.bounds-bounds.result.front c.count_below.result = rw placed at c.count_below.ensures.next in
    let two : IsNext c.args.self.now.points (c.bounds-bounds.result.old_stop + 1) c.count_below-2.result = rw placed-2 at c.count_below-2.ensures.next in
    let fronts : take c.count_below.result c.args.self.now.points ≡ filter (λ p. nat_lt p c.bounds-bounds.result.front) c.args.self.now.points = rw placed at c.count_below.ensures.front in
    let rests : drop c.count_below-2.result c.args.self.now.points ≡ filter (λ p. nat_le (c.bounds-bounds.result.old_stop + 1) p) c.args.self.now.points = rw placed-2 at c.count_below-2.ensures.rest in
    let order : c.bounds-bounds.result.front ≤ c.bounds-bounds.result.old_stop + 1 =
    rw (c.bounds-bounds.ensures.front, c.bounds-bounds.ensures.old_stop) (bounds-order (change_by c.args.self.now c.args.new.now c.args.splice) c.args.run.now.met c.requires.change c.requires.run.is_first) in
    record {
      old_stop_is = c.bounds-bounds.ensures.old_stop;
      fronts = fronts ∙ ap (λ (b : ℕ). filter (λ p. nat_lt p b) c.args.self.now.points) c.bounds-bounds.ensures.front;
      rests = rests ∙ ap (λ (b : ℕ). filter (λ p. nat_le (b + 1) p) c.args.self.now.points) c.bounds-bounds.ensures.old_stop;
      order = next-order c.args.self.now.points c.bounds-bounds.result.front (c.bounds-bounds.result.old_stop + 1) c.count_below.result c.count_below-2.result order one two;
      within = two.within;
    }
