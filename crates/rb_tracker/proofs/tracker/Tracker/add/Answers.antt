use Rattle.std.proofs.Common.{◌∙◌, ap, ◌≡◌, refl}
use Rattle.std.specs.List.{insert}
use Rattle.std.specs.Map.{keys_of}
use Rattle.rb_tracker.specs.Sets.{rank}
use Rattle.rb_tracker.specs.Trackers.{PlainTracker}
use Rattle.rb_tracker.proofs.ViewLaws.{put_new}
use Rattle.rb_tracker.proofs.tracker.Tracker.add.Goals as goal

pub returns : goal.returns
returns c =
    let t = c.args.self.now in
    let put = put_new t.views c.args.id c.args.view c.rank-place.result c.requires c.rank-place.ensures.within in
    let held = ap (λ (u : PlainTracker). u.views) c.self.view_is in
    let config = ap (λ (u : PlainTracker). u.config) c.self.view_is in
    let views : c.move_index.new.self.entries ≡ insert t.views (rank (keys_of t.views) c.args.id) (c.args.id, c.args.view) =
    c.move_index.ensures.entries ∙ rw (c.in_ok-insert.ensures.entries, c.len-last.ensures.len, held, ← c.rank-place.ensures.rank) put in
    rw (views, config) refl
