use Rattle.std.proofs.Common.{◌≡◌, take, map}
use Rattle.rb_tracker.specs.Commits.{match_of}
use Rattle.rb_tracker.proofs.tracker.Tracker.held_by_majority.Given as goal

abbrev pub invariant-loop-id : goal.invariant-loop-id
invariant-loop-id l = l.matches.items ≡ map (match_of l.self.views) (take l.id-index l.voters)
