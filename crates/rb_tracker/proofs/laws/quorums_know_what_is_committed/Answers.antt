use Rattle.rb_tracker.specs.Commits.{holds, commit_of}
use Rattle.rb_tracker.proofs.CommitLaws.{commit_is_held}
use Rattle.rb_tracker.proofs.QuorumLaws.{quorums_meet}
use Rattle.rb_tracker.proofs.laws.quorums_know_what_is_committed.Goals as goal

pub returns : goal.returns
returns c = λ t p is. quorums_meet t.config p (λ id. holds t.views (commit_of t) id) is record { some = is.some; decides = commit_is_held t }
