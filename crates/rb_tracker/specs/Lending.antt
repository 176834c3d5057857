-- A view on loan
use Rattle.std.specs.Prelude.{ℕ}
use Rattle.std.specs.Borrow.{Lends, MutBor, Fml}
use Rattle.rb_tracker.specs.Trackers.{PlainTracker, with_view}
use Rattle.rb_tracker.specs.Progresses.{PlainProgress}
use Rattle.rb_tracker.specs.contracts.tracker.Tracker as tracker
use Rattle.rb_tracker.specs.contracts.progress.Progress as progress

-- the tracker ends with the last view written through the loan
abbrev pub LendsView : MutBor PlainTracker → ℕ → MutBor PlainProgress → Fml
LendsView t i view = Lends tracker.the_row progress.the_row t view (with_view t.now i)
