use Rattle.rb_view.proofs.CommittedLaws.{begin_sound}
use Rattle.rb_view.proofs.GoneOnLaws.{are_kept, stay_sound}
use Rattle.rb_view.proofs.steps.laws.committed_entries_stay.Goals as goal

pub returns-clause-begun : goal.returns-clause-begun
returns-clause-begun c = begin_sound

pub returns-clause-sound : goal.returns-clause-sound
returns-clause-sound c = stay_sound

pub returns-clause-kept : goal.returns-clause-kept
returns-clause-kept c = are_kept
