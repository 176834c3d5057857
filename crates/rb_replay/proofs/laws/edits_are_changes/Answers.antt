use Rattle.std.proofs.lemmas.Option.{IfSome_then}
use Rattle.rb_replay.specs.Reuse.{change_of}
use Rattle.rb_replay.proofs.ChangeLaws.{edit-change}
use Rattle.rb_replay.proofs.laws.edits_are_changes.Goals as goal

pub returns-clause-change : goal.returns-clause-change
returns-clause-change c = λ h edit new fresh e. IfSome_then (change_of h new edit) (edit-change h edit new fresh e) (λ x made. made.is)

pub returns-clause-one : goal.returns-clause-one
returns-clause-one c = λ h edit new fresh e. IfSome_then (change_of h new edit) (edit-change h edit new fresh e) (λ x made. made.one)
