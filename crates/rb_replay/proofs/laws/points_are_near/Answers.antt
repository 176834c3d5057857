use Rattle.std.proofs.Common.{◌+◌, arith}
use Rattle.rb_replay.proofs.PointLaws.{kept-step, kept-last}
use Rattle.rb_replay.proofs.ReadyLaws.{kept-rising}
use Rattle.rb_replay.proofs.NextLaws.{rising-later}
use Rattle.rb_replay.proofs.laws.points_are_near.Goals as goal

pub returns-clause-ascending : goal.returns-clause-ascending
returns-clause-ascending c = λ K n points i kept lt. rising-later 0 i (i + 1) points (kept-rising K n points kept) (omega arith) lt

pub returns-clause-near : goal.returns-clause-near
returns-clause-near c = kept-step

pub returns-clause-last : goal.returns-clause-last
returns-clause-last c = λ K n points kept. (kept-last K n points kept).1

pub returns-clause-within : goal.returns-clause-within
returns-clause-within c = λ K n points kept. (kept-last K n points kept).0
