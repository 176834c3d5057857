use Rattle.std.proofs.Common.{rules, of_calls, arith, ◌≤◌, ◌-◌, subst}
use lib.Dec.{leb}
use Rattle.std.proofs.lemmas.Option.{slice_get-get_or}
use Rattle.std.proofs.lemmas.List.Sorted.{IsPartitionedBy-leb, IsPartitionPoint-from_clause}
use Rattle.rb_check.specs.Place.{ArePartedAt}
use Rattle.rb_check.proofs.PlaceLaws.{parted_at}
use Rattle.rb_check.proofs.place.place_at.Goals as goal

pub returns-then-place-eq0-clause-last : goal.returns-then-place-eq0-clause-last
returns-then-place-eq0-clause-last c = λ rises.
    let heads = c.args.heads.now in
    let line = c.args.line in
    let found = c.partition_point-place in
    subst (λ place. ArePartedAt heads line place) c.if-place-eq0.true
    (parted_at heads line found.result
    (IsPartitionPoint-from_clause (λ head. leb head line) heads found.result found.ensures.partitioned (IsPartitionedBy-leb (λ head. head) heads line rises) (λ a r f k. search (rules, of_calls))))

pub returns-clause-head : goal.returns-clause-head
returns-clause-head c =
    let here : 1 ≤ c.partition_point-place.result = omega arith in
    (here, slice_get-get_or c.args.heads.now (c.partition_point-place.result - 1) 0 (omega arith))

pub returns-clause-last : goal.returns-clause-last
returns-clause-last c = λ rises.
    let heads = c.args.heads.now in
    let line = c.args.line in
    let found = c.partition_point-place in
    parted_at heads line found.result
    (IsPartitionPoint-from_clause (λ head. leb head line) heads found.result found.ensures.partitioned (IsPartitionedBy-leb (λ head. head) heads line rises) (λ a r f k. search (rules, of_calls)))
