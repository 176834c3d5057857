use Rattle.std.proofs.Common.{◌∙◌, ap, ◌≡◌, length, map}
use Rattle.std.specs.List.Sorted.{IsPermutation}
use Rattle.std.proofs.lemmas.List.Sorted.{IsNonDecreasingBy-from_sort}
use Rattle.std.proofs.lemmas.List.{take_all}
use Rattle.rb_tracker.specs.Commits.{match_of}
use Rattle.rb_tracker.proofs.CommitLaws.{held_by_majority_is, refill_whole}
use Rattle.rb_tracker.proofs.tracker.Tracker.held_by_majority.Goals as goal

pub returns : goal.returns
returns c =
    let matches = c.loop-id.matches.items in
    let ranked = c.sort_unstable.new.self in
    let views = c.args.self.now.views in
    let voters = c.args.voters.now in
    let same_length : length ranked ≡ length matches = c.sort_unstable.ensures.len ∙ ap length c.as_mut_slice.ensures.value in
    let whole = refill_whole matches ranked same_length in
    let all : matches ≡ map (match_of views) voters = c.loop-id.invariant ∙ ap (map (match_of views)) (take_all _ voters (rw (← c.as_slice-id-items.ensures.ids) c.loop-id-test.false)) in
    let same : IsPermutation (map (match_of views) voters) ranked = rw (← all, ← c.as_mut_slice.ensures.value) c.sort_unstable.ensures.permutation in
    let sorted = IsNonDecreasingBy-from_sort (λ x. x) ranked c.sort_unstable.ensures.sorted in
    let is = held_by_majority_is views voters ranked c.requires same sorted in
    rw (c.as_slice.ensures ∙ whole, c.len.ensures.value ∙ ap length whole) is
