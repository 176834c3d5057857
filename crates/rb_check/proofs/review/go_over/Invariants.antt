-- The questions so far are asked, as far as they are to be, and what is accepted so far is the review of them.
use Rattle.std.proofs.Common.{◌≡◌, ℕ, List, take}
use Rattle.rb_check.specs.Reviews.{Hears, review_so_far, reviewed_all}
use Rattle.rb_check.specs.Shown.{Prints}
use Rattle.rb_check.specs.Subjects.{plain_of}
use Rattle.rb_check.proofs.AskingLaws.{Gone}
use Rattle.rb_check.proofs.review.go_over.Given as goal

abbrev pub invariant-loop-i : goal.invariant-loop-i
invariant-loop-i g l =
    let left = g.P.Person.left in
    record {
      heard : Hears g.P.Person.is_known left l.fn.reviewer.person l.reviewer.person (review_so_far left l.reviewer ≡ reviewed_all (review_so_far left l.fn.reviewer) (take l.i l.questions));
      shown : (text : List ℕ) × Gone (plain_of l.subject) l.questions l.fn.reviewer.review l.reviewer.review l.i text × Prints g.W.Sink.held l.fn.report l.report text;
    }
