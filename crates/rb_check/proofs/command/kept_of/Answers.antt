use Rattle.std.proofs.Common.{◌≡◌, ◌∙◌, Bool, true, false, ap, sym, length, arith}
use Rattle.std.specs.Prelude.{nat_le, if◌then◌else◌}
use Rattle.std.proofs.lemmas.Bool.{le-leb, lt-leb}
use Rattle.rb_check.specs.Commands.{last_end}
use Rattle.rb_check.proofs.command.kept_of.Goals as goal

pub returns-then-diff-le-MAX_DIFF-clause-same : goal.returns-then-diff-le-MAX_DIFF-clause-same
returns-then-diff-le-MAX_DIFF-clause-same c =
    let diff = c.args.diff.now in
    let few : nat_le (length diff) 4096 ≡ true = le-leb (length diff) 4096 (omega (arith, c.if-diff-le-MAX_DIFF.true)) in
    sym (ap (λ (t : Bool). if t then length diff else last_end diff 4096) few)

pub returns-else-diff-le-MAX_DIFF-clause-same : goal.returns-else-diff-le-MAX_DIFF-clause-same
returns-else-diff-le-MAX_DIFF-clause-same c =
    let diff = c.args.diff.now in
    let many : nat_le (length diff) 4096 ≡ false = lt-leb (length diff) 4096 (omega (arith, c.if-diff-le-MAX_DIFF.false)) in
    c.last_end.ensures.same ∙ sym (ap (λ (t : Bool). if t then length diff else last_end diff 4096) many)
