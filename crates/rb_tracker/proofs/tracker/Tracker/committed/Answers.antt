use Rattle.std.proofs.Common.{◌∙◌, ◌≡◌, ◌==◌, sym, length, true, false}
use Rattle.rb_tracker.specs.Commits.{IsHeldByMajority}
use Rattle.rb_tracker.proofs.CommitLaws.{commit_of_incoming, commit_of_outgoing}
use Rattle.rb_tracker.proofs.tracker.Tracker.committed.Goals as goal

pub returns-then-is_empty : goal.returns-then-is_empty
returns-then-is_empty c =
    let t = c.args.self.now in
    let none : (length t.config.incoming == 0) ≡ true = rw (← c.config-config.ensures) (sym c.is_empty.ensures ∙ c.if-is_empty.true) in
    let some : (length t.config.outgoing == 0) ≡ false = rw (← c.config-config.ensures) (sym c.is_empty-then-is_empty.ensures ∙ c.if-is_empty-2.false) in
    let is : IsHeldByMajority t.views t.config.outgoing c.in_ok-held_by_majority.field-0 = rw (← c.config-config.ensures) (c.in_ok-held_by_majority.ensures) in
    commit_of_outgoing t _ none some is

pub returns-then-is_empty-3 : goal.returns-then-is_empty-3
returns-then-is_empty-3 c =
    let t = c.args.self.now in
    let some : (length t.config.incoming == 0) ≡ false = rw (← c.config-config.ensures) (sym c.is_empty.ensures ∙ c.if-is_empty.false) in
    let none : (length t.config.outgoing == 0) ≡ true = rw (← c.config-config.ensures) (sym c.is_empty-2.ensures ∙ c.if-is_empty-3.true) in
    let is : IsHeldByMajority t.views t.config.incoming c.in_ok-held_by_majority-2.field-0 = rw (← c.config-config.ensures) (c.in_ok-held_by_majority-2.ensures) in
    commit_of_incoming t _ some none is
