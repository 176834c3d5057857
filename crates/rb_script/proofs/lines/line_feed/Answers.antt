use Rattle.std.proofs.Common.{List, ℕ, subst}
use Rattle.memchr.specs.Find.{TakesFirst}
use Rattle.rb_script.proofs.PlaceLaws.{found_none, found_some, found_first}
use Rattle.rb_script.proofs.lines.line_feed.Goals as goal

pub returns-clause-none : goal.returns-clause-none
returns-clause-none c =
    found_none 10 c.args.bytes.now c.next.result c.next.new.self (subst (λ (l : List ℕ). TakesFirst l c.next.result c.next.new.self) c.memchr_iter-feeds.ensures.value c.next.ensures.steps)

pub returns-clause-found : goal.returns-clause-found
returns-clause-found c =
    found_some 10 c.args.bytes.now c.next.result c.next.new.self (subst (λ (l : List ℕ). TakesFirst l c.next.result c.next.new.self) c.memchr_iter-feeds.ensures.value c.next.ensures.steps)

pub returns-clause-first : goal.returns-clause-first
returns-clause-first c =
    found_first 10 c.args.bytes.now c.next.result c.next.new.self (subst (λ (l : List ℕ). TakesFirst l c.next.result c.next.new.self) c.memchr_iter-feeds.ensures.value c.next.ensures.steps)
