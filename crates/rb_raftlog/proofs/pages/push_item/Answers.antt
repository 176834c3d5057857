use Rattle.std.proofs.Common.{arith, [], ◌∷◌}
use Rattle.rb_raftlog.proofs.PageLaws.{last_in, last_room, push_even, push_odd}
use Rattle.rb_raftlog.proofs.pages.push_item.Goals as goal

pub returns-then-at-eq0-clause-ok : goal.returns-then-at-eq0-clause-ok
returns-then-at-eq0-clause-ok g c =
    push_even c.args.pages.now c.push.new.self c.args.at (c.args.item ∷ []) c.in_ok-page.page c.requires.packed c.requires.end c.if-at-eq0.true
    (omega arith) (omega arith) c.in_ok-page.ensures c.in_ok-push.ensures.ok

pub push_to_last-requires-clause-last : goal.push_to_last-requires-clause-last
push_to_last-requires-clause-last g c = last_in c.args.pages.now c.args.at c.requires.packed c.requires.end c.if-at-eq0.false

pub push_to_last-requires-clause-room : goal.push_to_last-requires-clause-room
push_to_last-requires-clause-room g c = last_room c.args.pages.now c.args.at c.requires.packed c.requires.end c.if-at-eq0.false

pub returns-clause-ok : goal.returns-clause-ok
returns-clause-ok g c =
    push_odd c.args.pages.now c.push_to_last.new.self c.args.at c.args.item c.requires.packed c.requires.end c.if-at-eq0.false c.in_ok-push_to_last.ensures.ok
