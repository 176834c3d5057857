use Rattle.std.proofs.Common.{◌≡◌, ◌∙◌, ap, sym, true, false}
use Rattle.std.specs.List.{insert}
use Rattle.rb_tracker.specs.Sets.{has, with_id, rank}
use Rattle.rb_tracker.proofs.SetLaws.{ascending_with_id, insert_is_with_id, with_id_again}
use Rattle.rb_tracker.proofs.id_set.IdSet.insert.Goals as goal

put_in : (c : goal.In_ok-insert) → c.insert.new.self.items ≡ with_id c.self.inside.ids.items c.args.id
put_in c =
    let ids = c.self.inside.ids.items in
    let lacks : has ids c.args.id ≡ false = ap (λ xs. has xs c.args.id) c.self.view_is ∙ (sym c.contains.ensures ∙ c.if-contains.false) in
    let at : c.rank-at.result ≡ rank ids c.args.id = c.rank-at.ensures.rank ∙ ap (λ xs. rank xs c.args.id) (sym c.self.view_is) in
    c.in_ok-insert.ensures.ok ∙ (ap (λ i. insert ids i c.args.id) at ∙ insert_is_with_id ids c.args.id lacks)

pub invariant_of-self-2 : goal.invariant_of-self-2
invariant_of-self-2 c = rw (put_in c) (ascending_with_id c.self.inside.ids.items c.args.id c.self.invariant)

pub returns-clause-ok : goal.returns-clause-ok
returns-clause-ok c = put_in c ∙ ap (λ xs. with_id xs c.args.id) c.self.view_is

pub returns-then-contains-clause-ok : goal.returns-then-contains-clause-ok
returns-then-contains-clause-ok c =
    let ids = c.self.inside.ids.items in
    let there : has ids c.args.id ≡ true = ap (λ xs. has xs c.args.id) c.self.view_is ∙ (sym c.contains.ensures ∙ c.if-contains.true) in
    rw (← c.self.view_is) (sym (with_id_again ids c.args.id c.self.invariant there))
