use Rattle.std.proofs.Common.{ℕ, List, [], ◌∷◌, ◌++◌, subst, sym, append-nil}
use Rattle.std.specs.Prelude.{codes}
use Rattle.std.specs.List.{flat_map}
use Rattle.rb_script.specs.Writes.{Writes}
use Rattle.rb_texts.specs.declared.item.Item.{Item}
use Rattle.rb_texts.specs.Items.{plain_item}
use Rattle.rb_view.specs.ItemRows.{item_rows}
use Rattle.rb_view.specs.Rows.{next_text, number, row}
use Rattle.rb_view.proofs.rows.item.put_item.Goals as goal

pub returns-in-NothingReady-clause-wrote : goal.returns-in-NothingReady-clause-wrote
unfolding item_rows
returns-in-NothingReady-clause-wrote g c =
    let alone = subst (λ (t : List ℕ). Writes c.put_number_row-in-NothingReady.result (g.S.Sink.held c.args.sink.now) (g.S.Sink.held c.put_number_row-in-NothingReady.new.sink) t) (sym (append-nil (next_text (row (codes "nothing-ready") (number c.in-NothingReady.id ∷ []))))) c.put_number_row-in-NothingReady.ensures.wrote in
    subst (λ (i : Item). Writes c.put_number_row-in-NothingReady.result (g.S.Sink.held c.args.sink.now) (g.S.Sink.held c.put_number_row-in-NothingReady.new.sink) (flat_map next_text (item_rows (plain_item i)))) (sym c.in-NothingReady.is) alone

pub returns-in-NoMessages-clause-wrote : goal.returns-in-NoMessages-clause-wrote
unfolding item_rows
returns-in-NoMessages-clause-wrote g c =
    let alone = subst (λ (t : List ℕ). Writes c.put_next.result (g.S.Sink.held c.args.sink.now) (g.S.Sink.held c.put_next.new.sink) t) (sym (append-nil (next_text (row (codes "no-messages") [])))) c.put_next.ensures.wrote in
    subst (λ (i : Item). Writes c.put_next.result (g.S.Sink.held c.args.sink.now) (g.S.Sink.held c.put_next.new.sink) (flat_map next_text (item_rows (plain_item i)))) (sym c.in-NoMessages.is) alone
