use Rattle.std.proofs.Common.{◌≡◌, ◌∙◌, ℕ, Bool, true, false, List, [], ◌∷◌, ◌++◌, ap, refl, sym, append_assoc, append-nil}
use Rattle.std.specs.Prelude.{codes, if◌then◌else◌}
use Rattle.std.specs.List.{flat_map}
use Rattle.std.proofs.lemmas.List.Concat.{flat_map-append}
use Rattle.rb_message.specs.declared.event.Event.{Event}
use Rattle.rb_texts.specs.EventForms.{PlainForm, event_form, is_hidden, plain_form}
use Rattle.rb_view.specs.declared.rows.row.RowPlace.TheVariants.{Next}
use Rattle.rb_view.specs.EventRows.{event_rows, form_rows, value_cells}
use Rattle.rb_view.specs.Rows.{Row, before, cell_text, front_text, next_text, number, row}
use Rattle.rb_text.proofs.SentLaws.{and_then, no_more, sent_all, sent_none, writes_along}
use Rattle.rb_view.proofs.rows.event.put_event.Goals as goal

-- no rows
none : (e : Event) (f : PlainForm) → f ≡ event_form e → is_hidden f.shown ≡ true → flat_map next_text (event_rows e) ≡ []
unfolding event_rows
none e f is hidden =
    ap (λ (x : PlainForm). flat_map next_text (form_rows e.id x)) (sym is)
    ∙ ap (λ (b : Bool). flat_map next_text (if b then [] else row f.name (number e.id ∷ value_cells f.shown f.pieces) ∷ [])) hidden

-- the row in the parts in which it goes out
parted : (e : Event) (f : PlainForm) → f ≡ event_form e → is_hidden f.shown ≡ false
    → (before Next ++ front_text f.name) ++ (flat_map cell_text (number e.id ∷ []) ++ (flat_map cell_text (value_cells f.shown f.pieces) ++ codes "]")) ≡ flat_map next_text (event_rows e)
unfolding event_rows next_text
parted e f is seen =
    let id = flat_map cell_text (number e.id ∷ []) in
    let values = flat_map cell_text (value_cells f.shown f.pieces) in
    let whole : Row = row f.name (number e.id ∷ value_cells f.shown f.pieces) in
    append_assoc (before Next) (front_text f.name) (id ++ (values ++ codes "]"))
    ∙ ap (λ (l : List ℕ). before Next ++ (front_text f.name ++ l))
    (sym (append_assoc id values (codes "]")) ∙ ap (λ (l : List ℕ). l ++ codes "]") (sym (flat_map-append cell_text (number e.id ∷ []) (value_cells f.shown f.pieces))))
    ∙ sym (append-nil (next_text whole))
    ∙ sym (ap (λ (b : Bool). flat_map next_text (if b then [] else whole ∷ [])) seen)
    ∙ ap (λ (x : PlainForm). flat_map next_text (form_rows e.id x)) is

pub returns-then-is_hidden-clause-wrote : goal.returns-then-is_hidden-clause-wrote
returns-then-is_hidden-clause-wrote g c =
    let whole = flat_map next_text (event_rows c.args.event.now) in
    sent_all (none c.args.event.now (plain_form c.event_form-form.result) c.event_form-form.ensures (sym c.is_hidden.ensures ∙ c.if-is_hidden.true)) (sent_none (g.S.Sink.held c.args.sink.now) whole whole refl)

pub returns-in_err-put_front-clause-wrote : goal.returns-in_err-put_front-clause-wrote
returns-in_err-put_front-clause-wrote g c =
    writes_along _ _ _ _ _ (parted c.args.event.now (plain_form c.event_form-form.result) c.event_form-form.ensures (sym c.is_hidden.ensures ∙ c.if-is_hidden.false))
    (no_more _ _ _ _ _ c.from_residual.ensures.0 c.in_err-put_front.ensures.wrote)

pub returns-in_err-put_cells-clause-wrote : goal.returns-in_err-put_cells-clause-wrote
returns-in_err-put_cells-clause-wrote g c =
    writes_along _ _ _ _ _ (parted c.args.event.now (plain_form c.event_form-form.result) c.event_form-form.ensures (sym c.is_hidden.ensures ∙ c.if-is_hidden.false))
    (and_then _ _ _ _ _ _ c.in_ok-put_front.ensures.wrote (no_more _ _ _ _ _ c.from_residual-in_err-put_cells.ensures.0 c.in_err-put_cells.ensures.wrote))

pub returns-in_err-put_values-clause-wrote : goal.returns-in_err-put_values-clause-wrote
returns-in_err-put_values-clause-wrote g c =
    writes_along _ _ _ _ _ (parted c.args.event.now (plain_form c.event_form-form.result) c.event_form-form.ensures (sym c.is_hidden.ensures ∙ c.if-is_hidden.false))
    (and_then _ _ _ _ _ _ c.in_ok-put_front.ensures.wrote (and_then _ _ _ _ _ _ c.in_ok-put_cells.ensures.wrote (no_more _ _ _ _ _ c.from_residual-in_err-put_values.ensures.0 c.in_err-put_values.ensures.wrote)))

pub returns-clause-wrote : goal.returns-clause-wrote
returns-clause-wrote g c =
    writes_along _ _ _ _ _ (parted c.args.event.now (plain_form c.event_form-form.result) c.event_form-form.ensures (sym c.is_hidden.ensures ∙ c.if-is_hidden.false))
    (and_then _ _ _ _ _ _ c.in_ok-put_front.ensures.wrote (and_then _ _ _ _ _ _ c.in_ok-put_cells.ensures.wrote (and_then _ _ _ _ _ _ c.in_ok-put_values.ensures.wrote c.put.ensures.wrote)))
