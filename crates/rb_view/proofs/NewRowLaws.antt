-- Which rows of a node are new: a row is compared with those of its name alone.
use Rattle.std.proofs.Common.{◌≡◌, ◌∙◌, ℕ, Bool, true, false, List, [], ◌∷◌, ◌++◌, refl, ap, ap₂, sym, append_assoc, append-nil}
use Rattle.std.specs.Prelude.{◌||◌, if◌then◌else◌, codes, length}
use Rattle.std.specs.List.{flat_map}
use Rattle.std.specs.Str.{bytes_eq}
use Rattle.std.proofs.lemmas.Bool.{cond-true, or_left, or_right}
use Rattle.std.proofs.lemmas.Slice.Eq.{bytes_eq-Decides}
use Rattle.rb_script.specs.Lines.{Line}
use Rattle.rb_node.specs.Node.{PlainNode}
use Rattle.rb_tracker.specs.Progresses.{PlainProgress}
use Rattle.rb_tracker.specs.Trackers.{PlainTracker}
use Rattle.rb_tracker.specs.declared.config.Config.{Config}
use Rattle.rb_view.specs.Kept.{texts_of}
use Rattle.rb_view.specs.Rows.{Row, next_text, number, row, text}
use Rattle.rb_view.specs.NewRows.{has_text, new_row, new_rows_among, new_texts}
use Rattle.rb_view.specs.States.{config_row, node_row, standing, view_row, view_rows}
use Rattle.rb_view.proofs.KeepLaws.{new_rows_are}

-- ---- rows of different names

node_no_config : (n o : PlainNode) → bytes_eq (next_text (node_row n)) (next_text (config_row o)) ≡ false
unfolding next_text
node_no_config n o = refl

config_no_node : (n o : PlainNode) → bytes_eq (next_text (config_row n)) (next_text (node_row o)) ≡ false
unfolding next_text
config_no_node n o = refl

node_no_view : (n : PlainNode) (id : ℕ) (v : ℕ × PlainProgress) → bytes_eq (next_text (node_row n)) (next_text (view_row id v)) ≡ false
unfolding next_text
node_no_view n id v = refl

config_no_view : (n : PlainNode) (id : ℕ) (v : ℕ × PlainProgress) → bytes_eq (next_text (config_row n)) (next_text (view_row id v)) ≡ false
unfolding next_text
config_no_view n id v = refl

view_no_node : (id : ℕ) (v : ℕ × PlainProgress) (o : PlainNode) → bytes_eq (next_text (view_row id v)) (next_text (node_row o)) ≡ false
unfolding next_text
view_no_node id v o = refl

view_no_config : (id : ℕ) (v : ℕ × PlainProgress) (o : PlainNode) → bytes_eq (next_text (view_row id v)) (next_text (config_row o)) ≡ false
unfolding next_text
view_no_config id v o = refl

no_view : (line : Line) (id : ℕ) (views : List (ℕ × PlainProgress)) → ((v : ℕ × PlainProgress) → bytes_eq line (next_text (view_row id v)) ≡ false) → has_text (texts_of (view_rows id views)) line ≡ false
no_view line id [] other = refl
no_view line id (v ∷ vs) other = ap₂ (λ (a b : Bool). a || b) (other v) (no_view line id vs other)

-- ---- what a row is compared with

node_among : (n o : PlainNode) → has_text (texts_of (standing o)) (next_text (node_row n)) ≡ has_text (texts_of (node_row o ∷ [])) (next_text (node_row n))
node_among n o =
    ap₂ (λ (a b : Bool). bytes_eq (next_text (node_row n)) (next_text (node_row o)) || (a || b)) (node_no_config n o)
    (no_view (next_text (node_row n)) o.id o.tracker.views (node_no_view n o.id))

config_among : (n o : PlainNode) → has_text (texts_of (standing o)) (next_text (config_row n)) ≡ has_text (texts_of (config_row o ∷ [])) (next_text (config_row n))
config_among n o =
    ap₂ (λ (a b : Bool). a || (bytes_eq (next_text (config_row n)) (next_text (config_row o)) || b)) (config_no_node n o)
    (no_view (next_text (config_row n)) o.id o.tracker.views (config_no_view n o.id))

view_among : (id : ℕ) (v : ℕ × PlainProgress) (o : PlainNode) → has_text (texts_of (standing o)) (next_text (view_row id v)) ≡ has_text (texts_of (view_rows o.id o.tracker.views)) (next_text (view_row id v))
view_among id v o =
    ap₂ (λ (a b : Bool). a || (b || has_text (texts_of (view_rows o.id o.tracker.views)) (next_text (view_row id v)))) (view_no_node id v o) (view_no_config id v o)

same_among : (xs ys : List Line) (r : Row) → has_text xs (next_text r) ≡ has_text ys (next_text r) → new_row xs r ≡ new_row ys r
same_among xs ys r e = ap (λ (t : Bool). if t then [] else r ∷ []) e

views_among : (id : ℕ) (vs : List (ℕ × PlainProgress)) (o : PlainNode) → new_rows_among (texts_of (standing o)) (view_rows id vs) ≡ new_rows_among (texts_of (view_rows o.id o.tracker.views)) (view_rows id vs)
views_among id [] o = refl
views_among id (v ∷ vs) o =
    ap₂ (λ (a b : List Row). a ++ b)
    (same_among (texts_of (standing o)) (texts_of (view_rows o.id o.tracker.views)) (view_row id v) (view_among id v o)) (views_among id vs o)

-- ---- what is added

-- a row that is compared with one of before
one_new : (before all : List Line) (other r : Row) → before ≡ texts_of (other ∷ []) → has_text all (next_text r) ≡ has_text (texts_of (other ∷ [])) (next_text r)
    → new_texts before (texts_of (r ∷ [])) ≡ texts_of (new_row all r)
one_new before all other r is e =
    ap (λ (olds : List Line). new_texts olds (texts_of (r ∷ []))) is ∙ new_rows_are (other ∷ []) (r ∷ [])
    ∙ ap texts_of (append-nil (new_row (texts_of (other ∷ [])) r) ∙ sym (same_among all (texts_of (other ∷ [])) r e))

pub node_new : (olds news : List Line) (old new : PlainNode) → olds ≡ texts_of (node_row old ∷ []) → news ≡ texts_of (node_row new ∷ []) → new_texts olds news ≡ texts_of (new_row (texts_of (standing old)) (node_row new))
node_new olds news old new before after =
    ap (new_texts olds) after ∙ one_new olds (texts_of (standing old)) (node_row old) (node_row new) before (node_among new old)

pub config_new : (olds news : List Line) (old new : PlainNode) → olds ≡ texts_of (config_row old ∷ []) → news ≡ texts_of (config_row new ∷ []) → new_texts olds news ≡ texts_of (new_row (texts_of (standing old)) (config_row new))
config_new olds news old new before after =
    ap (new_texts olds) after ∙ one_new olds (texts_of (standing old)) (config_row old) (config_row new) before (config_among new old)

pub views_new : (old new : PlainNode)
    → texts_of (new_rows_among (texts_of (view_rows old.id old.tracker.views)) (view_rows new.id new.tracker.views))
    ≡ texts_of (new_rows_among (texts_of (standing old)) (view_rows new.id new.tracker.views))
views_new old new = ap texts_of (sym (views_among new.id new.tracker.views old))

-- ---- what is as it was

itself : (line : Line) → bytes_eq line line ≡ true
itself line = (bytes_eq-Decides line line).1 refl

-- a row that is one of these isn't new
in_middle : (front : List Row) (r : Row) (rest : List Row) → has_text (texts_of (front ++ r ∷ rest)) (next_text r) ≡ true
in_middle [] r rest = or_left (bytes_eq (next_text r) (next_text r)) (has_text (texts_of rest) (next_text r)) (itself (next_text r))
in_middle (f ∷ front) r rest = or_right (bytes_eq (next_text r) (next_text f)) (has_text (texts_of (front ++ r ∷ rest)) (next_text r)) (in_middle front r rest)

not_new : (front : List Row) (r : Row) (rest : List Row) → new_row (texts_of (front ++ r ∷ rest)) r ≡ []
not_new front r rest = cond-true _ _ _ (in_middle front r rest)

none_new : (front rows : List Row) → new_rows_among (texts_of (front ++ rows)) rows ≡ []
none_new front [] = refl
none_new front (r ∷ rows) =
    ap₂ (λ (a b : List Row). a ++ b) (not_new front r rows)
    (ap (λ (all : List Row). new_rows_among (texts_of all) rows) (sym (append_assoc front (r ∷ []) rows)) ∙ none_new (front ++ r ∷ []) rows)

-- nothing is added
none_added : (texts : List Line) (rows : List Row) → rows ≡ [] → texts ≡ texts ++ texts_of rows
none_added texts rows none = sym (ap (λ (rs : List Row). texts ++ texts_of rs) none ∙ append-nil texts)

pub same_node_kept : (texts : List Line) (old new : PlainNode) → next_text (node_row new) ≡ next_text (node_row old) → texts ≡ texts ++ texts_of (new_row (texts_of (standing old)) (node_row new))
same_node_kept texts old new same =
    let rest = texts_of (config_row old ∷ view_rows old.id old.tracker.views) in
    let here : bytes_eq (next_text (node_row new)) (next_text (node_row old)) ≡ true = (bytes_eq-Decides (next_text (node_row new)) (next_text (node_row old))).1 same in
    none_added texts _ (cond-true _ _ _ (or_left (bytes_eq (next_text (node_row new)) (next_text (node_row old))) (has_text rest (next_text (node_row new))) here))

-- a node whose row has another text is added
pub other_node_added : (old new : PlainNode) → bytes_eq (next_text (node_row new)) (next_text (node_row old)) ≡ false → new_row (texts_of (standing old)) (node_row new) ≡ node_row new ∷ []
other_node_added old new other =
    ap (λ (t : Bool). if t then [] else node_row new ∷ []) (node_among new old ∙ ap (λ (t : Bool). t || false) other)

pub same_config_kept : (texts : List Line) (old new : PlainNode) → config_row new ≡ config_row old → texts ≡ texts ++ texts_of (new_row (texts_of (standing old)) (config_row new))
same_config_kept texts old new same =
    none_added texts _ (ap (new_row (texts_of (standing old))) same ∙ not_new (node_row old ∷ []) (config_row old) (view_rows old.id old.tracker.views))

pub same_tracker_kept : (texts : List Line) (old new : PlainNode) → old.id ≡ new.id → old.tracker ≡ new.tracker
    → texts ≡ texts ++ texts_of (new_rows_among (texts_of (standing old)) (config_row new ∷ view_rows new.id new.tracker.views))
same_tracker_kept texts old new id tracker =
    none_added texts _
    (ap₂ (λ (k : ℕ) (t : PlainTracker). new_rows_among (texts_of (standing old)) (config_row (record new { id = k; tracker = t }) ∷ view_rows k t.views)) (sym id) (sym tracker)
    ∙ none_new (node_row old ∷ []) (config_row old ∷ view_rows old.id old.tracker.views))

pub same_config : (old new : PlainNode) → old.id ≡ new.id → old.tracker.config ≡ new.tracker.config → config_row new ≡ config_row old
same_config old new id config =
    sym (ap₂ (λ (k : ℕ) (c : Config). config_row (record new { id = k; tracker = record { config = c; views = [] } })) id config)
