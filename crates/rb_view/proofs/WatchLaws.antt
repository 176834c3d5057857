-- What an observer writes of a directive is what is observed of it, as rows.
use Rattle.std.proofs.Common.{◌≡◌, ◌∙◌, ℕ, ◌-◌, Bool, true, false, List, [], ◌∷◌, ◌++◌, Option, Some, None, refl, ap, ap₂, sym, append_assoc, append-nil}
use Rattle.std.specs.Prelude.{◌&&◌, fold, slice_get}
use Rattle.std.specs.List.{flat_map, list_all}
use Rattle.std.proofs.lemmas.Bool.{and_parts}
use Rattle.rb_raftlog.specs.Content.{content_end}
use Rattle.rb_script.specs.Lines.{Line}
use Rattle.rb_node.specs.Node.{PlainNode}
use Rattle.rb_texts.specs.Items.{PlainItem}
use Rattle.rb_view.specs.Json.{has_bytes, is_byte}
use Rattle.rb_view.specs.Kept.{texts_of}
use Rattle.rb_view.specs.PageRoom.{held, held_with}
use Rattle.rb_machine.specs.Observations.{Observation, Shown, Settled, observing, passing}
use Rattle.rb_machine.specs.declared.printed.PrintedLines.{PrintedLines}
use Rattle.rb_machine.specs.Outcome.{Execution, shown_items}
use Rattle.rb_machine.specs.Printing as printing
use Rattle.rb_machine.proofs.EffectLaws.{each_observed, items_seen}
use Rattle.rb_view.specs.States.{node_rows}
use Rattle.rb_view.specs.Rows.{Row}
use Rattle.rb_view.specs.Watching.{Watching, compared_rows, compared_texts, observed_rows, observed_texts, rewritten, rows_since, shown_rows, shown_texts, shows_bytes, with_item, with_node, written_last}
use Rattle.rb_view.proofs.GoneOnLaws.{GoOn}
use Rattle.rb_view.proofs.PageRoomLaws.{held_more, none_held}
use Rattle.rb_view.proofs.StateLaws.{since_is}
use Rattle.rb_view.proofs.RowByteLaws.{added_bytes, all_both, changed_bytes, items_bytes}

and_end : (b : Bool) → b ≡ (b && true)
and_end true = refl
and_end false = refl

and_assoc : (a b c : Bool) → ((a && b) && c) ≡ (a && (b && c))
and_assoc true b c = refl
and_assoc false b c = refl

-- with more, where these texts are held
more_held : (w : Watching) (texts more : List Line) → w.texts ≡ held texts → held_with w.texts more ≡ held (texts ++ more)
more_held w texts more is = ap (λ (ts : Option (List Line)). held_with ts more) is ∙ held_more texts more

items_watched : (w : Watching) (texts : List Line) (items : List PlainItem) → w.texts ≡ held texts → fold with_item w items ≡ record w { texts = held (texts ++ flat_map shown_texts items) }
items_watched w texts [] is = ap (λ (ts : Option (List Line)). record w { texts = ts }) (is ∙ ap held (sym (append-nil texts)))
items_watched w texts (i ∷ items) is =
    items_watched (with_item w i) (texts ++ shown_texts i) items (more_held w texts (shown_texts i) is)
    ∙ ap (λ (ts : List Line). record w { texts = held ts }) (append_assoc texts (shown_texts i) (flat_map shown_texts items))

-- after texts, where the nodes were these and bytes were shown so far
abbrev watched_all : Bool → List Line → List PlainNode → Bool → List Observation → Watching
watched_all keeps texts nodes bytes observed =
    record { texts = held (texts ++ compared_texts keeps nodes observed); nodes = written_last nodes observed; keeps = keeps; of_bytes = bytes && shows_bytes observed }

pub all_watched : (w : Watching) (texts : List Line) (observed : List Observation) → w.texts ≡ held texts
    → fold (observing with_item with_node) w observed ≡ watched_all w.keeps texts w.nodes w.of_bytes observed
all_watched w texts [] is =
    ap₂ (λ (ts : Option (List Line)) (b : Bool). record w { texts = ts; of_bytes = b }) (is ∙ ap held (sym (append-nil texts))) (and_end w.of_bytes)
all_watched w texts (Shown items ∷ observed) is =
    let here = flat_map shown_texts items in
    ap (λ (x : Watching). fold (observing with_item with_node) x observed) (items_watched w texts items is)
    ∙ all_watched (record w { texts = held (texts ++ here) }) (texts ++ here) observed refl
    ∙ ap (λ (ts : List Line). record (watched_all w.keeps texts w.nodes w.of_bytes observed) { texts = held ts }) (append_assoc texts here (compared_texts w.keeps w.nodes observed))
all_watched w texts (Settled id n ∷ observed) is =
    let nodes = rewritten w.nodes id n in
    let here = texts_of (compared_rows w.keeps w.nodes id n) in
    let bytes = list_all is_byte (content_end n.content) in
    all_watched (with_node w id n) (texts ++ here) observed (more_held w texts here is)
    ∙ ap₂ (λ (ts : List Line) (b : Bool). record { texts = held ts; nodes = written_last nodes observed; keeps = w.keeps; of_bytes = b })
    (append_assoc texts here (compared_texts w.keeps nodes observed)) (and_assoc w.of_bytes bytes (shows_bytes observed))

-- where nodes keep what they knew to be committed, or are compared from the first entry on, the comparisons miss nothing
compared_is : (keeps : Bool) (nodes : List PlainNode) (observed : List Observation) → (keeps ≡ true → GoOn nodes observed)
    → compared_texts keeps nodes observed ≡ observed_texts nodes observed
compared_is keeps nodes [] on = refl
compared_is keeps nodes (Shown items ∷ observed) on = ap (λ (ts : List Line). flat_map shown_texts items ++ ts) (compared_is keeps nodes observed on)
compared_is keeps nodes (Settled id n ∷ observed) on =
    ap₂ (λ (rs : List Row) (ts : List Line). texts_of rs ++ ts) (since_is keeps (slice_get nodes (id - 1)) n (λ is. (on is).0))
    (compared_is keeps (rewritten nodes id n) observed (λ is. (on is).1))

-- what two observers have of a run: of its lines, and of its rows
pub record IsSeen (before last : PrintedLines) (texts : Option (List Line)) (n0 n1 : List PlainNode) (h : Execution) : Type 0 where
  pub printed : last ≡ fold printing.with_item (printing.at_level before h.level) (shown_items h)
  pub texts_are : texts ≡ held (observed_texts n0 h.observed)
  pub nodes : n1 ≡ written_last n0 h.observed
  pub bytes : shows_bytes h.observed ≡ true

abbrev so_far : Bool → Option (List Line) → List PlainNode → Watching
so_far keeps texts nodes = record { texts = texts; nodes = nodes; keeps = keeps; of_bytes = true }

pub run_seen : (before last : PrintedLines) (t0 texts : Option (List Line)) (n0 n1 : List PlainNode) (k0 k1 : Bool) (h : Execution)
    → (last, so_far k1 texts n1) ≡ fold (observing (λ (m : PrintedLines × Watching) (item : PlainItem). (printing.with_item m.0 item, with_item m.1 item))
    (λ (m : PrintedLines × Watching) (id : ℕ) (n : PlainNode). (passing m.0 id n, with_node m.1 id n))) (printing.at_level before h.level, so_far k0 t0 n0) h.observed
    → t0 ≡ Some [] → (k0 ≡ true → GoOn n0 h.observed) → IsSeen before last texts n0 n1 h
run_seen before last t0 texts n0 n1 k0 k1 h seen none on =
    let each = each_observed printing.with_item passing with_item with_node (printing.at_level before h.level) last (so_far k0 t0 n0) (so_far k1 texts n1) h.observed seen in
    let rows = each.1 ∙ all_watched (so_far k0 t0 n0) [] h.observed (none ∙ none_held) in
    record {
      printed = each.0 ∙ items_seen printing.with_item (printing.at_level before h.level) h.observed;
      texts_are = ap (λ (w : Watching). w.texts) rows ∙ ap held (compared_is k0 n0 h.observed on);
      nodes = ap (λ (w : Watching). w.nodes) rows;
      bytes = sym (ap (λ (w : Watching). w.of_bytes) rows);
    }

-- ---- bytes

node_bytes : (old : Option PlainNode) (n : PlainNode) → list_all is_byte (content_end n.content) ≡ true → list_all has_bytes (node_rows old n) ≡ true
node_bytes None n h = added_bytes n h
node_bytes (Some old) n h = changed_bytes old n h

pub observed_bytes : (nodes : List PlainNode) (observed : List Observation) → shows_bytes observed ≡ true → list_all has_bytes (observed_rows nodes observed) ≡ true
observed_bytes nodes [] h = refl
observed_bytes nodes (Shown items ∷ observed) h = all_both (flat_map shown_rows items) (observed_rows nodes observed) (items_bytes items) (observed_bytes nodes observed h)
observed_bytes nodes (Settled id n ∷ observed) h =
    let p = and_parts (list_all is_byte (content_end n.content)) (shows_bytes observed) h in
    all_both (rows_since nodes id n) (observed_rows (rewritten nodes id n) observed) (node_bytes (slice_get nodes (id - 1)) n p.0) (observed_bytes (rewritten nodes id n) observed p.1)
