-- The directives of a run, one after another.
use Rattle.std.proofs.Common.{◌≡◌, ◌∙◌, ℕ, ◌+◌, List, [], ◌∷◌, ◌++◌, drop, Some, refl, ap, ap₂, sym, subst, append_assoc}
use Rattle.std.specs.Prelude.{slice_get}
use Rattle.std.specs.List.{flat_map}
use Rattle.std.proofs.lemmas.List.Concat.{flat_map-append}
use Rattle.std.proofs.lemmas.List.Folds.{flat_map-map}
use Rattle.rb_script.specs.Lines.{Line}
use Rattle.rb_script.specs.Script.{PlainBlock}
use Rattle.rb_script.specs.Reading.{directive_of}
use Rattle.rb_texts.specs.Items.{PlainItem}
use Rattle.rb_texts.specs.Reasons.{reason_of}
use Rattle.rb_view.specs.ItemRows.{item_rows, item_text}
use Rattle.rb_view.specs.Kept.{joined, texts_of}
use Rattle.rb_view.specs.Rows.{Row, next_text}
use Rattle.rb_view.proofs.KeptLaws.{left_some}
use Rattle.rb_node.specs.Node.{PlainNode}
use Rattle.rb_machine.specs.Cluster.{Cluster}
use Rattle.rb_machine.specs.Observations.{Observation, Shown, Settled}
use Rattle.rb_machine.specs.Outcome.{outcome}
use Rattle.rb_script_report.specs.Checked.{meant_by}
use Rattle.rb_view.specs.Meant.{hint_rows}
use Rattle.rb_view.specs.Steps.{done_texts, hints, left_next, step, step_texts, steps_from, script_rows}
use Rattle.rb_view.specs.Watching.{observed_rows, observed_texts, reason_rows, rewritten, rows_since, shown_rows, shown_texts}
use Rattle.rb_view.specs.Values.{BlockShowsBytes, GoOnShowingBytes}
use Rattle.rb_text.proofs.AddedLaws.{three_parts}

-- one directive more
pub steps_more : (left left' : ℕ) (heads : List ℕ) (bs : List PlainBlock) (i line : ℕ) (b : PlainBlock) (c after : Cluster) → slice_get heads i ≡ Some line → slice_get bs i ≡ Some b → after ≡ (outcome c (directive_of b)).cluster
    → left' ≡ left_next left b.expected (outcome c (directive_of b)).output
    → flat_map step_texts (steps_from left (drop i heads) c (drop i bs)) ≡ step_texts (step left line c b) ++ flat_map step_texts (steps_from left' (drop (i + 1) heads) after (drop (i + 1) bs))
steps_more left left' heads bs i line b c after head block next leaves =
    ap₂ (λ (ns : List ℕ) (more : List PlainBlock). flat_map step_texts (steps_from left ns c more)) (left_some heads i line head) (left_some bs i b block)
    ∙ ap₂ (λ (n : ℕ) (d : Cluster). step_texts (step left line c b) ++ flat_map step_texts (steps_from n (drop (i + 1) heads) d (drop (i + 1) bs))) (sym leaves) (sym next)

-- what is shown of contents
pub goes_on_showing : (bs : List PlainBlock) (i : ℕ) (b : PlainBlock) (c after : Cluster) → slice_get bs i ≡ Some b → after ≡ (outcome c (directive_of b)).cluster → BlockShowsBytes c b → GoOnShowingBytes after (drop (i + 1) bs) → GoOnShowingBytes c (drop i bs)
goes_on_showing bs i b c after block next shown rest =
    subst (λ (more : List PlainBlock). GoOnShowingBytes c more) (sym (left_some bs i b block))
    (shown, subst (λ (d : Cluster). GoOnShowingBytes d (drop (i + 1) bs)) next rest)

-- there is none any more
pub steps_end : (left : ℕ) (heads : List ℕ) (c : Cluster) (bs : List PlainBlock) → bs ≡ [] → steps_from left heads c bs ≡ []
steps_end left [] c bs e = refl
steps_end left (line ∷ heads) c [] e = refl
steps_end left (line ∷ heads) c (b ∷ bs) e = absurd cc

-- what one directive adds
pub step_kept : (left line : ℕ) (c : Cluster) (b : PlainBlock) (output rows t0 t1 t2 t3 : List Line) → output ≡ (outcome c (directive_of b)).output → rows ≡ done_texts c (directive_of b)
    → t1 ≡ t0 ++ texts_of (script_rows left line b.expected output) → t2 ≡ t1 ++ rows → t3 ≡ t2 ++ texts_of (hint_rows (meant_by b output)) → t3 ≡ t0 ++ step_texts (step left line c b)
step_kept left line c b output rows t0 t1 t2 t3 printed did first second third =
    let s = step left line c b in
    three_parts t0 t1 t2 t3 (texts_of (script_rows left line b.expected output)) rows (texts_of (hint_rows (meant_by b output))) first second third
    ∙ ap₂ (λ (o r : List Line). t0 ++ (texts_of (script_rows left line b.expected o) ++ (r ++ texts_of (hint_rows (meant_by b o))))) printed did
    ∙ ap (λ (l : List Line). t0 ++ (texts_of (script_rows left line b.expected s.output) ++ l)) (append_assoc (observed_texts s.before s.observed) (texts_of s.changes) (texts_of (hints s)))

-- ---- texts that are of rows

pub both_joined : (a b : List Line) (x y : List Row) → joined a ≡ flat_map next_text x → joined b ≡ flat_map next_text y → joined (a ++ b) ≡ flat_map next_text (x ++ y)
both_joined a b x y p q = flat_map-append (λ (t : Line). t) a b ∙ ap₂ (λ (s t : List ℕ). s ++ t) p q ∙ sym (flat_map-append next_text x y)

pub rows_joined : (rs : List Row) → joined (texts_of rs) ≡ flat_map next_text rs
rows_joined rs = flat_map-map (λ (t : Line). t) next_text rs

pub shown_joined : (item : PlainItem) → joined (shown_texts item) ≡ flat_map next_text (shown_rows item)
unfolding item_text
shown_joined item =
    let why = reason_rows (reason_of item) in
    ap (λ (l : List ℕ). item_text item ++ l) (rows_joined why) ∙ sym (flat_map-append next_text (item_rows item) why)

pub items_joined : (items : List PlainItem) → joined (flat_map shown_texts items) ≡ flat_map next_text (flat_map shown_rows items)
items_joined [] = refl
items_joined (item ∷ items) =
    both_joined (shown_texts item) (flat_map shown_texts items) (shown_rows item) (flat_map shown_rows items) (shown_joined item) (items_joined items)

-- what is observed
pub observed_joined : (nodes : List PlainNode) (observed : List Observation) → joined (observed_texts nodes observed) ≡ flat_map next_text (observed_rows nodes observed)
observed_joined nodes [] = refl
observed_joined nodes (Shown items ∷ observed) =
    both_joined (flat_map shown_texts items) (observed_texts nodes observed) (flat_map shown_rows items) (observed_rows nodes observed) (items_joined items) (observed_joined nodes observed)
observed_joined nodes (Settled id n ∷ observed) =
    let here = rows_since nodes id n in
    let on = rewritten nodes id n in
    both_joined (texts_of here) (observed_texts on observed) here (observed_rows on observed) (rows_joined here) (observed_joined on observed)
