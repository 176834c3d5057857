-- Two rows have the same text only if their cells have.
use Rattle.std.proofs.Common.{◌≡◌, ◌∙◌, ℕ, ◌+◌, ◌<◌, Bool, true, false, List, [], ◌∷◌, ◌++◌, drop, decimal, codes, Some, refl, ap, ap₂, sym, append_assoc, arith}
use Rattle.std.specs.Prelude.{◌&&◌, ◌||◌, nat_le, length, slice_get}
use Rattle.std.specs.List.{flat_map, list_all}
use Rattle.std.specs.Str.{bytes_eq}
use Rattle.std.proofs.lemmas.Bool.{and_from, and_parts, le-leb}
use Rattle.std.proofs.lemmas.List.{append_cancel_left}
use Rattle.std.proofs.lemmas.Slice.Eq.{bytes_eq-Decides}
use Rattle.rb_script.specs.Lines.{Line}
use Rattle.rb_raftlog.specs.Content.{content_end}
use Rattle.rb_node.specs.Node.{PlainNode}
use Rattle.rb_tracker.specs.Progresses.{PlainProgress}
use Rattle.rb_tracker.specs.declared.progress.ProgressState.{ProgressState}
use Rattle.rb_tracker.specs.declared.progress.ProgressState.TheVariants.{Probe, Replicate, Snapshot}
use Rattle.rb_texts.specs.States.{progress_state_text, role_text}
use Rattle.rb_texts.proofs.KindLaws.{decimal_of}
use Rattle.rb_view.specs.Kept.{texts_of}
use Rattle.rb_view.specs.MessageRows.{flag}
use Rattle.rb_view.specs.NewRows.{has_text}
use Rattle.rb_view.specs.Rows.{PlainCell, cell_text, next_text, number, text}
use Rattle.rb_view.specs.SameRows.{ShowSameNumbers, ShowSameProgress, ShowSameView}
use Rattle.rb_view.specs.States.{node_row, view_row, view_rows}
use Rattle.rb_view.proofs.KeptLaws.{left_some}

-- ---- numbers

is_figure : ℕ → Bool
is_figure b = nat_le 48 b && nat_le b 57

figure : (d : ℕ) → d < 10 → is_figure (48 + d) ≡ true
unfolding is_figure
figure d lt = and_from (nat_le 48 (48 + d)) (nat_le (48 + d) 57) (le-leb 48 (48 + d) (omega arith)) (le-leb (48 + d) 57 (omega (arith, lt)))

figures : (n : ℕ) → list_all is_figure (decimal n) ≡ true
figures n = decimal_of is_figure figure n

head : List ℕ → ℕ
head [] = 0
head (x ∷ xs) = x

tail : List ℕ → List ℕ
tail [] = []
tail (x ∷ xs) = xs

-- figures before what is no figure
cut : (a b : List ℕ) (x y : ℕ) (r s : List ℕ) → list_all is_figure a ≡ true → list_all is_figure b ≡ true → is_figure x ≡ false → is_figure y ≡ false
    → a ++ (x ∷ r) ≡ b ++ (y ∷ s) → (a ≡ b) × (x ∷ r ≡ y ∷ s)
unfolding head tail
cut [] [] x y r s fa fb nx ny e = (refl, e)
cut [] (d ∷ b) x y r s fa fb nx ny e =
    absurd (let yes : is_figure d ≡ true = (and_parts (is_figure d) (list_all is_figure b) fb).0 in let same : is_figure x ≡ is_figure d = ap (λ (l : List ℕ). is_figure (head l)) e in cc)
cut (c ∷ a) [] x y r s fa fb nx ny e =
    absurd (let yes : is_figure c ≡ true = (and_parts (is_figure c) (list_all is_figure a) fa).0 in let same : is_figure c ≡ is_figure y = ap (λ (l : List ℕ). is_figure (head l)) e in cc)
cut (c ∷ a) (d ∷ b) x y r s fa fb nx ny e =
    let rest = cut a b x y r s (and_parts (is_figure c) (list_all is_figure a) fa).1 (and_parts (is_figure d) (list_all is_figure b) fb).1 nx ny (ap tail e) in
    (ap₂ (λ (k : ℕ) (l : List ℕ). k ∷ l) (ap head e) rest.0, rest.1)

-- ---- cells, up to the end of their row

closed : List PlainCell → List ℕ
closed cs = flat_map cell_text cs ++ codes "]"

first_apart : (c : PlainCell) (cs : List PlainCell) → closed (c ∷ cs) ≡ cell_text c ++ closed cs
unfolding closed
first_apart c cs = append_assoc (cell_text c) (flat_map cell_text cs) (codes "]")

-- they begin with no figure
record Begins (cs : List PlainCell) : Type 0 where
  first : ℕ
  rest : List ℕ
  other : is_figure first ≡ false
  is : closed cs ≡ first ∷ rest

begins : (cs : List PlainCell) → Begins cs
unfolding closed is_figure tail
begins [] = record { first = 93; rest = []; other = refl; is = refl }
begins (number n ∷ cs) = record { first = 44; rest = (decimal n ++ flat_map cell_text cs) ++ codes "]"; other = refl; is = refl }
begins (text bytes ∷ cs) = record { first = 44; rest = tail (closed (text bytes ∷ cs)); other = refl; is = refl }

number_cut : (n m : ℕ) (cs ds : List PlainCell) → closed (number n ∷ cs) ≡ closed (number m ∷ ds) → (decimal n ≡ decimal m) × (closed cs ≡ closed ds)
unfolding tail
number_cut n m cs ds e =
    let b = begins cs in
    let d = begins ds in
    let apart : decimal n ++ closed cs ≡ decimal m ++ closed ds = ap tail (sym (first_apart (number n) cs) ∙ e ∙ first_apart (number m) ds) in
    let parts = cut (decimal n) (decimal m) b.first d.first b.rest d.rest (figures n) (figures m) b.other d.other
    (ap (λ (l : List ℕ). decimal n ++ l) (sym b.is) ∙ apart ∙ ap (λ (l : List ℕ). decimal m ++ l) d.is) in
    (parts.0, b.is ∙ parts.1 ∙ sym d.is)

same_cut : (c : PlainCell) (cs ds : List PlainCell) → closed (c ∷ cs) ≡ closed (c ∷ ds) → closed cs ≡ closed ds
same_cut c cs ds e = append_cancel_left (cell_text c) _ _ (sym (first_apart c cs) ∙ e ∙ first_apart c ds)

text_cut : (t u : List ℕ) (cs ds : List PlainCell) → t ≡ u → closed (text t ∷ cs) ≡ closed (text u ∷ ds) → closed cs ≡ closed ds
text_cut t u cs ds is e = same_cut (text u) cs ds (ap (λ (l : List ℕ). closed (text l ∷ cs)) (sym is) ∙ e)

third : List ℕ → ℕ
third l = head (tail (tail l))

state_cut : (s t : ProgressState) (cs ds : List PlainCell) → closed (text (progress_state_text s) ∷ cs) ≡ closed (text (progress_state_text t) ∷ ds) → (s ≡ t) × (closed cs ≡ closed ds)
unfolding closed head tail third
state_cut Probe Probe cs ds e = (refl, same_cut (text (codes "probe")) cs ds e)
state_cut Replicate Replicate cs ds e = (refl, same_cut (text (codes "replicate")) cs ds e)
state_cut Snapshot Snapshot cs ds e = (refl, same_cut (text (codes "snapshot")) cs ds e)
state_cut Probe Replicate cs ds e = absurd (let letters : 112 ≡ 114 = ap third e in omega (arith, letters))
state_cut Probe Snapshot cs ds e = absurd (let letters : 112 ≡ 115 = ap third e in omega (arith, letters))
state_cut Replicate Probe cs ds e = absurd (let letters : 114 ≡ 112 = ap third e in omega (arith, letters))
state_cut Replicate Snapshot cs ds e = absurd (let letters : 114 ≡ 115 = ap third e in omega (arith, letters))
state_cut Snapshot Probe cs ds e = absurd (let letters : 115 ≡ 112 = ap third e in omega (arith, letters))
state_cut Snapshot Replicate cs ds e = absurd (let letters : 115 ≡ 114 = ap third e in omega (arith, letters))

-- the same text of a first cell, and of the others
number_join : (n m : ℕ) (cs ds : List PlainCell) → decimal n ≡ decimal m → closed cs ≡ closed ds → closed (number n ∷ cs) ≡ closed (number m ∷ ds)
number_join n m cs ds first rest =
    first_apart (number n) cs ∙ ap₂ (λ (a b : List ℕ). 44 ∷ (a ++ b)) first rest ∙ sym (first_apart (number m) ds)

text_join : (t u : List ℕ) (cs ds : List PlainCell) → t ≡ u → closed cs ≡ closed ds → closed (text t ∷ cs) ≡ closed (text u ∷ ds)
text_join t u cs ds first rest =
    first_apart (text t) cs ∙ ap₂ (λ (l b : List ℕ). cell_text (text l) ++ b) first rest ∙ sym (first_apart (text u) ds)

-- texts that differ, as a test says
unequal : (a b : List ℕ) (t : Bool) → t ≡ false → (a ≡ b → t ≡ true) → bytes_eq a b ≡ false
unequal a b t differs means = by (bytes_eq a b) refl
  where
    by : (c : Bool) → bytes_eq a b ≡ c → bytes_eq a b ≡ false
    by true e = absurd (let is : t ≡ true = means ((bytes_eq-Decides a b).0 e) in cc)
    by false e = e

-- ---- a view

view_cells : ℕ → ℕ × PlainProgress → List PlainCell
view_cells id v =
    number id ∷ number v.0 ∷ text (progress_state_text v.1.state) ∷ number v.1.matched ∷ number v.1.next ∷ number (length v.1.window.in_flight)
    ∷ number (flag v.1.waiting) ∷ number v.1.pending ∷ number (flag v.1.active) ∷ []

view_text : (id : ℕ) (v : ℕ × PlainProgress) → next_text (view_row id v) ≡ codes ",\n[\"view\"" ++ closed (view_cells id v)
unfolding next_text closed view_cells
view_text id v = refl

progress_cut : (a b : PlainProgress) (cs ds : List PlainCell)
    → closed (text (progress_state_text a.state) ∷ number a.matched ∷ number a.next ∷ number (length a.window.in_flight) ∷ number (flag a.waiting) ∷ number a.pending ∷ number (flag a.active) ∷ cs)
    ≡ closed (text (progress_state_text b.state) ∷ number b.matched ∷ number b.next ∷ number (length b.window.in_flight) ∷ number (flag b.waiting) ∷ number b.pending ∷ number (flag b.active) ∷ ds)
    → ShowSameProgress a b
progress_cut a b cs ds e =
    let state = state_cut a.state b.state _ _ e in
    let matched = number_cut a.matched b.matched _ _ state.1 in
    let next = number_cut a.next b.next _ _ matched.1 in
    let window = number_cut (length a.window.in_flight) (length b.window.in_flight) _ _ next.1 in
    let waiting = number_cut (flag a.waiting) (flag b.waiting) _ _ window.1 in
    let pending = number_cut a.pending b.pending _ _ waiting.1 in
    let active = number_cut (flag a.active) (flag b.active) cs ds pending.1 in
    (state.0, matched.0, next.0, window.0, waiting.0, pending.0, active.0)

view_cut : (id other : ℕ) (v w : ℕ × PlainProgress) → next_text (view_row id v) ≡ next_text (view_row other w) → ShowSameView id v other w
unfolding view_cells
view_cut id other v w e =
    let cells : closed (view_cells id v) ≡ closed (view_cells other w) = append_cancel_left (codes ",\n[\"view\"") _ _ (sym (view_text id v) ∙ e ∙ view_text other w) in
    let node = number_cut id other _ _ cells in
    let member = number_cut v.0 w.0 _ _ node.1 in
    (node.0, member.0, progress_cut v.1 w.1 [] [] member.1)

view_join : (id other : ℕ) (v w : ℕ × PlainProgress) → ShowSameView id v other w → next_text (view_row id v) ≡ next_text (view_row other w)
unfolding view_cells
view_join id other v w (node, member, (state, matched, next, window, waiting, pending, active)) =
    let cells : closed (view_cells id v) ≡ closed (view_cells other w) =
    number_join id other _ _ node (number_join v.0 w.0 _ _ member (text_join (progress_state_text v.1.state) (progress_state_text w.1.state) _ _ (ap progress_state_text state)
    (number_join v.1.matched w.1.matched _ _ matched (number_join v.1.next w.1.next _ _ next (number_join (length v.1.window.in_flight) (length w.1.window.in_flight) _ _ window
    (number_join (flag v.1.waiting) (flag w.1.waiting) _ _ waiting (number_join v.1.pending w.1.pending _ _ pending (number_join (flag v.1.active) (flag w.1.active) [] [] active refl)))))))) in
    view_text id v ∙ ap (λ (l : List ℕ). codes ",\n[\"view\"" ++ l) cells ∙ sym (view_text other w)

-- the view at a place has the row that is looked for
pub view_here : (id other : ℕ) (v w : ℕ × PlainProgress) (ws : List (ℕ × PlainProgress)) (i : ℕ) → slice_get ws i ≡ Some w → ShowSameView id v other w
    → has_text (texts_of (view_rows other (drop i ws))) (next_text (view_row id v)) ≡ true
view_here id other v w ws i got same =
    let own = next_text (view_row id v) in
    let here : bytes_eq own (next_text (view_row other w)) ≡ true = (bytes_eq-Decides own (next_text (view_row other w))).1 (view_join id other v w same) in
    ap (λ (vs : List (ℕ × PlainProgress)). has_text (texts_of (view_rows other vs)) own) (left_some ws i w got)
    ∙ ap (λ (t : Bool). t || has_text (texts_of (view_rows other (drop (i + 1) ws))) own) here

-- it has another
pub view_not_here : (id other : ℕ) (v w : ℕ × PlainProgress) (ws : List (ℕ × PlainProgress)) (i : ℕ) (t : Bool) → slice_get ws i ≡ Some w → t ≡ false → (ShowSameView id v other w → t ≡ true)
    → has_text (texts_of (view_rows other (drop i ws))) (next_text (view_row id v)) ≡ has_text (texts_of (view_rows other (drop (i + 1) ws))) (next_text (view_row id v))
view_not_here id other v w ws i t got differs means =
    let own = next_text (view_row id v) in
    let here : bytes_eq own (next_text (view_row other w)) ≡ false = unequal own (next_text (view_row other w)) t differs (λ e. means (view_cut id other v w e)) in
    ap (λ (vs : List (ℕ × PlainProgress)). has_text (texts_of (view_rows other vs)) own) (left_some ws i w got)
    ∙ ap (λ (b : Bool). b || has_text (texts_of (view_rows other (drop (i + 1) ws))) own) here

-- ---- a node's numbers

node_cells : PlainNode → List PlainCell
node_cells n =
    number n.id ∷ text (role_text n.role) ∷ number n.term ∷ number n.vote ∷ number n.lead ∷ number n.commit ∷ number n.applied ∷ number n.log.durable
    ∷ number (length n.content) ∷ text (content_end n.content) ∷ []

node_text : (n : PlainNode) → next_text (node_row n) ≡ codes ",\n[\"node\"" ++ closed (node_cells n)
unfolding next_text closed node_cells
node_text n = refl

node_cut : (a b : PlainNode) → role_text a.role ≡ role_text b.role → next_text (node_row a) ≡ next_text (node_row b) → ShowSameNumbers a b
unfolding node_cells
node_cut a b role e =
    let cells : closed (node_cells a) ≡ closed (node_cells b) = append_cancel_left (codes ",\n[\"node\"") _ _ (sym (node_text a) ∙ e ∙ node_text b) in
    let id = number_cut a.id b.id _ _ cells in
    let term = number_cut a.term b.term _ _ (text_cut (role_text a.role) (role_text b.role) _ _ role id.1) in
    let vote = number_cut a.vote b.vote _ _ term.1 in
    let lead = number_cut a.lead b.lead _ _ vote.1 in
    let commit = number_cut a.commit b.commit _ _ lead.1 in
    let applied = number_cut a.applied b.applied _ _ commit.1 in
    let durable = number_cut a.log.durable b.log.durable _ _ applied.1 in
    let content = number_cut (length a.content) (length b.content) _ _ durable.1 in
    (id.0, term.0, vote.0, lead.0, commit.0, applied.0, durable.0, content.0)

pub node_join : (a b : PlainNode) → a.role ≡ b.role → ShowSameNumbers a b → content_end a.content ≡ content_end b.content → next_text (node_row a) ≡ next_text (node_row b)
unfolding node_cells
node_join a b role (id, term, vote, lead, commit, applied, durable, content) end =
    let cells : closed (node_cells a) ≡ closed (node_cells b) =
    number_join a.id b.id _ _ id (text_join (role_text a.role) (role_text b.role) _ _ (ap role_text role) (number_join a.term b.term _ _ term (number_join a.vote b.vote _ _ vote
    (number_join a.lead b.lead _ _ lead (number_join a.commit b.commit _ _ commit (number_join a.applied b.applied _ _ applied (number_join a.log.durable b.log.durable _ _ durable
    (number_join (length a.content) (length b.content) _ _ content (text_join (content_end a.content) (content_end b.content) [] [] end refl))))))))) in
    node_text a ∙ ap (λ (l : List ℕ). codes ",\n[\"node\"" ++ l) cells ∙ sym (node_text b)

pub node_differs : (a b : PlainNode) (t : Bool) → a.role ≡ b.role → t ≡ false → (ShowSameNumbers a b → t ≡ true) → bytes_eq (next_text (node_row b)) (next_text (node_row a)) ≡ false
node_differs a b t role differs means = unequal (next_text (node_row b)) (next_text (node_row a)) t differs (λ e. means (node_cut a b (ap role_text role) (sym e)))
