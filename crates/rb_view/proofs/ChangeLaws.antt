-- How many rows there are of what is not as it was.
use Rattle.std.proofs.Common.{◌≡◌, ◌∙◌, ℕ, ◌+◌, ◌-◌, ◌≤◌, Bool, true, false, List, [], ◌∷◌, ◌++◌, length, get_or, refl, ap, ap₂, sym, subst, arith, inl, inr, length-append, length-drop}
use Rattle.std.specs.Prelude.{◌&&◌, ◌==◌, if◌then◌else◌, codes, nat_eq, slice_get, slice_index, Some, Contains}
use Rattle.std.specs.List.{flat_map, list_any, slice_index_or, sum_by}
use Rattle.std.specs.Map.{keys_of}
use Rattle.std.specs.Str.{bytes_eq}
use Rattle.std.proofs.lemmas.Bool.{and_parts, or_cases, or_left, or_right}
use Rattle.std.proofs.lemmas.Bool.Decides.{Decides-eqb}
use Rattle.std.proofs.lemmas.List.{get_or-map, length-map, nil_from_length}
use Rattle.std.proofs.lemmas.List.Concat.{length-flat_map}
use Rattle.std.proofs.lemmas.List.Elements.{All-contains_itself, All-weaker}
use Rattle.std.proofs.lemmas.List.Folds.{flat_map-map, list_any_at}
use Rattle.std.proofs.lemmas.List.Sums.{sum_by-cons, sum_by-le, sum_by-le-sum_by}
use Rattle.std.proofs.lemmas.Map.Made.{is_some-lookup}
use Rattle.std.proofs.lemmas.Option.{get_or_from_slice_get, slice_get_within}
use Rattle.std.proofs.lemmas.Slice.Eq.{bytes_eq-Decides}
use Rattle.rb_raftlog.specs.Log.{LogValue, entries_after}
use Rattle.rb_script.specs.Lines.{Line}
use Rattle.rb_node.specs.Node.{PlainNode}
use Rattle.rb_tracker.proofs.SetLaws.{if_both}
use Rattle.rb_tracker.specs.Progresses.{PlainProgress}
use Rattle.rb_tracker.specs.Trackers.{has_view}
use Rattle.rb_texts.specs.Configs.{config_text}
use Rattle.rb_texts.specs.States.{progress_state_text}
use Rattle.rb_view.specs.Kept.{texts_of}
use Rattle.rb_view.specs.Rows.{Row, row, number, text, next_text}
use Rattle.rb_view.specs.Changes.{one_unless, has_same_numbers, has_same_config, view_numbers, is_same_view, views_changed, views_gone, log_change, parts_changed, whole, node_change, state_change}
use Rattle.rb_view.specs.Logs.{is_same_log, log_changes, log_from, stays}
use Rattle.rb_view.specs.NewRows.{has_text, new_row, new_rows}
use Rattle.rb_view.specs.States.{added_rows, changed_rows, config_row, gone_of, gone_rows, no_view_row, node_row, standing, state_rows, view_row, view_rows}
use Rattle.rb_view.proofs.LogLaws.{entries_count, own_same}

-- ---- what is the same has the same row

equal : (a b : List ℕ) → bytes_eq a b ≡ true → a ≡ b
equal a b e = (bytes_eq-Decides a b).0 e

itself : (a : List ℕ) → bytes_eq a a ≡ true
itself a = (bytes_eq-Decides a a).1 refl

same_config : (a b : PlainNode) → a.id ≡ b.id → has_same_config a b ≡ true → config_row a ≡ config_row b
same_config a b id e =
    ap₂ (λ (k : ℕ) (l : List ℕ). row (codes "config") (number k ∷ text l ∷ [])) id (equal (config_text a.tracker.config) (config_text b.tracker.config) e)

view_of : ℕ → (numbers state : List ℕ) → Row
view_of id numbers state = row (codes "view")
    (number id ∷ number (slice_index numbers 0) ∷ text state ∷ number (slice_index numbers 1) ∷ number (slice_index numbers 2)
    ∷ number (slice_index numbers 3) ∷ number (slice_index numbers 4) ∷ number (slice_index numbers 5) ∷ number (slice_index numbers 6) ∷ [])

same_view : (id : ℕ) (a b : ℕ × PlainProgress) → is_same_view a b ≡ true → view_row id a ≡ view_row id b
unfolding view_of
same_view id a b e =
    let all = and_parts (bytes_eq (view_numbers a) (view_numbers b)) (bytes_eq (progress_state_text a.1.state) (progress_state_text b.1.state)) e in
    ap₂ (view_of id) (equal (view_numbers a) (view_numbers b) all.0) (equal (progress_state_text a.1.state) (progress_state_text b.1.state) all.1)

-- ---- such a row is there

there : (olds : List Line) (other one : Line) → has_text olds one ≡ true → has_text (other ∷ olds) one ≡ true
there olds other one h = or_right (bytes_eq one other) (has_text olds one) h

here : (olds : List Line) (other one : Line) → other ≡ one → has_text (other ∷ olds) one ≡ true
here olds other one e = or_left (bytes_eq one other) (has_text olds one) ((bytes_eq-Decides one other).1 (sym e))

view_there : (id : ℕ) (v : ℕ × PlainProgress) (olds : List (ℕ × PlainProgress)) → list_any (is_same_view v) olds ≡ true → has_text (texts_of (view_rows id olds)) (next_text (view_row id v)) ≡ true
view_there id v [] e = absurd cc
view_there id v (w ∷ ws) e =
    let others = texts_of (view_rows id ws) in
    elim (or_cases (is_same_view v w) (list_any (is_same_view v) ws) e) as (λ _. has_text (next_text (view_row id w) ∷ others) (next_text (view_row id v)) ≡ true) [
      | inl same ↦ here others (next_text (view_row id w)) (next_text (view_row id v)) (ap next_text (sym (same_view id v w same)))
      | inr later ↦ there others (next_text (view_row id w)) (next_text (view_row id v)) (view_there id v ws later)
    ]

-- ---- how many rows are new

one_by : (t : Bool) (r : Row) → length (if t then [] else r ∷ []) ≤ one_unless t
one_by true r = omega arith
one_by false r = omega arith

one_at_most : (t : Bool) → one_unless t ≤ 1
one_at_most true = omega arith
one_at_most false = omega arith

-- a row that is there where a test passes
one_new : (same : Bool) (olds : List Line) (r : Row) → (same ≡ true → has_text olds (next_text r) ≡ true) → length (new_row olds r) ≤ one_unless same
one_new true olds r is =
    let none : length (new_row olds r) ≡ 0 = ap (λ (t : Bool). length (if t then [] else r ∷ [])) (is refl) in
    omega (arith, none)
one_new false olds r is = omega (arith, one_by (has_text olds (next_text r)) r, one_at_most (has_text olds (next_text r)))

views_new : (id : ℕ) (olds : List Line) (before vs : List (ℕ × PlainProgress)) → ((v : ℕ × PlainProgress) → list_any (is_same_view v) before ≡ true → has_text olds (next_text (view_row id v)) ≡ true)
    → length (flat_map (new_row olds) (view_rows id vs)) ≤ views_changed before vs
views_new id olds before vs are =
    let rows : ℕ × PlainProgress → List Row = λ v. new_row olds (view_row id v) in
    let few = sum_by-le-sum_by (λ v. length (rows v)) (λ v. one_unless (list_any (is_same_view v) before)) vs (λ v. one_new (list_any (is_same_view v) before) olds (view_row id v) (are v)) in
    omega (arith, ap (λ (rs : List Row). length rs) (flat_map-map (new_row olds) (view_row id) vs), length-flat_map rows vs, few)

gone_few : (id : ℕ) (olds news : List (ℕ × PlainProgress)) → length (gone_rows id olds news) ≤ views_gone olds news
gone_few id olds news =
    let rows : ℕ × PlainProgress → List Row = λ v. gone_of id news v.0 in
    let few = sum_by-le-sum_by (λ v. length (rows v)) (λ v. one_unless (has_view news v.0)) olds (λ v. one_by (has_view news v.0) (no_view_row id v.0)) in
    omega (arith, length-flat_map rows olds, few)

-- no more of them are new, or gone, than there are; and none where each is as it was
one_each : {X : Type 0} (same : X → Bool) (xs : List X) → sum_by (λ x. one_unless (same x)) xs ≤ length xs
one_each same xs = omega (arith, sum_by-le (λ x. one_unless (same x)) 1 xs (λ k d low. one_at_most (same (slice_index_or xs k d))))

none_of : {X : Type 0} (same : X → Bool) (xs : List X) → ((x : X) → Contains xs x → same x ≡ true) → sum_by (λ x. one_unless (same x)) xs ≡ 0
none_of same xs all =
    let none = All-weaker (Contains xs) (λ x. one_unless (same x) ≤ 0) (λ x among. (let e = ap one_unless (all x among) in omega (arith, e))) xs (All-contains_itself xs) in
    omega (arith, sum_by-le (λ x. one_unless (same x)) 0 xs none)

log_by : (t : Bool) (rs : List Row) (most : ℕ) → length rs ≤ most → length (if t then [] else rs) ≤ (if t then 0 else most)
log_by true rs most le = omega arith
log_by false rs most le = le

log_few : (id : ℕ) (old new : LogValue) → length (log_changes id old new) ≤ log_change old new
log_few id old new =
    let index = stays old new in
    log_by (is_same_log old new) (log_from id new index) (1 + length (entries_after new index)) (omega (arith, entries_count (index + 1) (entries_after new index)))

log_most : (t : Bool) (most : ℕ) → (if t then 0 else most) ≤ most
log_most true most = omega arith
log_most false most = omega arith

-- ---- nodes

-- a node whose numbers, configuration and views are those of before where these tests pass
parts_by : (numbers config : Bool) (views : List (ℕ × PlainProgress)) (old new : PlainNode)
    → (numbers ≡ true → has_text (texts_of (standing old)) (next_text (node_row new)) ≡ true)
    → (config ≡ true → has_text (texts_of (standing old)) (next_text (config_row new)) ≡ true)
    → ((v : ℕ × PlainProgress) → list_any (is_same_view v) views ≡ true → has_text (texts_of (standing old)) (next_text (view_row new.id v)) ≡ true)
    → length (changed_rows old new) ≤ one_unless numbers + one_unless config + views_changed views new.tracker.views + views_gone old.tracker.views new.tracker.views + log_change old.log new.log
parts_by numbers config views old new has_numbers has_config has_views =
    let olds = texts_of (standing old) in
    let news = view_rows new.id new.tracker.views in
    let gone = gone_rows new.id old.tracker.views new.tracker.views in
    let log = log_changes new.id old.log new.log in
    omega (
      arith,
      length-append (new_rows (standing old) (standing new)) (gone ++ log),
      length-append gone log,
      length-append (new_row olds (node_row new)) (new_row olds (config_row new) ++ flat_map (new_row olds) news),
      length-append (new_row olds (config_row new)) (flat_map (new_row olds) news),
      one_new numbers olds (node_row new) has_numbers,
      one_new config olds (config_row new) has_config,
      views_new new.id olds views new.tracker.views has_views,
      gone_few new.id old.tracker.views new.tracker.views,
      log_few new.id old.log new.log,
    )

parts_few : (old new : PlainNode) → old.id ≡ new.id → length (changed_rows old new) ≤ parts_changed old new
parts_few old new same =
    let olds = texts_of (standing old) in
    let more = texts_of (config_row old ∷ view_rows old.id old.tracker.views) in
    let views = texts_of (view_rows old.id old.tracker.views) in
    parts_by (has_same_numbers old new) (has_same_config old new) old.tracker.views old new
    (λ e. here more (next_text (node_row old)) (next_text (node_row new)) (equal (next_text (node_row old)) (next_text (node_row new)) e))
    (λ e. there more (next_text (node_row old)) (next_text (config_row new)) (here views (next_text (config_row old)) (next_text (config_row new)) (ap next_text (same_config old new same e))))
    (λ v e.
    subst (λ (id : ℕ). has_text olds (next_text (view_row id v)) ≡ true) same
    (there more (next_text (node_row old)) (next_text (view_row old.id v)) (there views (next_text (config_row old)) (next_text (view_row old.id v)) (view_there old.id v old.tracker.views e))))

-- one in another's place, of whose rows each may be new
others_few : (old new : PlainNode) → length (changed_rows old new) ≤ whole new + length old.tracker.views
others_few old new =
    omega (
      arith,
      parts_by false false [] old new (λ e. absurd cc) (λ e. absurd cc) (λ v e. absurd cc),
      one_each (λ (v : ℕ × PlainProgress). list_any (is_same_view v) []) new.tracker.views,
      one_each (λ (v : ℕ × PlainProgress). has_view new.tracker.views v.0) old.tracker.views,
      log_most (is_same_log old.log new.log) (1 + length (entries_after new.log (stays old.log new.log))),
      length-drop (stays old.log new.log - new.log.base) new.log.entries,
    )

node_few : (old new : PlainNode) → length (changed_rows old new) ≤ node_change old new
node_few old new =
    if_both (λ (most : ℕ). length (changed_rows old new) ≤ most) (old.id == new.id) _ _
    (λ same. parts_few old new ((Decides-eqb old.id new.id).0 same)) (λ _. others_few old new)

added_few : (n : PlainNode) → length (added_rows n) ≤ whole n
added_few n =
    omega (
      arith,
      length-append (standing n) (log_from n.id n.log n.log.base),
      length-map n.tracker.views (view_row n.id),
      entries_count (n.log.base + 1) (entries_after n.log n.log.base),
      length-drop (n.log.base - n.log.base) n.log.entries,
    )

-- there are no more rows than counted
pub state_few : (olds news : List PlainNode) → length (state_rows olds news) ≤ state_change olds news
state_few [] [] = omega arith
state_few (old ∷ olds) [] = omega arith
state_few [] (n ∷ ns) = omega (arith, length-append (added_rows n) (state_rows [] ns), added_few n, state_few [] ns)
state_few (old ∷ olds) (n ∷ ns) = omega (arith, length-append (changed_rows old n) (state_rows olds ns), node_few old n, state_few olds ns)

-- ---- what is as it was counts nothing

own_view : (v : ℕ × PlainProgress) → is_same_view v v ≡ true
own_view v = ap₂ (λ (s t : Bool). s && t) (itself (view_numbers v)) (itself (progress_state_text v.1.state))

same_there : (olds : List (ℕ × PlainProgress)) (v : ℕ × PlainProgress) → Contains olds v → list_any (is_same_view v) olds ≡ true
same_there olds v (k, low, is) = list_any_at (is_same_view v) olds k v low (ap (is_same_view v) is ∙ own_view v)

pub view_still : (olds : List (ℕ × PlainProgress)) (v : ℕ × PlainProgress) (news : List (ℕ × PlainProgress)) → Contains olds v → views_changed olds (v ∷ news) ≡ views_changed olds news
view_still olds v news among =
    let none : one_unless (list_any (is_same_view v) olds) ≡ 0 = ap one_unless (same_there olds v among) in
    omega (arith, sum_by-cons (λ (w : ℕ × PlainProgress). one_unless (list_any (is_same_view w) olds)) v news, none)

-- who has a view has one there
viewed : (vs : List (ℕ × PlainProgress)) (v : ℕ × PlainProgress) → Contains vs v → has_view vs v.0 ≡ true
viewed vs v (k, low, is) =
    let here : get_or (keys_of vs) k v.0 ≡ v.0 = get_or-map (λ (e : ℕ × PlainProgress). e.0) vs k v v.0 low ∙ ap (λ (e : ℕ × PlainProgress). e.0) is in
    is_some-lookup (nat_eq v.0) vs
    ∙ list_any_at (nat_eq v.0) (keys_of vs) k v.0 (omega (arith, low, length-map vs (λ (e : ℕ × PlainProgress). e.0))) ((Decides-eqb v.0 (get_or (keys_of vs) k v.0)).1 (sym here))

pub viewed_at : (vs : List (ℕ × PlainProgress)) (k member : ℕ) (v : ℕ × PlainProgress) → slice_get vs k ≡ Some v → v.0 ≡ member → has_view vs member ≡ true
viewed_at vs k member v got is =
    subst (λ (id : ℕ). has_view vs id ≡ true) is (viewed vs v (k, slice_get_within vs k v got, get_or_from_slice_get vs k v v got))

parts_still : (n : PlainNode) → parts_changed n n ≡ 0
parts_still n =
    let vs = n.tracker.views in
    let numbers : one_unless (has_same_numbers n n) ≡ 0 = ap one_unless (itself (next_text (node_row n))) in
    let config : one_unless (has_same_config n n) ≡ 0 = ap one_unless (itself (config_text n.tracker.config)) in
    let log : log_change n.log n.log ≡ 0 = ap (λ (t : Bool). if t then 0 else 1 + length (entries_after n.log (stays n.log n.log))) (own_same n.log) in
    omega (arith, numbers, config, none_of (λ (v : ℕ × PlainProgress). list_any (is_same_view v) vs) vs (same_there vs), none_of (λ (v : ℕ × PlainProgress). has_view vs v.0) vs (viewed vs), log)

node_still : (n : PlainNode) → node_change n n ≡ 0
node_still n = ap (λ (t : Bool). if t then parts_changed n n else whole n + length n.tracker.views) ((Decides-eqb n.id n.id).1 refl) ∙ parts_still n

pub state_still : (n : PlainNode) (olds news : List PlainNode) → state_change (n ∷ olds) (n ∷ news) ≡ state_change olds news
state_still n olds news = omega (arith, node_still n)

pub states_still : (nodes : List PlainNode) → state_change nodes nodes ≡ 0
states_still [] = refl
states_still (n ∷ ns) = state_still n ns ns ∙ states_still ns

-- so there is no row
pub no_row : (n : PlainNode) → changed_rows n n ≡ []
no_row n = nil_from_length (changed_rows n n) (omega (arith, node_few n n, node_still n))

pub no_rows : (nodes : List PlainNode) → state_rows nodes nodes ≡ []
no_rows nodes = nil_from_length (state_rows nodes nodes) (omega (arith, state_few nodes nodes, states_still nodes))

-- ---- at the most

pub node_most : (old new : PlainNode) → old.id ≡ new.id
    → node_change old new ≤ 3 + views_changed old.tracker.views new.tracker.views + views_gone old.tracker.views new.tracker.views + length (entries_after new.log (stays old.log new.log))
node_most old new same =
    let parts : node_change old new ≡ parts_changed old new =
    ap (λ (t : Bool). if t then parts_changed old new else whole new + length old.tracker.views) ((Decides-eqb old.id new.id).1 same) in
    omega (
      arith,
      parts,
      one_at_most (has_same_numbers old new),
      one_at_most (has_same_config old new),
      log_most (is_same_log old.log new.log) (1 + length (entries_after new.log (stays old.log new.log))),
    )
