-- Whom a leader has views of, as sets of ids: one view put in or taken out, the views of strangers, and those that are missing
use Rattle.std.proofs.Common.{◌≡◌, ℕ, zero, suc, Bool, true, false, not, ◌&&◌, ◌||◌, List, [], ◌∷◌, ◌++◌, take, drop, map, Option, Some, is_some, cond, refl, sym, ap, subst, ◌∙◌, if◌then◌else◌, nat_eq, ◌==◌}
use Rattle.std.specs.Cmp.{nat_eq_equiv}
use Rattle.std.specs.Map.{keys_of, lookup, remove_entry}
use Rattle.indexmap.specs.Layout.{set_value_at}
use Rattle.rb_tracker.proofs.ChangeLaws.{has_union, same_has}
use Rattle.rb_tracker.proofs.SetLaws.{if_both, same_id, self_id, has_below}
use Rattle.rb_tracker.proofs.ViewLaws.{put_in_order, removed_in_order}
use Rattle.rb_tracker.specs.Active.{inactive_unless_own}
use Rattle.rb_tracker.specs.Configs.{voters, members, is_member}
use Rattle.rb_tracker.specs.Progresses.{PlainProgress, with_active}
use Rattle.rb_tracker.specs.Sets.{has, union, rank, AreAbove}
use Rattle.rb_tracker.specs.Trackers.{has_view, ids_of, AreInOrder}
use Rattle.rb_tracker.specs.declared.config.Config.{Config}
use Rattle.rb_node.specs.Changing.{without_view, without_views, missing}
use Rattle.rb_node.specs.Leading.{new_view, with_view_of, with_views}
use Rattle.rb_node.specs.Node.{PlainNode}
use Rattle.rb_calls.proofs.LeaderLaws.{stranger_only, strangers_only}

-- ---- the ids that have views

abbrev pub seen : PlainNode → ℕ → Bool
seen n id = has (keys_of n.tracker.views) id

pub ids_set : (es : List (ℕ × PlainProgress)) (i : ℕ) (view : PlainProgress) → keys_of (set_value_at es i view) ≡ keys_of es
ids_set [] i view = refl
ids_set (e ∷ es) zero view = refl
ids_set (e ∷ es) (suc i) view = ap (λ (l : List ℕ). e.0 ∷ l) (ids_set es i view)

unmarked_id : (own : ℕ) (e : ℕ × PlainProgress) → (inactive_unless_own own e).0 ≡ e.0
unmarked_id own e = if_both (λ (f : ℕ × PlainProgress). f.0 ≡ e.0) (e.0 == own) e (e.0, with_active e.1 false) (λ _. refl) (λ _. refl)

pub ids_unmarked : (own : ℕ) (es : List (ℕ × PlainProgress)) → keys_of (map (inactive_unless_own own) es) ≡ keys_of es
ids_unmarked own [] = refl
ids_unmarked own (e ∷ es) = rw (ids_unmarked own es, unmarked_id own e) refl

view_step : (b : Bool) (x : PlainProgress) (rest : Option PlainProgress) (r : Bool) → is_some rest ≡ r → is_some (cond b (Some x) rest) ≡ (if b then true else r)
view_step true x rest r e = refl
view_step false x rest r e = e

-- who has a view is among the ids
view_has : (es : List (ℕ × PlainProgress)) (id : ℕ) → has_view es id ≡ has (keys_of es) id
view_has [] id = refl
view_has (e ∷ es) id = rw (nat_eq_equiv.symm e.0 id) (view_step (nat_eq id e.0) e.1 (lookup (nat_eq id) es) (has (keys_of es) id) (view_has es id))

-- ---- one more, and one fewer

put_step : (a b q r : Bool) → q ≡ (if b then true else r) → (if a then true else q) ≡ (if b then true else (if a then true else r))
put_step true true q r e = refl
put_step true false q r e = refl
put_step false true q r e = e
put_step false false q r e = e

has_put : (es : List (ℕ × PlainProgress)) (i id y : ℕ) (view : PlainProgress) → has (keys_of (take i es ++ (id, view) ∷ drop i es)) y ≡ (if id == y then true else has (keys_of es) y)
has_put es zero id y view = refl
has_put [] (suc i) id y view = refl
has_put (e ∷ es) (suc i) id y view = put_step (e.0 == y) (id == y) _ (has (keys_of es) y) (has_put es i id y view)

nothing_else : (b : Bool) → false ≡ (if b then false else false)
nothing_else true = refl
nothing_else false = refl

gone_by : (b : Bool) (x y : ℕ) (xs : List ℕ) → (x == y) ≡ b → has xs x ≡ false → has xs y ≡ (if b then false else (if b then true else has xs y))
gone_by true x y xs e none = subst (λ (z : ℕ). has xs z ≡ false) (same_id x y e) none
gone_by false x y xs e none = refl

gone_here : (x y : ℕ) (xs : List ℕ) → AreAbove x xs → has xs y ≡ (if x == y then false else (if x == y then true else has xs y))
gone_here x y xs above = gone_by (x == y) x y xs refl (has_below xs x above)

gone_step : (a b q r : Bool) → q ≡ (if b then false else r) → (a ≡ true → b ≡ true → ⊥) → (if a then true else q) ≡ (if b then false else (if a then true else r))
gone_step true true q r e never = absurd (never refl refl)
gone_step true false q r e never = refl
gone_step false true q r e never = e
gone_step false false q r e never = e

apart : (id x y : ℕ) → nat_eq id x ≡ false → (x == y) ≡ true → (id == y) ≡ true → ⊥
apart id x y differs h k =
    let same : id ≡ x = same_id id y k ∙ sym (same_id x y h) in
    let is : nat_eq id x ≡ true = rw same (self_id x) in
    let no : true ≡ false = sym is ∙ differs in
    cc

has_removed : (es : List (ℕ × PlainProgress)) (id y : ℕ) → AreInOrder es → has (keys_of (remove_entry (nat_eq id) es)) y ≡ (if id == y then false else has (keys_of es) y)
has_removed [] id y up = nothing_else (id == y)
has_removed (e ∷ es) id y up =
    if_both (λ (l : List (ℕ × PlainProgress)). has (keys_of l) y ≡ (if id == y then false else has (keys_of (e ∷ es)) y)) (nat_eq id e.0) es (e ∷ remove_entry (nat_eq id) es)
    (λ is. (let same : id ≡ e.0 = same_id id e.0 is in rw same (gone_here e.0 y (keys_of es) up.0)))
    (λ differs. gone_step (e.0 == y) (id == y) _ (has (keys_of es) y) (has_removed es id y up.1) (apart id e.0 y differs))

-- ---- views that are put in

put_again : (a h : Bool) → (a ≡ true → h ≡ true) → h ≡ (if a then true else h)
put_again true h is = is refl
put_again false h is = refl

pub with_view_seen : (n : PlainNode) (id y : ℕ) (active : Bool) → seen (with_view_of n id active) y ≡ (if id == y then true else seen n y)
with_view_seen n id y active =
    if_both (λ (x : PlainNode). seen x y ≡ (if id == y then true else seen n y)) (has_view n.tracker.views id) _ _
    (λ held. put_again (id == y) (seen n y) (same_has (keys_of n.tracker.views) id y true (sym (view_has n.tracker.views id) ∙ held)))
    (λ _. has_put n.tracker.views (rank (keys_of n.tracker.views) id) id y (new_view n id active))

with_view_in_order : (n : PlainNode) (id : ℕ) (active : Bool) → AreInOrder n.tracker.views → AreInOrder (with_view_of n id active).tracker.views
with_view_in_order n id active up =
    if_both (λ (x : PlainNode). AreInOrder x.tracker.views) (has_view n.tracker.views id) _ _
    (λ _. up) (λ none. put_in_order n.tracker id (new_view n id active) up none)

put_all_step : (a h b : Bool) → ((if a then true else h) || b) ≡ (h || (if a then true else b))
put_all_step true true b = refl
put_all_step true false b = refl
put_all_step false h b = refl

or_nothing : (h : Bool) → h ≡ (h || false)
or_nothing true = refl
or_nothing false = refl

pub with_views_seen : (n : PlainNode) (ids : List ℕ) (y : ℕ) (active : Bool) → seen (with_views n ids active) y ≡ (seen n y || has ids y)
with_views_seen n [] y active = or_nothing (seen n y)
with_views_seen n (id ∷ ids) y active =
    with_views_seen (with_view_of n id active) ids y active
    ∙ ap (λ (b : Bool). b || has ids y) (with_view_seen n id y active)
    ∙ put_all_step (id == y) (seen n y) (has ids y)

pub with_views_in_order : (n : PlainNode) (ids : List ℕ) (active : Bool) → AreInOrder n.tracker.views → AreInOrder (with_views n ids active).tracker.views
with_views_in_order n [] active up = up
with_views_in_order n (id ∷ ids) active up = with_views_in_order (with_view_of n id active) ids active (with_view_in_order n id active up)

-- ---- views of strangers, which are taken out

stays_step : (a m h : Bool) → (a ≡ true → m ≡ true) → h ≡ (h && (m || not a))
stays_step true m true is = sym (ap (λ (b : Bool). b || false) (is refl))
stays_step true m false is = refl
stays_step false true true is = refl
stays_step false false true is = refl
stays_step false m false is = refl

goes_step : (a m h : Bool) → (a ≡ true → m ≡ false) → (if a then false else h) ≡ (h && (m || not a))
goes_step true m true is = sym (ap (λ (b : Bool). b || false) (is refl))
goes_step true m false is = refl
goes_step false true true is = refl
goes_step false false true is = refl
goes_step false m false is = refl

member_at : (c : Config) (x y : ℕ) (b : Bool) → is_member c x ≡ b → (x == y) ≡ true → is_member c y ≡ b
member_at c x y b is e = subst (λ (z : ℕ). is_member c z ≡ b) (same_id x y e) is

stranger_seen : (n : PlainNode) (id y : ℕ) → AreInOrder n.tracker.views → seen (without_view n id) y ≡ (seen n y && (is_member n.tracker.config y || not (id == y)))
stranger_seen n id y up =
    let m : Bool = is_member n.tracker.config y in
    if_both (λ (x : PlainNode). seen x y ≡ (seen n y && (m || not (id == y)))) (is_member n.tracker.config id) _ _
    (λ is. stays_step (id == y) m (seen n y) (member_at n.tracker.config id y true is))
    (λ no. has_removed n.tracker.views id y up ∙ goes_step (id == y) m (seen n y) (member_at n.tracker.config id y false no))

stranger_in_order : (n : PlainNode) (id : ℕ) → AreInOrder n.tracker.views → AreInOrder (without_view n id).tracker.views
stranger_in_order n id up =
    if_both (λ (x : PlainNode). AreInOrder x.tracker.views) (is_member n.tracker.config id) _ _ (λ _. up) (λ _. removed_in_order id n.tracker.views up)

strangers_step : (h m a b : Bool) → ((h && (m || not a)) && (m || not b)) ≡ (h && (m || not (if a then true else b)))
strangers_step true true a b = refl
strangers_step true false true b = refl
strangers_step true false false b = refl
strangers_step false m a b = refl

pub strangers_in_order : (n : PlainNode) (ids : List ℕ) → AreInOrder n.tracker.views → AreInOrder (without_views n ids).tracker.views
strangers_in_order n [] up = up
strangers_in_order n (id ∷ ids) up = strangers_in_order (without_view n id) ids (stranger_in_order n id up)

pub strangers_seen : (n : PlainNode) (ids : List ℕ) (y : ℕ) → AreInOrder n.tracker.views → seen (without_views n ids) y ≡ (seen n y && (is_member n.tracker.config y || not (has ids y)))
strangers_seen n [] y up = stays_step false (is_member n.tracker.config y) (seen n y) (λ no. cc)
strangers_seen n (id ∷ ids) y up =
    let next : PlainNode = without_view n id in
    let more : Bool = not (has ids y) in
    strangers_seen next ids y (stranger_in_order n id up)
    ∙ ap (λ (b : Bool). b && (is_member next.tracker.config y || more)) (stranger_seen n id y up)
    ∙ ap (λ (x : PlainNode). (seen n y && (is_member n.tracker.config y || not (id == y))) && (is_member x.tracker.config y || more)) (stranger_only n id)
    ∙ strangers_step (seen n y) (is_member n.tracker.config y) (id == y) (has ids y)

-- ---- members, and those of them that have no view

or_swapped : (o i l n : Bool) → (((o || i) || l) || n) ≡ ((i || o) || l || n)
or_swapped true true l n = refl
or_swapped true false l n = refl
or_swapped false true l n = refl
or_swapped false false l n = refl

pub member_is : (c : Config) (y : ℕ) → has (members c) y ≡ is_member c y
member_is c y =
    has_union (union (voters c) c.learners) c.next y
    ∙ ap (λ (b : Bool). b || has c.next y) (has_union (voters c) c.learners y ∙ ap (λ (b : Bool). b || has c.learners y) (has_union c.outgoing c.incoming y))
    ∙ or_swapped (has c.outgoing y) (has c.incoming y) (has c.learners y) (has c.next y)

seen_step : (a q h k : Bool) → q ≡ (h && not k) → (a ≡ true → k ≡ true) → q ≡ ((if a then true else h) && not k)
seen_step true q true true e is = e
seen_step true q false true e is = e
seen_step true q h false e is = (let no : false ≡ true = is refl in cc)
seen_step false q h k e is = e

unseen_step : (a q h k : Bool) → q ≡ (h && not k) → (a ≡ true → k ≡ false) → (if a then true else q) ≡ ((if a then true else h) && not k)
unseen_step true q h true e is = (let no : true ≡ false = is refl in cc)
unseen_step true q h false e is = refl
unseen_step false q h k e is = e

pub missing_has : (views : List (ℕ × PlainProgress)) (ids : List ℕ) (y : ℕ) → has (missing views ids) y ≡ (has ids y && not (has (keys_of views) y))
missing_has views [] y = refl
missing_has views (id ∷ ids) y =
    let k : Bool = has (keys_of views) y in
    if_both (λ (l : List ℕ). has l y ≡ ((if id == y then true else has ids y) && not k)) (has_view views id) (missing views ids) (id ∷ missing views ids)
    (λ is. seen_step (id == y) _ (has ids y) k (missing_has views ids y) (same_has (keys_of views) id y true (sym (view_has views id) ∙ is)))
    (λ no. unseen_step (id == y) _ (has ids y) k (missing_has views ids y) (same_has (keys_of views) id y false (sym (view_has views id) ∙ no)))

-- whom is left, and who is new, are the members
members_only : (h m k l e : Bool) → k ≡ (h && (m || not h)) → l ≡ (m && not k) → e ≡ (k || l) → e ≡ m
members_only h true true l e p q r = r
members_only h true false l e p q r = r ∙ q
members_only true false true l e p q r = cc
members_only false false true l e p q r = cc
members_only h false false l e p q r = r ∙ q

revised_by : (left : PlainNode) (c : Config) (h : Bool) (y : ℕ) → left.tracker.config ≡ c → seen left y ≡ (h && (is_member c y || not h)) → seen (with_views left (missing left.tracker.views (members left.tracker.config)) true) y ≡ is_member c y
revised_by left c h y config first =
    let ids : List ℕ = missing left.tracker.views (members left.tracker.config) in
    let lacks : has ids y ≡ (is_member c y && not (seen left y)) =
    missing_has left.tracker.views (members left.tracker.config) y
    ∙ ap (λ (b : Bool). b && not (seen left y)) (member_is left.tracker.config y ∙ ap (λ (d : Config). is_member d y) config) in
    members_only h (is_member c y) (seen left y) (has ids y) _ first lacks (with_views_seen left ids y true)

pub revised_seen : (n : PlainNode) (y : ℕ) → AreInOrder n.tracker.views → seen (with_views (without_views n (ids_of n.tracker.views)) (missing (without_views n (ids_of n.tracker.views)).tracker.views (members (without_views n (ids_of n.tracker.views)).tracker.config)) true) y ≡ is_member n.tracker.config y
revised_seen n y up =
    let all : has (ids_of n.tracker.views) y ≡ seen n y = has_union [] (keys_of n.tracker.views) y in
    revised_by (without_views n (ids_of n.tracker.views)) n.tracker.config (seen n y) y
    (ap (λ (x : PlainNode). x.tracker.config) (strangers_only n (ids_of n.tracker.views)))
    (strangers_seen n (ids_of n.tracker.views) y up ∙ ap (λ (b : Bool). seen n y && (is_member n.tracker.config y || not b)) all)
