-- A name among those of a list, which are looked at one after another.
use Rattle.std.proofs.Common.{◌≡◌, ◌∙◌, ℕ, ◌+◌, ◌<◌, ◌≤◌, Bool, true, false, List, length, drop, map, get_or, ap, sym}
use Rattle.std.specs.Prelude.{◌||◌}
use Rattle.std.proofs.lemmas.List.{drop_all, drop_more}
use Rattle.serde_json.specs.Find.{as_str}
use Rattle.serde_json.specs.View.{items_of, view}
use Rattle.serde_json.specs.declared.value.Value.{Value}
use Rattle.rb_lsp.specs.Beginnings.{is_among, is_text}

-- the name at an index, and those behind it
named_next : (name : List ℕ) (vs : List Value) (i : ℕ) (v : Value) (is : Bool) → i < length vs → v ≡ get_or vs i v → is_text name (as_str (view v)) ≡ is
    → is_among name (items_of (map view (drop i vs))) ≡ (is || is_among name (items_of (map view (drop (i + 1) vs))))
named_next name vs i v is within there same =
    let rest = is_among name (items_of (map view (drop (i + 1) vs))) in
    ap (λ (xs : List Value). is_among name (items_of (map view xs))) (drop_more vs i v within)
    ∙ ap (λ (x : Value). is_text name (as_str (view x)) || rest) (sym there)
    ∙ ap (λ (b : Bool). b || rest) same

pub named_here : (name : List ℕ) (vs : List Value) (i : ℕ) (v : Value) → i < length vs → v ≡ get_or vs i v → is_text name (as_str (view v)) ≡ true → is_among name (items_of (map view (drop i vs))) ≡ true
named_here name vs i v within there same = named_next name vs i v true within there same

pub named_past : (name : List ℕ) (vs : List Value) (i : ℕ) (v : Value) → i < length vs → v ≡ get_or vs i v → is_text name (as_str (view v)) ≡ false
    → is_among name (items_of (map view (drop i vs))) ≡ is_among name (items_of (map view (drop (i + 1) vs)))
named_past name vs i v within there same = named_next name vs i v false within there same

pub named_none : (name : List ℕ) (vs : List Value) (i : ℕ) → length vs ≤ i → is_among name (items_of (map view (drop i vs))) ≡ false
named_none name vs i past = ap (λ (xs : List Value). is_among name (items_of (map view xs))) (drop_all i vs past)
