-- Where a document stands among others, and changes that can't be made.
use Rattle.std.proofs.Common.{◌≡◌, ℕ, suc, ◌+◌, ◌<◌, Bool, true, false, List, [], ◌∷◌, length, drop, map, get_or, Option, Some, None, refl, ap, sym, ◌∙◌}
use Rattle.std.specs.Prelude.{if◌then◌else◌}
use Rattle.std.specs.Str.{bytes_eq}
use Rattle.std.proofs.lemmas.List.{drop_more}
use Rattle.serde_json.specs.Data.{Items, no_items, item}
use Rattle.serde_json.specs.View.{items_of, view}
use Rattle.serde_json.specs.declared.value.Value.{Value}
use Rattle.rb_lsp.specs.declared.document.position.Encoding.{Encoding}
use Rattle.rb_lsp.specs.DocumentChanges.{changed_all, changed_once}
use Rattle.rb_lsp.specs.Documents.{PlainDocument, place_of}

pub drop_next : (ds : List PlainDocument) (i : ℕ) (d : PlainDocument) → i < length ds → d ≡ get_or ds i d → drop i ds ≡ d ∷ drop (i + 1) ds
drop_next ds i d within is = drop_more ds i d within ∙ ap (λ (x : PlainDocument). x ∷ drop (i + 1) ds) (sym is)

-- it stands here
pub place_here : (uri : List ℕ) (ds : List PlainDocument) (i : ℕ) (d : PlainDocument) → drop i ds ≡ d ∷ drop (i + 1) ds → bytes_eq d.uri uri ≡ true → place_of uri (drop i ds) ≡ 0
unfolding place_of
place_here uri ds i d e is = ap (place_of uri) e ∙ ap (λ (b : Bool). if b then 0 else suc (place_of uri (drop (i + 1) ds))) is

-- it stands further on
pub place_next : (uri : List ℕ) (ds : List PlainDocument) (i : ℕ) (d : PlainDocument) → drop i ds ≡ d ∷ drop (i + 1) ds → bytes_eq d.uri uri ≡ false → place_of uri (drop i ds) ≡ suc (place_of uri (drop (i + 1) ds))
unfolding place_of
place_next uri ds i d e is = ap (place_of uri) e ∙ ap (λ (b : Bool). if b then 0 else suc (place_of uri (drop (i + 1) ds))) is

-- there is none
pub place_past : (uri : List ℕ) (ds : List PlainDocument) → ds ≡ [] → place_of uri ds ≡ 0
unfolding place_of
place_past uri [] none = refl
place_past uri (d ∷ ds) none = absurd cc

-- ---- changes

none_stays : (encoding : Encoding) (ds : Items) → changed_all encoding ds None ≡ None
none_stays encoding no_items = refl
none_stays encoding (item d ds) = none_stays encoding ds

-- where one can't be made, nothing is kept
pub stopped : (encoding : Encoding) (vs : List Value) (i : ℕ) (v : Value) (text : List ℕ) (total : Option (List ℕ)) → i < length vs → v ≡ get_or vs i v → changed_once encoding (view v) text ≡ None
    → changed_all encoding (items_of (map view (drop i vs))) (Some text) ≡ total → None ≡ total
stopped encoding vs i v text total within is none far =
    let rest = items_of (map view (drop (i + 1) vs)) in
    sym (none_stays encoding rest)
    ∙ ap (changed_all encoding rest) (sym none)
    ∙ ap (λ (x : Value). changed_all encoding rest (changed_once encoding (view x) text)) is
    ∙ sym (ap (λ (xs : List Value). changed_all encoding (items_of (map view xs)) (Some text)) (drop_more vs i v within))
    ∙ far
