-- Positions one after another, and what is said of each.
use Rattle.std.proofs.Common.{◌≡◌, ◌∙◌, ℕ, ◌+◌, ◌<◌, ◌≤◌, List, ◌++◌, length, drop, map, get_or, Option, ap, sym, append_assoc, append-nil}
use Rattle.std.specs.Prelude.{codes}
use Rattle.std.proofs.lemmas.List.{at_drop_all, at_drop_more}
use Rattle.serde_json.specs.View.{items_of, view}
use Rattle.serde_json.specs.declared.value.Value.{Value}
use Rattle.rb_lsp.specs.declared.document.position.Position.{Position}
use Rattle.rb_lsp.specs.declared.server.client.Client.{Client}
use Rattle.rb_lsp.specs.declared.server.query.Query.TheVariants as asks
use Rattle.rb_lsp.specs.Meanings.{Meaning}
use Rattle.rb_lsp.specs.Params.{as_position, position_list, positions_in}
use Rattle.rb_lsp.specs.Questions.{each_selection}

-- ---- positions among values

pub position_more : (vs : List Value) (i : ℕ) (v : Value) (is : Option Position) (had has all : List Position) → i < length vs → v ≡ get_or vs i v → is ≡ as_position (view v) → has ≡ had ++ position_list is
    → had ++ positions_in (items_of (map view (drop i vs))) ≡ all → has ++ positions_in (items_of (map view (drop (i + 1) vs))) ≡ all
position_more vs i v is had has all within there same made far =
    let rest = positions_in (items_of (map view (drop (i + 1) vs))) in
    ap (λ (ps : List Position). ps ++ rest) (made ∙ ap (λ (p : Option Position). had ++ position_list p) same)
    ∙ append_assoc had (position_list (as_position (view v))) rest
    ∙ ap (λ (x : Value). had ++ (position_list (as_position (view x)) ++ rest)) there
    ∙ sym (at_drop_more (λ (xs : List Value). had ++ positions_in (items_of (map view xs))) vs i v within)
    ∙ far

pub position_all : (vs : List Value) (i : ℕ) (has all : List Position) → length vs ≤ i → has ++ positions_in (items_of (map view (drop i vs))) ≡ all → has ≡ all
position_all vs i has all past far = sym (append-nil has) ∙ sym (at_drop_all (λ (xs : List Value). has ++ positions_in (items_of (map view xs))) vs i past) ∙ far

-- ---- what can be selected around each

pub selection_more : (meaning : Meaning) (client : Client) (uri text : List ℕ) (ps : List Position) (i : ℕ) (d : Position) (lead had led has all : List ℕ) → i < length ps
    → led ≡ had ++ lead → has ≡ led ++ meaning.answer client (asks.SelectionRange (get_or ps i d)) uri text
    → had ++ each_selection meaning client uri text lead (drop i ps) ≡ all → has ++ each_selection meaning client uri text (codes ",") (drop (i + 1) ps) ≡ all
selection_more meaning client uri text ps i d lead had led has all within leads made far =
    let rest = each_selection meaning client uri text (codes ",") (drop (i + 1) ps) in
    let here = meaning.answer client (asks.SelectionRange (get_or ps i d)) uri text in
    ap (λ (l : List ℕ). l ++ rest) (made ∙ ap (λ (l : List ℕ). l ++ here) leads)
    ∙ append_assoc (had ++ lead) here rest
    ∙ append_assoc had lead (here ++ rest)
    ∙ sym (at_drop_more (λ (xs : List Position). had ++ each_selection meaning client uri text lead xs) ps i d within)
    ∙ far
