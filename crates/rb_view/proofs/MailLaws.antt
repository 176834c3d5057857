-- Where a message stands among others.
use Rattle.std.proofs.Common.{◌≡◌, ℕ, suc, ◌+◌, ◌<◌, Bool, true, false, List, [], ◌∷◌, length, drop, get_or, refl, ap, sym, ◌∙◌}
use Rattle.std.specs.Prelude.{if◌then◌else◌}
use Rattle.std.specs.Str.{bytes_eq}
use Rattle.std.proofs.lemmas.List.{drop_more}
use Rattle.rb_view.specs.Mail.{PlainOnWay, place_of}

pub drop_next : (ws : List PlainOnWay) (i : ℕ) (w : PlainOnWay) → i < length ws → w ≡ get_or ws i w → drop i ws ≡ w ∷ drop (i + 1) ws
drop_next ws i w within is = drop_more ws i w within ∙ ap (λ (x : PlainOnWay). x ∷ drop (i + 1) ws) (sym is)

-- it stands here
pub place_here : (text : List ℕ) (ws : List PlainOnWay) (i : ℕ) (w : PlainOnWay) → drop i ws ≡ w ∷ drop (i + 1) ws → bytes_eq w.text text ≡ true → place_of text (drop i ws) ≡ 0
unfolding place_of
place_here text ws i w e is = ap (place_of text) e ∙ ap (λ (b : Bool). if b then 0 else suc (place_of text (drop (i + 1) ws))) is

-- it stands further on
pub place_next : (text : List ℕ) (ws : List PlainOnWay) (i : ℕ) (w : PlainOnWay) → drop i ws ≡ w ∷ drop (i + 1) ws → bytes_eq w.text text ≡ false → place_of text (drop i ws) ≡ suc (place_of text (drop (i + 1) ws))
unfolding place_of
place_next text ws i w e is = ap (place_of text) e ∙ ap (λ (b : Bool). if b then 0 else suc (place_of text (drop (i + 1) ws))) is

-- there is none
pub place_past : (text : List ℕ) (ws : List PlainOnWay) → ws ≡ [] → place_of text ws ≡ 0
unfolding place_of
place_past text [] none = refl
place_past text (w ∷ ws) none = absurd cc
