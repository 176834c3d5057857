-- The range of some lines, as an editor takes it.
use Rattle.std.proofs.Common.{◌≡◌, ◌∙◌, ℕ, zero, suc, ◌≤◌, Bool, true, false, List, [], ◌∷◌, drop, max, refl, ap, arith}
use Rattle.std.proofs.lemmas.Bool.{eqb-true}
use Rattle.std.specs.Prelude.{◌==◌, ◌&&◌, not, if◌then◌else◌}
use Rattle.rb_lsp.specs.declared.document.position.Encoding.{Encoding}
use Rattle.rb_lsp.specs.Places.{begins, feeds, is_place_behind, offset}
use Rattle.rb_lsp.specs.Changes.{changed, spliced}
use Rattle.rb_lsp.specs.Tables.{feed_start, start_of}
use Rattle.rb_lsp.proofs.PositionLaws.{place_returns}
use Rattle.rb_editor.proofs.OrderLaws.{feed_grows}
use Rattle.rb_editor.specs.Actions.{lines_range}

no_feed : (b : Bool) → not (b && false) ≡ true
no_feed true = refl
no_feed false = refl

no_return : (b : ℕ) → (b == 10) ≡ true → (b == 13) ≡ false
no_return b is = ap (λ (x : ℕ). x == 13) (eqb-true b 10 is)

between_lines : (before : ℕ) (bytes : List ℕ) → (before == 13) ≡ false → begins bytes ≡ true → (begins bytes && not (before == 13 && feeds bytes)) ≡ true
between_lines before bytes other begun = ap (λ (x : Bool). begins bytes && not (x && feeds bytes)) other ∙ ap (λ (x : Bool). x && true) begun

-- one byte before a line
place_more : (t : Bool) (b n : ℕ) (bytes : List ℕ) → (b == 10) ≡ t
    → ((n ≡ 0 → (b == 13) ≡ false) → begins (drop (feed_start n bytes) bytes) ≡ true → is_place_behind b (feed_start n bytes) bytes ≡ true)
    → (begins (drop (feed_start (suc n) bytes) bytes) ≡ true → is_place_behind b (feed_start (suc n) bytes) bytes ≡ true)
    → begins (drop (if t then feed_start n bytes else feed_start (suc n) bytes) bytes) ≡ true
    → is_place_behind b (if t then feed_start n bytes else feed_start (suc n) bytes) bytes ≡ true
place_more true b n bytes e ended going is = ended (λ z. no_return b e) is
place_more false b n bytes e ended going is = going is

-- a line begins at a place, where a character begins there
pub line_is_place : (before n : ℕ) (bytes : List ℕ) → (n ≡ 0 → (before == 13) ≡ false) → begins (drop (feed_start n bytes) bytes) ≡ true → is_place_behind before (feed_start n bytes) bytes ≡ true
unfolding feed_start is_place_behind
line_is_place before zero bytes other is = between_lines before bytes (other refl) is
line_is_place before (suc n) [] other is = no_feed (before == 13)
line_is_place before (suc n) (b ∷ bytes) other is =
    place_more (b == 10) b n bytes refl (λ z i. line_is_place b n bytes z i) (λ i. line_is_place b (suc n) bytes (λ z. absurd (omega (arith, z))) i) is

pub lines_replaced : (encoding : Encoding) (text new : List ℕ) (first behind : ℕ) → first ≤ behind → begins (drop (feed_start first text) text) ≡ true → begins (drop (feed_start behind text) text) ≡ true
    → changed encoding (lines_range encoding text first behind) new text ≡ spliced (feed_start first text) (feed_start behind text) new text
lines_replaced encoding text new first behind less one other =
    let start : offset encoding (start_of encoding first text) text ≡ feed_start first text = place_returns encoding 0 (feed_start first text) text (line_is_place 0 first text (λ z. refl) one) in
    let stop : offset encoding (start_of encoding behind text) text ≡ feed_start behind text = place_returns encoding 0 (feed_start behind text) text (line_is_place 0 behind text (λ z. refl) other) in
    let most : max (feed_start first text) (feed_start behind text) ≡ feed_start behind text = omega (arith, feed_grows first behind text less) in
    ap (λ (k : ℕ). spliced k (max k (offset encoding (start_of encoding behind text) text)) new text) start
    ∙ ap (λ (k : ℕ). spliced (feed_start first text) (max (feed_start first text) k) new text) stop
    ∙ ap (λ (k : ℕ). spliced (feed_start first text) k new text) most
