-- The text of blocks, as it goes out.
use Rattle.std.proofs.Common.{◌≡◌, ℕ, Bool, true, false, cond, ◌||◌, ◌+◌, ◌≤◌, List, [], ◌∷◌, ◌++◌, length, drop, Option, Some, Result, refl, ap, sym, ◌∙◌, append_assoc}
use Rattle.std.specs.Prelude.{slice_get, IsErr}
use Rattle.std.specs.List.{flat_map}
use Rattle.std.specs.Io.KnownBytes.{Appends}
use Rattle.std.proofs.lemmas.List.{drop_all}
use Rattle.std.proofs.lemmas.List.Concat.{flat_map-append}
use Rattle.rb_script.specs.declared.sink.WriteFault.{WriteFault}
use Rattle.rb_script.specs.Lines.{Line, line_text, text_of}
use Rattle.rb_script.specs.Marks.{is_blank, is_rule, rule}
use Rattle.rb_script.specs.Script.{PlainBlock, PlainScript, block_lines, block_text, expecting, needs_double, shown, opening, closing, text}
use Rattle.rb_script.specs.Writes.{AppendsFront, Writes}
use Rattle.rb_script.proofs.ListLaws.{drop_there}
use Rattle.rb_script.proofs.SentLaws.{Sent, sent_along, sent_piece, piece_exit}

-- ---- whether only the double form serves

pub double_more : (ls : List Line) (i : ℕ) (line : Line) (total : Bool) → slice_get ls i ≡ Some line → is_blank line ≡ false → is_rule line ≡ false → needs_double (drop i ls) ≡ total → needs_double (drop (i + 1) ls) ≡ total
double_more ls i line total found h k so_far =
    let no : (is_blank line || is_rule line) ≡ false = ap (λ t. t || is_rule line) h ∙ k in
    sym (ap (λ t. t || needs_double (drop (i + 1) ls)) no) ∙ sym (ap needs_double (drop_there ls i line found)) ∙ so_far

pub double_found : (ls : List Line) (i : ℕ) (line : Line) (total : Bool) → slice_get ls i ≡ Some line → (is_blank line || is_rule line) ≡ true → needs_double (drop i ls) ≡ total → true ≡ total
double_found ls i line total found h so_far =
    sym (ap (λ t. t || needs_double (drop (i + 1) ls)) h) ∙ sym (ap needs_double (drop_there ls i line found)) ∙ so_far

-- ---- a block

-- the separator, the expected lines in their form and an empty line
form_is : (e : List Line) (double : Bool) → double ≡ needs_double e → rule ∷ (shown e ++ [] ∷ []) ≡ opening double ++ (e ++ closing double)
form_is e double h =
    let form = λ (t : Bool). rule ∷ (cond t (rule ∷ e ++ rule ∷ rule ∷ []) e ++ [] ∷ []) in
    ap form (sym h) ∙ elim double as (λ t. form t ≡ opening t ++ (e ++ closing t)) [
      | true ↦ ap (λ (l : List Line). rule ∷ l) (append_assoc (rule ∷ e) (rule ∷ rule ∷ []) ([] ∷ []))
      | false ↦ refl
    ]

abbrev pub above_text : PlainBlock → List ℕ
above_text b = text_of (b.lead ++ (b.head ++ b.input))

-- the text of a block: what stands above its separator, and that form
pub block_parts : (b : PlainBlock) (e : List Line) (double : Bool) → double ≡ needs_double e → block_text (expecting b e) ≡ above_text b ++ (text_of (opening double) ++ (text_of e ++ text_of (closing double)))
block_parts b e double h =
    let form = opening double ++ (e ++ closing double) in
    ap (λ (l : List Line). text_of (b.lead ++ (b.head ++ (b.input ++ l)))) (form_is e double h)
    ∙ ap text_of (sym (append_assoc b.lead (b.head ++ b.input) form ∙ ap (λ (l : List Line). b.lead ++ l) (append_assoc b.head b.input form)))
    ∙ flat_map-append line_text (b.lead ++ (b.head ++ b.input)) form
    ∙ ap (λ (t : List ℕ). above_text b ++ t) (flat_map-append line_text (opening double) (e ++ closing double) ∙ ap (λ (t : List ℕ). text_of (opening double) ++ t) (flat_map-append line_text e (closing double)))

-- ---- blocks one after another

texts_are : (bs : List PlainBlock) → text_of (flat_map block_lines bs) ≡ flat_map block_text bs
texts_are [] = refl
texts_are (b ∷ bs) = flat_map-append line_text (block_lines b) (flat_map block_lines bs) ∙ ap (λ (t : List ℕ). block_text b ++ t) (texts_are bs)

-- the text of blocks from a place on, and of the tail behind them
abbrev pub left_text : List PlainBlock → ℕ → List Line → List ℕ
left_text bs i tail = flat_map block_text (drop i bs) ++ text_of tail

-- from the first on it is all
pub text_parts : (s : PlainScript) → left_text s.blocks 0 s.tail ≡ text s
unfolding text
text_parts s = sym (flat_map-append line_text (flat_map block_lines s.blocks) s.tail ∙ ap (λ (t : List ℕ). t ++ text_of s.tail) (texts_are s.blocks))

module _ {old mid : Option (List ℕ)} {all put : List ℕ} (bs : List PlainBlock) (i : ℕ) (b : PlainBlock) (tail : List Line) (there : slice_get bs i ≡ Some b) (is : put ≡ block_text b) (sent : Sent old mid all (left_text bs i tail)) where
  next : Sent old mid all (put ++ left_text bs (i + 1) tail)
  next =
      sent_along (ap (λ (l : List PlainBlock). flat_map block_text l ++ text_of tail) (drop_there bs i b there) ∙ append_assoc (block_text b) (flat_map block_text (drop (i + 1) bs)) (text_of tail)
      ∙ ap (λ (t : List ℕ). t ++ left_text bs (i + 1) tail) (sym is)) sent

  -- a block went out
  pub block_more : (new : Option (List ℕ)) → Appends mid new put → Sent old new all (left_text bs (i + 1) tail)
  block_more new h = sent_piece new put (left_text bs (i + 1) tail) next h

  -- its write failed, and so does the whole
  pub block_exit : {X : Type 0} (r : Result X WriteFault) (new : Option (List ℕ)) → IsErr r → AppendsFront mid new put → Writes r old new all
  block_exit r new failed h = piece_exit r new put (left_text bs (i + 1) tail) failed next h

-- no block is left
pub blocks_sent : {old new : Option (List ℕ)} {all : List ℕ} (bs : List PlainBlock) (i : ℕ) (tail : List Line) → length bs ≤ i → Sent old new all (left_text bs i tail) → Sent old new all (text_of tail)
blocks_sent bs i tail le sent = sent_along (ap (λ (l : List PlainBlock). flat_map block_text l ++ text_of tail) (drop_all i bs le)) sent

-- a block with its own expectation
pub own_text : (b c v : PlainBlock) (e : List Line) → b ≡ v → c ≡ v → e ≡ c.expected → block_text (expecting b e) ≡ block_text v
own_text b c v e h k is = ap (λ (x : PlainBlock). block_text (expecting x e)) h ∙ ap (λ (l : List Line). block_text (expecting v l)) (is ∙ ap (λ (x : PlainBlock). x.expected) k)
