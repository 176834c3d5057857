-- How long texts are.
use Rattle.std.proofs.Common.{◌≡◌, ℕ, ◌+◌, Bool, true, false, cond, List, [], ◌∷◌, ◌++◌, length, ap, sym, ◌∙◌, arith}
use Rattle.std.specs.List.{flat_map}
use Rattle.std.proofs.lemmas.List.{length-append}
use Rattle.std.proofs.lemmas.List.Concat.{flat_map-append}
use Rattle.rb_script.specs.Lines.{Line, line_text, text_of}
use Rattle.rb_script.specs.Marks.{rule}
use Rattle.rb_script.specs.Script.{PlainBlock, PlainScript, text, block_lines, block_text, shown, needs_double}

-- a line with its LF, and the lines after it
pub line-text-length : (line : Line) (rest : List Line) → length (text_of (line ∷ rest)) ≡ (length line + 1) + length (text_of rest)
line-text-length line rest = length-append (line_text line) (text_of rest) ∙ ap (λ (n : ℕ). n + length (text_of rest)) (length-append line (10 ∷ []))

-- lines, and the lines after them
pub text-append-length : (a b : List Line) → length (text_of (a ++ b)) ≡ length (text_of a) + length (text_of b)
text-append-length a b = ap length (flat_map-append line_text a b) ∙ length-append (text_of a) (text_of b)

-- what shows the double form has 15 bytes
pub shown-length : (e : List Line) (double : Bool) (n : ℕ) → double ≡ needs_double e → n ≡ cond double 15 0 → length (text_of (shown e)) ≡ length (text_of e) + n
shown-length e true n h is =
    ap (λ t. length (text_of (cond t (rule ∷ e ++ rule ∷ rule ∷ []) e))) (sym h) ∙ line-text-length rule (e ++ rule ∷ rule ∷ []) ∙ ap (λ (k : ℕ). 5 + k) (text-append-length e (rule ∷ rule ∷ [])) ∙ omega arith
shown-length e false n h is = ap (λ t. length (text_of (cond t (rule ∷ e ++ rule ∷ rule ∷ []) e))) (sym h) ∙ omega arith

-- the text of a list of blocks
abbrev pub blocks_len : List PlainBlock → ℕ
blocks_len bs = length (text_of (flat_map block_lines bs))

-- a block, and the blocks after it
pub blocks-cons-length : (b : PlainBlock) (bs : List PlainBlock) → blocks_len (b ∷ bs) ≡ length (block_text b) + blocks_len bs
blocks-cons-length b bs = text-append-length (block_lines b) (flat_map block_lines bs)

-- some blocks, and the blocks after them
pub blocks-append-length : (a b : List PlainBlock) → blocks_len (a ++ b) ≡ blocks_len a + blocks_len b
blocks-append-length a b = ap (λ (ls : List Line). length (text_of ls)) (flat_map-append block_lines a b) ∙ text-append-length (flat_map block_lines a) (flat_map block_lines b)

-- some blocks, and one more
pub blocks-push-length : (bs : List PlainBlock) (b : PlainBlock) → blocks_len (bs ++ b ∷ []) ≡ blocks_len bs + length (block_text b)
blocks-push-length bs b = let split = blocks-append-length bs (b ∷ []) in let one = blocks-cons-length b [] in omega arith

-- the text of a script: its blocks, and its tail
pub text-length : (s : PlainScript) → length (text s) ≡ blocks_len s.blocks + length (text_of s.tail)
unfolding text
text-length s = text-append-length (flat_map block_lines s.blocks) s.tail
