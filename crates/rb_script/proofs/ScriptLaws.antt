-- Whole scripts, and one block alone: what is read is in the relation, and what is in the relation is read.
use Rattle.std.proofs.Common.{◌≡◌, ℕ, ◌+◌, ◌≤◌, false, cond, ltb, List, [], ◌∷◌, length, Option, Some, None, Result, Ok, Err, refl, ap, sym, subst, ◌∙◌, inl, inr}
use Rattle.std.specs.List.{AllByRecursion}
use Rattle.std.proofs.lemmas.Bool.{cases_Bool, ltb-false, le-ltb}
use Rattle.rb_script.specs.declared.fault.ScriptFault.{ScriptFault}
use Rattle.rb_script.specs.declared.fault.ScriptFault.TheVariants as faults
use Rattle.rb_script.specs.declared.limits.TheConstants.{MAX_SCRIPT, MAX_LINE, MAX_DIRECTIVES}
use Rattle.rb_script.specs.Lines.{Line, lines}
use Rattle.rb_script.specs.Script.{PlainBlock, PlainScript, text}
use Rattle.rb_script.specs.Reads.{Reads, alone}
use Rattle.rb_script.specs.Faults.{AreBlocks, AreShort}
use Rattle.rb_script.specs.Results.{◌>>=◌}
use Rattle.rb_script.specs.Blocks.{blocks_at}
use Rattle.rb_script.specs.Reading.{long_line, no_long_line, parts_of, fits_text, read_of, only_block, block_of}
use Rattle.rb_script.proofs.ResultLaws.{bind_ok, ok_is, guard_ok}
use Rattle.rb_script.proofs.BlocksLaws.{blocks_sound, blocks_complete}

-- a line that is short enough
abbrev IsShort : Line → Type 0
IsShort line = length line ≤ MAX_LINE

-- where no line was found too long, none is
pub long_sound : (n : ℕ) (ls : List Line) → long_line n ls ≡ None → AllByRecursion IsShort ls
unfolding long_line
long_sound n [] e = tt
long_sound n (line ∷ ls) e =
    elim (cases_Bool (ltb MAX_LINE (length line))) [
      | inl t ↦ let no : Some n ≡ None = sym (ap (λ b. cond b (Some n) (long_line (n + 1) ls)) t) ∙ e in absurd cc
      | inr f ↦ (ltb-false MAX_LINE (length line) f, long_sound (n + 1) ls (sym (ap (λ b. cond b (Some n) (long_line (n + 1) ls)) f) ∙ e))
    ]

-- where no line is too long, none is found
long_complete : (n : ℕ) (ls : List Line) → AllByRecursion IsShort ls → long_line n ls ≡ None
unfolding long_line
long_complete n [] all = refl
long_complete n (line ∷ ls) all = ap (λ b. cond b (Some n) (long_line (n + 1) ls)) (le-ltb MAX_LINE (length line) all.0) ∙ long_complete (n + 1) ls all.1

-- no line was told as too long
pub no_long_is : (found : Option ℕ) (u : Unit {0}) → no_long_line found ≡ Ok u → found ≡ None
no_long_is None u e = refl
no_long_is (Some n) u e = absurd cc

-- bytes that are short enough, as the reader found them
pub short_parts : (bytes : List ℕ) (u : Unit {0}) → ltb MAX_SCRIPT (length bytes) ≡ false → no_long_line (long_line 1 (lines bytes)) ≡ Ok u → AreShort bytes
short_parts bytes u f e = record { short = ltb-false MAX_SCRIPT (length bytes) f; short_lines = long_sound 1 (lines bytes) (no_long_is (long_line 1 (lines bytes)) u e) }

-- the bytes are these blocks and this tail, whose text may be too long
pub record ReadsParts (bytes : List ℕ) (s : PlainScript) : Type 0 where
  pub short : AreShort bytes
  pub parts : AreBlocks (lines bytes) s

-- the parts that are read are in the relation
pub parts_sound : (bytes : List ℕ) (s : PlainScript) → parts_of bytes ≡ Ok s → ReadsParts bytes s
unfolding parts_of
parts_sound bytes s e =
    let ls = lines bytes in
    let a = guard_ok (ltb MAX_SCRIPT (length bytes)) faults.TooLong _ s e in
    let b = bind_ok (no_long_line (long_line 1 ls)) (λ _. blocks_at MAX_DIRECTIVES (1 + length ls) ls) s a.1 in
    let blocks = blocks_sound MAX_DIRECTIVES (1 + length ls) ls s b.2 in
    record { short = short_parts bytes b.0 a.0 b.1; parts = record { parts = blocks.0; few = blocks.1 } }

-- the parts in the relation are read
pub parts_complete : (bytes : List ℕ) (s : PlainScript) → ReadsParts bytes s → parts_of bytes ≡ Ok s
unfolding parts_of
parts_complete bytes s r =
    let ls = lines bytes in
    ap (λ b. cond b (Err faults.TooLong) (no_long_line (long_line 1 ls) >>= λ _. blocks_at MAX_DIRECTIVES (1 + length ls) ls)) (le-ltb MAX_SCRIPT (length bytes) r.short.short)
    ∙ ap (λ (found : Option ℕ). no_long_line found >>= λ _. blocks_at MAX_DIRECTIVES (1 + length ls) ls) (long_complete 1 ls r.short.short_lines)
    ∙ blocks_complete MAX_DIRECTIVES (1 + length ls) ls s.blocks s.tail r.parts.parts r.parts.few

-- parts whose text is short enough are a script
pub script_parts : (bytes : List ℕ) (s : PlainScript) → ReadsParts bytes s → length (text s) ≤ MAX_SCRIPT → Reads bytes s
script_parts bytes s r short = record { parts = r.parts.parts; short = r.short.short; short_lines = r.short.short_lines; few = r.parts.few; short_text = short }

-- a script has its parts
pub parts_script : (bytes : List ℕ) (s : PlainScript) → Reads bytes s → ReadsParts bytes s
parts_script bytes s r = record { short = record { short = r.short; short_lines = r.short_lines }; parts = record { parts = r.parts; few = r.few } }

-- a text that fitted is short enough
fits_is : (s t : PlainScript) → fits_text s ≡ Ok t → (s ≡ t) × (length (text s) ≤ MAX_SCRIPT)
unfolding fits_text
fits_is s t e = let g = guard_ok (ltb MAX_SCRIPT (length (text s))) faults.TooLong (Ok s) t e in (ok_is s t g.1, ltb-false MAX_SCRIPT (length (text s)) g.0)

-- a text that is short enough fits
pub fits_ok : (s : PlainScript) → length (text s) ≤ MAX_SCRIPT → fits_text s ≡ Ok s
unfolding fits_text
fits_ok s le = ap (λ b. cond b (Err faults.TooLong) (Ok s)) (le-ltb MAX_SCRIPT (length (text s)) le)

-- the script that is read is in the relation
pub read_sound : (bytes : List ℕ) (s : PlainScript) → read_of bytes ≡ Ok s → Reads bytes s
unfolding read_of
read_sound bytes s e =
    let p = bind_ok (parts_of bytes) (λ x. fits_text x) s e in
    let f = fits_is p.0 s p.2 in
    subst (λ (x : PlainScript). Reads bytes x) f.0 (script_parts bytes p.0 (parts_sound bytes p.0 p.1) f.1)

-- the script in the relation is read
pub read_complete : (bytes : List ℕ) (s : PlainScript) → Reads bytes s → read_of bytes ≡ Ok s
unfolding read_of
read_complete bytes s r =
    ap (λ (read : Result PlainScript ScriptFault). read >>= λ x. fits_text x) (parts_complete bytes s (parts_script bytes s r)) ∙ fits_ok s r.short_text

-- two scripts of one text are equal
pub reads_once : (bytes : List ℕ) (a b : PlainScript) → Reads bytes a → Reads bytes b → a ≡ b
reads_once bytes a b r q = ok_is a b (sym (read_complete bytes a r) ∙ read_complete bytes b q)

-- ---- one block alone

-- one block was taken
pub only_is : (bs : List PlainBlock) (tail : List Line) (b : PlainBlock) → only_block bs tail ≡ Ok b → (bs ≡ b ∷ []) × (tail ≡ [])
only_is [] tail b e = absurd cc
only_is (x ∷ []) [] b e = (ap (λ (y : PlainBlock). y ∷ []) (ok_is x b e), refl)
only_is (x ∷ []) (line ∷ tail) b e = absurd cc
only_is (x ∷ y ∷ bs) tail b e = absurd cc

-- it is the script
pub only_alone : (s : PlainScript) (b : PlainBlock) → only_block s.blocks s.tail ≡ Ok b → s ≡ alone b
only_alone s b h =
    let only = only_is s.blocks s.tail b h in
    ap (λ (bs : List PlainBlock). record { blocks = bs; tail = s.tail }) only.0 ∙ ap (λ (ls : List Line). record { blocks = b ∷ []; tail = ls }) only.1

-- where one block was taken, the text fits too
alone_is : (s : PlainScript) (b : PlainBlock) → (only_block s.blocks s.tail >>= λ x. fits_text s >>= λ _. Ok x) ≡ Ok b → (s ≡ alone b) × (length (text s) ≤ MAX_SCRIPT)
alone_is s b e =
    let o = bind_ok (only_block s.blocks s.tail) (λ x. fits_text s >>= λ _. Ok x) b e in
    let f = bind_ok (fits_text s) (λ _. Ok o.0) b o.2 in
    (only_alone s o.0 o.1 ∙ ap alone (ok_is o.0 b f.2), (fits_is s f.0 f.1).1)

-- the one block that is read is in the relation
pub alone_sound : (bytes : List ℕ) (b : PlainBlock) → block_of bytes ≡ Ok b → Reads bytes (alone b)
unfolding block_of
alone_sound bytes b e =
    let s = bind_ok (parts_of bytes) (λ x. only_block x.blocks x.tail >>= λ y. fits_text x >>= λ _. Ok y) b e in
    let one = alone_is s.0 b s.2 in
    subst (λ (x : PlainScript). Reads bytes x) one.0 (script_parts bytes s.0 (parts_sound bytes s.0 s.1) one.1)

-- the one block in the relation is read
pub alone_complete : (bytes : List ℕ) (b : PlainBlock) → Reads bytes (alone b) → block_of bytes ≡ Ok b
unfolding block_of
alone_complete bytes b r =
    ap (λ (read : Result PlainScript ScriptFault). read >>= λ x. only_block x.blocks x.tail >>= λ y. fits_text x >>= λ _. Ok y) (parts_complete bytes (alone b) (parts_script bytes (alone b) r))
    ∙ ap (λ (fits : Result PlainScript ScriptFault). fits >>= λ _. Ok b) (fits_ok (alone b) r.short_text)
