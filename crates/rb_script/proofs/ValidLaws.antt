-- What is read is valid.
use Rattle.std.proofs.Common.{◌≡◌, ℕ, ◌≤◌, Bool, true, false, cond, not, eqb, List, [], ◌∷◌, ◌++◌, length, map, Ok, refl, ap, sym, subst, ◌∙◌, arith, inl, inr, ◌⊎◌}
use Rattle.std.specs.List.{list_all, AllByRecursion}
use Rattle.std.proofs.lemmas.Bool.{cases_Bool, and_parts, and_from}
use Rattle.rb_script.specs.declared.limits.TheConstants.{MAX_SCRIPT, MAX_LINE}
use Rattle.rb_script.specs.Lines.{Line, put_before, in_first, cut, lines, without_returns}
use Rattle.rb_script.specs.Marks.{rule, is_lead}
use Rattle.rb_script.specs.Script.{PlainBlock, PlainScript, text}
use Rattle.rb_script.specs.Reads.{begins_lead, ReadsPlain, ReadsDouble, ReadsBlock, ReadsBlocks, Reads}
use Rattle.rb_script.specs.Shared.{IsKeptScript}
use Rattle.rb_script.specs.Valid.{IsLine, IsBlock, IsScript}
use Rattle.rb_script.specs.Blocks.{lead_of, from_head, block_at}
use Rattle.rb_script.specs.Reading.{long_line, no_long_line, capped, parts_of}
use Rattle.rb_script.proofs.ListLaws.{every-append, every-parts}
use Rattle.rb_script.proofs.RunLaws.{run_parts}
use Rattle.rb_script.proofs.BlockLaws.{block_sound}
use Rattle.rb_script.proofs.SharedLaws.{lines_valid}
use Rattle.rb_script.proofs.ScriptLaws.{long_sound, no_long_is, ReadsParts, parts_sound, script_parts, parts_script}

-- no LF
abbrev no_feed : Line → Bool
no_feed line = list_all (λ b. not (eqb b 10)) line

-- a line of bytes that were cut at each LF
abbrev IsCut : Line → Type 0
IsCut line = no_feed line ≡ true

-- a byte in the first line is no LF
first_clean : (b : ℕ) (ls : List Line) → eqb b 10 ≡ false → AllByRecursion IsCut ls → AllByRecursion IsCut (in_first b ls)
first_clean b [] f all = (and_from (not (eqb b 10)) true (ap not f) refl, tt)
first_clean b (line ∷ ls) f all = (and_from (not (eqb b 10)) (no_feed line) (ap not f) all.0, all.1)

-- no line has an LF
cut_clean : (bytes : List ℕ) → AllByRecursion IsCut (cut bytes)
unfolding cut
cut_clean [] = tt
cut_clean (b ∷ bytes) =
    elim (cases_Bool (eqb b 10)) [
      | inl t ↦ subst (λ x. AllByRecursion IsCut (cond x ([] ∷ cut bytes) (in_first b (cut bytes)))) (sym t) (refl, cut_clean bytes)
      | inr f ↦ subst (λ x. AllByRecursion IsCut (cond x ([] ∷ cut bytes) (in_first b (cut bytes)))) (sym f) (first_clean b (cut bytes) f (cut_clean bytes))
    ]

-- a byte before a line is no LF
put_clean : (b : ℕ) (line : Line) → not (eqb b 10) ≡ true → no_feed line ≡ true → no_feed (put_before b line) ≡ true
put_clean b [] h k = elim (eqb b 13) as (λ t. no_feed (cond t [] (b ∷ [])) ≡ true) [ true ↦ refl | false ↦ and_from (not (eqb b 10)) true h refl ]
put_clean b (c ∷ line) h k = and_from (not (eqb b 10)) (no_feed (c ∷ line)) h k

-- nor without its carriage returns
trimmed_clean : (line : Line) → no_feed line ≡ true → no_feed (without_returns line) ≡ true
unfolding without_returns
trimmed_clean [] h = refl
trimmed_clean (b ∷ line) h = let p = and_parts (not (eqb b 10)) (no_feed line) h in put_clean b (without_returns line) p.0 (trimmed_clean line p.1)

-- a byte before a line without returns at its end
put_twice : (b : ℕ) (line : Line) → without_returns line ≡ line → without_returns (put_before b line) ≡ put_before b line
unfolding without_returns
put_twice b [] e =
    elim (cases_Bool (eqb b 13)) [
      | inl t ↦ ap (λ x. without_returns (cond x [] (b ∷ []))) t ∙ sym (ap (λ x. cond x [] (b ∷ [])) t)
      | inr f ↦ ap (λ x. without_returns (cond x [] (b ∷ []))) f
    ]
put_twice b (c ∷ line) e = ap (put_before b) e

-- no carriage return is left at the end
trimmed_twice : (line : Line) → without_returns (without_returns line) ≡ without_returns line
unfolding without_returns
trimmed_twice [] = refl
trimmed_twice (b ∷ line) = put_twice b (without_returns line) (trimmed_twice line)

-- lines that are short enough read as themselves
are_lines : (ls : List Line) → AllByRecursion IsCut ls → AllByRecursion (λ line. length line ≤ MAX_LINE) (map without_returns ls) → AllByRecursion IsLine (map without_returns ls)
are_lines [] h k = tt
are_lines (line ∷ ls) h k = (record { no_end = trimmed_clean line h.0; no_return = trimmed_twice line; short = k.0 }, are_lines ls h.1 k.1)

-- the lines of bytes, where none is too long
pub lines_are : (bytes : List ℕ) → AllByRecursion (λ line. length line ≤ MAX_LINE) (lines bytes) → AllByRecursion IsLine (lines bytes)
unfolding lines
lines_are bytes h = are_lines (cut bytes) (cut_clean bytes) h

-- the lines of bytes, where none was found too long
pub checked_lines : (bytes : List ℕ) (u : Unit {0}) → Ok u ≡ no_long_line (long_line 1 (lines bytes)) → AllByRecursion IsLine (lines bytes)
checked_lines bytes u e = lines_are bytes (long_sound 1 (lines bytes) (no_long_is (long_line 1 (lines bytes)) u (sym e)))

-- ---- parts

-- lines that are equal to lines
along : (a b : List Line) → a ≡ b → AllByRecursion IsLine a → AllByRecursion IsLine b
along a b e h = subst (λ (l : List Line). AllByRecursion IsLine l) e h

-- the expectation and what follows are lines
expected_lines : (after e rest : List Line) → AllByRecursion IsLine after → ReadsPlain after e rest ⊎ ReadsDouble after e rest → AllByRecursion IsLine e × AllByRecursion IsLine rest
expected_lines after e rest h (inl p) =
    elim p.closed [
      | inl b ↦ let q = every-parts IsLine e (b.0 ∷ rest) (along after (e ++ b.0 ∷ rest) b.2 h) in (q.0, q.1.1)
      | inr b ↦ (along after e b.0 h, along [] rest (sym b.1) tt)
    ]
expected_lines after e rest h (inr d) =
    let q = every-parts IsLine e (rule ∷ rule ∷ d.more) (along after (rule ∷ e ++ rule ∷ rule ∷ d.more) d.parts h).1 in
    elim d.closed [
      | inl b ↦ (q.0, (along d.more (b.0 ∷ rest) b.2 q.1.1.1).1)
      | inr b ↦ (q.0, along d.more rest b.1 q.1.1.1)
    ]

-- a block that is read is valid, and what follows it is lines
pub block_valid : (ls rest : List Line) (b : PlainBlock) → AllByRecursion IsLine ls → ReadsBlock ls b rest → IsBlock b × AllByRecursion IsLine rest
block_valid ls rest b h r =
    let x = every-parts IsLine b.lead (b.head ++ (b.input ++ r.separator ∷ r.after)) (along ls (b.lead ++ (b.head ++ (b.input ++ r.separator ∷ r.after))) r.parts h) in
    let y = every-parts IsLine b.head (b.input ++ r.separator ∷ r.after) x.1 in
    let z = every-parts IsLine b.input (r.separator ∷ r.after) y.1 in
    let e = expected_lines r.after b.expected rest z.1.1 r.expected in (
      record {
        lead = r.lead;
        head = r.head;
        directive = r.directive;
        input = r.input;
        readable = r.readable;
        lines = lines_valid b x.0 y.0 z.0 e.0;
      },
      e.1,
    )

-- a block that is read behind lead lines is valid, and what follows it is lines
pub made_valid : (end : ℕ) (lead ls rest : List Line) (b : PlainBlock) → block_at end lead ls ≡ Ok (b, rest) → list_all is_lead lead ≡ true → begins_lead ls ≡ false → AllByRecursion IsLine lead → AllByRecursion IsLine ls → IsBlock b × AllByRecursion IsLine rest
made_valid end lead ls rest b e leads first before after = block_valid (lead ++ ls) rest b (every-append IsLine lead ls before after) (block_sound end lead ls rest b e leads first)

-- the lead lines and what follows them are lines
pub split_lines : (ls : List Line) → AllByRecursion IsLine ls → AllByRecursion IsLine (lead_of ls) × AllByRecursion IsLine (from_head ls)
split_lines ls h = every-parts IsLine (lead_of ls) (from_head ls) (along ls (lead_of ls ++ from_head ls) (sym (run_parts is_lead ls)) h)

-- blocks and a tail that are valid
pub record AreValid (bs : List PlainBlock) (tail : List Line) : Type 0 where
  pub blocks : AllByRecursion IsBlock bs
  pub tail_leads : list_all is_lead tail ≡ true
  pub tail_lines : AllByRecursion IsLine tail

-- blocks that are read are valid
blocks_valid : (bs : List PlainBlock) (ls tail : List Line) → AllByRecursion IsLine ls → ReadsBlocks ls bs tail → AreValid bs tail
blocks_valid [] ls tail h r = record { blocks = tt; tail_leads = r.1; tail_lines = along ls tail r.0 h }
blocks_valid (b ∷ bs) ls tail h r =
    let first = block_valid ls r.0.0 b h r.0.1 in
    let later = blocks_valid bs r.0.0 tail first.1 (r.0.2, r.1) in
    record { blocks = (first.0, later.blocks); tail_leads = later.tail_leads; tail_lines = later.tail_lines }

-- the parts that are read are valid
pub parts_valid : (bytes : List ℕ) (s : PlainScript) → ReadsParts bytes s → AreValid s.blocks s.tail
parts_valid bytes s r = blocks_valid s.blocks (lines bytes) s.tail (lines_are bytes r.short.short_lines) r.parts.parts

-- the script that is read is valid
pub read_valid : (bytes : List ℕ) (s : PlainScript) → Reads bytes s → IsScript s
read_valid bytes s r =
    let h = parts_valid bytes s (parts_script bytes s r) in
    record { blocks = h.blocks; tail = h.tail_leads; tail_lines = h.tail_lines; few = r.few; short_text = r.short_text }

-- parts whose text is short enough are a valid script
pub script_valid : (bytes : List ℕ) (s : PlainScript) (text_len : ℕ) → parts_of bytes ≡ Ok s → text_len ≡ capped (length (text s)) → text_len ≤ MAX_SCRIPT → IsKeptScript s text_len
script_valid bytes s text_len e is le =
    let r = parts_sound bytes s e in
    let len : text_len ≡ length (text s) = omega arith in
    record { script = read_valid bytes s (script_parts bytes s r (omega arith)); len = len }
