-- Where the blocks of a text stand in its lines.
use Rattle.std.proofs.Common.{◌≡◌, ℕ, suc, ◌+◌, ◌-◌, ◌<◌, ◌≤◌, true, false, List, [], ◌∷◌, ◌++◌, length, take, drop, get_or, Some, None, Result, Ok, Err, refl, ap, sym, subst, ◌∙◌, arith, append_assoc, append-nil, length-append, length-drop, inl, inr, ◌⊎◌}
use Rattle.std.specs.Prelude.{if◌then◌else◌, slice_get}
use Rattle.std.proofs.lemmas.Option.{get_or_from_slice_get, slice_get_within}
use Rattle.std.proofs.lemmas.List.{drop_all, drop_at, drop-drop, drop_more, take-append-drop, length-take-le}
use Rattle.rb_script.specs.declared.fault.ScriptFault.{ScriptFault}
use Rattle.rb_script.specs.declared.fault.ScriptFault.TheVariants.{OutOfMemory}
use Rattle.rb_script.specs.Directive.{PlainDirective}
use Rattle.rb_script.specs.Heads.{directive_of}
use Rattle.rb_script.specs.Results.{Fails}
use Rattle.rb_script.specs.Tokens.{SpannedDirective, plain}
use Rattle.rb_script.specs.Lines.{Line, lines}
use Rattle.rb_script.specs.Marks.{continues, is_rule, rule}
use Rattle.rb_script.specs.Script.{PlainBlock, PlainScript}
use Rattle.rb_script.specs.Reads.{IsContinued, ReadsPlain, ReadsDouble, ReadsBlock, ReadsSome, Reads, begins_rule}
use Rattle.rb_script.specs.Blocks.{block_at, from_head, lead_of, line_number}
use Rattle.rb_script.specs.Runs.{head_of}
use Rattle.rb_script.specs.Reading.{read_of}
use Rattle.rb_script.specs.HeadLines.{IsHeadLine, AreHeadLines}
use Rattle.rb_script.proofs.RunLaws.{head_run}
use Rattle.rb_script.proofs.BlockLaws.{cut_lead, block_complete}
use Rattle.rb_script.proofs.GrammarLaws.{inputs_are}
use Rattle.rb_script.proofs.ScriptLaws.{read_sound, read_complete}
use Rattle.rb_text.proofs.SentLaws.{drop-get}
use Rattle.rb_editor.proofs.HeadLaws.{heads_are}
use Rattle.rb_editor.specs.declared.offers.block_lines.BlockLines.{BlockLines}
use Rattle.rb_editor.specs.declared.offers.block_lines.TheConstants.{DOUBLE_LINES}
use Rattle.rb_editor.specs.Heads.{behind_block, heads_at}
use Rattle.rb_editor.specs.BlockLines.{AreApart, counted_lines, lines_at, lines_from, StandsIn, all_lines, behind_head, block_lines, blocks_of, found, mark_lines, of_script, script_of}

-- ---- an expectation

rule_begins : (ls : List Line) → begins_rule (rule ∷ ls) ≡ true
unfolding is_rule
rule_begins ls = refl

expectation_fits : (after e rest : List Line) → ReadsPlain after e rest ⊎ ReadsDouble after e rest → length e + (if begins_rule after then DOUBLE_LINES else 0) + length rest ≤ length after
expectation_fits after e rest (inl p) =
    elim p.closed [
      | inl b ↦ let len : length after ≡ length e + length (b.0 ∷ rest) = ap length b.2 ∙ length-append e (b.0 ∷ rest) in rw p.first (omega (arith, len))
      | inr b ↦ let len : length after ≡ length e = ap length b.0 in let none : length rest ≡ 0 = ap length b.1 in rw p.first (omega (arith, len, none))
    ]
expectation_fits after e rest (inr d) =
    let double : begins_rule after ≡ true = ap begins_rule d.parts ∙ rule_begins (e ++ rule ∷ rule ∷ d.more) in
    let shown : length after ≡ suc (length (e ++ rule ∷ rule ∷ d.more)) = ap length d.parts in
    let len : length after ≡ 1 + (length e + length (rule ∷ rule ∷ d.more)) = omega (arith, shown, length-append e (rule ∷ rule ∷ d.more)) in
    elim d.closed [
      | inl b ↦ let more : length d.more ≡ length (b.0 ∷ rest) = ap length b.2 in rw double (omega (arith, len, more))
      | inr b ↦ let more : length d.more ≡ length rest = ap length b.1 in rw double (omega (arith, len, more))
    ]

-- what is left stands at the end
expectation_front : (after e rest : List Line) → ReadsPlain after e rest ⊎ ReadsDouble after e rest → (front : List Line) × (after ≡ front ++ rest)
expectation_front after e rest (inl p) =
    elim p.closed [
      | inl b ↦ (e ++ b.0 ∷ [], b.2 ∙ sym (append_assoc e (b.0 ∷ []) rest))
      | inr b ↦ (e, b.0 ∙ sym (append-nil e) ∙ ap (λ (l : List Line). e ++ l) (sym b.1))
    ]
expectation_front after e rest (inr d) =
    let shown : (more : List Line) → d.more ≡ more → after ≡ (rule ∷ e) ++ (rule ∷ rule ∷ more) = λ more is. d.parts ∙ ap (λ (l : List Line). (rule ∷ e) ++ (rule ∷ rule ∷ l)) is in
    elim d.closed [
      | inl b ↦ ((rule ∷ e) ++ (rule ∷ rule ∷ b.0 ∷ []), shown (b.0 ∷ rest) b.2 ∙ sym (append_assoc (rule ∷ e) (rule ∷ rule ∷ b.0 ∷ []) rest))
      | inr b ↦ ((rule ∷ e) ++ (rule ∷ rule ∷ []), shown rest b.1 ∙ sym (append_assoc (rule ∷ e) (rule ∷ rule ∷ []) rest))
    ]

pub regrouped : (a b c e rest : List Line) (line : Line) → (a ++ (b ++ (c ++ line ∷ e))) ++ rest ≡ a ++ (b ++ (c ++ line ∷ (e ++ rest)))
regrouped a b c e rest line =
    append_assoc a (b ++ (c ++ line ∷ e)) rest ∙ ap (λ (l : List Line). a ++ l) (append_assoc b (c ++ line ∷ e) rest ∙ ap (λ (l : List Line). b ++ l) (append_assoc c (line ∷ e) rest))

-- so does what is left behind a block
pub block_front : (ls rest : List Line) (b : PlainBlock) → ReadsBlock ls b rest → (front : List Line) × (ls ≡ front ++ rest)
block_front ls rest b r =
    let e = expectation_front r.after b.expected rest r.expected in
    (b.lead ++ (b.head ++ (b.input ++ r.separator ∷ e.0)), r.parts ∙ ap (λ (after : List Line). b.lead ++ (b.head ++ (b.input ++ r.separator ∷ after))) e.1 ∙ sym (regrouped b.lead b.head b.input e.0 rest r.separator))

-- ---- a block

some_head : (head : List Line) → IsContinued head → 0 < length head
some_head [] h = absurd h
some_head (line ∷ head) h = omega arith

behind_separator : (h i a : List Line) (s : Line) → drop (length h + (length i + 1)) (h ++ (i ++ s ∷ a)) ≡ a
behind_separator h i a s =
    let skip : drop (length i + 1) (i ++ s ∷ a) ≡ a = sym (drop-drop 1 (length i) (i ++ s ∷ a)) ∙ ap (drop 1) (drop_at i (s ∷ a) (length i) refl) in
    sym (drop-drop (length i + 1) (length h) (h ++ (i ++ s ∷ a))) ∙ ap (drop (length i + 1)) (drop_at h (i ++ s ∷ a) (length h) refl) ∙ skip

-- A block that begins with line k stands behind it, and before what is left.
pub record Fits (whole : List Line) (k : ℕ) (p : BlockLines) (rest : List Line) : Type 0 where
  pub begins : k ≤ p.from
  pub head : p.from < p.body
  pub separator : p.body < p.below
  pub expectation : p.below ≤ p.end
  pub ends : p.end + length rest ≤ length whole

pub fits : (whole ls rest : List Line) (b : PlainBlock) (k n : ℕ) → ls ≡ drop k whole → ReadsBlock ls b rest → n ≡ 1 + k + length b.lead → Fits whole k (block_lines whole n b) rest
unfolding block_lines
fits whole ls rest b k n is r number =
    let more = b.input ++ r.separator ∷ r.after in
    let from : n - 1 ≡ k + length b.lead = omega (arith, number) in
    let at_head : drop (n - 1) whole ≡ b.head ++ more =
    ap (λ (i : ℕ). drop i whole) from ∙ sym (drop-drop (length b.lead) k whole) ∙ ap (drop (length b.lead)) (sym is ∙ r.parts) ∙ drop_at b.lead (b.head ++ more) (length b.lead) refl in
    let head : behind_head whole (n - 1) ≡ n - 1 + length b.head = ap (λ (h : List Line). n - 1 + length (head_of h)) at_head ∙ ap (λ (h : List Line). n - 1 + length h) (head_run b.head more r.head.1).0 in
    let below = behind_head whole (n - 1) + length b.input + 1 in
    let at_below : below ≡ n - 1 + (length b.head + (length b.input + 1)) = omega (arith, head) in
    let after : drop below whole ≡ r.after =
    ap (λ (i : ℕ). drop i whole) at_below ∙ sym (drop-drop (length b.head + (length b.input + 1)) (n - 1) whole) ∙ ap (drop (length b.head + (length b.input + 1))) at_head ∙ behind_separator b.head b.input r.after r.separator in
    let marks : mark_lines whole below ≡ (if begins_rule r.after then DOUBLE_LINES else 0) = ap (λ (l : List Line). if begins_rule l then DOUBLE_LINES else 0) after in
    let shown = expectation_fits r.after b.expected rest r.expected in
    let some : 0 < length b.head = some_head b.head r.head.1 in
    let whole_len : length ls ≡ length whole - k = ap length is ∙ length-drop k whole in
    let len : length ls ≡ length b.lead + (length b.head + (length b.input + suc (length r.after))) =
    ap length r.parts ∙ length-append b.lead (b.head ++ more) ∙ ap (λ (i : ℕ). length b.lead + i) (length-append b.head more ∙ ap (λ (i : ℕ). length b.head + i) (length-append b.input (r.separator ∷ r.after))) in
    record {
      begins = omega (arith, from);
      head = omega (arith, head, some);
      separator = omega arith;
      expectation = omega arith;
      ends = omega (arith, marks, shown, at_below, from, whole_len, len, some);
    }

-- the same of a block that is found by its head
pub stands : (ls : List Line) (n : ℕ) (b : PlainBlock) → (h : StandsIn ls n b) → Fits ls (length h.line.front) (block_lines ls n b) h.line.rest
stands ls n b h =
    fits ls (b.lead ++ h.line.from) h.line.rest b (length h.line.front) n (sym (ap (drop (length h.line.front)) h.line.parts ∙ drop_at h.line.front (b.lead ++ h.line.from) (length h.line.front) refl)) h.line.block h.line.number

-- its lines end within the text
pub end_within : (ls : List Line) (n : ℕ) (b : PlainBlock) → StandsIn ls n b
    → behind_head ls (n - 1) + length b.input + 1 + length b.expected + mark_lines ls (behind_head ls (n - 1) + length b.input + 1) ≤ length ls
unfolding block_lines
end_within ls n b h = omega (arith, (stands ls n b h).ends)

pub block_inputs : (b : PlainBlock) (d : SpannedDirective) → plain d ≡ directive_of b → length d.inputs ≡ length b.input
block_inputs b d is = ap (λ (x : PlainDirective). length x.inputs) is ∙ ap length (inputs_are b)

-- what was counted
pub lines_made : (ls : List Line) (n : ℕ) (b : PlainBlock) (body inputs expected marks : ℕ) → body ≡ behind_head ls (n - 1) → inputs ≡ length b.input → expected ≡ length b.expected → marks ≡ mark_lines ls (body + inputs + 1)
    → counted_lines (n - 1) body (body + inputs + 1) (body + inputs + 1 + expected + marks) ≡ block_lines ls n b
unfolding block_lines
lines_made ls n b body inputs expected marks body_is inputs_is expected_is marks_is =
    ap (λ (m : ℕ). counted_lines (n - 1) body (body + inputs + 1) (body + inputs + 1 + expected + m)) marks_is
    ∙ ap (λ (e : ℕ). counted_lines (n - 1) body (body + inputs + 1) (body + inputs + 1 + e + mark_lines ls (body + inputs + 1))) expected_is
    ∙ ap (λ (i : ℕ). lines_from ls b (n - 1) body (body + i + 1)) inputs_is
    ∙ ap (lines_at ls b (n - 1)) body_is

-- each block of those whose heads are told stands there
record At (bs : List PlainBlock) (i : ℕ) (b : PlainBlock) : Type 0 where
  within : i < length bs
  is : b ≡ get_or bs i b

at_place : (bs : List PlainBlock) (i : ℕ) (b : PlainBlock) → slice_get bs (i + 1 - 1) ≡ Some b → At bs i b
at_place bs i b got =
    let same : i ≡ i + 1 - 1 = omega arith in
    let there : slice_get bs i ≡ Some b = ap (slice_get bs) same ∙ got in
    record { within = slice_get_within bs i b there; is = sym (get_or_from_slice_get bs i b b there) }

pub all_stand : (ls : List Line) (bs : List PlainBlock) (ns : List ℕ) (i : ℕ) (b : PlainBlock) → AreHeadLines 1 ls bs ns → slice_get bs (i + 1 - 1) ≡ Some b → StandsIn ls (get_or ns i 0) b
all_stand ls bs ns i b h got =
    let at = at_place bs i b got in
    let parts : bs ≡ take i bs ++ b ∷ drop (i + 1) bs =
    sym (take-append-drop i bs) ∙ ap (λ (l : List PlainBlock). take i bs ++ l) (drop_more bs i b at.within) ∙ ap (λ (x : PlainBlock). take i bs ++ x ∷ drop (i + 1) bs) (sym at.is) in
    let count : length (take i bs) ≡ i = length-take-le i bs (omega (arith, at.within)) in
    record { before = take i bs; line = subst (λ (k : ℕ). IsHeadLine 1 ls (take i bs) b (get_or ns k 0)) count (h.each (take i bs) (drop (i + 1) bs) b parts) }

-- ---- the blocks of a text

lower : (j k n : ℕ) (ps : List BlockLines) → j ≤ k → AreApart k n ps → AreApart j n ps
lower j k n [] below apart = omega (arith, below, apart)
lower j k n (p ∷ ps) below apart = (omega (arith, below, apart.0), apart.1, apart.2, apart.3, apart.4)

apart : (whole ls tail : List Line) (bs : List PlainBlock) (k : ℕ) → ls ≡ drop k whole → k ≤ length whole → ReadsSome ls bs tail
    → AreApart k (length whole) (all_lines whole (heads_at (1 + length whole) bs ls) bs)
unfolding heads_at
apart whole ls tail [] k is within reads = within
apart whole ls tail (b ∷ bs) k is within reads =
    let after = reads.0 in
    let r = reads.1 in
    let end = 1 + length whole in
    let more = b.input ++ r.separator ∷ r.after in
    let n = line_number end (from_head ls) in
    let cut : length (from_head ls) ≡ length (b.head ++ more) = ap length (cut_lead ls b.lead b.head more r.parts r.lead r.head.0).from_is in
    let parts : length ls ≡ length b.lead + length (b.head ++ more) = ap length r.parts ∙ length-append b.lead (b.head ++ more) in
    let len : length ls ≡ length whole - k = ap length is ∙ length-drop k whole in
    let number : n ≡ 1 + k + length b.lead = omega (arith, cut, parts, len, within) in
    let f = fits whole ls after b k n is r number in
    let front = block_front ls after b r in
    let left : length ls ≡ length front.0 + length after = ap length front.1 ∙ length-append front.0 after in
    let next : after ≡ drop (k + length front.0) whole = sym (drop_at front.0 after (length front.0) refl) ∙ ap (drop (length front.0)) (sym front.1 ∙ is) ∙ drop-drop (length front.0) k whole in
    let rest : AreApart (k + length front.0) (length whole) (all_lines whole (heads_at end bs after) bs) = apart whole after tail bs (k + length front.0) next (omega (arith, len, left, within)) reads.2 in
    let same : behind_block (block_at end (lead_of ls) (from_head ls)) ≡ after = ap behind_block (block_complete end ls after b r).1 in
    let p = block_lines whole n b in
    let later = lower p.end (k + length front.0) (length whole) (all_lines whole (heads_at end bs after) bs) (omega (arith, f.ends, len, left, within)) rest in
    (f.begins, f.head, f.separator, f.expectation, subst (λ (l : List Line). AreApart p.end (length whole) (all_lines whole (heads_at end bs l) bs)) (sym same) later)

of_reading : (bytes : List ℕ) (read : Result PlainScript ScriptFault) → read_of bytes ≡ read → AreApart 0 (length (lines bytes)) (of_script bytes (found read))
of_reading bytes (Err fault) is = omega arith
of_reading bytes (Ok s) is = apart (lines bytes) (lines bytes) s.tail s.blocks 0 refl (omega arith) (read_sound bytes s is).parts.0

pub blocks_apart : (bytes : List ℕ) → AreApart 0 (length (lines bytes)) (blocks_of bytes)
unfolding blocks_of script_of
blocks_apart bytes = of_reading bytes (read_of bytes) refl

-- ---- whether there is a script

pub script_found : (bytes : List ℕ) (s : PlainScript) → Reads bytes s → script_of bytes ≡ Some s
unfolding script_of
script_found bytes s reads = ap found (read_complete bytes s reads)

pub script_refused : (bytes : List ℕ) (fault : ScriptFault) → read_of bytes ≡ Err fault → script_of bytes ≡ None
unfolding script_of
script_refused bytes fault is = ap found is

pub script_read : (bytes : List ℕ) (s : PlainScript) → read_of bytes ≡ Ok s → script_of bytes ≡ Some s
unfolding script_of
script_read bytes s is = ap found is

-- the bytes are refused, and not for want of memory
pub script_none : (bytes : List ℕ) (fault : ScriptFault) → Fails fault (read_of bytes) → (fault ≡ OutOfMemory → ⊥) → script_of bytes ≡ None
script_none bytes OutOfMemory fails other = absurd (other refl)
script_none bytes fault fails other = script_refused bytes fault fails

-- ---- what was read

-- of a script
pub blocks_read : (bytes : List ℕ) (s : PlainScript) (ls : List Line) (ns : List ℕ) → read_of bytes ≡ Ok s → ls ≡ lines bytes → AreHeadLines 1 (lines bytes) s.blocks ns → all_lines ls ns s.blocks ≡ blocks_of bytes
unfolding blocks_of
blocks_read bytes s ls ns is same heads =
    ap (λ (l : List Line). all_lines l ns s.blocks) same
    ∙ ap (λ (hs : List ℕ). all_lines (lines bytes) hs s.blocks) (heads_are bytes s ns (read_sound bytes s is) heads)
    ∙ ap (of_script bytes) (sym (script_read bytes s is))

-- of what is none
pub blocks_none : (bytes : List ℕ) (fault : ScriptFault) → Fails fault (read_of bytes) → (fault ≡ OutOfMemory → ⊥) → [] ≡ blocks_of bytes
unfolding blocks_of
blocks_none bytes fault fails other = ap (of_script bytes) (sym (script_none bytes fault fails other))

-- a loop over blocks, with the lines of their heads
pub one_block : (ls : List Line) (ns : List ℕ) (bs : List PlainBlock) (i : ℕ) (b : PlainBlock) → i < length ns → slice_get bs (i + 1 - 1) ≡ Some b
    → all_lines ls (drop i ns) (drop i bs) ≡ block_lines ls (get_or ns i 0) b ∷ all_lines ls (drop (i + 1) ns) (drop (i + 1) bs)
one_block ls ns bs i b within got =
    let at = at_place bs i b got in
    ap (λ (l : List ℕ). all_lines ls l (drop i bs)) (drop_more ns i 0 within)
    ∙ ap (λ (l : List PlainBlock). all_lines ls (get_or ns i 0 ∷ drop (i + 1) ns) l) (drop_more bs i b at.within)
    ∙ ap (λ (x : PlainBlock). all_lines ls (get_or ns i 0 ∷ drop (i + 1) ns) (x ∷ drop (i + 1) bs)) (sym at.is)

-- one more block was kept
pub one_kept : (kept more : List BlockLines) (ls : List Line) (ns : List ℕ) (bs : List PlainBlock) (i : ℕ) (b : PlainBlock) (p : BlockLines) → i < length ns → slice_get bs (i + 1 - 1) ≡ Some b → p ≡ block_lines ls (get_or ns i 0) b
    → more ≡ kept ++ p ∷ [] → more ++ all_lines ls (drop (i + 1) ns) (drop (i + 1) bs) ≡ kept ++ all_lines ls (drop i ns) (drop i bs)
one_kept kept more ls ns bs i b p within got is more_is =
    let rest = all_lines ls (drop (i + 1) ns) (drop (i + 1) bs) in
    ap (λ (l : List BlockLines). l ++ rest) more_is
    ∙ append_assoc kept (p ∷ []) rest
    ∙ ap (λ (x : BlockLines). kept ++ x ∷ rest) is
    ∙ ap (λ (l : List BlockLines). kept ++ l) (sym (one_block ls ns bs i b within got))

-- ---- loops over lines

-- a line of a head that asks for the next, and one that doesn't
pub head_goes_on : (ls : List Line) (i : ℕ) (line : Line) → slice_get ls i ≡ Some line → continues line ≡ true → behind_head ls i ≡ behind_head ls (i + 1)
unfolding head_of
head_goes_on ls i line is more =
    let one : head_of (line ∷ drop (i + 1) ls) ≡ line ∷ head_of (drop (i + 1) ls) = rw more refl in
    let len : length (head_of (drop i ls)) ≡ suc (length (head_of (drop (i + 1) ls))) = ap (λ (l : List Line). length (head_of l)) (drop-get ls i line is) ∙ ap length one in
    omega (arith, len)

pub head_stops : (ls : List Line) (i : ℕ) (line : Line) → slice_get ls i ≡ Some line → continues line ≡ false → behind_head ls i ≡ i + 1
unfolding head_of
head_stops ls i line is none =
    let one : head_of (line ∷ drop (i + 1) ls) ≡ line ∷ [] = rw none refl in
    let len : length (head_of (drop i ls)) ≡ 1 = ap (λ (l : List Line). length (head_of l)) (drop-get ls i line is) ∙ ap length one in
    omega (arith, len)

pub head_ends : (ls : List Line) (i : ℕ) → length ls ≤ i → behind_head ls i ≡ i
unfolding head_of
head_ends ls i past =
    let len : length (head_of (drop i ls)) ≡ 0 = ap (λ (l : List Line). length (head_of l)) (drop_all i ls past) in
    omega (arith, len)

pub rule_at : (ls : List Line) (i : ℕ) (line : Line) → slice_get ls i ≡ Some line → begins_rule (drop i ls) ≡ is_rule line
rule_at ls i line is = ap begins_rule (drop-get ls i line is)
