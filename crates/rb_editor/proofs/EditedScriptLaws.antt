-- A script's lines with what came in the place of an expectation read as the script that expects it there.
use Rattle.std.proofs.Common.{◌≡◌, ◌∙◌, ℕ, ◌+◌, ◌<◌, ◌≤◌, Bool, true, false, ◌⊎◌, inl, inr, List, [], ◌∷◌, ◌++◌, length, refl, ap, sym, subst, arith, append_assoc, length-append}
use Rattle.std.proofs.lemmas.List.{append_cancel_right}
use Rattle.std.proofs.Math.Seq.{append_snoc}
use Rattle.std.specs.Prelude.{if◌then◌else◌, slice_index}
use Rattle.std.specs.List.{AllByRecursion}
use Rattle.rb_script.specs.Lines.{Line}
use Rattle.rb_script.specs.Marks.{is_blank, rule}
use Rattle.rb_script.specs.Script.{PlainBlock, expecting}
use Rattle.rb_script.specs.Reads.{IsContinued, ReadsBlock, ReadsDouble, ReadsPlain, ReadsSome, begins_blank, begins_rule}
use Rattle.rb_script.specs.HeadLines.{AreHeadLines, IsHeadLine}
use Rattle.rb_script.specs.LineParts.{IsSolid}
use Rattle.rb_script.proofs.LinePartLaws.{rule_passes}
use Rattle.rb_editor.proofs.HeadLaws.{block_once}
use Rattle.rb_editor.specs.Extents.{extent_of}
use Rattle.rb_editor.specs.ActionLaws.{with_lines}
use Rattle.rb_editor.proofs.EditedLaws.{either_closed, parts_of, stands, up_to, up_to_len}

-- ---- what follows a block

-- a block, a part of the lines, and others behind it
later_reads : (ls rest tail : List Line) (xs ys : List PlainBlock) (b : PlainBlock) (from : List Line) → ReadsSome ls xs from → ReadsBlock from b rest → ReadsSome ls (xs ++ b ∷ ys) tail → ReadsSome rest ys tail
later_reads ls rest tail [] ys b from front block all =
    let same : all.0 ≡ rest = block_once ls all.0 rest b all.1 (subst (λ (l : List Line). ReadsBlock l b rest) (sym front) block) in
    subst (λ (l : List Line). ReadsSome l ys tail) same all.2
later_reads ls rest tail (x ∷ xs) ys b from front block all =
    let same : front.0 ≡ all.0 = block_once ls front.0 all.0 x front.1 all.1 in
    later_reads all.0 rest tail xs ys b from (subst (λ (l : List Line). ReadsSome l xs from) same front.2) block all.2

-- ---- what stands before others

-- lines that read so, whatever follows that begins alike
record Before (ls rest : List Line) (xs : List PlainBlock) : Type 0 where
  front : List Line
  parts : ls ≡ front ++ rest
  reads : (other : List Line) → begins_blank other ≡ begins_blank rest → ReadsSome (front ++ other) xs other

-- and so one block, whose expectation begins on a line of its own, and ends with it
pub record BeforeOne (ls rest : List Line) (x : PlainBlock) : Type 0 where
  pub front : List Line
  pub parts : ls ≡ front ++ rest
  pub reads : (other : List Line) → begins_blank other ≡ begins_blank rest → ReadsBlock (front ++ other) x other
  pub up : ℕ
  pub len : ℕ
  pub is_double : Bool
  pub stands : (before other : List Line)
      → extent_of (before ++ (front ++ other)) (length before + length x.lead + 1) x
      ≡ record { head = length before + length x.lead; expected = length before + up; end = length before + up + len; is_double = is_double }
  pub some : 1 ≤ up
  pub within : up + len ≤ length front
  pub above : up < length front

-- by the lines above an expectation of k lines
stands_by : (x : PlainBlock) (separator : Line) (q before other : List Line) (d : Bool) (k : ℕ) → IsContinued x.head → begins_rule (q ++ other) ≡ d → length x.expected + (if d then 3 else 0) ≡ k
    → extent_of (before ++ ((up_to x.lead x separator ++ q) ++ other)) (length before + length x.lead + 1) x
    ≡ record { head = length before + length x.lead; expected = length before + length (up_to x.lead x separator); end = length before + length (up_to x.lead x separator) + k; is_double = d }
stands_by x separator q before other d k continued begins len =
    let up = up_to x.lead x separator in
    let front = before ++ x.lead in
    let after = q ++ other in
    let line = length before + length x.lead + 1 in
    let lines : before ++ ((up ++ q) ++ other) ≡ up_to front x separator ++ after =
    ap (λ (l : List Line). before ++ l) (append_assoc up q other ∙ parts_of x.lead x separator after)
    ∙ sym (append_assoc before x.lead (x.head ++ (x.input ++ separator ∷ after)))
    ∙ sym (parts_of front x separator after) in
    let head : length front ≡ length before + length x.lead = length-append before x.lead in
    let expected : length (up_to front x separator) ≡ length before + length up = omega (arith, up_to_len front x separator, up_to_len x.lead x separator, head) in
    ap (λ (l : List Line). extent_of l line x) lines
    ∙ stands front x separator after d k line continued (omega (arith, head)) begins len
    ∙ ap (λ (h : ℕ). record { head = h; expected = length (up_to front x separator); end = length (up_to front x separator) + k; is_double = d }) head
    ∙ ap (λ (m : ℕ). record { head = length before + length x.lead; expected = m; end = m + k; is_double = d }) expected

-- an expectation of k lines, up to what follows
one_before : (ls rest q : List Line) (x : PlainBlock) (r : ReadsBlock ls x rest) (d : Bool) (k : ℕ) → r.after ≡ q ++ rest → ((other : List Line) → begins_rule (q ++ other) ≡ d)
    → length x.expected + (if d then 3 else 0) ≡ k → k ≤ length q → 1 ≤ length q
    → ((other : List Line) → begins_blank other ≡ begins_blank rest → ReadsPlain (q ++ other) x.expected other ⊎ ReadsDouble (q ++ other) x.expected other) → BeforeOne ls rest x
one_before ls rest q x r d k parts begins len most some expected =
    let up = up_to x.lead x r.separator in
    let whole : length (up ++ q) ≡ length up + length q = length-append up q in record {
      front = up ++ q;
      parts = r.parts ∙ sym (parts_of x.lead x r.separator r.after) ∙ ap (λ (l : List Line). up ++ l) parts ∙ sym (append_assoc up q rest);
      reads = λ other same. record {
        separator = r.separator;
        after = q ++ other;
        parts = append_assoc up q other ∙ parts_of x.lead x r.separator (q ++ other);
        lead = r.lead;
        head = r.head;
        directive = r.directive;
        input = r.input;
        separates = r.separates;
        readable = r.readable;
        expected = expected other same;
      };
      up = length up;
      len = k;
      is_double = d;
      stands = λ before other. stands_by x r.separator q before other d k r.head.1 (begins other) len;
      some = omega (arith, up_to_len x.lead x r.separator);
      within = omega (arith, most, whole);
      above = omega (arith, some, whole);
    }

same_rule : (expected : List Line) (blank : Line) (rest other : List Line) → begins_rule (expected ++ blank ∷ rest) ≡ begins_rule (expected ++ blank ∷ other)
same_rule [] blank rest other = refl
same_rule (line ∷ expected) blank rest other = refl

plain_before : (ls rest : List Line) (x : PlainBlock) (r : ReadsBlock ls x rest) → (rest ≡ [] → ⊥) → (p : ReadsPlain r.after x.expected rest)
    → ((blank : Line) × (is_blank blank ≡ true) × (r.after ≡ x.expected ++ blank ∷ rest)) ⊎ ((r.after ≡ x.expected) × (rest ≡ [])) → BeforeOne ls rest x
plain_before ls rest x r some p (inl c) =
    let plain = λ (other : List Line). ap begins_rule (append_snoc x.expected c.0 other) ∙ same_rule x.expected c.0 other rest ∙ ap begins_rule (sym c.2) ∙ p.first in
    let len : length (x.expected ++ c.0 ∷ []) ≡ length x.expected + 1 = length-append x.expected (c.0 ∷ []) in
    one_before ls rest (x.expected ++ c.0 ∷ []) x r false (length x.expected) (c.2 ∙ sym (append_snoc x.expected c.0 rest)) plain (omega arith) (omega (arith, len)) (omega (arith, len))
    (λ other same. inl (record { first = plain other; none_blank = p.none_blank; closed = inl (c.0, c.1, append_snoc x.expected c.0 other) }))
plain_before ls rest x r some p (inr c) = absurd (some c.1)

-- the rules of the double form, and what stands between them
abbrev ruled : List Line → List Line → List Line
ruled expected more = rule ∷ expected ++ rule ∷ rule ∷ more

behind_rules : (expected more rest : List Line) → ruled expected more ++ rest ≡ ruled expected (more ++ rest)
behind_rules expected more rest = ap (λ (l : List Line). rule ∷ l) (append_assoc expected (rule ∷ rule ∷ more) rest)

ruled_len : (expected more : List Line) → length (ruled expected more) ≡ length expected + 3 + length more
ruled_len expected more = let len : length (expected ++ rule ∷ rule ∷ more) ≡ length expected + length (rule ∷ rule ∷ more) = length-append expected (rule ∷ rule ∷ more) in omega (arith, len)

double_before : (ls rest : List Line) (x : PlainBlock) (r : ReadsBlock ls x rest) (q : ReadsDouble r.after x.expected rest)
    → ((blank : Line) × (is_blank blank ≡ true) × (q.more ≡ blank ∷ rest)) ⊎ ((begins_blank rest ≡ false) × (q.more ≡ rest)) → BeforeOne ls rest x
double_before ls rest x r q (inl c) =
    one_before ls rest (ruled x.expected (c.0 ∷ [])) x r true (length x.expected + 3) (q.parts ∙ ap (ruled x.expected) c.2 ∙ sym (behind_rules x.expected (c.0 ∷ []) rest)) (λ other. rule_passes rule refl) (omega arith)
    (omega (arith, ruled_len x.expected (c.0 ∷ []))) (omega (arith, ruled_len x.expected (c.0 ∷ [])))
    (λ other same. inr (record { more = c.0 ∷ other; parts = behind_rules x.expected (c.0 ∷ []) other; closed = inl (c.0, c.1, refl) }))
double_before ls rest x r q (inr c) =
    one_before ls rest (ruled x.expected []) x r true (length x.expected + 3) (q.parts ∙ ap (ruled x.expected) c.1 ∙ sym (behind_rules x.expected [] rest)) (λ other. rule_passes rule refl) (omega arith)
    (omega (arith, ruled_len x.expected [])) (omega (arith, ruled_len x.expected []))
    (λ other same. inr (record { more = other; parts = behind_rules x.expected [] other; closed = inr (same ∙ c.0, refl) }))

pub block_before : (ls rest : List Line) (x : PlainBlock) (r : ReadsBlock ls x rest) → (rest ≡ [] → ⊥) → ReadsPlain r.after x.expected rest ⊎ ReadsDouble r.after x.expected rest → BeforeOne ls rest x
block_before ls rest x r some (inl p) = plain_before ls rest x r some p p.closed
block_before ls rest x r some (inr q) = double_before ls rest x r q q.closed

-- lines that stand before others begin alike, whatever these are, if they begin alike
pub begin_alike : (front rest other : List Line) → begins_blank other ≡ begins_blank rest → begins_blank (front ++ other) ≡ begins_blank (front ++ rest)
begin_alike [] rest other same = same
begin_alike (line ∷ front) rest other same = refl

some_before : (front rest : List Line) → (rest ≡ [] → ⊥) → front ++ rest ≡ [] → ⊥
some_before [] rest some none = some none
some_before (line ∷ front) rest some none = cc

all_before : (ls rest : List Line) (xs : List PlainBlock) → (rest ≡ [] → ⊥) → ReadsSome ls xs rest → Before ls rest xs
all_before ls rest [] some reads = record { front = []; parts = reads; reads = λ other same. refl }
all_before ls rest (x ∷ xs) some reads =
    let others = all_before reads.0 rest xs some reads.2 in
    let one = block_before ls reads.0 x reads.1 (λ none. some_before others.front rest some (sym others.parts ∙ none)) reads.1.expected in record {
      front = one.front ++ others.front;
      parts = one.parts ∙ ap (λ (l : List Line). one.front ++ l) others.parts ∙ sym (append_assoc one.front others.front rest);
      reads = λ other same.
          let alike : begins_blank (others.front ++ other) ≡ begins_blank reads.0 = begin_alike others.front rest other same ∙ ap begins_blank (sym others.parts) in
          (others.front ++ other, subst (λ (l : List Line). ReadsBlock l x (others.front ++ other)) (sym (append_assoc one.front others.front other)) (one.reads (others.front ++ other) alike), others.reads other same);
    }

-- ---- the script

pub some_lines : (lead head input : List Line) (separator : Line) (after : List Line) → lead ++ (head ++ (input ++ separator ∷ after)) ≡ [] → ⊥
some_lines [] [] [] separator after none = cc
some_lines lead head input separator after none = cc

-- some blocks, one behind them, and others
joined : (ls mid rest tail : List Line) (xs ys : List PlainBlock) (b : PlainBlock) → ReadsSome ls xs mid → ReadsBlock mid b rest → ReadsSome rest ys tail → ReadsSome ls (xs ++ b ∷ ys) tail
joined ls mid rest tail [] ys b front block later = (rest, subst (λ (l : List Line). ReadsBlock l b rest) (sym front) block, later)
joined ls mid rest tail (x ∷ xs) ys b front block later = (front.0, front.1, joined front.0 mid rest tail xs ys b front.2 block later)

pub edited_script : (ls tail : List Line) (xs ys : List PlainBlock) (b : PlainBlock) (output : List Line) (heads : List ℕ) → ReadsSome ls (xs ++ b ∷ ys) tail → AreHeadLines 1 ls (xs ++ b ∷ ys) heads
    → AllByRecursion IsSolid output → ReadsSome (with_lines ls (extent_of ls (slice_index heads (length xs)) b) output) (xs ++ expecting b output ∷ ys) tail
edited_script ls tail xs ys b output heads reads are solid =
    let n = slice_index heads (length xs) in
    let h : IsHeadLine 1 ls xs b n = are.each xs ys b refl in
    let from = b.lead ++ h.from in
    let later = later_reads ls h.rest tail xs ys b from h.front_is h.block reads in
    let some : from ≡ [] → ⊥ = λ none. some_lines b.lead b.head b.input h.block.separator h.block.after (sym h.block.parts ∙ none) in
    let before = all_before ls from xs some h.front_is in
    let same : h.front ≡ before.front = append_cancel_right h.front before.front from (sym h.parts ∙ before.parts) in
    let e = either_closed h.front from h.rest b output h.block solid h.block.expected in
    let line : n ≡ length h.front + length b.lead + 1 = omega (arith, h.number) in
    let made : with_lines ls (extent_of ls n b) output ≡ before.front ++ e.more =
    ap (λ (l : List Line). with_lines l (extent_of l n b) output) h.parts
    ∙ ap (λ (k : ℕ). with_lines (h.front ++ from) (extent_of (h.front ++ from) k b) output) line
    ∙ e.made
    ∙ ap (λ (l : List Line). l ++ e.more) same in
    subst (λ (l : List Line). ReadsSome l (xs ++ expecting b output ∷ ys) tail) (sym made)
    (joined (before.front ++ e.more) e.more h.rest tail xs ys (expecting b output) (before.reads e.more e.first) e.reads later)
