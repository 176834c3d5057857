-- The text of a valid script reads as that script.
use Rattle.std.proofs.Common.{◌≡◌, ℕ, ◌≤◌, true, false, cond, not, ◌||◌, eqb, List, [], ◌∷◌, ◌++◌, length, map, refl, ap, sym, subst, ◌∙◌, append_assoc, inl, inr, ◌⊎◌}
use Rattle.std.specs.List.{list_all, flat_map, AllByRecursion}
use Rattle.std.proofs.lemmas.Bool.{cases_Bool, and_parts, and_from, or_parts, not-true}
use Rattle.rb_script.specs.declared.limits.TheConstants.{MAX_LINE}
use Rattle.rb_script.specs.Lines.{Line, in_first, cut, lines, without_returns, text_of}
use Rattle.rb_script.specs.Marks.{is_blank, is_lead, is_rule, is_separator, rule, trim_blanks}
use Rattle.rb_script.specs.Script.{PlainBlock, PlainScript, needs_double, shown, block_lines, script_lines, text}
use Rattle.rb_script.specs.Reads.{begins_rule, ReadsPlain, ReadsDouble, ReadsBlock, ReadsBlocks, Reads}
use Rattle.rb_script.specs.Valid.{IsLine, IsBlock, IsScript}
use Rattle.rb_script.proofs.ListLaws.{every-append, every_so}

-- ---- lines

-- a line with its LF is cut off
pub cut_line : (line : Line) (bytes : List ℕ) → list_all (λ b. not (eqb b 10)) line ≡ true → cut (line ++ 10 ∷ bytes) ≡ line ∷ cut bytes
unfolding cut
cut_line [] bytes h = refl
cut_line (b ∷ line) bytes h =
    let p = and_parts (not (eqb b 10)) (list_all (λ b. not (eqb b 10)) line) h in
    ap (λ t. cond t ([] ∷ cut (line ++ 10 ∷ bytes)) (in_first b (cut (line ++ 10 ∷ bytes)))) (not-true (eqb b 10) p.0) ∙ ap (in_first b) (cut_line line bytes p.1)

-- lines that read as themselves are the lines of their text
pub lines_text : (ls : List Line) → AllByRecursion IsLine ls → lines (text_of ls) ≡ ls
unfolding lines cut
lines_text [] all = refl
lines_text (line ∷ ls) all =
    ap lines (append_assoc line (10 ∷ []) (text_of ls)) ∙ ap (map without_returns) (cut_line line (text_of ls) all.0.no_end)
    ∙ ap (λ (l : Line). l ∷ map without_returns (cut (text_of ls))) all.0.no_return ∙ ap (λ (l : List Line). line ∷ l) (lines_text ls all.1)

-- ---- blocks

-- what the plain form can show has no blank line
none-blank : (e : List Line) → needs_double e ≡ false → list_all (λ line. not (is_blank line)) e ≡ true
none-blank [] h = refl
none-blank (line ∷ e) h =
    let p = or_parts (is_blank line || is_rule line) (needs_double e) h in
    let q = or_parts (is_blank line) (is_rule line) p.0 in
    and_from (not (is_blank line)) (list_all (λ line. not (is_blank line)) e) (ap not q.0) (none-blank e p.1)

-- and doesn't begin as the double form
begins-plain : (e more : List Line) → needs_double e ≡ false → begins_rule (e ++ [] ∷ more) ≡ false
unfolding is_rule
begins-plain [] more h = refl
begins-plain (line ∷ e) more h = (or_parts (is_blank line) (is_rule line) (or_parts (is_blank line || is_rule line) (needs_double e) h).0).1

-- what is shown reads as the expectation
shown_reads : (e more : List Line) → ReadsPlain (shown e ++ [] ∷ more) e more ⊎ ReadsDouble (shown e ++ [] ∷ more) e more
shown_reads e more =
    elim (cases_Bool (needs_double e)) [
      | inl t ↦ inr (record {
        more = [] ∷ more;
        parts = ap (λ b. cond b (rule ∷ e ++ rule ∷ rule ∷ []) e ++ [] ∷ more) t ∙ append_assoc (rule ∷ e) (rule ∷ rule ∷ []) ([] ∷ more);
        closed = inl ([], refl, refl);
      })
      | inr f ↦
          let plain : shown e ++ [] ∷ more ≡ e ++ [] ∷ more = ap (λ b. cond b (rule ∷ e ++ rule ∷ rule ∷ []) e ++ [] ∷ more) f in
          inl (record { first = ap begins_rule plain ∙ begins-plain e more f; none_blank = none-blank e f; closed = inl ([], refl, plain) })
    ]

-- the line ---- is a separator
rule_separates : is_separator rule ≡ true
unfolding is_separator is_rule trim_blanks
rule_separates = refl

-- the lines of a block read as that block
block_reads : (b : PlainBlock) (more : List Line) → IsBlock b → ReadsBlock (block_lines b ++ more) b more
block_reads b more h = record {
  separator = rule;
  after = shown b.expected ++ [] ∷ more;
  parts = append_assoc b.lead (b.head ++ (b.input ++ rule ∷ (shown b.expected ++ [] ∷ []))) more ∙ ap (λ (l : List Line). b.lead ++ l) (append_assoc b.head (b.input ++ rule ∷ (shown b.expected ++ [] ∷ [])) more
      ∙ ap (λ (l : List Line). b.head ++ l) (append_assoc b.input (rule ∷ (shown b.expected ++ [] ∷ [])) more ∙ ap (λ (l : List Line). b.input ++ rule ∷ l) (append_assoc (shown b.expected) ([] ∷ []) more)));
  lead = h.lead;
  head = h.head;
  directive = h.directive;
  input = h.input;
  separates = rule_separates;
  readable = h.readable;
  expected = shown_reads b.expected more;
}

-- and those of a script as its blocks and its tail
blocks_read : (bs : List PlainBlock) (tail : List Line) → AllByRecursion IsBlock bs → list_all is_lead tail ≡ true → ReadsBlocks (flat_map block_lines bs ++ tail) bs tail
blocks_read [] tail all h = (refl, h)
blocks_read (b ∷ bs) tail all h =
    let more = flat_map block_lines bs ++ tail in
    let later = blocks_read bs tail all.1 h in
    ((more, subst (λ (l : List Line). ReadsBlock l b more) (sym (append_assoc (block_lines b) (flat_map block_lines bs) tail)) (block_reads b more all.0), later.0), later.1)

-- the lines of blocks are lines
all_lines : (bs : List PlainBlock) → AllByRecursion IsBlock bs → AllByRecursion IsLine (flat_map block_lines bs)
all_lines [] h = tt
all_lines (b ∷ bs) h = every-append IsLine (block_lines b) (flat_map block_lines bs) h.0.lines (all_lines bs h.1)

-- lines are short enough
all_short : (ls : List Line) → AllByRecursion IsLine ls → AllByRecursion (λ line. length line ≤ MAX_LINE) ls
all_short ls h = every_so IsLine (λ line. length line ≤ MAX_LINE) (λ line is. is.short) ls h

-- the text of a valid script is read as that script
pub text_reads : (s : PlainScript) → IsScript s → Reads (text s) s
unfolding text
text_reads s h =
    let held = every-append IsLine (flat_map block_lines s.blocks) s.tail (all_lines s.blocks h.blocks) h.tail_lines in
    let same = lines_text (script_lines s) held in
    record {
      parts = subst (λ (l : List Line). ReadsBlocks l s.blocks s.tail) (sym same) (blocks_read s.blocks s.tail h.blocks h.tail);
      short = h.short_text;
      short_lines = subst (λ (l : List Line). AllByRecursion (λ line. length line ≤ MAX_LINE) l) (sym same) (all_short (script_lines s) held);
      few = h.few;
      short_text = h.short_text;
    }
