-- Lines with what came in the place of an expectation read as the directive that expects it.
use Rattle.std.proofs.Common.{◌≡◌, ◌∙◌, ℕ, ◌+◌, ◌-◌, ◌≤◌, Bool, true, false, ◌⊎◌, inl, inr, List, [], ◌∷◌, ◌++◌, length, drop, refl, ap, sym, arith, append_assoc, append-nil, length-append}
use Rattle.std.specs.Prelude.{◌||◌, not, if◌then◌else◌}
use Rattle.std.specs.List.{list_all, AllByRecursion}
use Rattle.std.proofs.lemmas.Bool.{and_from, and_parts, cases_Bool, or_parts}
use Rattle.std.proofs.lemmas.List.{drop_at, take_at}
use Rattle.std.proofs.Math.Seq.{drop-append-add}
use Rattle.rb_script.specs.Lines.{Line}
use Rattle.rb_script.specs.Marks.{is_blank, is_rule, rule}
use Rattle.rb_script.specs.Script.{PlainBlock, expecting, needs_double}
use Rattle.rb_script.specs.Reads.{IsContinued, ReadsBlock, ReadsDouble, ReadsPlain, begins_blank, begins_rule, is_readable}
use Rattle.rb_script.specs.LineParts.{IsSolid}
use Rattle.rb_script.specs.Edits.{is_text_line}
use Rattle.rb_script.specs.Runs.{head_of}
use Rattle.rb_script.proofs.ExpectationLaws.{rule_is}
use Rattle.rb_script.proofs.RunLaws.{head_run}
use Rattle.rb_script.proofs.SolidLaws.{solid_expected, solid_plain}
use Rattle.rb_editor.specs.BlockLines.{behind_head, block_lines, lines_at, lines_from}
use Rattle.rb_editor.specs.declared.actions.extent.Extent.{Extent}
use Rattle.rb_editor.specs.Extents.{extent_at, extent_of}
use Rattle.rb_editor.specs.Actions.{form}
use Rattle.rb_editor.specs.ActionLaws.{with_lines}

-- ---- where a directive stands

-- by its parts
extent_is : (ls : List Line) (line : ℕ) (b : PlainBlock) (head h expected : ℕ) (d : Bool) (end : ℕ) → line - 1 ≡ head → length (head_of (drop head ls)) ≡ h → head + h + length b.input + 1 ≡ expected
    → begins_rule (drop expected ls) ≡ d → expected + length b.expected + (if d then 3 else 0) ≡ end → extent_of ls line b ≡ record { head = head; expected = expected; end = end; is_double = d }
unfolding extent_of block_lines
extent_is ls line b head h expected d end first second third fourth fifth =
    let ending : ℕ → Bool → Extent = λ k t. record { head = head; expected = expected; end = k; is_double = t } in
    ap (λ (k : ℕ). extent_at ls (lines_at ls b k (behind_head ls k))) first
    ∙ ap (λ (k : ℕ). extent_at ls (lines_at ls b head (head + k))) second
    ∙ ap (λ (k : ℕ). extent_at ls (lines_from ls b head (head + h) k)) third
    ∙ ap (λ (t : Bool). ending (expected + length b.expected + (if t then 3 else 0)) t) fourth
    ∙ ap (λ (k : ℕ). ending k d) fifth

-- what stands up to the line ----
abbrev pub up_to : List Line → PlainBlock → Line → List Line
up_to front b separator = front ++ (b.head ++ (b.input ++ separator ∷ []))

pub parts_of : (front : List Line) (b : PlainBlock) (separator : Line) (after : List Line) → up_to front b separator ++ after ≡ front ++ (b.head ++ (b.input ++ separator ∷ after))
parts_of front b separator after =
    append_assoc front (b.head ++ (b.input ++ separator ∷ [])) after
    ∙ ap (λ (l : List Line). front ++ l) (append_assoc b.head (b.input ++ separator ∷ []) after ∙ ap (λ (l : List Line). b.head ++ l) (append_assoc b.input (separator ∷ []) after))

pub up_to_len : (front : List Line) (b : PlainBlock) (separator : Line) → length (up_to front b separator) ≡ length front + length b.head + length b.input + 1
up_to_len front b separator =
    omega (arith, length-append front (b.head ++ (b.input ++ separator ∷ [])), length-append b.head (b.input ++ separator ∷ []), length-append b.input (separator ∷ []))

pub stands : (front : List Line) (b : PlainBlock) (separator : Line) (after : List Line) (d : Bool) (k line : ℕ) → IsContinued b.head → line ≡ length front + 1 → begins_rule after ≡ d
    → length b.expected + (if d then 3 else 0) ≡ k
    → extent_of (up_to front b separator ++ after) line b ≡ record { head = length front; expected = length (up_to front b separator); end = length (up_to front b separator) + k; is_double = d }
stands front b separator after d k line continued line_is begins len =
    let more = b.input ++ separator ∷ after in
    let from_head : drop (length front) (up_to front b separator ++ after) ≡ b.head ++ more = ap (λ (l : List Line). drop (length front) l) (parts_of front b separator after) ∙ drop_at front (b.head ++ more) (length front) refl in
    extent_is (up_to front b separator ++ after) line b (length front) (length b.head) (length (up_to front b separator)) d (length (up_to front b separator) + k)
    (omega (arith, line_is))
    (ap (λ (l : List Line). length (head_of l)) from_head ∙ ap length (head_run b.head more continued).0)
    (omega (arith, up_to_len front b separator))
    (ap begins_rule (drop_at (up_to front b separator) after (length (up_to front b separator)) refl) ∙ begins)
    (omega (arith, len))

-- ---- what is put in its place

-- lines with others in the place of an expectation of k lines
with_is : (front : List Line) (b : PlainBlock) (separator : Line) (after output : List Line) (d : Bool) (k : ℕ)
    → with_lines (up_to front b separator ++ after) (record { head = length front; expected = length (up_to front b separator); end = length (up_to front b separator) + k; is_double = d }) output
    ≡ up_to front b separator ++ (form d output ++ drop k after)
with_is front b separator after output d k =
    ap (λ (l : List Line). l ++ (form d output ++ drop (length (up_to front b separator) + k) (up_to front b separator ++ after))) (take_at (up_to front b separator) after (length (up_to front b separator)) refl)
    ∙ ap (λ (l : List Line). up_to front b separator ++ (form d output ++ l)) (drop-append-add (up_to front b separator) after k)

pub record Edited (before ls rest : List Line) (b : PlainBlock) (output : List Line) : Type 0 where
  pub more : List Line
  pub made : with_lines (before ++ ls) (extent_of (before ++ ls) (length before + length b.lead + 1) b) output ≡ before ++ more
  pub reads : ReadsBlock more (expecting b output) rest
  pub first : begins_blank more ≡ begins_blank ls
  pub behind : length before + 1 ≤ (extent_of (before ++ ls) (length before + length b.lead + 1) b).expected
  pub within : (extent_of (before ++ ls) (length before + length b.lead + 1) b).expected ≤ length (before ++ ls)

readable : (output : List Line) → AllByRecursion IsSolid output → is_readable output ≡ true
readable output solid = (and_parts (is_readable output) (list_all is_text_line output) (solid_expected output solid)).0

-- the first line of a block stands above what comes in the place of its expectation
same_first : (lead head input : List Line) (separator : Line) (after other : List Line) → begins_blank (lead ++ (head ++ (input ++ separator ∷ after))) ≡ begins_blank (lead ++ (head ++ (input ++ separator ∷ other)))
same_first [] [] [] separator after other = refl
same_first lead head input separator after other = refl

-- where an expectation takes up k lines, behind which the tail stands
edited : (before ls rest : List Line) (b : PlainBlock) (output tail : List Line) (d : Bool) (k : ℕ) (r : ReadsBlock ls b rest) → AllByRecursion IsSolid output → begins_rule r.after ≡ d
    → length b.expected + (if d then 3 else 0) ≡ k → drop k r.after ≡ tail → ReadsPlain (form d output ++ tail) output rest ⊎ ReadsDouble (form d output ++ tail) output rest → Edited before ls rest b output
edited before ls rest b output tail d k r solid begins len left reads =
    let front = before ++ b.lead in
    let line = length before + length b.lead + 1 in
    let line_is : line ≡ length front + 1 = omega (arith, length-append before b.lead) in
    let behind = form d output ++ tail in
    let joined = λ (after : List Line). sym (append_assoc before b.lead (b.head ++ (b.input ++ r.separator ∷ after))) ∙ sym (parts_of front b r.separator after) in
    let whole : before ++ ls ≡ up_to front b r.separator ++ r.after = ap (λ (l : List Line). before ++ l) r.parts ∙ joined r.after in
    let there = stands front b r.separator r.after d k line r.head.1 line_is begins len in
    let at : (extent_of (before ++ ls) line b).expected ≡ length (up_to front b r.separator) = ap (λ (l : List Line). (extent_of l line b).expected) whole ∙ ap (λ (e : Extent). e.expected) there in record {
      more = b.lead ++ (b.head ++ (b.input ++ r.separator ∷ behind));
      made = ap (λ (l : List Line). with_lines l (extent_of l line b) output) whole
          ∙ ap (λ (e : Extent). with_lines (up_to front b r.separator ++ r.after) e output) there
          ∙ with_is front b r.separator r.after output d k
          ∙ ap (λ (l : List Line). up_to front b r.separator ++ (form d output ++ l)) left
          ∙ sym (joined behind);
      reads = record {
        separator = r.separator;
        after = behind;
        parts = refl;
        lead = r.lead;
        head = r.head;
        directive = r.directive;
        input = r.input;
        separates = r.separates;
        readable = readable output solid;
        expected = reads;
      };
      first = same_first b.lead b.head b.input r.separator behind r.after ∙ ap begins_blank (sym r.parts);
      behind = omega (arith, at, up_to_len front b r.separator, length-append before b.lead);
      within = omega (arith, at, ap (λ (l : List Line). length l) whole, length-append (up_to front b r.separator) r.after);
    }

-- a blank line is no rule
blank_first : (blank : Line) → is_blank blank ≡ true → is_rule blank ≡ false
blank_first blank is =
    elim (cases_Bool (is_rule blank)) [
      | inl t ↦ let no : is_blank rule ≡ true = ap is_blank (sym (rule_is blank t)) ∙ is in absurd cc
      | inr f ↦ f
    ]

-- solid lines, and then a blank one or the end, begin with no rule
begins_plain : (output tail : List Line) → needs_double output ≡ false → begins_rule tail ≡ false → begins_rule (output ++ tail) ≡ false
begins_plain [] tail plain none = none
begins_plain (line ∷ output) tail plain none = (or_parts (is_blank line) (is_rule line) (or_parts (is_blank line || is_rule line) (needs_double output) plain).0).1

-- nor is one of them blank
none_blank_of : (output : List Line) → needs_double output ≡ false → list_all (λ line. not (is_blank line)) output ≡ true
none_blank_of [] plain = refl
none_blank_of (line ∷ output) plain =
    let both = or_parts (is_blank line || is_rule line) (needs_double output) plain in
    and_from (not (is_blank line)) (list_all (λ line. not (is_blank line)) output) (ap not (or_parts (is_blank line) (is_rule line) both.0).0) (none_blank_of output both.1)

plain_closed : (before ls rest : List Line) (b : PlainBlock) (output : List Line) (r : ReadsBlock ls b rest) → AllByRecursion IsSolid output → (p : ReadsPlain r.after b.expected rest)
    → ((blank : Line) × (is_blank blank ≡ true) × (r.after ≡ b.expected ++ blank ∷ rest)) ⊎ ((r.after ≡ b.expected) × (rest ≡ [])) → Edited before ls rest b output
plain_closed before ls rest b output r solid p (inl c) =
    let plain = solid_plain output solid in
    edited before ls rest b output (c.0 ∷ rest) false (length b.expected) r solid p.first (omega arith)
    (ap (λ (l : List Line). drop (length b.expected) l) c.2 ∙ drop_at b.expected (c.0 ∷ rest) (length b.expected) refl)
    (inl (record { first = begins_plain output (c.0 ∷ rest) plain (blank_first c.0 c.1); none_blank = none_blank_of output plain; closed = inl (c.0, c.1, refl) }))
plain_closed before ls rest b output r solid p (inr c) =
    let plain = solid_plain output solid in
    edited before ls rest b output [] false (length b.expected) r solid p.first (omega arith)
    (ap (λ (l : List Line). drop (length b.expected) l) (c.0 ∙ sym (append-nil b.expected)) ∙ drop_at b.expected [] (length b.expected) refl)
    (inl (record { first = begins_plain output [] plain refl; none_blank = none_blank_of output plain; closed = inr (append-nil output, c.1) }))

double_closed : (before ls rest : List Line) (b : PlainBlock) (output : List Line) (r : ReadsBlock ls b rest) → AllByRecursion IsSolid output → ReadsDouble r.after b.expected rest → Edited before ls rest b output
unfolding is_rule
double_closed before ls rest b output r solid q =
    let inner = b.expected ++ rule ∷ rule ∷ q.more in
    let left : drop (length b.expected + 3) (rule ∷ inner) ≡ q.more =
    ap (λ (n : ℕ). drop n (rule ∷ inner)) (omega arith) ∙ drop-append-add (rule ∷ b.expected) (rule ∷ rule ∷ q.more) 2 in
    edited before ls rest b output q.more true (length b.expected + 3) r solid (ap begins_rule q.parts) (omega arith)
    (ap (λ (l : List Line). drop (length b.expected + 3) l) q.parts ∙ left)
    (inr (record { more = q.more; parts = ap (λ (l : List Line). rule ∷ l) (append_assoc output (rule ∷ rule ∷ []) q.more); closed = q.closed }))

pub either_closed : (before ls rest : List Line) (b : PlainBlock) (output : List Line) (r : ReadsBlock ls b rest) → AllByRecursion IsSolid output → ReadsPlain r.after b.expected rest ⊎ ReadsDouble r.after b.expected rest → Edited before ls rest b output
either_closed before ls rest b output r solid (inl p) = plain_closed before ls rest b output r solid p p.closed
either_closed before ls rest b output r solid (inr q) = double_closed before ls rest b output r solid q
