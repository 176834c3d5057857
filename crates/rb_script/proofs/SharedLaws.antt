-- Edits of lists of blocks.
use Rattle.std.proofs.Common.{◌≡◌, ℕ, ◌+◌, ◌-◌, ◌≤◌, ◌<◌, Bool, true, false, cond, not, ◌&&◌, List, [], ◌∷◌, ◌++◌, length, take, get_or, Some, zero, suc, refl, ap, sym, ◌∙◌, inl, inr, arith}
use Rattle.std.specs.Prelude.{◌==◌, nat_le, slice_get}
use Rattle.std.proofs.lemmas.Option.{slice_get_within, get_or_from_slice_get, same_Some}
use Rattle.std.specs.declared.rc.Rc.{Rc}
use Rattle.std.specs.declared.alloc.Global.{Global}
use Rattle.std.specs.List.{list_all, AllByRecursion, AppendsClones}
use Rattle.std.proofs.lemmas.Bool.{cases_Bool, and_parts, and_from, not-true, leb-true, le-leb}
use Rattle.std.proofs.lemmas.List.{take_all, map-append, length-map}
use Rattle.std.proofs.lemmas.List.Folds.{list_all_more, list_all_at}
use Rattle.rb_script.specs.declared.limits.TheConstants.{MAX_LINE}
use Rattle.rb_script.specs.Lines.{Line, put_before, without_returns}
use Rattle.rb_script.specs.Marks.{rule}
use Rattle.rb_script.specs.Script.{PlainBlock, shown, needs_double, block_lines, expecting, all_expecting}
use Rattle.rb_script.specs.Reads.{is_readable}
use Rattle.rb_script.specs.Valid.{IsLine, IsBlock}
use Rattle.rb_script.specs.Edits.{ends_in_return, is_text_line, is_expectation}
use Rattle.rb_script.specs.Shared.{values}
use Rattle.rb_script.proofs.ListLaws.{every-append, every-parts, every_told, same_read}

-- ---- lines that can be an expectation

-- a line that doesn't end in a carriage return has none to lose
pub returns_kept : (line : Line) → ends_in_return line ≡ false → without_returns line ≡ line
unfolding without_returns
returns_kept [] h = refl
returns_kept (b ∷ []) h = ap (λ t. cond t [] (b ∷ [])) h
returns_kept (b ∷ c ∷ line) h = ap (put_before b) (returns_kept (c ∷ line) h)

last_is : (line : Line) (n b : ℕ) → length line ≡ n + 1 → slice_get line n ≡ Some b → (b == 13) ≡ ends_in_return line
last_is [] n b e found = absurd (omega arith)
last_is (x ∷ []) zero b e found = ap (λ (y : ℕ). y == 13) (sym (same_Some x b found))
last_is (x ∷ []) (suc n) b e found = absurd (omega arith)
last_is (x ∷ y ∷ line) zero b e found = absurd (omega arith)
last_is (x ∷ y ∷ line) (suc n) b e found = last_is (y ∷ line) n b (omega arith) found

-- the last byte tells
pub last_return : (line : Line) (b : ℕ) → slice_get line (length line - 1) ≡ Some b → (b == 13) ≡ ends_in_return line
last_return line b found = let within = slice_get_within line (length line - 1) b found in last_is line (length line - 1) b (omega arith) found

-- nor does a line that has none to lose end in one
put_ends : (b : ℕ) (line : Line) → ends_in_return line ≡ false → ends_in_return (put_before b line) ≡ false
put_ends b [] h =
    elim (cases_Bool (b == 13)) [
      | inl t ↦ ap (λ x. ends_in_return (cond x [] (b ∷ []))) t
      | inr f ↦ ap (λ x. ends_in_return (cond x [] (b ∷ []))) f ∙ f
    ]
put_ends b (c ∷ line) h = h

trimmed_ends : (line : Line) → ends_in_return (without_returns line) ≡ false
unfolding without_returns
trimmed_ends [] = refl
trimmed_ends (b ∷ line) = put_ends b (without_returns line) (trimmed_ends line)

-- a line that reads as itself passes the test
pub line_text_is : (line : Line) → IsLine line → is_text_line line ≡ true
line_text_is line is =
    let ends : ends_in_return line ≡ false = sym (ap ends_in_return is.no_return) ∙ trimmed_ends line in
    and_from (list_all (λ b. not (b == 10)) line) (not (ends_in_return line) && nat_le (length line) MAX_LINE) is.no_end
    (and_from (not (ends_in_return line)) (nat_le (length line) MAX_LINE) (ap not ends) (le-leb (length line) MAX_LINE is.short))

-- and the other way round
pub text_line : (line : Line) → is_text_line line ≡ true → IsLine line
text_line line h =
    let p = and_parts (list_all (λ b. not (b == 10)) line) (not (ends_in_return line) && nat_le (length line) MAX_LINE) h in
    let q = and_parts (not (ends_in_return line)) (nat_le (length line) MAX_LINE) p.1 in
    record { no_end = p.0; no_return = returns_kept line (not-true (ends_in_return line) q.0); short = leb-true (length line) MAX_LINE q.1 }

pub text_lines : (ls : List Line) → list_all is_text_line ls ≡ true → AllByRecursion IsLine ls
text_lines ls h = every_told is_text_line IsLine text_line ls h

-- ---- the lines of blocks

rule_line : IsLine rule
unfolding without_returns
rule_line = record { no_end = refl; no_return = refl; short = omega arith }

empty_line : IsLine []
unfolding without_returns
empty_line = record { no_end = refl; no_return = refl; short = omega arith }

-- the lines of either form are lines
shown_lines : (e : List Line) → AllByRecursion IsLine e → AllByRecursion IsLine (shown e)
shown_lines e h = elim (needs_double e) as (λ t. AllByRecursion IsLine (cond t (rule ∷ e ++ rule ∷ rule ∷ []) e)) [ true ↦ (rule_line, every-append IsLine e (rule ∷ rule ∷ []) h (rule_line, (rule_line, tt))) | false ↦ h ]

-- so are those of a block
pub lines_valid : (b : PlainBlock) → AllByRecursion IsLine b.lead → AllByRecursion IsLine b.head → AllByRecursion IsLine b.input → AllByRecursion IsLine b.expected → AllByRecursion IsLine (block_lines b)
lines_valid b lead head input expected =
    let last = shown b.expected ++ [] ∷ [] in
    let ends = every-append IsLine (shown b.expected) ([] ∷ []) (shown_lines b.expected expected) (empty_line, tt) in
    every-append IsLine b.lead (b.head ++ (b.input ++ rule ∷ last)) lead (every-append IsLine b.head (b.input ++ rule ∷ last) head (every-append IsLine b.input (rule ∷ last) input (rule_line, ends)))

-- a block stays one with lines that can be an expectation in place of its own
pub expecting_valid : (b : PlainBlock) (e : List Line) → IsBlock b → is_expectation e ≡ true → IsBlock (expecting b e)
expecting_valid b e h is =
    let p = and_parts (is_readable e) (list_all is_text_line e) is in
    let old = shown b.expected ++ [] ∷ [] in
    let x = every-parts IsLine b.lead (b.head ++ (b.input ++ rule ∷ old)) h.lines in
    let y = every-parts IsLine b.head (b.input ++ rule ∷ old) x.1 in
    let z = every-parts IsLine b.input (rule ∷ old) y.1 in
    record {
      lead = h.lead;
      head = h.head;
      directive = h.directive;
      input = h.input;
      readable = p.0;
      lines = lines_valid (expecting b e) x.0 y.0 z.0 (text_lines e p.1);
    }

-- ---- testing items one after another

-- where all pass, this one does
pub test_there : {X : Type 0} (test : X → Bool) (xs : List X) (i : ℕ) (x : X) → slice_get xs i ≡ Some x → list_all test xs ≡ true → test x ≡ true
test_there test [] i x found all = absurd (let within = slice_get_within [] i x found in omega (arith, within))
test_there test (y ∷ xs) zero x found all = ap test (sym (same_Some y x found)) ∙ (and_parts (test y) (list_all test xs) all).0
test_there test (y ∷ xs) (suc i) x found all = test_there test xs i x found (and_parts (test y) (list_all test xs) all).1

module _ {X : Type 0} (test : X → Bool) (xs : List X) (i : ℕ) (x : X) (found : slice_get xs i ≡ Some x) where
  within : i < length xs
  within = slice_get_within xs i x found

  same : test (get_or xs i x) ≡ test x
  same = ap test (get_or_from_slice_get xs i x x found)

  -- one more passed
  pub tests_more : list_all test (take i xs) ≡ true → test x ≡ true → list_all test (take (i + 1) xs) ≡ true
  tests_more so_far h = list_all_more test xs i x within ∙ and_from (list_all test (take i xs)) (test (get_or xs i x)) so_far (same ∙ h)

  -- one failed
  pub tests_not : test x ≡ false → list_all test xs ≡ false
  tests_not h = list_all_at test xs i x within (same ∙ h)

-- all passed
pub tests_end : {X : Type 0} (test : X → Bool) (xs : List X) (i : ℕ) → length xs ≤ i → list_all test (take i xs) ≡ true → list_all test xs ≡ true
tests_end test xs i le so_far = ap (list_all test) (sym (take_all i xs le)) ∙ so_far

-- ---- blocks behind their pointers, one after another

pub values-length : {T : Type 0} (ps : List (Rc T Global)) → length (values ps) ≡ length ps
values-length {T} ps = length-map ps (λ (q : Rc T Global). q.value)

-- clones of pointers were added
pub shared_all : {T : Type 0} (old new more : List (Rc T Global)) → AppendsClones (λ p q. q.value ≡ p.value) old new more → values new ≡ values old ++ values more
shared_all {T} old new more h = ap values h.1 ∙ map-append (λ (r : Rc T Global). r.value) old h.0 ∙ ap (λ (l : List T). values old ++ l) (same_read (λ (r : Rc T Global). r.value) more h.0 h.2)

-- one more pointer, to this value
pub pushed : {T : Type 0} (into next : List (Rc T Global)) (p : Rc T Global) (v : T) → next ≡ into ++ p ∷ [] → p.value ≡ v → values next ≡ values into ++ v ∷ []
pushed {T} into next p v e is = ap values e ∙ map-append (λ (q : Rc T Global). q.value) into (p ∷ []) ∙ ap (λ (x : T). values into ++ x ∷ []) is

-- ---- each block with its output

-- the block at a place has its output
pub expecting_at : (bs : List PlainBlock) (outputs : List (List Line)) (i : ℕ) (b : PlainBlock) (output : List Line) → slice_get bs i ≡ Some b → slice_get outputs i ≡ Some output → slice_get (all_expecting bs outputs) i ≡ Some (expecting b output)
unfolding all_expecting
expecting_at [] outputs i b output found there = absurd cc
expecting_at (x ∷ bs) [] i b output found there = absurd cc
expecting_at (x ∷ bs) (o ∷ outputs) zero b output found there =
    ap (λ (y : PlainBlock). Some (expecting y o)) (same_Some x b found) ∙ ap (λ (y : List Line). Some (expecting b y)) (same_Some o output there)
expecting_at (x ∷ bs) (o ∷ outputs) (suc i) b output found there = expecting_at bs outputs i b output found there

-- as many blocks as before
pub outputs_count : (bs : List PlainBlock) (outputs : List (List Line)) → length outputs ≡ length bs → length (all_expecting bs outputs) ≡ length bs
unfolding all_expecting
outputs_count [] outputs e = refl
outputs_count (b ∷ bs) [] e = absurd (omega arith)
outputs_count (b ∷ bs) (output ∷ outputs) e = let rest = outputs_count bs outputs (omega arith) in omega arith

-- each is a block
pub outputs_valid : (bs : List PlainBlock) (outputs : List (List Line)) → AllByRecursion IsBlock bs → list_all is_expectation outputs ≡ true → AllByRecursion IsBlock (all_expecting bs outputs)
unfolding all_expecting
outputs_valid [] outputs all good = tt
outputs_valid (b ∷ bs) [] all good = tt
outputs_valid (b ∷ bs) (output ∷ outputs) all good =
    let p = and_parts (is_expectation output) (list_all is_expectation outputs) good in
    (expecting_valid b output all.0 p.0, outputs_valid bs outputs all.1 p.1)
