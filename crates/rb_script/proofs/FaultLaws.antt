-- What a fault of reading says of the bytes.
use Rattle.std.proofs.Common.{◌≡◌, ℕ, zero, suc, ◌+◌, ◌-◌, ◌≤◌, ◌<◌, false, cond, ltb, List, [], ◌∷◌, ◌++◌, length, Option, Some, None, Ok, Err, refl, ap, sym, subst, ◌∙◌, arith, inl, inr, ◌⊎◌}
use Rattle.std.proofs.lemmas.Bool.{cases_Bool, not-false, ltb-true, ltb-false}
use Rattle.rb_script.specs.declared.fault.ScriptFault.{ScriptFault}
use Rattle.rb_script.specs.declared.fault.ScriptFault.TheVariants as faults
use Rattle.rb_script.specs.declared.limits.TheConstants.{MAX_SCRIPT, MAX_LINE, MAX_DIRECTIVES}
use Rattle.rb_script.specs.Lines.{Line, lines}
use Rattle.rb_script.specs.Marks.{is_lead, is_separator, is_input}
use Rattle.rb_script.specs.Script.{PlainBlock, PlainScript, text}
use Rattle.rb_script.specs.Joined.{joined}
use Rattle.rb_script.specs.Directive.{PlainArgument}
use Rattle.rb_script.specs.Limits.{are_few}
use Rattle.rb_script.specs.Reads.{IsDirective, ReadsSome}
use Rattle.rb_script.specs.Results.{◌>>=◌}
use Rattle.rb_script.specs.Runs.{while_of, after_while, head_of, after_head}
use Rattle.rb_script.specs.Heads.{HeadThere, head_at, few_or}
use Rattle.rb_script.specs.Expectations.{Expectation, expectation_at}
use Rattle.rb_script.specs.Blocks.{closed_or, after_separator, line_number, lead_of, from_head, is_empty, below_head, block_at, blocks_at, behind, tail_only}
use Rattle.rb_script.specs.Reading.{long_line, no_long_line, parts_of, fits_text, read_of, only_block, block_of}
use Rattle.rb_script.specs.Faults.{IsHeadFault, StopsAt, HasLongLine, AreBlocks, AreShort, IsFirstFault, IsScriptFault, IsBlockFault}
use Rattle.rb_script.proofs.GrammarLaws.{head_sound, head_complete}
use Rattle.rb_script.proofs.ResultLaws.{done, same_fault, bind_err, guard_err}
use Rattle.rb_script.proofs.RunLaws.{run_parts, run_all, after_first, none_after}
use Rattle.rb_script.proofs.ExpectationLaws.{expectation_complete}
use Rattle.rb_script.proofs.BlockLaws.{after_is, directive_sound, gathered, completed, steps}
use Rattle.rb_script.proofs.BlocksLaws.{one_more, leads_of, begins_from, next_sound}
use Rattle.rb_script.proofs.ScriptLaws.{short_parts, parts_sound, only_alone}

-- ---- one head

-- a head was refused: it is not there, or has too many arguments
few_err : (n : ℕ) (there : HeadThere) (e : ScriptFault) → few_or n there ≡ Err e → ((there ≡ None) × (faults.BadLine n ≡ e)) ⊎ ((x : List ℕ × List PlainArgument) × (there ≡ Some x) × (are_few x.1 ≡ false) × (faults.TooManyArguments n ≡ e))
few_err n None e h = inl (refl, same_fault (faults.BadLine n) e h)
few_err n (Some x) e h =
    elim (cases_Bool (are_few x.1)) [
      | inl t ↦ let no : done x ≡ Err e = sym (ap (λ b. cond b (done x) (Err (faults.TooManyArguments n))) t) ∙ h in absurd cc
      | inr f ↦ inr (x, refl, f, same_fault (faults.TooManyArguments n) e (sym (ap (λ b. cond b (done x) (Err (faults.TooManyArguments n))) f) ∙ h))
    ]

-- no separator was there
after_err : (fault : ScriptFault) (ls : List Line) (e : ScriptFault) → after_separator fault ls ≡ Err e → (ls ≡ []) × (fault ≡ e)
after_err fault [] e h = (refl, same_fault fault e h)
after_err fault (line ∷ ls) e h = absurd cc

-- no expectation was closed
closed_err : (fault : ScriptFault) (found : Expectation) (e : ScriptFault) → closed_or fault found ≡ Err e → (found ≡ None) × (fault ≡ e)
closed_err fault None e h = (refl, same_fault fault e h)
closed_err fault (Some x) e h = absurd cc

-- a head that isn't there is in no grammar
bad_line : (end : ℕ) (ls : List Line) → head_at (joined (head_of ls)) ≡ None → IsHeadFault end ls (faults.BadLine (line_number end ls))
bad_line end ls none = record {
  number = refl;
  none = λ name args d. let no : None ≡ Some (name, args) = sym none ∙ head_complete (joined (head_of ls)) name args d in cc;
}

-- a head with too many arguments is in the grammar
many_arguments : (end : ℕ) (ls : List Line) (x : List ℕ × List PlainArgument) → head_at (joined (head_of ls)) ≡ Some x → are_few x.1 ≡ false → IsHeadFault end ls (faults.TooManyArguments (line_number end ls))
many_arguments end ls x some many = record { name = x.0; args = x.1; number = refl; derives = head_sound (joined (head_of ls)) x.0 x.1 some; many = many }

-- where nothing was cut off, no line is a separator
no_separator : (end : ℕ) (ls : List Line) → IsDirective (head_of ls) → after_while is_input (after_head ls) ≡ [] → IsHeadFault end ls (faults.NoSeparator (line_number end ls))
no_separator end ls d none = record { number = refl; directive = d; none = none_after is_input (after_head ls) none }

-- where no expectation is read, none is in the relation
not_closed : (end : ℕ) (ls after : List Line) (line : Line) → IsDirective (head_of ls) → after_while is_input (after_head ls) ≡ line ∷ after → expectation_at after ≡ None → IsHeadFault end ls (faults.NotClosed (line_number end (after_while is_input (after_head ls))))
not_closed end ls after line d first none = record {
  input = while_of is_input (after_head ls);
  separator = line;
  after = after;
  parts = sym (run_parts is_input (after_head ls)) ∙ ap (λ (l : List Line). while_of is_input (after_head ls) ++ l) first;
  first = run_all is_input (after_head ls);
  separates = not-false (is_separator line) (after_first is_input (after_head ls) line after first);
  number = ap (line_number end) first;
  directive = d;
  none = λ expected rest readable reads. let no : None ≡ Some (expected, rest) = sym none ∙ expectation_complete after expected rest readable reads in cc;
}

-- the same fault
along : (end : ℕ) (ls : List Line) (d e : ScriptFault) → d ≡ e → IsHeadFault end ls d → IsHeadFault end ls e
along end ls d e is h = subst (λ (x : ScriptFault). IsHeadFault end ls x) is h

-- why what stands below a head isn't read
below_fault : (end : ℕ) (ls : List Line) (e : ScriptFault) → IsDirective (head_of ls) → below_head end (line_number end ls) (after_head ls) ≡ Err e → IsHeadFault end ls e
unfolding below_head
below_fault end ls e d h =
    let on = after_while is_input (after_head ls) in
    let missing = faults.NoSeparator (line_number end ls) in
    let unclosed = faults.NotClosed (line_number end on) in
    let make = gathered (while_of is_input (after_head ls)) in
    elim (bind_err (after_separator missing on) (λ after. closed_or unclosed (expectation_at after) >>= make) e h) [
      | inl f ↦ let none = after_err missing on e f in along end ls missing e none.1 (no_separator end ls d none.0)
      | inr t ↦
          let line = after_is missing on t.0 t.1 in
          elim (bind_err (closed_or unclosed (expectation_at t.0)) make e t.2) [
            | inl f ↦ let none = closed_err unclosed (expectation_at t.0) e f in along end ls unclosed e none.1 (not_closed end ls t.0 line.0 d line.1 none.0)
            | inr u ↦ absurd cc
          ]
    ]

-- why a block isn't read
block_fault : (end : ℕ) (lead ls : List Line) (e : ScriptFault) → block_at end lead ls ≡ Err e → IsHeadFault end ls e
block_fault end lead ls e h =
    let n = line_number end ls in
    let head = head_of ls in
    let ahead = after_head ls in
    elim (bind_err (few_or n (head_at (joined head))) (λ _. below_head end n ahead >>= completed lead head) e (sym (steps end n lead ls head ahead refl refl refl) ∙ h)) [
      | inl f ↦ elim (few_err n (head_at (joined head)) e f) [
        | inl none ↦ along end ls (faults.BadLine n) e none.1 (bad_line end ls none.0)
        | inr many ↦ along end ls (faults.TooManyArguments n) e many.3 (many_arguments end ls many.0 many.1 many.2)
      ]
      | inr s ↦ elim (bind_err (below_head end n ahead) (completed lead head) e s.2) [
        | inl f ↦ below_fault end ls e (directive_sound n head s.0 s.1) f
        | inr u ↦ absurd cc
      ]
    ]

-- ---- all blocks

-- reading stops at a head, behind these blocks
record Stops (room end : ℕ) (ls : List Line) (e : ScriptFault) : Type 0 where
  blocks : List PlainBlock
  rest : List Line
  before : ReadsSome ls blocks rest
  some : is_empty (from_head rest) ≡ false
  why : ((length blocks ≡ room) × (faults.TooManyDirectives ≡ e)) ⊎ ((length blocks < room) × (block_at end (lead_of rest) (from_head rest) ≡ Err e))

-- one block more stands before the head
stops_later : (room end : ℕ) (ls after : List Line) (b : PlainBlock) (e : ScriptFault) → is_empty (from_head ls) ≡ false → block_at end (lead_of ls) (from_head ls) ≡ Ok (b, after) → Stops room end after e → Stops (suc room) end ls e
stops_later room end ls after b e some read s = record {
  blocks = b ∷ s.blocks;
  rest = s.rest;
  before = (after, next_sound end ls after b some read, s.before);
  some = s.some;
  why = elim s.why [ inl full ↦ inl (omega (arith, full.0), full.1) | inr failed ↦ inr (omega (arith, failed.0), failed.1) ];
}

-- where reading blocks stops
blocks_fault : (room end : ℕ) (ls : List Line) (e : ScriptFault) → blocks_at room end ls ≡ Err e → Stops room end ls e
unfolding blocks_at
blocks_fault zero end ls e h =
    elim (cases_Bool (is_empty (from_head ls))) [
      | inl t ↦ let no : done (tail_only ls) ≡ Err e = sym (ap (λ b. cond b (done (tail_only ls)) (Err faults.TooManyDirectives)) t) ∙ h in absurd cc
      | inr f ↦ record {
        blocks = [];
        rest = ls;
        before = refl;
        some = f;
        why = inl (refl, same_fault faults.TooManyDirectives e (sym (ap (λ b. cond b (done (tail_only ls)) (Err faults.TooManyDirectives)) f) ∙ h));
      }
    ]
blocks_fault (suc room) end ls e h =
    elim (cases_Bool (is_empty (from_head ls))) [
      | inl t ↦ let no : done (tail_only ls) ≡ Err e = sym (ap (λ b. cond b (done (tail_only ls)) (block_at end (lead_of ls) (from_head ls) >>= one_more room end)) t) ∙ h in absurd cc
      | inr f ↦ elim (bind_err (block_at end (lead_of ls) (from_head ls)) (one_more room end) e (sym (ap (λ b. cond b (done (tail_only ls)) (block_at end (lead_of ls) (from_head ls) >>= one_more room end)) f) ∙ h)) [
        | inl bad ↦ record { blocks = []; rest = ls; before = refl; some = f; why = inr (omega arith, bad) }
        | inr x ↦ elim (bind_err (blocks_at room end x.0.1) (λ others. Ok (behind (x.0.0 ∷ []) others)) e x.2) [
          | inl later ↦ stops_later room end ls x.0.1 x.0.0 e f x.1 (blocks_fault room end x.0.1 e later)
          | inr y ↦ absurd cc
        ]
      ]
    ]

-- the rest is lead lines and a head
cut_rest : (ls rest : List Line) (bs : List PlainBlock) → ReadsSome ls bs rest → ReadsSome ls bs (lead_of rest ++ from_head rest)
cut_rest ls rest bs h = subst (λ (l : List Line). ReadsSome ls bs l) (sym (run_parts is_lead rest)) h

-- a fault at a head is a fault of the bytes
stops_at : (bytes : List ℕ) (e : ScriptFault) → AreShort bytes → StopsAt (lines bytes) e → IsFirstFault bytes e
stops_at bytes faults.TooLong short s = absurd s.why
stops_at bytes (faults.LineTooLong n) short s = absurd s.why
stops_at bytes (faults.BadLine n) short s = (short, s)
stops_at bytes (faults.NoSeparator n) short s = (short, s)
stops_at bytes (faults.NotClosed n) short s = (short, s)
stops_at bytes faults.TooManyDirectives short s = absurd s.why
stops_at bytes faults.NotOneBlock short s = absurd s.why
stops_at bytes (faults.TooManyArguments n) short s = (short, s)
stops_at bytes faults.OutOfMemory short s = absurd s.why

-- why the blocks aren't read
stops_fault : (bytes : List ℕ) (e : ScriptFault) → AreShort bytes → Stops MAX_DIRECTIVES (1 + length (lines bytes)) (lines bytes) e → IsFirstFault bytes e
stops_fault bytes e short s =
    let head = begins_from s.rest (from_head s.rest) refl s.some in
    let before = cut_rest (lines bytes) s.rest s.blocks s.before in
    elim s.why [
      | inl full ↦ subst (λ (x : ScriptFault). IsFirstFault bytes x) full.1 (short, record { blocks = s.blocks; lead = lead_of s.rest; from = from_head s.rest; before = before; leads = leads_of s.rest; head = head; many = full.0 })
      | inr bad ↦ stops_at bytes e short (record {
        blocks = s.blocks;
        lead = lead_of s.rest;
        from = from_head s.rest;
        before = before;
        leads = leads_of s.rest;
        head = head;
        few = bad.0;
        why = block_fault (1 + length (lines bytes)) (lead_of s.rest) (from_head s.rest) e bad.1;
      })
    ]

-- ---- bytes

-- the line that is found too long is the first
long_found : (n : ℕ) (ls : List Line) (m : ℕ) → long_line n ls ≡ Some m → (n ≤ m) × HasLongLine ls (1 + m - n)
unfolding long_line
long_found n [] m h = absurd cc
long_found n (line ∷ ls) m h =
    elim (cases_Bool (ltb MAX_LINE (length line))) [
      | inl t ↦
          let same : Some n ≡ Some m = sym (ap (λ b. cond b (Some n) (long_line (n + 1) ls)) t) ∙ h in
          let is : n ≡ m = cc in
          (omega arith, record { front = []; line = line; rest = ls; parts = refl; number = omega arith; short = tt; long = ltb-true MAX_LINE (length line) t })
      | inr f ↦
          let found = long_found (n + 1) ls m (sym (ap (λ b. cond b (Some n) (long_line (n + 1) ls)) f) ∙ h) in
          let later = found.1 in (
            omega (arith, found.0),
            record {
              front = line ∷ later.front;
              line = later.line;
              rest = later.rest;
              parts = ap (λ (l : List Line). line ∷ l) later.parts;
              number = omega (arith, found.0, later.number);
              short = (ltb-false MAX_LINE (length line) f, later.short);
              long = later.long;
            },
          )
    ]

-- a line was told as too long
no_long_err : (found : Option ℕ) (e : ScriptFault) → no_long_line found ≡ Err e → (n : ℕ) × (found ≡ Some n) × (faults.LineTooLong n ≡ e)
no_long_err None e h = absurd cc
no_long_err (Some n) e h = (n, refl, same_fault (faults.LineTooLong n) e h)

-- the line is told by its number
long_fault : (bytes : List ℕ) (n : ℕ) → ltb MAX_SCRIPT (length bytes) ≡ false → long_line 1 (lines bytes) ≡ Some n → IsFirstFault bytes (faults.LineTooLong n)
long_fault bytes n short h =
    let number : 1 + n - 1 ≡ n = omega arith in
    (ltb-false MAX_SCRIPT (length bytes) short, subst (λ (m : ℕ). HasLongLine (lines bytes) m) number (long_found 1 (lines bytes) n h).1)

-- a fault of reading the parts
parts_fault : (bytes : List ℕ) (e : ScriptFault) → parts_of bytes ≡ Err e → IsFirstFault bytes e
unfolding parts_of
parts_fault bytes e h =
    let ls = lines bytes in
    elim (guard_err (ltb MAX_SCRIPT (length bytes)) faults.TooLong (no_long_line (long_line 1 ls) >>= λ _. blocks_at MAX_DIRECTIVES (1 + length ls) ls) e h) [
      | inl long ↦ subst (λ (x : ScriptFault). IsFirstFault bytes x) long.1 (ltb-true MAX_SCRIPT (length bytes) long.0)
      | inr later ↦ elim (bind_err (no_long_line (long_line 1 ls)) (λ _. blocks_at MAX_DIRECTIVES (1 + length ls) ls) e later.1) [
        | inl f ↦ let found = no_long_err (long_line 1 ls) e f in subst (λ (x : ScriptFault). IsFirstFault bytes x) found.2 (long_fault bytes found.0 later.0 found.1)
        | inr x ↦ stops_fault bytes e (short_parts bytes x.0 later.0 x.1) (blocks_fault MAX_DIRECTIVES (1 + length ls) ls e x.2)
      ]
    ]

-- a text that is too long
long_text : (s : PlainScript) (e : ScriptFault) → fits_text s ≡ Err e → (e ≡ faults.TooLong) × (MAX_SCRIPT < length (text s))
unfolding fits_text
long_text s e h =
    elim (guard_err (ltb MAX_SCRIPT (length (text s))) faults.TooLong (Ok s) e h) [
      | inl long ↦ (sym long.1, ltb-true MAX_SCRIPT (length (text s)) long.0)
      | inr fits ↦ absurd cc
    ]

-- why bytes are no script
pub script_fault : (bytes : List ℕ) (e : ScriptFault) → read_of bytes ≡ Err e → IsScriptFault bytes e
unfolding read_of
script_fault bytes e h =
    elim (bind_err (parts_of bytes) (λ s. fits_text s) e h) [
      | inl f ↦ inl (parts_fault bytes e f)
      | inr s ↦
          let p = parts_sound bytes s.0 s.1 in
          let t = long_text s.0 e s.2 in
          inr (t.0, p.short, record { script = s.0; parts = p.parts; long = t.1 })
    ]

-- more or less than one block was there
only_err : (bs : List PlainBlock) (tail : List Line) (e : ScriptFault) → only_block bs tail ≡ Err e → (e ≡ faults.NotOneBlock) × ((b : PlainBlock) → bs ≡ b ∷ [] → tail ≡ [] → ⊥)
only_err [] tail e h = (sym (same_fault faults.NotOneBlock e h), λ b is none. cc)
only_err (x ∷ []) [] e h = absurd cc
only_err (x ∷ []) (line ∷ tail) e h = (sym (same_fault faults.NotOneBlock e h), λ b is none. cc)
only_err (x ∷ y ∷ bs) tail e h = (sym (same_fault faults.NotOneBlock e h), λ b is none. cc)

-- why bytes are no one block
pub alone_fault : (bytes : List ℕ) (e : ScriptFault) → block_of bytes ≡ Err e → IsBlockFault bytes e
unfolding block_of
alone_fault bytes e h =
    elim (bind_err (parts_of bytes) (λ s. only_block s.blocks s.tail >>= λ b. fits_text s >>= λ _. Ok b) e h) [
      | inl f ↦ inl (parts_fault bytes e f)
      | inr s ↦
          let p = parts_sound bytes s.0 s.1 in
          elim (bind_err (only_block s.0.blocks s.0.tail) (λ b. fits_text s.0 >>= λ _. Ok b) e s.2) [
            | inl f ↦
                let others = only_err s.0.blocks s.0.tail e f in
                inr (inl (
                  others.0,
                  p.short,
                  record {
                    script = s.0;
                    parts = p.parts;
                    others = λ b is. others.1 b (ap (λ (x : PlainScript). x.blocks) is) (ap (λ (x : PlainScript). x.tail) is);
                  },
                ))
            | inr b ↦ elim (bind_err (fits_text s.0) (λ _. Ok b.0) e b.2) [
              | inl f ↦
                  let t = long_text s.0 e f in
                  let is = only_alone s.0 b.0 b.1 in
                  inr (inr (
                    t.0,
                    p.short,
                    record {
                      block = b.0;
                      parts = subst (λ (x : PlainScript). AreBlocks (lines bytes) x) is p.parts;
                      long = subst (λ (x : PlainScript). MAX_SCRIPT < length (text x)) is t.1;
                    },
                  ))
              | inr fits ↦ absurd cc
            ]
          ]
    ]
