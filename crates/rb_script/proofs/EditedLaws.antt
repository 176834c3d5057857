-- What an edit makes, and that it is valid.
use Rattle.std.proofs.Common.{◌≡◌, ◌≢◌, ℕ, ◌+◌, ◌-◌, ◌≤◌, ◌<◌, Bool, true, false, cond, not, ◌||◌, List, [], ◌∷◌, ◌++◌, length, take, drop, min, Option, Some, None, Result, Ok, Err, suc, refl, ap, sym, subst, ◌∙◌, arith, inl, inr, ◌⊎◌}
use Rattle.std.specs.Prelude.{◌==◌, nat_lt, nat_le, slice_get, slice_set, IfOk, IfErr, if◌then◌else◌}
use Rattle.std.specs.List.{list_all, AllByRecursion}
use Rattle.std.proofs.lemmas.Bool.{cases_Bool, cond-true, cond-false, eq-eqb, eqb-true, eqb-false, ne_eqb, or_from, lt-ltb, le-ltb, leb-true, false_from_ne_true}
use Rattle.std.proofs.lemmas.List.{take-append-drop, drop_more, set_split, length-append, length-take, length-drop}
use Rattle.std.proofs.lemmas.Option.{none-some, slice_get_cases, slice_get_within, get_or_from_slice_get}
use Rattle.rb_script.specs.declared.fault.EditFault.{EditFault}
use Rattle.rb_script.specs.declared.fault.EditFault.TheVariants.{NoSuchPlace, BadExpectation, TooManyDirectives, TooLong, OutOfMemory}
use Rattle.rb_script.specs.declared.edit.Edit.{Edit}
use Rattle.rb_script.specs.declared.edit.Edit.TheVariants.{Insert, Replace, Remove, Expect, Accept}
use Rattle.rb_script.specs.declared.limits.TheConstants.{MAX_SCRIPT, MAX_DIRECTIVES}
use Rattle.rb_script.specs.Lines.{Line, text_of}
use Rattle.rb_script.specs.Script.{PlainBlock, PlainScript, block_text, text, expecting, with_outputs}
use Rattle.rb_script.specs.Reading.{capped}
use Rattle.rb_script.specs.Valid.{IsBlock, IsScript}
use Rattle.rb_script.specs.Shared.{IsKeptScript}
use Rattle.rb_script.specs.Edits.{unless, fitting, with_blocks, is_no_place, is_expectation, edited, EditFails, Settles}
use Rattle.rb_script.specs.Refusals.{made_by}
use Rattle.rb_script.proofs.ListLaws.{every-append, every-take, every-drop}
use Rattle.rb_script.proofs.SharedLaws.{outputs_valid, outputs_count}
use Rattle.rb_script.proofs.LengthLaws.{blocks_len, blocks-cons-length, blocks-append-length, text-length}

-- ---- outcomes

-- a fault of an edit fails it
makes_fault : (fault : EditFault) (made : Result PlainScript EditFault) → made ≡ Err fault → EditFails fault made
makes_fault NoSuchPlace made e = e
makes_fault BadExpectation made e = e
makes_fault TooManyDirectives made e = e
makes_fault TooLong made e = e
makes_fault OutOfMemory made e = tt

abbrev answer : Result PlainScript EditFault → Result PlainScript EditFault
answer r = r

-- the fault of the edit was answered
pub refused : (fault : EditFault) (made : Result PlainScript EditFault) → made ≡ Err fault → Settles (Err fault) made
refused fault made e = record { exact = makes_fault fault made e; early = subst (λ (m : Result PlainScript EditFault). IfErr m (λ f. answer (Err fault) ≡ answer (Err f))) (sym e) refl }

-- an edit that makes a script has no fault
no_fault : (made : Result PlainScript EditFault) (s : PlainScript) (P : EditFault → Type 0) → made ≡ Ok s → IfErr made P
no_fault made s P e = subst (λ (m : Result PlainScript EditFault). IfErr m P) (sym e) tt

-- memory ran out
pub exhausted : (made : Result PlainScript EditFault) (s : PlainScript) → made ≡ Ok s → Settles (Err OutOfMemory) made
exhausted made s e = record { exact = tt; early = no_fault made s (λ f. answer (Err OutOfMemory) ≡ answer (Err f)) e }

-- the script was made, unless memory ran out
pub grown : (r made : Result PlainScript EditFault) (s : PlainScript) → made ≡ Ok s → IfOk r (λ x. x ≡ s) → IfErr r (λ e. e ≡ OutOfMemory) → Settles r made
grown (Ok x) made s e is none = record { exact = e ∙ ap (λ (y : PlainScript). Ok y) (sym is); early = no_fault made s (λ f. answer (Ok x) ≡ answer (Err f)) e }
grown (Err d) made s e none is = subst (λ (f : EditFault). Settles (Err f) made) (sym is) (exhausted made s e)

-- ---- tests

-- places count from 1
pub nowhere : (k n : ℕ) → (k ≡ 0) ⊎ (n < k) → is_no_place k n ≡ true
nowhere k n (inl e) = ap (λ t. t || nat_lt n k) (eq-eqb k 0 e)
nowhere k n (inr lt) = elim (k == 0) as (λ t. (t || nat_lt n k) ≡ true) [ true ↦ refl | false ↦ lt-ltb n k lt ]

pub somewhere : (k n : ℕ) → k ≢ 0 → k ≤ n → is_no_place k n ≡ false
somewhere k n some le = or_from (k == 0) (nat_lt n k) (ne_eqb k 0 some) (le-ltb n k le)

-- ---- the tests of an edit, in their order

-- there is no such place
abbrev pub no_place : PlainScript → Edit → Bool
no_place s (Insert k block) = is_no_place k (length s.blocks + 1)
no_place s (Replace k block) = is_no_place k (length s.blocks)
no_place s (Remove k) = is_no_place k (length s.blocks)
no_place s (Expect k lines) = is_no_place k (length s.blocks)
no_place s Accept = false

-- what is expected can't be
abbrev pub no_expectation : Edit → List (List Line) → Bool
no_expectation (Expect k lines) outputs = not (is_expectation lines)
no_expectation Accept outputs = not (list_all is_expectation outputs)
no_expectation e outputs = false

-- there is no room for a block more
abbrev pub no_room : PlainScript → Edit → Bool
no_room s (Insert k block) = nat_le MAX_DIRECTIVES (length s.blocks)
no_room s e = false

-- what is made then; no text becomes too long where a block is taken out
abbrev pub allowed : PlainScript → Edit → List (List Line) → Result PlainScript EditFault
allowed s (Remove k) outputs = Ok (made_by s (Remove k) outputs)
allowed s e outputs = fitting (made_by s e outputs)

pub edited_is : (s : PlainScript) (e : Edit) (outputs : List (List Line)) → edited s e outputs ≡ unless (no_place s e) NoSuchPlace (unless (no_expectation e outputs) BadExpectation (unless (no_room s e) TooManyDirectives (allowed s e outputs)))
unfolding edited
edited_is s (Insert k block) outputs = refl
edited_is s (Replace k block) outputs = refl
edited_is s (Remove k) outputs = refl
edited_is s (Expect k lines) outputs = refl
edited_is s Accept outputs = refl

module _ (s : PlainScript) (e : Edit) (outputs : List (List Line)) where
  pub place_refused : no_place s e ≡ true → edited s e outputs ≡ Err NoSuchPlace
  place_refused h = edited_is s e outputs ∙ cond-true (no_place s e) (Err NoSuchPlace) _ h

  module _ (there : no_place s e ≡ false) where
    past_place : edited s e outputs ≡ unless (no_expectation e outputs) BadExpectation (unless (no_room s e) TooManyDirectives (allowed s e outputs))
    past_place = edited_is s e outputs ∙ cond-false (no_place s e) (Err NoSuchPlace) _ there

    pub expectation_refused : no_expectation e outputs ≡ true → edited s e outputs ≡ Err BadExpectation
    expectation_refused h = past_place ∙ cond-true (no_expectation e outputs) (Err BadExpectation) _ h

    module _ (good : no_expectation e outputs ≡ false) where
      past_expectation : edited s e outputs ≡ unless (no_room s e) TooManyDirectives (allowed s e outputs)
      past_expectation = past_place ∙ cond-false (no_expectation e outputs) (Err BadExpectation) _ good

      pub room_refused : no_room s e ≡ true → edited s e outputs ≡ Err TooManyDirectives
      room_refused h = past_expectation ∙ cond-true (no_room s e) (Err TooManyDirectives) _ h

      pub allowed_is : no_room s e ≡ false → edited s e outputs ≡ allowed s e outputs
      allowed_is h = past_expectation ∙ cond-false (no_room s e) (Err TooManyDirectives) _ h

-- ---- edits whose text may be too long

-- the edit makes the script if that fits, and n is the length of its text
pub record Counts (made : Result PlainScript EditFault) (s : PlainScript) (n : ℕ) : Type 0 where
  pub is : made ≡ fitting s
  pub counted : n ≡ capped (length (text s))

-- the text is too long
pub too_long : {made : Result PlainScript EditFault} {s : PlainScript} {n : ℕ} → Counts made s n → MAX_SCRIPT < n → Settles (Err TooLong) made
too_long {made} {s} {n} h lt = refused TooLong made (h.is ∙ cond-true (nat_lt MAX_SCRIPT (length (text s))) (Err TooLong) (Ok s) (lt-ltb MAX_SCRIPT (length (text s)) (omega arith)))

-- the text fits
pub text_fits : {made : Result PlainScript EditFault} {s : PlainScript} {n : ℕ} → Counts made s n → n ≤ MAX_SCRIPT → made ≡ Ok s
text_fits {made} {s} {n} h le = h.is ∙ cond-false (nat_lt MAX_SCRIPT (length (text s))) (Err TooLong) (Ok s) (le-ltb MAX_SCRIPT (length (text s)) (omega arith))

-- where it fits the script was made, as one that is equal, unless memory ran out
pub fits_grown : {made : Result PlainScript EditFault} {s : PlainScript} {n : ℕ} (r : Result PlainScript EditFault) (t : PlainScript) → Counts made s n → n ≤ MAX_SCRIPT → t ≡ s → IfOk r (λ x. x ≡ t) → IfErr r (λ e. e ≡ OutOfMemory) → Settles r made
fits_grown {made} r t h le same ok err = grown r made t (text_fits h le ∙ ap (λ (x : PlainScript). Ok x) (sym same)) ok err

-- ---- a part of the blocks is replaced

-- these blocks in place of those from a place up to another
abbrev pub part : List PlainBlock → ℕ → List PlainBlock → ℕ → List PlainBlock
part bs from new to = take from bs ++ (new ++ drop to bs)

part-length : (bs new : List PlainBlock) (from to : ℕ) → blocks_len (part bs from new to) ≡ blocks_len (take from bs) + (blocks_len new + blocks_len (drop to bs))
part-length bs new from to = blocks-append-length (take from bs) (new ++ drop to bs) ∙ ap (λ (n : ℕ). blocks_len (take from bs) + n) (blocks-append-length new (drop to bs))

split-length : (bs : List PlainBlock) (from : ℕ) → blocks_len bs ≡ blocks_len (take from bs) + blocks_len (drop from bs)
split-length bs from = ap blocks_len (sym (take-append-drop from bs)) ∙ blocks-append-length (take from bs) (drop from bs)

part-count : (bs new : List PlainBlock) (from to : ℕ) → length (part bs from new to) ≡ min from (length bs) + (length new + (length bs - to))
part-count bs new from to =
    length-append (take from bs) (new ++ drop to bs) ∙ ap (λ (n : ℕ). n + length (new ++ drop to bs)) (length-take from bs) ∙ ap (λ (n : ℕ). min from (length bs) + n) (length-append new (drop to bs) ∙ ap (λ (n : ℕ). length new + n) (length-drop to bs))

-- blocks in place of blocks make a valid script, where they are no more than there may be and their text is short
part_valid : (s : PlainScript) (from to : ℕ) (new : List PlainBlock) (n : ℕ) → IsScript s → AllByRecursion IsBlock new → min from (length s.blocks) + (length new + (length s.blocks - to)) ≤ MAX_DIRECTIVES
    → n ≡ capped (length (text (with_blocks s (part s.blocks from new to)))) → n ≤ MAX_SCRIPT → IsKeptScript (with_blocks s (part s.blocks from new to)) n
part_valid s from to new n h all few counted le = record {
  script = record {
    blocks = every-append IsBlock (take from s.blocks) (new ++ drop to s.blocks) (every-take IsBlock from s.blocks h.blocks) (every-append IsBlock new (drop to s.blocks) all (every-drop IsBlock to s.blocks h.blocks));
    tail = h.tail;
    tail_lines = h.tail_lines;
    few = subst (λ (m : ℕ). m ≤ MAX_DIRECTIVES) (sym (part-count s.blocks new from to)) few;
    short_text = omega arith;
  };
  len = omega arith;
}

-- the scripts that edits at place k make: with a block put in, with another block there, and with none there
abbrev pub with_inserted : PlainScript → ℕ → PlainBlock → PlainScript
with_inserted s k b = with_blocks s (part s.blocks (k - 1) (b ∷ []) (k - 1))

abbrev pub with_replaced : PlainScript → ℕ → PlainBlock → PlainScript
with_replaced s k b = with_blocks s (part s.blocks (k - 1) (b ∷ []) k)

abbrev pub with_removed : PlainScript → ℕ → PlainScript
with_removed s k = with_blocks s (part s.blocks (k - 1) [] k)

-- ---- a block is put in

module _ (s : PlainScript) (k : ℕ) (b : PlainBlock) (outputs : List (List Line)) where
  module _ (some : k ≢ 0) (le : k - 1 ≤ length s.blocks) where
    pub place_so : is_no_place k (length s.blocks + 1) ≡ false
    place_so = somewhere k (length s.blocks + 1) some (omega arith)

    module _ (lt : length s.blocks < MAX_DIRECTIVES) where
      insert_fitting : edited s (Insert k b) outputs ≡ fitting (with_inserted s k b)
      insert_fitting = allowed_is s (Insert k b) outputs place_so refl (false_from_ne_true (nat_le MAX_DIRECTIVES (length s.blocks)) (λ e. omega (arith, leb-true MAX_DIRECTIVES (length s.blocks) e)))

      -- there is room, and the text is longer by that of the block
      pub insert_counts : (n old_len new_len : ℕ) → n ≡ min (old_len + new_len) 18446744073709551615 → old_len ≡ length (text s) → new_len ≡ capped (length (block_text b)) → Counts (edited s (Insert k b) outputs) (with_inserted s k b) n
      insert_counts n old_len new_len is old_is new_is =
          let old = text-length s in
          let new = text-length (with_inserted s k b) in
          let parts = part-length s.blocks (b ∷ []) (k - 1) (k - 1) in
          let split = split-length s.blocks (k - 1) in
          let one = blocks-cons-length b [] in
          record { is = insert_fitting; counted = omega arith }

      -- with a copy of the block put in the script is valid
      pub insert_valid : {made : Result PlainScript EditFault} {n : ℕ} (x : PlainBlock) → x ≡ b → IsScript s → IsBlock b → Counts made (with_inserted s k b) n → n ≤ MAX_SCRIPT → IsKeptScript (with_inserted s k x) n
      insert_valid {n = n} x same h block counts short =
          subst (λ (y : PlainBlock). IsKeptScript (with_inserted s k y) n) (sym same) (part_valid s (k - 1) (k - 1) (b ∷ []) n h (block, tt) (omega arith) counts.counted short)

-- ---- the block at a place

-- what stands at a place, which counts from 1
abbrev pub at_place : List PlainBlock → ℕ → Option PlainBlock
at_place bs k = if k == 0 then None else slice_get bs (k - 1)

-- nothing stands there
pub no_block_there : (bs : List PlainBlock) (k : ℕ) → None ≡ at_place bs k → is_no_place k (length bs) ≡ true
no_block_there bs k none =
    elim (cases_Bool (k == 0)) [
      | inl t ↦ nowhere k (length bs) (inl (eqb-true k 0 t))
      | inr f ↦
          let gone : None ≡ slice_get bs (k - 1) = none ∙ ap (λ t. cond t None (slice_get bs (k - 1))) f in
          elim ((slice_get_cases bs (k - 1)).1) [
            | inl found ↦ absurd (none-some found.0 (gone ∙ found.2))
            | inr past ↦ nowhere k (length bs) (let some = eqb-false k 0 f in inr (omega (arith, past.0, some)))
          ]
    ]

module _ (s : PlainScript) (k : ℕ) (old : PlainBlock) (there : Some old ≡ at_place s.blocks k) where
  some_place : k ≢ 0
  some_place e = none-some old (sym (there ∙ ap (λ t. cond t None (slice_get s.blocks (k - 1))) (eq-eqb k 0 e)))

  found : slice_get s.blocks (k - 1) ≡ Some old
  found = sym (there ∙ ap (λ t. cond t None (slice_get s.blocks (k - 1))) (ne_eqb k 0 some_place))

  within : k - 1 < length s.blocks
  within = slice_get_within s.blocks (k - 1) old found

  -- the next place
  next : suc (k - 1) ≡ k
  next = let some = some_place in omega (arith, some)

  pub place_there : is_no_place k (length s.blocks) ≡ false
  place_there = somewhere k (length s.blocks) some_place (omega (arith, within))

  split : drop (k - 1) s.blocks ≡ old ∷ drop k s.blocks
  split = drop_more s.blocks (k - 1) old within ∙ ap (λ (b : PlainBlock). b ∷ drop (k - 1 + 1) s.blocks) (get_or_from_slice_get s.blocks (k - 1) old old found) ∙ ap (λ (n : ℕ). old ∷ drop n s.blocks) (omega (arith, next))

  -- the part before the place, the block, and the part after it
  whole-length : length (text s) ≡ blocks_len (take (k - 1) s.blocks) + (length (block_text old) + blocks_len (drop k s.blocks)) + length (text_of s.tail)
  whole-length = text-length s ∙ ap (λ (n : ℕ). n + length (text_of s.tail)) (split-length s.blocks (k - 1) ∙ ap (λ (n : ℕ). blocks_len (take (k - 1) s.blocks) + n) (ap blocks_len split ∙ blocks-cons-length old (drop k s.blocks)))

  -- the text of the block is no longer than all
  pub old_fits : (n m : ℕ) → n ≡ length (text s) → m ≡ capped (length (block_text old)) → m ≤ n
  old_fits n m n_is m_is = let whole = whole-length in omega arith

  pub there_within : (k - 1 ≤ length s.blocks) × (k ≤ length s.blocks)
  there_within = (omega (arith, within), omega (arith, within))

  -- ---- another block in its place

  module _ (b : PlainBlock) where
    set_is : slice_set s.blocks (k - 1) b ≡ part s.blocks (k - 1) (b ∷ []) k
    set_is = set_split s.blocks (k - 1) b within ∙ ap (λ (n : ℕ). take (k - 1) s.blocks ++ b ∷ drop n s.blocks) next

    pub replace_fitting : (outputs : List (List Line)) → edited s (Replace k b) outputs ≡ fitting (with_replaced s k b)
    replace_fitting outputs = allowed_is s (Replace k b) outputs place_there refl refl ∙ ap (λ (l : List PlainBlock). fitting (with_blocks s l)) set_is

    -- the text has that of the block in place of that of the old one
    pub replace_counts : {made : Result PlainScript EditFault} → made ≡ fitting (with_replaced s k b) → (n m new_len total : ℕ) → IsScript s → n ≡ length (text s) → m ≡ capped (length (block_text old)) → new_len ≡ capped (length (block_text b))
        → total ≡ min (n - m + new_len) 18446744073709551615 → Counts made (with_replaced s k b) total
    replace_counts is n m new_len total h n_is m_is new_is total_is =
        let short = h.short_text in
        let whole = whole-length in
        let new = text-length (with_replaced s k b) in
        let parts = part-length s.blocks (b ∷ []) (k - 1) k in
        let one = blocks-cons-length b [] in
        record { is = is; counted = omega arith }

    -- with a copy of the block there the script is valid
    pub replace_valid : {made : Result PlainScript EditFault} {n : ℕ} (x : PlainBlock) → x ≡ b → IsScript s → IsBlock b → Counts made (with_replaced s k b) n → n ≤ MAX_SCRIPT → IsKeptScript (with_replaced s k x) n
    replace_valid {n = n} x same h block counts short =
        subst (λ (y : PlainBlock). IsKeptScript (with_replaced s k y) n) (sym same) (part_valid s (k - 1) k (b ∷ []) n h (block, tt) (let few = h.few in omega (arith, within, few, next)) counts.counted short)

  -- ---- no block in its place

  pub remove_made : (outputs : List (List Line)) → edited s (Remove k) outputs ≡ Ok (with_removed s k)
  remove_made outputs = allowed_is s (Remove k) outputs place_there refl refl ∙ ap (λ (n : ℕ). answer (Ok (with_blocks s (take (k - 1) s.blocks ++ drop n s.blocks)))) next

  pub remove_valid : (n m : ℕ) → IsScript s → n ≡ length (text s) → m ≡ capped (length (block_text old)) → IsKeptScript (with_removed s k) (n - m)
  remove_valid n m h n_is m_is =
      let short = h.short_text in
      let few = h.few in
      let whole = whole-length in
      let new = text-length (with_removed s k) in
      let parts = part-length s.blocks [] (k - 1) k in
      part_valid s (k - 1) k [] (n - m) h tt (omega (arith, within, next)) (omega arith) (omega arith)

  -- ---- another expectation

  pub expect_fitting : (lines : List Line) (outputs : List (List Line)) → is_expectation lines ≡ true → edited s (Expect k lines) outputs ≡ fitting (with_replaced s k (expecting old lines))
  expect_fitting lines outputs good =
      allowed_is s (Expect k lines) outputs place_there (ap not good) refl
      ∙ ap (λ (b : PlainBlock). fitting (with_blocks s (slice_set s.blocks (k - 1) (expecting b lines)))) (get_or_from_slice_get s.blocks (k - 1) old _ found)
      ∙ ap (λ (l : List PlainBlock). fitting (with_blocks s l)) (set_is (expecting old lines))

-- ---- all expectations at once

module _ (s : PlainScript) (outputs : List (List Line)) where
  pub accept_valid : (n : ℕ) → IsScript s → length outputs ≡ length s.blocks → list_all is_expectation outputs ≡ true → n ≡ length (text (with_outputs s outputs)) → n ≤ MAX_SCRIPT → IsKeptScript (with_outputs s outputs) n
  accept_valid n h same good len le = record {
    script = record {
      blocks = outputs_valid s.blocks outputs h.blocks good;
      tail = h.tail;
      tail_lines = h.tail_lines;
      few = subst (λ (m : ℕ). m ≤ MAX_DIRECTIVES) (sym (outputs_count s.blocks outputs same)) h.few;
      short_text = subst (λ (m : ℕ). m ≤ MAX_SCRIPT) len le;
    };
    len = len;
  }
