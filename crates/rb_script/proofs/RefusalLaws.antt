-- Why an edit is refused, and what it makes where it isn't.
use Rattle.std.proofs.Common.{◌≡◌, ℕ, ◌+◌, ◌≤◌, ◌<◌, Bool, true, false, not, ◌&&◌, List, [], ◌∷◌, ◌++◌, length, Result, Ok, Err, refl, ap, sym, subst, ◌∙◌, arith, inl, inr}
use Rattle.std.specs.Prelude.{◌==◌, nat_lt}
use Rattle.std.specs.List.{list_all, AllByRecursion}
use Rattle.std.proofs.lemmas.Bool.{cases_Bool, and_parts, and_from, and_left, and_right, or_cases, or_parts, not-true, not-false, eqb-true, eqb-false, ltb-true, ltb-false, leb-true, leb-false}
use Rattle.rb_script.specs.declared.fault.EditFault.{EditFault}
use Rattle.rb_script.specs.declared.fault.EditFault.TheVariants.{NoSuchPlace, BadExpectation, TooManyDirectives, TooLong}
use Rattle.rb_script.specs.declared.edit.Edit.{Edit}
use Rattle.rb_script.specs.declared.edit.Edit.TheVariants.{Insert, Replace, Remove, Expect, Accept}
use Rattle.rb_script.specs.declared.limits.TheConstants.{MAX_SCRIPT, MAX_DIRECTIVES}
use Rattle.rb_script.specs.Lines.{Line}
use Rattle.rb_script.specs.Marks.{is_rule, rule}
use Rattle.rb_script.specs.Script.{PlainScript, text}
use Rattle.rb_script.specs.Reads.{is_readable, ends_or_rules}
use Rattle.rb_script.specs.Valid.{IsLine}
use Rattle.rb_script.specs.Edits.{is_text_line, is_expectation, unless, fitting, is_no_place, edited}
use Rattle.rb_script.specs.LineParts.{HasNoEnd}
use Rattle.rb_script.specs.Refusals.{IsPlace, HasPlace, HasExpectations, HasRoom, CanBeExpected, made_by, MayBeMade, IsEditFault}
use Rattle.rb_script.proofs.ListLaws.{every_told, all_pass}
use Rattle.rb_script.proofs.ResultLaws.{guard_ok, guard_err}
use Rattle.rb_script.proofs.SharedLaws.{text_lines, line_text_is}
use Rattle.rb_script.proofs.ExpectationLaws.{rule_is}
use Rattle.rb_script.proofs.EditedLaws.{no_place, no_expectation, no_room, allowed, edited_is}

-- ---- lines that can be read back

-- a pair of lines ---- can't be read back
pair_unreadable : (front rest : List Line) → is_readable (front ++ rule ∷ rule ∷ rest) ≡ false
unfolding is_rule
pair_unreadable [] rest = refl
pair_unreadable (line ∷ front) rest =
    let more = front ++ rule ∷ rule ∷ rest in
    and_right (not (is_rule line && ends_or_rules more)) (is_readable more) (pair_unreadable front rest)

-- nor can one at the end
last_unreadable : (front : List Line) → is_readable (front ++ rule ∷ []) ≡ false
unfolding is_rule
last_unreadable [] = refl
last_unreadable (line ∷ front) =
    let more = front ++ rule ∷ [] in
    and_right (not (is_rule line && ends_or_rules more)) (is_readable more) (last_unreadable front)

-- lines that can be read back have no pair and no end
pub readable_sound : (ls : List Line) → is_readable ls ≡ true → HasNoEnd ls
readable_sound ls h = record {
  pair = λ front rest e. let no : true ≡ false = sym h ∙ ap is_readable e ∙ pair_unreadable front rest in cc;
  last = λ front e. let no : true ≡ false = sym h ∙ ap is_readable e ∙ last_unreadable front in cc;
}

-- the lines behind the first have none either
behind_first : (line : Line) (ls : List Line) → HasNoEnd (line ∷ ls) → HasNoEnd ls
behind_first line ls h = record {
  pair = λ front rest e. h.pair (line ∷ front) rest (ap (λ (l : List Line). line ∷ l) e);
  last = λ front e. h.last (line ∷ front) (ap (λ (l : List Line). line ∷ l) e);
}

-- a line ---- at the front is neither the last nor before another
front_apart : (line : Line) (ls : List Line) → HasNoEnd (line ∷ ls) → is_rule line ≡ true → ends_or_rules ls ≡ false
front_apart line [] h t = absurd (h.last [] (ap (λ (l : Line). l ∷ []) (rule_is line t)))
front_apart line (next ∷ ls) h t =
    elim (cases_Bool (is_rule next)) [
      | inl u ↦ absurd (h.pair [] ls (ap (λ (l : Line). l ∷ next ∷ ls) (rule_is line t) ∙ ap (λ (l : Line). rule ∷ l ∷ ls) (rule_is next u)))
      | inr f ↦ f
    ]

-- lines without a pair and an end can be read back
pub readable_complete : (ls : List Line) → HasNoEnd ls → is_readable ls ≡ true
readable_complete [] h = refl
readable_complete (line ∷ ls) h =
    let apart : (is_rule line && ends_or_rules ls) ≡ false =
    elim (cases_Bool (is_rule line)) [
      | inl t ↦ and_right (is_rule line) (ends_or_rules ls) (front_apart line ls h t)
      | inr f ↦ and_left (is_rule line) (ends_or_rules ls) f
    ]
    in
    and_from (not (is_rule line && ends_or_rules ls)) (is_readable ls) (ap not apart) (readable_complete ls (behind_first line ls h))

-- lines that pass the test can be expected
pub expectation_sound : (ls : List Line) → is_expectation ls ≡ true → CanBeExpected ls
expectation_sound ls h = let p = and_parts (is_readable ls) (list_all is_text_line ls) h in record { no_end = readable_sound ls p.0; lines = text_lines ls p.1 }

-- and the other way round
pub expectation_complete : (ls : List Line) → CanBeExpected ls → is_expectation ls ≡ true
expectation_complete ls h = and_from (is_readable ls) (list_all is_text_line ls) (readable_complete ls h.no_end) (all_pass is_text_line IsLine line_text_is ls h.lines)

-- each of these can be expected
expectations_sound : (outputs : List (List Line)) → list_all is_expectation outputs ≡ true → AllByRecursion CanBeExpected outputs
expectations_sound outputs h = every_told is_expectation CanBeExpected expectation_sound outputs h

expectations_complete : (outputs : List (List Line)) → AllByRecursion CanBeExpected outputs → list_all is_expectation outputs ≡ true
expectations_complete outputs h = all_pass is_expectation CanBeExpected expectation_complete outputs h

-- ---- tests

-- where the test finds no place there is none
no_spot : (k n : ℕ) → is_no_place k n ≡ true → IsPlace k n → ⊥
no_spot k n h place =
    elim (or_cases (k == 0) (nat_lt n k) h) [
      | inl e ↦ let zero : k ≡ 0 = eqb-true k 0 e in omega (arith, place.0)
      | inr e ↦ let past : n < k = ltb-true n k e in omega (arith, place.1)
    ]

-- and else there is one
some_spot : (k n : ℕ) → is_no_place k n ≡ false → IsPlace k n
some_spot k n h =
    let p = or_parts (k == 0) (nat_lt n k) h in
    let some : k ≡ 0 → ⊥ = eqb-false k 0 p.0 in
    let within : k ≤ n = ltb-false n k p.1 in
    (omega arith, within)

-- a fault, at the type of scripts here
abbrev refused : EditFault → Result PlainScript EditFault
refused fault = Err fault

abbrev made : PlainScript → Result PlainScript EditFault
made s = Ok s

-- the text was too long
fitting_err : (s : PlainScript) (d : EditFault) → fitting s ≡ refused d → (TooLong ≡ d) × (MAX_SCRIPT < length (text s))
fitting_err s d h =
    elim (guard_err (nat_lt MAX_SCRIPT (length (text s))) TooLong (made s) d h) [
      | inl t ↦ (t.1, ltb-true MAX_SCRIPT (length (text s)) t.0)
      | inr f ↦ let no : made s ≡ refused d = f.1 in absurd cc
    ]

-- the script was made
fitting_ok : (s t : PlainScript) → fitting s ≡ made t → t ≡ s
fitting_ok s t h = let f = (guard_ok (nat_lt MAX_SCRIPT (length (text s))) TooLong (made s) t h).1 in let same : s ≡ t = cc in sym same

-- ---- each test, and what it means

-- a test that passed didn't fail
refuted : (test : Bool) → not test ≡ true → test ≡ true → ⊥
refuted test h t = let no : true ≡ false = sym t ∙ not-true test h in cc

-- a test that finds that this isn't so
abbrev Refutes : Bool → Type 0 → Type 0
Refutes test P = (test ≡ true → P → ⊥) × (test ≡ false → P)

place_test : (s : PlainScript) (e : Edit) → Refutes (no_place s e) (HasPlace s e)
place_test s (Insert k block) = (no_spot k (length s.blocks + 1), some_spot k (length s.blocks + 1))
place_test s (Replace k block) = (no_spot k (length s.blocks), some_spot k (length s.blocks))
place_test s (Remove k) = (no_spot k (length s.blocks), some_spot k (length s.blocks))
place_test s (Expect k lines) = (no_spot k (length s.blocks), some_spot k (length s.blocks))
place_test s Accept = (λ h. absurd cc, λ h. tt)

expectation_test : (e : Edit) (outputs : List (List Line)) → Refutes (no_expectation e outputs) (HasExpectations e outputs)
expectation_test (Insert k block) outputs = (λ h. absurd cc, λ h. tt)
expectation_test (Replace k block) outputs = (λ h. absurd cc, λ h. tt)
expectation_test (Remove k) outputs = (λ h. absurd cc, λ h. tt)
expectation_test (Expect k lines) outputs = (λ h can. refuted (is_expectation lines) h (expectation_complete lines can), λ h. expectation_sound lines (not-false (is_expectation lines) h))
expectation_test Accept outputs = (λ h can. refuted (list_all is_expectation outputs) h (expectations_complete outputs can), λ h. expectations_sound outputs (not-false (list_all is_expectation outputs) h))

room_test : (s : PlainScript) (e : Edit) → Refutes (no_room s e) (HasRoom s e)
room_test s (Insert k block) =
    let n = length s.blocks in
    (λ h room. let many : MAX_DIRECTIVES ≤ n = leb-true MAX_DIRECTIVES n h in omega (arith, room), λ h. leb-false MAX_DIRECTIVES n h)
room_test s (Replace k block) = (λ h. absurd cc, λ h. tt)
room_test s (Remove k) = (λ h. absurd cc, λ h. tt)
room_test s (Expect k lines) = (λ h. absurd cc, λ h. tt)
room_test s Accept = (λ h. absurd cc, λ h. tt)

-- where the edit is allowed, its text alone may be too long
allowed_err : (s : PlainScript) (e : Edit) (outputs : List (List Line)) (d : EditFault) → allowed s e outputs ≡ refused d → (TooLong ≡ d) × (MAX_SCRIPT < length (text (made_by s e outputs)))
allowed_err s (Insert k block) outputs d h = fitting_err (made_by s (Insert k block) outputs) d h
allowed_err s (Replace k block) outputs d h = fitting_err (made_by s (Replace k block) outputs) d h
allowed_err s (Remove k) outputs d h = absurd cc
allowed_err s (Expect k lines) outputs d h = fitting_err (made_by s (Expect k lines) outputs) d h
allowed_err s Accept outputs d h = fitting_err (made_by s Accept outputs) d h

allowed_ok : (s : PlainScript) (e : Edit) (outputs : List (List Line)) (t : PlainScript) → allowed s e outputs ≡ made t → t ≡ made_by s e outputs
allowed_ok s (Insert k block) outputs t h = fitting_ok (made_by s (Insert k block) outputs) t h
allowed_ok s (Replace k block) outputs t h = fitting_ok (made_by s (Replace k block) outputs) t h
allowed_ok s (Remove k) outputs t h = let same : made_by s (Remove k) outputs ≡ t = cc in sym same
allowed_ok s (Expect k lines) outputs t h = fitting_ok (made_by s (Expect k lines) outputs) t h
allowed_ok s Accept outputs t h = fitting_ok (made_by s Accept outputs) t h

-- why an edit is refused
pub edit_fault : (s : PlainScript) (e : Edit) (outputs : List (List Line)) (fault : EditFault) → edited s e outputs ≡ Err fault → IsEditFault s e outputs fault
edit_fault s e outputs fault h =
    let is : (found : EditFault) → found ≡ fault → IsEditFault s e outputs found → IsEditFault s e outputs fault = λ found same i. subst (λ (x : EditFault). IsEditFault s e outputs x) same i in
    let behind = unless (no_room s e) TooManyDirectives (allowed s e outputs) in
    elim (guard_err (no_place s e) NoSuchPlace (unless (no_expectation e outputs) BadExpectation behind) fault (sym (edited_is s e outputs) ∙ h)) [
      | inl t ↦ is NoSuchPlace t.1 ((place_test s e).0 t.0)
      | inr f ↦
          let place = (place_test s e).1 f.0 in
          elim (guard_err (no_expectation e outputs) BadExpectation behind fault f.1) [
            | inl t ↦ is BadExpectation t.1 (place, (expectation_test e outputs).0 t.0)
            | inr g ↦
                let expectations = (expectation_test e outputs).1 g.0 in
                elim (guard_err (no_room s e) TooManyDirectives (allowed s e outputs) fault g.1) [
                  | inl t ↦ is TooManyDirectives t.1 (place, expectations, (room_test s e).0 t.0)
                  | inr r ↦ let long = allowed_err s e outputs fault r.1 in is TooLong long.0 (record { place = place; expectations = expectations; room = (room_test s e).1 r.0 }, long.1)
                ]
          ]
    ]

-- what an edit makes
pub edit_made : (s : PlainScript) (e : Edit) (outputs : List (List Line)) (t : PlainScript) → edited s e outputs ≡ Ok t → MayBeMade s e outputs × (t ≡ made_by s e outputs)
edit_made s e outputs t h =
    let behind = unless (no_room s e) TooManyDirectives (allowed s e outputs) in
    let p = guard_ok (no_place s e) NoSuchPlace (unless (no_expectation e outputs) BadExpectation behind) t (sym (edited_is s e outputs) ∙ h) in
    let q = guard_ok (no_expectation e outputs) BadExpectation behind t p.1 in
    let r = guard_ok (no_room s e) TooManyDirectives (allowed s e outputs) t q.1 in
    (record { place = (place_test s e).1 p.0; expectations = (expectation_test e outputs).1 q.0; room = (room_test s e).1 r.0 }, allowed_ok s e outputs t r.1)
