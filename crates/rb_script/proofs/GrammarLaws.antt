-- The grammar of a head and its deterministic reading say the same.
use Rattle.std.proofs.Common.{◌≡◌, ℕ, zero, suc, Bool, true, false, cond, not, List, [], ◌∷◌, ◌++◌, length, drop, refl, ap, sym, subst, ◌∙◌, inl, inr, arith}
use Rattle.std.specs.Prelude.{Some, None}
use Rattle.std.specs.List.{list_all}
use Rattle.std.proofs.lemmas.Bool.{and_parts, both_ways, not-true, not_from_true, ne_eqb}
use Rattle.std.proofs.lemmas.Bool.Decides.{nat_tests}
use Rattle.std.proofs.lemmas.Option.{same_Some, some_pair_parts}
use Rattle.rb_script.specs.Marks.{is_space, is_blank}
use Rattle.rb_script.specs.Lines.{Line}
use Rattle.rb_script.specs.Script.{PlainBlock}
use Rattle.rb_script.specs.Joined.{joined}
use Rattle.rb_script.specs.Runs.{while_of, after_while}
use Rattle.rb_script.specs.Directive.{PlainArgument, PlainDirective, is_word, is_value, is_inside, is_some_piece, pieces, begins, IsRun, IsArgument, AreArguments, Derives}
use Rattle.rb_script.specs.Heads.{ArgumentThere, ArgumentsThere, HeadThere, begins_space, ValuesThere, list_at, values_at, with_key, after_key, argument_at, before, then_arguments, arguments_at, named, word_head, head_at, with_inputs, directive_of}
use Rattle.rb_script.specs.Valid.{IsBlock}
use Rattle.rb_script.proofs.RunLaws.{begins_by, run_parts, run_all, run_of, after_run, begins_wider}
use Rattle.rb_script.proofs.TokenLaws.{some_run}
use Rattle.rb_script.proofs.StandsLaws.{run_is, list_text, value_text, Stands, stands}
use Rattle.rb_script.proofs.ArgumentLaws.{begins_is, blank_is, arguments_of, arguments_blank, arguments_spaced}

-- ---- kinds and runs

-- a byte of a name may stand in a value
word_is_value : (b : ℕ) → is_word b ≡ true → is_value b ≡ true
word_is_value b h = grind (arith, nat_tests)

-- a run begins by its class
run_begins : (p : ℕ → Bool) (run rest : List ℕ) → IsRun p run → begins_by p (run ++ rest) ≡ true
run_begins p [] rest is = absurd (is.some refl)
run_begins p (b ∷ run) rest is = (and_parts (p b) (list_all p run) is.all).0

-- a run has bytes
run_some : (p : ℕ → Bool) (run : List ℕ) → IsRun p run → is_some_piece run ≡ true
run_some p [] is = absurd (is.some refl)
run_some p (b ∷ run) is = refl

-- ---- what is read is in the grammar

-- some arguments with one before them are others behind it
before_some : (a : PlainArgument) (there : ArgumentsThere) (args : List PlainArgument) → before a there ≡ Some args → (others : List PlainArgument) × (there ≡ Some others) × (a ∷ others ≡ args)
before_some a None args is = absurd cc
before_some a (Some others) args is = (others, refl, same_Some (a ∷ others) args is)

-- an argument, and the arguments behind it
sound_step : (bytes : List ℕ) (there : ArgumentThere) (rest_of : List ℕ → ArgumentsThere) (args : List PlainArgument) → ((rest : List ℕ) (others : List PlainArgument) → rest_of rest ≡ Some others → AreArguments rest others) → Stands (after_while is_space bytes) there → begins_by is_space bytes ≡ true → then_arguments there rest_of ≡ Some args → AreArguments bytes args
sound_step bytes None rest_of args sound stand space is = absurd cc
sound_step bytes (Some found) rest_of args sound stand space is =
    let parts = before_some found.0 (rest_of found.1) args is in
    subst (AreArguments bytes) parts.2 (
      while_of is_space bytes,
      stand.0,
      found.1,
      sym (run_parts is_space bytes) ∙ ap (λ (l : List ℕ). while_of is_space bytes ++ l) stand.1,
      run_is is_space bytes space,
      stand.2,
      sound found.1 parts.0 parts.1,
    )

-- blanks are no arguments
blank_sound : (bytes : List ℕ) (args : List PlainArgument) → is_blank bytes ≡ true → ◌≡◌ {A = ArgumentsThere} (Some []) (Some args) → AreArguments bytes args
blank_sound bytes args blank is = subst (AreArguments bytes) (same_Some [] args is) blank

-- the arguments that are read are those of the grammar
arguments_sound : (most : ℕ) (bytes : List ℕ) (args : List PlainArgument) → arguments_at most bytes ≡ Some args → AreArguments bytes args
unfolding arguments_at
arguments_sound zero bytes args =
    elim (is_blank bytes) as (λ t. is_blank bytes ≡ t → cond t (Some []) None ≡ Some args → AreArguments bytes args) [
      | true ↦ λ h is. blank_sound bytes args h is
      | false ↦ λ h is. absurd cc
    ] refl
arguments_sound (suc most) bytes args =
    let others = then_arguments (argument_at (after_while is_space bytes)) (arguments_at most) in
    elim (is_blank bytes) as (λ t. is_blank bytes ≡ t → cond t (Some []) (cond (begins_space bytes) others None) ≡ Some args → AreArguments bytes args) [
      | true ↦ λ h is. blank_sound bytes args h is
      | false ↦ λ h.
          elim (begins_space bytes) as (λ s. begins_space bytes ≡ s → cond s others None ≡ Some args → AreArguments bytes args) [
            | true ↦ λ space is. sound_step bytes (argument_at (after_while is_space bytes)) (arguments_at most) args (arguments_sound most) (stands (after_while is_space bytes)) (sym (begins_is bytes) ∙ space) is
            | false ↦ λ space is. absurd cc
          ] refl
    ] refl

-- the name and the arguments that were found
named_some : (name : List ℕ) (there : ArgumentsThere) (other : List ℕ) (args : List PlainArgument) → named name there ≡ Some (other, args) → (name ≡ other) × (there ≡ Some args)
named_some name None other args is = absurd cc
named_some name (Some found) other args is =
    let parts = some_pair_parts name other found args is in
    (parts.0, ap (λ (l : List PlainArgument). Some l) parts.1)

-- the name and the arguments that are read are those of the grammar
pub head_sound : (bytes name : List ℕ) (args : List PlainArgument) → head_at bytes ≡ Some (name, args) → Derives bytes name args
unfolding head_at word_head
head_sound bytes name args =
    let skipped = after_while is_space bytes in
    let word = while_of is_word skipped in
    let rest = after_while is_word skipped in
    elim (is_some_piece word) as (λ t. is_some_piece word ≡ t → cond t (named word (arguments_at (length rest) rest)) None ≡ Some (name, args) → Derives bytes name args) [
      | true ↦ λ h is.
          let found = named_some word (arguments_at (length rest) rest) name args is in
          subst (λ (l : List ℕ). Derives bytes l args) found.0 (record {
            gap = while_of is_space bytes;
            rest = rest;
            parts = sym (run_parts is_space bytes) ∙ ap (λ (l : List ℕ). while_of is_space bytes ++ l) (sym (run_parts is_word skipped));
            blank = run_all is_space bytes;
            word = run_is is_word skipped (sym (some_run is_word skipped) ∙ h);
            arguments = arguments_sound (length rest) rest args found.1;
          })
      | false ↦ λ h is. absurd cc
    ] refl

-- ---- what is in the grammar is read

-- what follows an argument is nothing, or begins by a blank
ends_are : (bytes : List ℕ) (args : List PlainArgument) → AreArguments bytes args → begins_by is_value bytes ≡ false
ends_are [] args are = refl
ends_are (b ∷ bytes) [] are = not_from_true (is_space b) (and_parts (is_space b) (is_blank bytes) are).0
ends_are (b ∷ bytes) (a ∷ others) are =
    let spaced : begins_by is_space (b ∷ bytes) ≡ true = ap (begins_by is_space) are.3 ∙ run_begins is_space are.0 (are.1 ++ are.2) are.4 in
    not_from_true (is_space b) spaced

-- no byte of a value follows, so no such byte as this one
begins_no : (x : ℕ) (bytes : List ℕ) → is_value x ≡ true → begins_by is_value bytes ≡ false → begins x bytes ≡ false
begins_no x [] value ends = refl
begins_no x (b ∷ bytes) value ends = ne_eqb b x (λ e. both_ways (is_value b) ends (ap is_value e ∙ value))

-- the key is the run at the front
key_read : (key rest : List ℕ) → IsRun is_word key → begins_by is_word rest ≡ false → argument_at (key ++ rest) ≡ after_key key rest
unfolding argument_at
key_read key rest word ends =
    let read = λ (k : List ℕ) (after : List ℕ). cond (is_some_piece k) (after_key k after) None in
    ap (λ k. read k (after_while is_word (key ++ rest))) (run_of is_word key rest word.all ends) ∙ ap (read key) (after_run is_word key rest word.all ends)
    ∙ ap (λ t. cond t (after_key key rest) None) (run_some is_word key word)

-- a key with no sign behind it is an argument
alone_read : (key rest : List ℕ) → begins_by is_value rest ≡ false → after_key key rest ≡ Some (record { key = key; has_equals = false; values = [] }, rest)
unfolding after_key
alone_read key rest ends =
    ap (λ t. cond t (with_key key (values_at (drop 1 rest))) (Some (record { key = key; has_equals = false; values = [] }, rest))) (begins_no 61 rest refl ends)

-- the value doesn't begin by a parenthesis, and what follows it doesn't either
unopened_before : (value rest : List ℕ) → begins 40 value ≡ false → begins_by is_value rest ≡ false → begins 40 (value ++ rest) ≡ false
unopened_before [] rest unopened ends = begins_no 40 rest refl ends
unopened_before (b ∷ value) rest unopened ends = unopened

-- a value is read up to its end
value_read : (key value rest : List ℕ) → list_all is_value value ≡ true → begins 40 value ≡ false → begins_by is_value rest ≡ false → after_key key (61 ∷ (value ++ rest)) ≡ Some (record { key = key; has_equals = true; values = value ∷ [] }, rest)
unfolding after_key values_at
value_read key value rest bare unopened ends =
    let bytes = value ++ rest in
    let read : List ℕ → List ℕ → ValuesThere = λ v after. Some (v ∷ [], after) in
    ap (λ t. with_key key (cond t (list_at (drop 1 bytes)) (read (while_of is_value bytes) (after_while is_value bytes)))) (unopened_before value rest unopened ends)
    ∙ ap (λ v. with_key key (read v (after_while is_value bytes))) (run_of is_value value rest bare ends) ∙ ap (λ after. with_key key (read value after)) (after_run is_value value rest bare ends)

-- a list is read up to its parenthesis
list_read : (key inside rest : List ℕ) → list_all is_inside inside ≡ true → after_key key (61 ∷ 40 ∷ (inside ++ 41 ∷ rest)) ≡ Some (record { key = key; has_equals = true; values = pieces inside }, rest)
unfolding after_key values_at list_at
list_read key inside rest flat =
    let bytes = inside ++ 41 ∷ rest in
    let read : List ℕ → List ℕ → ValuesThere = λ vs after. cond (begins 41 after) (Some (pieces vs, drop 1 after)) None in
    ap (λ v. with_key key (read v (after_while is_inside bytes))) (run_of is_inside inside (41 ∷ rest) flat refl) ∙ ap (λ after. with_key key (read inside after)) (after_run is_inside inside (41 ∷ rest) flat refl)

-- an argument is its fields
argument_by : (a : PlainArgument) (equals : Bool) (values : List (List ℕ)) → a.has_equals ≡ equals → a.values ≡ values → record { key = a.key; has_equals = equals; values = values } ≡ a
argument_by a equals values e v =
    ap (λ (t : Bool). record { key = a.key; has_equals = t; values = values }) (sym e) ∙ ap (λ (vs : List (List ℕ)). record { key = a.key; has_equals = a.has_equals; values = vs }) (sym v)

-- an argument of the grammar is read
argument_complete : (text rest : List ℕ) (a : PlainArgument) → IsArgument text a → begins_by is_value rest ≡ false → argument_at (text ++ rest) ≡ Some (a, rest)
argument_complete text rest a is ends =
    elim is.1 [
      | inl alone ↦
          ap (λ (l : List ℕ). argument_at (l ++ rest)) alone.parts ∙ key_read a.key rest is.0 (begins_wider is_word is_value word_is_value rest ends) ∙ alone_read a.key rest ends
          ∙ ap (λ (x : PlainArgument). Some (x, rest)) (argument_by a false [] alone.equals alone.values)
      | inr (inl value) ↦
          ap (λ (l : List ℕ). argument_at (l ++ rest)) value.parts ∙ ap argument_at (value_text a.key value.value rest) ∙ key_read a.key (61 ∷ (value.value ++ rest)) is.0 refl
          ∙ value_read a.key value.value rest value.bare value.unopened ends ∙ ap (λ (x : PlainArgument). Some (x, rest)) (argument_by a true (value.value ∷ []) value.equals value.values)
      | inr (inr found) ↦
          ap (λ (l : List ℕ). argument_at (l ++ rest)) found.parts ∙ ap argument_at (list_text a.key found.inside rest) ∙ key_read a.key (61 ∷ 40 ∷ (found.inside ++ 41 ∷ rest)) is.0 refl
          ∙ list_read a.key found.inside rest found.flat ∙ ap (λ (x : PlainArgument). Some (x, rest)) (argument_by a true (pieces found.inside) found.equals found.values)
    ]

-- an argument begins by its key
text_begins : (text rest : List ℕ) (a : PlainArgument) → IsArgument text a → begins_by is_word (text ++ rest) ≡ true
text_begins text rest a is =
    elim is.1 [
      | inl alone ↦ ap (λ (l : List ℕ). begins_by is_word (l ++ rest)) alone.parts ∙ run_begins is_word a.key rest is.0
      | inr (inl value) ↦
          ap (λ (l : List ℕ). begins_by is_word (l ++ rest)) value.parts ∙ ap (begins_by is_word) (value_text a.key value.value rest) ∙ run_begins is_word a.key (61 ∷ (value.value ++ rest)) is.0
      | inr (inr found) ↦
          ap (λ (l : List ℕ). begins_by is_word (l ++ rest)) found.parts ∙ ap (begins_by is_word) (list_text a.key found.inside rest) ∙ run_begins is_word a.key (61 ∷ 40 ∷ (found.inside ++ 41 ∷ rest)) is.0
    ]

-- what begins by a word begins by no blank
word_unspaced : (bytes : List ℕ) → begins_by is_word bytes ≡ true → begins_by is_space bytes ≡ false
word_unspaced [] h = refl
word_unspaced (b ∷ bytes) h = not-true (is_space b) (word_is_value b h)

-- what begins by a word has bytes
word_some : (bytes : List ℕ) → begins_by is_word bytes ≡ true → is_some_piece bytes ≡ true
word_some [] h = absurd cc
word_some (b ∷ bytes) h = refl

-- the arguments of the grammar are read
arguments_complete : (bytes : List ℕ) (args : List PlainArgument) → AreArguments bytes args → arguments_of bytes ≡ Some args
arguments_complete bytes [] are = arguments_blank bytes are
arguments_complete bytes (a ∷ others) are =
    let text : List ℕ = are.1 ++ are.2 in
    let word = text_begins are.1 are.2 a are.5 in
    let after : after_while is_space bytes ≡ text = ap (after_while is_space) are.3 ∙ after_run is_space are.0 text are.4.all (word_unspaced text word) in
    let unblank : is_blank bytes ≡ false = blank_is bytes ∙ ap (λ l. not (is_some_piece l)) after ∙ ap not (word_some text word) in
    let spaced : begins_by is_space bytes ≡ true = ap (begins_by is_space) are.3 ∙ run_begins is_space are.0 text are.4 in
    arguments_spaced bytes unblank spaced ∙ ap (λ l. then_arguments (argument_at l) arguments_of) after
    ∙ ap (λ there. then_arguments there arguments_of) (argument_complete are.1 are.2 a are.5 (ends_are are.2 others are.6)) ∙ ap (before a) (arguments_complete are.2 others are.6)

-- the name and the arguments of the grammar are those that are read
pub head_complete : (bytes name : List ℕ) (args : List PlainArgument) → Derives bytes name args → head_at bytes ≡ Some (name, args)
unfolding head_at word_head
head_complete bytes name args d =
    let text : List ℕ = name ++ d.rest in
    let ends = begins_wider is_word is_value word_is_value d.rest (ends_are d.rest args d.arguments) in
    let skipped : after_while is_space bytes ≡ text = ap (after_while is_space) d.parts ∙ after_run is_space d.gap text d.blank (word_unspaced text (run_begins is_word name d.rest d.word)) in
    let read : List ℕ → List ℕ → HeadThere = λ word rest. cond (is_some_piece word) (named word (arguments_of rest)) None in
    ap word_head skipped ∙ ap (λ word. read word (after_while is_word text)) (run_of is_word name d.rest d.word.all ends) ∙ ap (read name) (after_run is_word name d.rest d.word.all ends)
    ∙ ap (λ t. cond t (named name (arguments_of d.rest)) None) (run_some is_word name d.word) ∙ ap (named name) (arguments_complete d.rest args d.arguments)

-- ---- the directive of a block

-- it is what the grammar derives from the head
directive_read : (b : PlainBlock) (name : List ℕ) (args : List PlainArgument) → Derives (joined b.head) name args → directive_of b ≡ record { name = name; args = args; inputs = b.input }
unfolding directive_of
directive_read b name args d = ap (with_inputs b.input) (head_complete (joined b.head) name args d)

-- where the block is valid, the grammar derives it
pub valid_derived : (b : PlainBlock) → IsBlock b → Derives (joined b.head) (directive_of b).name (directive_of b).args
valid_derived b held =
    let d = held.directive in
    subst (λ (x : PlainDirective). Derives (joined b.head) x.name x.args) (sym (directive_read b d.name d.args d.derives)) d.derives

-- whatever the grammar derives is the same
pub only_derived : (b : PlainBlock) (name : List ℕ) (args : List PlainArgument) → Derives (joined b.head) name args → (name ≡ (directive_of b).name) × (args ≡ (directive_of b).args)
only_derived b name args d =
    let read = directive_read b name args d in
    (sym (ap (λ (x : PlainDirective). x.name) read), sym (ap (λ (x : PlainDirective). x.args) read))

-- the input is kept, whatever is read
inputs_kept : (inputs : List Line) (there : HeadThere) → (with_inputs inputs there).inputs ≡ inputs
inputs_kept inputs None = refl
inputs_kept inputs (Some head) = refl

pub inputs_are : (b : PlainBlock) → (directive_of b).inputs ≡ b.input
unfolding directive_of
inputs_are b = inputs_kept b.input (head_at (joined b.head))
