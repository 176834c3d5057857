-- An argument that is read stands at the front of the bytes.
use Rattle.std.proofs.Common.{◌≡◌, ℕ, ◌≤◌, Bool, true, false, cond, List, [], ◌∷◌, ◌++◌, length, drop, refl, ap, sym, subst, ◌∙◌, inl, inr, append_assoc, length-append, arith}
use Rattle.std.specs.Prelude.{Some, None}
use Rattle.std.proofs.lemmas.Bool.{eqb-true}
use Rattle.rb_script.specs.Runs.{while_of, after_while}
use Rattle.rb_script.specs.Directive.{PlainArgument, is_word, is_value, is_inside, is_some_piece, pieces, begins, IsRun, IsArgument}
use Rattle.rb_script.specs.Heads.{ArgumentThere, list_at, values_at, with_key, after_key, argument_at}
use Rattle.rb_script.proofs.RunLaws.{begins_by, run_parts, run_all}
use Rattle.rb_script.proofs.TokenLaws.{some_run}

-- a text that begins by the byte
pub begins_cons : (x : ℕ) (bytes : List ℕ) → begins x bytes ≡ true → bytes ≡ x ∷ drop 1 bytes
begins_cons x [] h = absurd cc
begins_cons x (b ∷ bytes) h = ap (λ (c : ℕ). c ∷ bytes) (eqb-true b x h)

-- the bytes of the class at the front are a run, if there are any
pub run_is : (p : ℕ → Bool) (bytes : List ℕ) → begins_by p bytes ≡ true → IsRun p (while_of p bytes)
run_is p bytes h = record {
  some = λ e. let none = ap is_some_piece e in let some = some_run p bytes in absurd cc;
  all = run_all p bytes;
}

-- ---- the texts of arguments, before what follows them

-- an argument with a list
pub list_text : (key inside rest : List ℕ) → (key ++ 61 ∷ 40 ∷ inside ++ 41 ∷ []) ++ rest ≡ key ++ 61 ∷ 40 ∷ (inside ++ 41 ∷ rest)
list_text key inside rest = append_assoc (key ++ 61 ∷ 40 ∷ inside) (41 ∷ []) rest ∙ append_assoc key (61 ∷ 40 ∷ inside) (41 ∷ rest)

-- an argument with a value
pub value_text : (key value rest : List ℕ) → (key ++ 61 ∷ value) ++ rest ≡ key ++ 61 ∷ (value ++ rest)
value_text key value rest = append_assoc key (61 ∷ value) rest

-- ---- arguments

-- an argument stands at the front, if one was read
abbrev pub Stands : List ℕ → ArgumentThere → Type 0
Stands bytes None = Unit {0}
Stands bytes (Some found) = (text : List ℕ) × (bytes ≡ text ++ found.1) × IsArgument text found.0

-- after a key and a parenthesis stands a list
stands_list : (key bytes : List ℕ) → IsRun is_word key → Stands (key ++ 61 ∷ 40 ∷ bytes) (with_key key (list_at bytes))
unfolding list_at
stands_list key bytes word =
    let inside = while_of is_inside bytes in
    let after = after_while is_inside bytes in
    elim (begins 41 after) as (λ t. begins 41 after ≡ t → Stands (key ++ 61 ∷ 40 ∷ bytes) (with_key key (cond t (Some (pieces inside, drop 1 after)) None))) [
      | true ↦ λ h.
          let whole : bytes ≡ inside ++ 41 ∷ drop 1 after = sym (run_parts is_inside bytes) ∙ ap (λ (l : List ℕ). inside ++ l) (begins_cons 41 after h) in (
            key ++ 61 ∷ 40 ∷ inside ++ 41 ∷ [],
            ap (λ (l : List ℕ). key ++ 61 ∷ 40 ∷ l) whole ∙ sym (list_text key inside (drop 1 after)),
            (word, inr (inr (record { inside = inside; parts = refl; equals = refl; values = refl; flat = run_all is_inside bytes }))),
          )
      | false ↦ λ h. tt
    ] refl

-- a value doesn't begin by a parenthesis where the text doesn't
unopened_value : (bytes : List ℕ) → begins 40 bytes ≡ false → begins 40 (while_of is_value bytes) ≡ false
unfolding while_of
unopened_value [] h = refl
unopened_value (b ∷ bytes) h = elim (is_value b) as (λ t. begins 40 (cond t (b ∷ while_of is_value bytes) []) ≡ false) [ true ↦ h | false ↦ refl ]

-- after a key and its sign stands a value or a list
stands_values : (key bytes : List ℕ) → IsRun is_word key → Stands (key ++ 61 ∷ bytes) (with_key key (values_at bytes))
unfolding values_at
stands_values key bytes word =
    let value = while_of is_value bytes in
    let after = after_while is_value bytes in
    elim (begins 40 bytes) as (λ t. begins 40 bytes ≡ t → Stands (key ++ 61 ∷ bytes) (with_key key (cond t (list_at (drop 1 bytes)) (Some (value ∷ [], after))))) [
      | true ↦ λ h.
          let whole : bytes ≡ 40 ∷ drop 1 bytes = begins_cons 40 bytes h in
          subst (λ (l : List ℕ). Stands (key ++ 61 ∷ l) (with_key key (list_at (drop 1 bytes)))) (sym whole) (stands_list key (drop 1 bytes) word)
      | false ↦ λ h. (
        key ++ 61 ∷ value,
        ap (λ (l : List ℕ). key ++ 61 ∷ l) (sym (run_parts is_value bytes)) ∙ sym (value_text key value after),
        (word, inr (inl (record { value = value; parts = refl; equals = refl; values = refl; bare = run_all is_value bytes; unopened = unopened_value bytes h }))),
      )
    ] refl

-- after a key stands its sign, or the argument ends
stands_behind : (key bytes : List ℕ) → IsRun is_word key → Stands (key ++ bytes) (after_key key bytes)
unfolding after_key
stands_behind key bytes word =
    let a : PlainArgument = record { key = key; has_equals = false; values = [] } in
    elim (begins 61 bytes) as (λ t. begins 61 bytes ≡ t → Stands (key ++ bytes) (cond t (with_key key (values_at (drop 1 bytes))) (Some (a, bytes)))) [
      | true ↦ λ h.
          let whole : bytes ≡ 61 ∷ drop 1 bytes = begins_cons 61 bytes h in
          subst (λ (l : List ℕ). Stands (key ++ l) (with_key key (values_at (drop 1 bytes)))) (sym whole) (stands_values key (drop 1 bytes) word)
      | false ↦ λ h. (key, refl, (word, inl (record { parts = refl; equals = refl; values = refl })))
    ] refl

-- an argument that is read stands at the front
pub stands : (bytes : List ℕ) → Stands bytes (argument_at bytes)
unfolding argument_at
stands bytes =
    let key = while_of is_word bytes in
    let after = after_while is_word bytes in
    elim (is_some_piece key) as (λ t. is_some_piece key ≡ t → Stands bytes (cond t (after_key key after) None)) [
      | true ↦ λ h. subst (λ (l : List ℕ). Stands l (after_key key after)) (run_parts is_word bytes) (stands_behind key after (run_is is_word bytes (sym (some_run is_word bytes) ∙ h)))
      | false ↦ λ h. tt
    ] refl

-- so what follows it is no longer than all
pub argument_leaves : (bytes rest : List ℕ) (a : PlainArgument) → argument_at bytes ≡ Some (a, rest) → length rest ≤ length bytes
argument_leaves bytes rest a is =
    let s = subst (Stands bytes) is (stands bytes) in
    omega (arith, ap length s.1, length-append s.0 rest)
