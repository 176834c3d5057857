-- The parts of a head.
use Rattle.std.proofs.Common.{◌≡◌, ◌∙◌, ℕ, ◌+◌, ◌<◌, Bool, true, List, [], ◌∷◌, ◌++◌, length, drop, get_or, refl, ap, sym, append_assoc}
use Rattle.std.specs.Prelude.{codes, if◌then◌else◌}
use Rattle.std.proofs.lemmas.List.{drop_more}
use Rattle.rb_script.specs.Directive.{PlainArgument}
use Rattle.rb_report.specs.Heads.{before_value, listed, values_text, argument_text}

-- one value more
pub listed-step : (vs : List (List ℕ)) (i : ℕ) (b v : List ℕ) → i < length vs → b ≡ before_value i → v ≡ get_or vs i [] → listed i (drop i vs) ≡ (b ++ (v ++ [])) ++ listed (i + 1) (drop (i + 1) vs)
listed-step vs i b v lt before value =
    let rest : List ℕ = listed (i + 1) (drop (i + 1) vs) in
    ap (λ (l : List (List ℕ)). listed i l) (drop_more vs i [] lt)
    ∙ ap (λ (x : List ℕ). x ++ (get_or vs i [] ++ rest)) (sym before)
    ∙ ap (λ (x : List ℕ). b ++ (x ++ rest)) (sym value)
    ∙ ap (λ (x : List ℕ). b ++ x) (sym (append_assoc v [] rest))
    ∙ sym (append_assoc b (v ++ []) rest)

-- one value, or none or several
pub values-other : (vs : List (List ℕ)) → (length vs ≡ 1 → ⊥) → values_text vs ≡ codes "(" ++ (listed 0 vs ++ codes ")")
values-other [] other = refl
values-other (v ∷ []) other = absurd (other refl)
values-other (v ∷ w ∷ vs) other = refl

-- an argument with or without an equals sign
pub argument-with : (a : PlainArgument) (key : List ℕ) → key ≡ a.key → a.has_equals ≡ true → argument_text a ≡ (codes " " ++ (key ++ codes "=")) ++ values_text a.values
argument-with a key is has =
    ap (λ (t : Bool). codes " " ++ (a.key ++ (if t then codes "=" ++ values_text a.values else []))) has
    ∙ ap (λ (k : List ℕ). codes " " ++ (k ++ (codes "=" ++ values_text a.values))) (sym is)
    ∙ ap (λ (l : List ℕ). codes " " ++ l) (sym (append_assoc key (codes "=") (values_text a.values)))
    ∙ sym (append_assoc (codes " ") (key ++ codes "=") (values_text a.values))
