-- What is found, after a step that finds no script and one that finds one, and what is lost.
use Rattle.std.proofs.Common.{◌≡◌, ◌∙◌, ℕ, ◌+◌, Bool, List, [], ◌∷◌, ◌++◌, Some, String, Vec, drop, get_or, length, take, ◌<◌, string_bytes, ap, append_assoc, subst, sym}
use Rattle.std.specs.Prelude.{slice_get}
use Rattle.std.specs.List.{All}
use Rattle.std.proofs.lemmas.List.{drop_more, map-append, take_more}
use Rattle.std.proofs.lemmas.List.Elements.{All-nil, All-push}
use Rattle.std.proofs.lemmas.Option.{slice_get_within, get_or_from_slice_get}
use Rattle.std.specs.declared.alloc.Global.{Global}
use Rattle.rb_files.specs.declared.finding.Found.{Found}
use Rattle.rb_files.specs.declared.finding.FailedPath.{FailedPath}
use Rattle.rb_files.specs.PathErrors.{IsOfReading}
use Rattle.rb_files.specs.declared.path_error.PathError.{PathError}
use Rattle.rb_files.specs.Finds.{AreTold, IsFound, IsKept, undecodable, waiting_of}

pub still_found : (words : List (String Global)) (old new : Found) → IsFound words old → new.scripts ≡ old.scripts → (AreTold old.lost.items → AreTold new.lost.items) → IsFound words new
still_found words old new h e t = record { kept = rw e h.kept; told = t h.told }

pub nothing_told : AreTold []
unfolding AreTold
nothing_told = All-nil (λ l. IsOfReading l.error)

pub one_more_told : (lost : List FailedPath) (one : FailedPath) → AreTold lost → IsOfReading one.error → AreTold (lost ++ one ∷ [])
unfolding AreTold
one_more_told lost one h t = All-push (λ l. IsOfReading l.error) lost one h t

pub one_more_kept : (words : List (String Global)) (old : Found) (path : String Global) (scripts : Vec (String Global) Global) → IsFound words old → IsKept words (string_bytes path) → scripts.items ≡ old.scripts.items ++ path ∷ [] → IsFound words (record old { scripts = scripts })
one_more_kept words old path scripts h kept e = record {
  kept = subst (All (λ p. IsKept words (string_bytes p))) (sym e) (All-push (λ p. IsKept words (string_bytes p)) old.scripts.items path h.kept kept);
  told = h.told;
}

-- what waits for one name more
pub names_step : (ignored : List (String Global)) (folder : List ℕ) (names : List (String Global)) (i : ℕ) (name : String Global) (old had new : List (List ℕ × Bool)) → slice_get names i ≡ Some name
    → had ≡ old ++ waiting_of ignored folder (drop (i + 1) names) → new ≡ had ++ waiting_of ignored folder (name ∷ []) → new ≡ old ++ waiting_of ignored folder (drop i names)
names_step ignored folder names i name old had new got so_far more =
    let rest : List (String Global) = drop (i + 1) names in
    let next : drop i names ≡ name ∷ rest = drop_more names i name (slice_get_within names i name got) ∙ ap (λ (n : String Global). n ∷ rest) (get_or_from_slice_get names i name name got) in
    more
    ∙ ap (λ (paths : List (List ℕ × Bool)). paths ++ waiting_of ignored folder (name ∷ [])) so_far
    ∙ append_assoc old (waiting_of ignored folder rest) (waiting_of ignored folder (name ∷ []))
    ∙ sym (ap (λ (ns : List (String Global)). old ++ waiting_of ignored folder ns) next)

-- what is lost for one undecodable name more
pub undecodable_step : (folder : List ℕ) (names : List (Vec ℕ Global)) (i : ℕ) (d : Vec ℕ Global) (old had new : List (List ℕ × PathError)) → i < length names
    → had ≡ old ++ undecodable folder (take i names) → new ≡ had ++ undecodable folder (get_or names i d ∷ []) → new ≡ old ++ undecodable folder (take (i + 1) names)
undecodable_step folder names i d old had new within so_far more =
    more
    ∙ ap (λ (ls : List (List ℕ × PathError)). ls ++ undecodable folder (get_or names i d ∷ [])) so_far
    ∙ append_assoc old (undecodable folder (take i names)) (undecodable folder (get_or names i d ∷ []))
    ∙ sym (ap (λ (ls : List (List ℕ × PathError)). old ++ ls)
    (ap (undecodable folder) (take_more names i d within) ∙ map-append _ (take i names) (get_or names i d ∷ [])))
