-- Targets of a check, one after another.
use Rattle.std.proofs.Common.{◌≡◌, ◌∙◌, ℕ, ◌+◌, ◌<◌, Bool, false, List, [], ◌∷◌, ◌++◌, length, take, get_or, Some, refl, ap, sym, subst, append_assoc, append-nil}
use Rattle.std.specs.Prelude.{slice_get}
use Rattle.std.proofs.lemmas.Option.{slice_get_read}
use Rattle.rb_files.specs.declared.path_error.PathError.{PathError}
use Rattle.rb_report.specs.declared.check.failure.Failure.{Failure}
use Rattle.rb_script.proofs.ListLaws.{take_there}
use Rattle.rb_check.specs.declared.target.Target.{Target}
use Rattle.rb_check.specs.Targets.{AddsLine, AreLines, AreNotFound, IsOfScript, another, memory, missing}

pub target_at : (targets : List Target) (i : ℕ) (target : Target) → i < length targets → target ≡ get_or targets i target → slice_get targets i ≡ Some target
target_at targets i target within is = slice_get_read targets (length targets) i target refl within is

module _ (tells : List ℕ → List ℕ → Bool → Type 0) (path : List ℕ) where
  pub no_lines : AreLines tells path [] []
  unfolding AreLines
  no_lines = refl

  one_more : (targets : List Target) (lines added : List ℕ) (target : Target) → AreLines tells path targets lines → AddsLine tells path target added → AreLines tells path (targets ++ target ∷ []) (lines ++ added)
  unfolding AreLines
  one_more [] lines added target are adds = (added, [], ap (λ (l : List ℕ). l ++ added) are ∙ sym (append-nil added), adds, refl)
  one_more (t ∷ ts) lines added target are adds = (are.0, are.1 ++ added, ap (λ (l : List ℕ). l ++ added) are.2 ∙ append_assoc are.0 are.1 added, are.3, one_more ts are.1 added target are.4 adds)

  -- the lines of one target more
  pub more_lines : (targets : List Target) (lines added : List ℕ) (i : ℕ) (target : Target) → slice_get targets i ≡ Some target → AreLines tells path (take i targets) lines → AddsLine tells path target added
      → AreLines tells path (take (i + 1) targets) (lines ++ added)
  more_lines targets lines added i target got are adds =
      subst (λ (ts : List Target). AreLines tells path ts (lines ++ added)) (sym (take_there targets i target got)) (one_more (take i targets) lines added target are adds)

  pub more_no_line : (targets : List Target) (lines : List ℕ) (i : ℕ) (target : Target) → slice_get targets i ≡ Some target → AreLines tells path (take i targets) lines → IsOfScript tells path target false
      → AreLines tells path (take (i + 1) targets) lines
  more_no_line targets lines i target got are isnt = subst (AreLines tells path (take (i + 1) targets)) (append-nil lines) (more_lines targets lines [] i target got are (another isnt refl))

-- why no directives are found, by the lines that are named
pub not_found : (named : List ℕ → Type 0) (lines heads : List ℕ) (missed failure : Failure) (error : PathError) → named lines → missed ≡ failure → AreNotFound (λ these. these ≡ lines) heads missed error → AreNotFound named heads failure error
not_found named lines heads missed failure error is so (memory e) = memory e
not_found named lines heads missed failure error is so (missing these k line same got above e) = missing these k line (subst named (sym same) is) got above (e ∙ so)
