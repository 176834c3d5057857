-- The directives of a run, one after another.
use Rattle.std.proofs.Common.{◌≡◌, ◌∙◌, ℕ, ◌+◌, List, [], ◌∷◌, drop, Some, refl, ap₂, sym}
use Rattle.std.specs.Prelude.{slice_get}
use Rattle.rb_script.specs.Script.{PlainBlock}
use Rattle.rb_script.specs.Reading.{directive_of}
use Rattle.rb_view.proofs.KeptLaws.{left_some}
use Rattle.rb_machine.specs.Cluster.{Cluster}
use Rattle.rb_machine.specs.Outcome.{outcome}
use Rattle.rb_view.specs.declared.trace.tracer.Tracer.{Tracer}
use Rattle.rb_view.specs.Traces.{traced, traced_from}

-- one directive more
pub traced_more : (heads : List ℕ) (bs : List PlainBlock) (i line place : ℕ) (b : PlainBlock) (c after : Cluster) (t next : Tracer) → slice_get heads i ≡ Some line → slice_get bs i ≡ Some b
    → after ≡ (outcome c (directive_of b)).cluster → next ≡ traced t place line c b
    → traced_from (drop i heads) place c t (drop i bs) ≡ traced_from (drop (i + 1) heads) (place + 1) after next (drop (i + 1) bs)
traced_more heads bs i line place b c after t next head block left so =
    ap₂ (λ (ns : List ℕ) (more : List PlainBlock). traced_from ns place c t more) (left_some heads i line head) (left_some bs i b block)
    ∙ ap₂ (λ (d : Cluster) (u : Tracer). traced_from (drop (i + 1) heads) (place + 1) d u (drop (i + 1) bs)) (sym left) (sym so)

-- there is none
pub traced_end : (heads : List ℕ) (place : ℕ) (c : Cluster) (t : Tracer) (bs : List PlainBlock) → bs ≡ [] → traced_from heads place c t bs ≡ t
traced_end [] place c t bs none = refl
traced_end (line ∷ heads) place c t [] none = refl
traced_end (line ∷ heads) place c t (b ∷ bs) none = absurd cc
