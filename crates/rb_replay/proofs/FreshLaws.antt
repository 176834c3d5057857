-- What a session holds is fresh.
use Rattle.std.proofs.Common.{◌≡◌, ℕ, ◌+◌, ◌/◌, ◌<◌, ◌≤◌, List, [], ◌∷◌, ◌++◌, length, take, drop, map, ap, ap₂, sym, ◌∙◌, arith, subst}
use Rattle.std.proofs.Math.Nat.{div-eq_of_lt}
use Rattle.std.proofs.lemmas.List.{map-append, take-map, drop-map}
use Rattle.rb_script.specs.declared.limits.TheConstants.{MAX_DIRECTIVES}
use Rattle.rb_script.specs.Script.{PlainScript}
use Rattle.rb_machine.specs.Cluster.{Cluster, empty}
use Rattle.rb_script.specs.Lines.{Line}
use Rattle.rb_replay.specs.Run.{directives, state, outputs}
use Rattle.rb_replay.specs.Report.{mismatches}
use Rattle.rb_replay.specs.Points.{AreKept, every, start_points}
use Rattle.rb_replay.specs.Holding.{Holding, IsOneRun}
use Rattle.rb_replay.proofs.NearLaws.{start-kept}
use Rattle.rb_replay.proofs.RunLaws.{outputs-same, states-same, lengths-same}

-- what a session holds of outputs and mismatches, seen from within
pub held-outputs : {inside h : Holding} → inside ≡ h → IsOneRun inside → inside.outputs ≡ outputs h.script
held-outputs view fresh = fresh.answered ∙ ap (λ (h : Holding). outputs h.script) view

pub held-mismatches : {inside h : Holding} → inside ≡ h → IsOneRun inside → inside.mismatches ≡ mismatches h.script
held-mismatches view fresh = fresh.compared ∙ ap (λ (h : Holding). mismatches h.script) view

-- a script of the same directives
pub fresh-same : (h inside : Holding) (new : PlainScript) (ms : List ℕ) → inside ≡ h → IsOneRun inside → directives new ≡ directives h.script → ms ≡ mismatches new
    → IsOneRun (record { script = new; checkpoint_interval = inside.checkpoint_interval; outputs = inside.outputs; mismatches = ms; points = inside.points; kept = inside.kept })
fresh-same h inside new ms view fresh same compared =
    let along : directives new ≡ directives inside.script = same ∙ sym (ap (λ (h : Holding). directives h.script) view) in
    let long : length new.blocks ≡ length inside.script.blocks = lengths-same new inside.script along in
    record {
      answered = fresh.answered ∙ sym (outputs-same new inside.script along);
      compared = compared;
      states = fresh.states ∙ sym (states-same new inside.script inside.points along);
      near = subst (λ (n : ℕ). AreKept inside.checkpoint_interval n inside.points) (sym long) fresh.near;
      spaced = fresh.spaced;
      few = omega (arith, fresh.few, long);
    }

-- what stays and what comes between, by its meaning
pub joined-map : {M : Type 0} (meaning : M → Cluster) (f r : ℕ) (kept fresh : List M) → map meaning (take f kept ++ (fresh ++ drop r kept)) ≡ take f (map meaning kept) ++ (map meaning fresh ++ drop r (map meaning kept))
joined-map meaning f r kept fresh =
    map-append meaning (take f kept) (fresh ++ drop r kept)
    ∙ ap₂ (λ (a b : List Cluster). a ++ b) (sym (take-map meaning f kept)) (map-append meaning fresh (drop r kept) ∙ ap (λ (b : List Cluster). map meaning fresh ++ b) (sym (drop-map meaning r kept)))

-- Where the checkpoint interval is past the end, the empty cluster alone is kept.
pub start-alone : (K n : ℕ) → n < K → start_points K n ≡ 0 ∷ []
start-alone K n lt = let none : n / K ≡ 0 = div-eq_of_lt lt in ap (λ (j : ℕ). 0 ∷ every K 0 j) none

-- what a run of the whole script gives
pub fresh-whole : (s : PlainScript) (K : ℕ) (os : List (List Line)) (ms points : List ℕ) (kept : List Cluster) → 1 ≤ K → length s.blocks ≤ MAX_DIRECTIVES → os ≡ outputs s → ms ≡ mismatches s → points ≡ start_points K (length s.blocks) → kept ≡ map (state s) points
    → IsOneRun (record { script = s; checkpoint_interval = K; outputs = os; mismatches = ms; points = points; kept = kept })
fresh-whole s K os ms points kept spaced few answered compared placed states = record {
  answered = answered;
  compared = compared;
  states = states;
  near = subst (AreKept K (length s.blocks)) (sym placed) (start-kept K (length s.blocks) spaced);
  spaced = spaced;
  few = few;
}

-- what a run elsewhere gives, where the empty cluster alone is kept
pub fresh-outputs : {M : Type 0} (meaning : M → Cluster) (s : PlainScript) (os : List (List Line)) (ms points : List ℕ) (kept : List M) (m : M) → length s.blocks ≤ MAX_DIRECTIVES → os ≡ outputs s → ms ≡ mismatches s → points ≡ 0 ∷ [] → kept ≡ m ∷ [] → meaning m ≡ empty
    → IsOneRun (record { script = s; checkpoint_interval = MAX_DIRECTIVES + 1; outputs = os; mismatches = ms; points = points; kept = map meaning kept })
fresh-outputs meaning s os ms points kept m few answered compared placed one begun =
    fresh-whole s (MAX_DIRECTIVES + 1) os ms points (map meaning kept) (omega arith) few answered compared (placed ∙ sym (start-alone (MAX_DIRECTIVES + 1) (length s.blocks) (omega (arith, few))))
    (ap (map meaning) one ∙ ap (λ (c : Cluster). c ∷ []) begun ∙ sym (ap (map (state s)) placed))
