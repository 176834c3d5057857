-- What a run and a session are, once.
use Rattle.std.proofs.Common.{◌≡◌, ◌∙◌, ℕ, List, Option, Ok, Err, ap, sym, subst, length, map}
use Rattle.std.specs.Io.KnownBytes.{Appends}
use Rattle.rb_script.specs.Lines.{Line}
use Rattle.rb_script.specs.Script.{PlainScript}
use Rattle.rb_script.specs.Reads.{Reads}
use Rattle.rb_script.specs.Writes.{AppendsFront}
use Rattle.rb_script.specs.declared.fault.ScriptFault.{ScriptFault}
use Rattle.rb_script.proofs.ScriptLaws.{reads_once}
use Rattle.rb_machine.specs.Cluster.{Cluster}
use Rattle.rb_replay.specs.Run.{state, outputs}
use Rattle.rb_replay.specs.Report.{mismatches}
use Rattle.rb_replay.specs.Points.{start_points}
use Rattle.rb_replay.specs.Holding.{Holding}
use Rattle.rb_report.specs.declared.check.status.Status.{Status}
use Rattle.rb_bench.specs.declared.running.Mode.{Mode}
use Rattle.rb_bench.specs.declared.fault.BenchFault.TheVariants as faults
use Rattle.rb_bench.specs.Runs.{Answers, IsNoScript, IsWritten, status_for, text_for}
use Rattle.rb_bench.specs.Serves.{IsStarted}

pub ended_once : (mode : Mode) (bytes : List ℕ) (s : PlainScript) (status : Status) (old new : Option (List ℕ)) → Reads bytes s → Answers mode bytes (Ok status) old new → (status ≡ status_for mode s) × Appends old new (text_for mode s)
ended_once mode bytes s status old new r (t, q, w) = subst (λ (x : PlainScript). IsWritten mode x (Ok status) old new) (reads_once bytes t s q r) w

pub failed_once : (mode : Mode) (bytes : List ℕ) (s : PlainScript) (old new : Option (List ℕ)) → Reads bytes s → Answers mode bytes (Err faults.Io) old new → AppendsFront old new (text_for mode s)
failed_once mode bytes s old new r (t, q, w) = (subst (λ (x : PlainScript). IsWritten mode x (Err faults.Io) old new) (reads_once bytes t s q r) w).1

pub none_ends : (mode : Mode) (bytes : List ℕ) (status : Status) (old new : Option (List ℕ)) → IsNoScript bytes → Answers mode bytes (Ok status) old new → ⊥
none_ends mode bytes status old new none (t, q, w) = none t q

pub none_fails : (mode : Mode) (bytes : List ℕ) (old new : Option (List ℕ)) → IsNoScript bytes → Answers mode bytes (Err faults.Io) old new → ⊥
none_fails mode bytes old new none (t, q, w) = none t q

pub some_refused : (mode : Mode) (bytes : List ℕ) (s : PlainScript) (fault : ScriptFault) (old new : Option (List ℕ)) → Reads bytes s → Answers mode bytes (Err (faults.Script fault)) old new → ⊥
some_refused mode bytes s fault old new r a = a.0 s r

-- ---- the session that is started

abbrev held : PlainScript → ℕ → List (List Line) → List ℕ → List ℕ → List Cluster → Holding
held s checkpoint_interval os wrong points kept = record { script = s; checkpoint_interval = checkpoint_interval; outputs = os; mismatches = wrong; points = points; kept = kept }

abbrev began : ℕ → PlainScript → Holding
began every s = held s every (outputs s) (mismatches s) (start_points every (length s.blocks)) (map (state s) (start_points every (length s.blocks)))

is_began : (script : List ℕ) (every : ℕ) (h : Holding) → IsStarted script every h → h ≡ began every h.script
is_began script every h a =
    let s = h.script in
    let points = start_points every (length s.blocks) in
    ap (λ (x : ℕ). held s x h.outputs h.mismatches h.points h.kept) a.checkpoint_interval
    ∙ ap (λ (x : List (List Line)). held s every x h.mismatches h.points h.kept) a.fresh.run.answered
    ∙ ap (λ (x : List ℕ). held s every (outputs s) x h.points h.kept) a.fresh.run.compared
    ∙ ap (λ (x : List Cluster). held s every (outputs s) (mismatches s) h.points x) a.fresh.run.states
    ∙ ap (λ (x : List ℕ). held s every (outputs s) (mismatches s) x (map (state s) x)) a.points

pub started_once : (script : List ℕ) (every : ℕ) (first other : Holding) → IsStarted script every first → IsStarted script every other → first ≡ other
started_once script every first other a b =
    is_began script every first a ∙ ap (began every) (reads_once script first.script other.script a.reads b.reads) ∙ sym (is_began script every other b)
