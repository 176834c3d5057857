-- What is written of the steps of a script, once.
use Rattle.std.proofs.Common.{◌≡◌, ◌∙◌, ℕ, Bool, true, false, List, Option, Ok, Err, ⊎_elim, ap, subst}
use Rattle.std.specs.Prelude.{IfSome, MatchOption, Some, None}
use Rattle.std.specs.Io.KnownBytes.{Appends, Keeps}
use Rattle.rb_script.specs.Lines.{Line, lines}
use Rattle.rb_script.specs.Script.{PlainScript}
use Rattle.rb_script.specs.Reads.{Reads}
use Rattle.rb_script.specs.HeadLines.{AreHeadLines}
use Rattle.rb_script.specs.Writes.{AppendsFront}
use Rattle.rb_script.proofs.ScriptLaws.{reads_once}
use Rattle.rb_script.proofs.HeadLineLaws.{heads_once}
use Rattle.rb_replay.specs.Report.{mismatches}
use Rattle.rb_report.specs.declared.check.status.Status.{Status}
use Rattle.rb_report.specs.declared.check.status.Status.TheVariants as statuses
use Rattle.rb_bench.specs.declared.fault.BenchFault.TheVariants as faults
use Rattle.rb_bench.specs.Runs.{IsNoScript, status_of}
use Rattle.rb_view.specs.Steps.{steps_texts}
use Rattle.rb_view.specs.PageRoom.{has_room}
use Rattle.rb_program.specs.Written.{AreRowsOf, AreStepsOf, IsPastPage, RowsHaveNoRoom, Tells}

rows_once : (bytes heads : List ℕ) (s : PlainScript) (texts : List Line) → AreHeadLines 1 (lines bytes) s.blocks heads → AreRowsOf bytes s texts → texts ≡ steps_texts bytes heads s
rows_once bytes heads s texts h a =
    a.texts_are ∙ ap (λ (ns : List ℕ). steps_texts bytes ns s) (heads_once (lines bytes) s.blocks a.heads heads a.heads_are h)

steps_once : (bytes heads : List ℕ) (s : PlainScript) (texts : List Line) (status : Status) → Reads bytes s → AreHeadLines 1 (lines bytes) s.blocks heads → AreStepsOf bytes texts status
    → (status ≡ status_of (mismatches s)) × (texts ≡ steps_texts bytes heads s)
steps_once bytes heads s texts status r h a =
    let same = reads_once bytes a.script s a.reads r in
    (subst (λ (x : PlainScript). status ≡ status_of (mismatches x)) same a.status_is, rows_once bytes heads s texts h (subst (λ (x : PlainScript). AreRowsOf bytes x texts) same a.rows))

-- the rows of a script that ran, if a page has room for them
pub rows_are : {X : Type 0} (bytes heads : List ℕ) (s : PlainScript) (ran : Option X) (of : X → List Line) → AreHeadLines 1 (lines bytes) s.blocks heads
    → MatchOption ran (has_room (steps_texts bytes heads s) ≡ false) (λ _. has_room (steps_texts bytes heads s) ≡ true) → IfSome ran (λ r. of r ≡ steps_texts bytes heads s)
    → MatchOption ran (RowsHaveNoRoom bytes s) (λ r. AreRowsOf bytes s (of r))
rows_are bytes heads s None of h room texts = record { heads = heads; heads_are = h; too_long = room }
rows_are bytes heads s (Some r) of h room texts = record { heads = heads; heads_are = h; texts_are = texts; fits = room }

room_once : (bytes heads : List ℕ) (s : PlainScript) (status : Status) (texts : List Line) → Reads bytes s → AreHeadLines 1 (lines bytes) s.blocks heads → AreStepsOf bytes texts status
    → has_room (steps_texts bytes heads s) ≡ true
room_once bytes heads s status texts r h a =
    let rows = subst (λ (x : PlainScript). AreRowsOf bytes x texts) (reads_once bytes a.script s a.reads r) a.rows in
    ap (λ (ns : List ℕ). has_room (steps_texts bytes ns s)) (heads_once (lines bytes) s.blocks heads rows.heads h rows.heads_are) ∙ rows.fits

no_room_once : (bytes heads : List ℕ) (s : PlainScript) → Reads bytes s → AreHeadLines 1 (lines bytes) s.blocks heads → IsPastPage bytes → has_room (steps_texts bytes heads s) ≡ false
no_room_once bytes heads s r h past =
    let rows = subst (λ (x : PlainScript). RowsHaveNoRoom bytes x) (reads_once bytes past.script s past.reads r) past.rows in
    ap (λ (ns : List ℕ). has_room (steps_texts bytes ns s)) (heads_once (lines bytes) s.blocks heads rows.heads h rows.heads_are) ∙ rows.too_long

not_both : (room : Bool) → room ≡ true → room ≡ false → ⊥
not_both true is other = absurd cc
not_both false is other = absurd cc

pub page_ended : (text : List Line → List ℕ) (bytes heads : List ℕ) (s : PlainScript) (status : Status) (old new : Option (List ℕ)) → Reads bytes s → AreHeadLines 1 (lines bytes) s.blocks heads
    → has_room (steps_texts bytes heads s) ≡ true → Tells text bytes (Ok status) old new → (status ≡ status_of (mismatches s)) × Appends old new (text (steps_texts bytes heads s))
page_ended text bytes heads s status old new r h room tells =
    ⊎_elim
    (λ written.
    let once = steps_once bytes heads s written.0 status r h written.1 in
    (once.0, subst (λ (t : List Line). Appends old new (text t)) once.1 written.2))
    (λ refused. absurd (not_both (has_room (steps_texts bytes heads s)) room (no_room_once bytes heads s r h refused.1)))
    tells

pub page_refused : (text : List Line → List ℕ) (bytes heads : List ℕ) (s : PlainScript) (status : Status) (old new : Option (List ℕ)) → Reads bytes s → AreHeadLines 1 (lines bytes) s.blocks heads
    → has_room (steps_texts bytes heads s) ≡ false → Tells text bytes (Ok status) old new → (status ≡ statuses.Refused) × Keeps old new
page_refused text bytes heads s status old new r h full tells =
    ⊎_elim
    (λ written. absurd (not_both (has_room (steps_texts bytes heads s)) (room_once bytes heads s status written.0 r h written.1) full))
    (λ refused. (refused.0, refused.2))
    tells

pub page_failed : (text : List Line → List ℕ) (bytes heads : List ℕ) (s : PlainScript) (old new : Option (List ℕ)) → Reads bytes s → AreHeadLines 1 (lines bytes) s.blocks heads
    → Tells text bytes (Err faults.Io) old new → AppendsFront old new (text (steps_texts bytes heads s))
page_failed text bytes heads s old new r h (texts, status, a, w) =
    subst (λ (t : List Line). AppendsFront old new (text t)) (steps_once bytes heads s texts status r h a).1 w

pub no_page_ends : (text : List Line → List ℕ) (bytes : List ℕ) (status : Status) (old new : Option (List ℕ)) → IsNoScript bytes → Tells text bytes (Ok status) old new → ⊥
no_page_ends text bytes status old new none tells = ⊎_elim (λ written. none written.1.script written.1.reads) (λ refused. none refused.1.script refused.1.reads) tells

pub no_page_fails : (text : List Line → List ℕ) (bytes : List ℕ) (old new : Option (List ℕ)) → IsNoScript bytes → Tells text bytes (Err faults.Io) old new → ⊥
no_page_fails text bytes old new none (texts, status, a, w) = none a.script a.reads
