-- What is seen at a line, and why nothing is.
use Rattle.std.proofs.Common.{◌≡◌, ℕ, ◌-◌, ◌≤◌, ◌≢◌, List, Some, length, get_or, Result, Ok, Err, IfOk, IfErr, inl, inr, refl, subst, arith}
use Rattle.std.specs.Prelude.{slice_get}
use Rattle.std.specs.declared.io.ErrorKind.TheVariants as io_kinds
use Rattle.std.specs.List.Sorted.{IsNonDecreasing}
use Rattle.std.proofs.lemmas.Bool.{cases_lt}
use Rattle.std.proofs.lemmas.List.{get_or_default}
use Rattle.std.proofs.lemmas.Option.{slice_get_within}
use Rattle.rb_script.specs.declared.sink.WriteFault.{WriteFault}
use Rattle.rb_script.specs.Lines.{Line}
use Rattle.rb_script.specs.Script.{PlainBlock}
use Rattle.rb_script.specs.Reading.{read_of}
use Rattle.rb_script.specs.HeadLines.{AreHeadLines}
use Rattle.rb_script.proofs.HeadLineLaws.{heads_ascend}
use Rattle.rb_bench.specs.declared.fault.BenchFault.{BenchFault}
use Rattle.rb_bench.specs.declared.fault.BenchFault.TheVariants as faults
use Rattle.rb_bench.specs.Faults.{TellsFault}
use Rattle.rb_report.specs.declared.check.status.Status.{Status}
use Rattle.rb_report.specs.declared.check.status.Status.TheVariants as statuses
use Rattle.rb_program.specs.declared.look.LookedAt.{LookedAt}
use Rattle.rb_program.specs.declared.program_error.ProgramError.{ProgramError}
use Rattle.rb_program.specs.declared.program_error.ProgramError.TheVariants as refusals
use Rattle.rb_program.specs.Choices.{IsMisplaced}
use Rattle.rb_program.specs.Refusals.{of_bench, of_writing}
use Rattle.rb_program.specs.Looks.{AreAllBelow, IsLooked, IsOfSystem, IsSeenIn, IsUnseen}

pub in_order : (ls : List Line) (bs : List PlainBlock) (ns : List ℕ) → AreHeadLines 1 ls bs ns → IsNonDecreasing ns
in_order ls bs ns h = λ i j d le lt.
    elim (cases_lt i j) [
      | inl before ↦
          let rises = heads_ascend ls bs ns h i j before lt in
          grind (arith, get_or_default)
      | inr past ↦
          let same : i ≡ j = omega arith in
          subst (λ (k : ℕ). get_or ns i d ≤ get_or ns k d) same (omega arith)
    ]

pub within : (ls : List Line) (bs : List PlainBlock) (ns : List ℕ) (place head : ℕ) → AreHeadLines 1 ls bs ns → 1 ≤ place → slice_get ns (place - 1) ≡ Some head → place ≤ length bs
within ls bs ns place head h from at = let inside = slice_get_within ns (place - 1) head at in omega (arith, inside, h.count, from)

-- the bytes are no script
pub unread : (bytes word : List ℕ) (line : ℕ) (fault : BenchFault) → TellsFault fault (read_of bytes) → (fault ≢ faults.Io) × (fault ≢ faults.Spacing) → IsUnseen bytes line word (of_bench fault)
unread bytes word line faults.Spacing tells own = absurd (own.1 refl)
unread bytes word line (faults.Script fault) tells own = inr tells
unread bytes word line faults.Io tells own = absurd (own.0 refl)
unread bytes word line faults.OutOfMemory tells own = inl (io_kinds.OutOfMemory, refl)

-- no directive is at the line or above it
pub none_there : (bytes word : List ℕ) (line : ℕ) (refusal : ProgramError) → AreAllBelow bytes line → IsMisplaced word refusal → IsUnseen bytes line word refusal
none_there bytes word line (refusals.Clap error) below h = inl (io_kinds.OutOfMemory, h)
none_there bytes word line (refusals.Usage misuse) below h = inl (io_kinds.OutOfMemory, h)
none_there bytes word line (refusals.OwnUsage misuse) below h = inr (below, h)
none_there bytes word line (refusals.Script fault) below h = inl (io_kinds.OutOfMemory, h)
none_there bytes word line (refusals.Unopened path error) below h = inl (io_kinds.OutOfMemory, h)
none_there bytes word line refusals.ChartTooLarge below h = inl (io_kinds.OutOfMemory, h)
none_there bytes word line refusals.PageTooLarge below h = inl (io_kinds.OutOfMemory, h)
none_there bytes word line (refusals.Folder path) below h = inl (io_kinds.OutOfMemory, h)
none_there bytes word line refusals.Io below h = inl (io_kinds.OutOfMemory, h)
none_there bytes word line refusals.OutOfMemory below h = inl (io_kinds.OutOfMemory, h)

-- what is seen was written, or not
pub written : (bytes word : List ℕ) (line : ℕ) (seen : LookedAt) (result : Result Status ProgramError) → IsSeenIn bytes line seen → IfOk result (λ status. status ≡ statuses.Matched) → IfErr result (λ refusal. IsOfSystem refusal)
    → IsLooked bytes line word result
written bytes word line seen (Ok status) is matched failed = (matched, (seen, is))
written bytes word line seen (Err refusal) is matched failed = inl failed

-- output that failed is the system's
pub of_output : {X : Type 0} (written : Result X WriteFault) → IfErr (of_writing written) (λ refusal. IsOfSystem refusal)
of_output (Ok x) = tt
of_output (Err fault) = (io_kinds.Other, refl)

pub matched_output : {X : Type 0} (written : Result X WriteFault) → IfOk (of_writing written) (λ status. status ≡ statuses.Matched)
matched_output (Ok x) = refl
matched_output (Err fault) = tt
