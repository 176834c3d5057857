-- The calls of a writer, of which some fail. (This project's.)
use Rattle.std.specs.Prelude.{◌≡◌, ℕ, ◌+◌, min, Option, Some, None, Result, Ok, Err, ⊤}

-- how many calls failed, and how many were made after one had failed
pub record WriterCalls : Type 0 where
  pub failed : ℕ
  pub late : ℕ

-- if calls are counted, before and after some of them
abbrev pub IfCounted : Option WriterCalls → Option WriterCalls → (WriterCalls → WriterCalls → Type 0) → Type 0
IfCounted None after holds = ⊤
IfCounted (Some before) None holds = ⊥
IfCounted (Some before) (Some after) holds = holds before after

-- one more call, of which n failed
abbrev pub Counts : ℕ → WriterCalls → WriterCalls → Type 0
Counts n before after = (after.failed ≡ before.failed + n) × (after.late ≡ before.late + min 1 before.failed)

-- One call was made, and this is its result: if it failed, that is said.
abbrev pub IsCall : {X E : Type 0} → Result X E → Option WriterCalls → Option WriterCalls → Type 0
IsCall (Ok x) before after = IfCounted before after (Counts 0)
IsCall (Err e) before after = IfCounted before after (Counts 1)

-- If none had failed, none has.
abbrev pub AreUnfailed : WriterCalls → WriterCalls → Type 0
AreUnfailed before after = before.failed ≡ 0 → (after.failed ≡ 0) × (after.late ≡ before.late)

-- If none had failed, none was made after one failed.
abbrev pub NoneIsLate : WriterCalls → WriterCalls → Type 0
NoneIsLate before after = before.failed ≡ 0 → after.late ≡ before.late

-- Calls ended with the first that failed, and its failure is said.
abbrev pub EndAtFailure : {X E : Type 0} → Result X E → Option WriterCalls → Option WriterCalls → Type 0
EndAtFailure (Ok x) before after = IfCounted before after AreUnfailed
EndAtFailure (Err e) before after = IfCounted before after NoneIsLate
