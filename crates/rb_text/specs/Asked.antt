-- The calls that a reader of lines makes of its source. (This project's.)
use Rattle.std.specs.Prelude.{◌≡◌, ℕ, ◌+◌, ◌*◌, ◌<◌, ◌≤◌, List, length, Option, Some, None, IfSome, if◌then◌else◌, ⊤}
use Rattle.rb_text.specs.declared.input_buffer.TheConstants.{CHUNK}
use Rattle.rb_text.specs.declared.line_reader.LineReader.{LineReader}
use Rattle.rb_text.specs.Left.{calls_of}

-- the calls of a source: how many were made, and how many of them failed
pub record Calls : Type 0 where
  pub made : ℕ
  pub failed : ℕ

-- this many more calls, if they are counted
abbrev pub Asks : Option Calls → Option Calls → ℕ → Type 0
Asks None after calls = ⊤
Asks (Some before) None calls = ⊥
Asks (Some before) (Some after) calls = after.made ≡ before.made + calls

-- this many more failed calls
abbrev pub Fails : Option Calls → Option Calls → ℕ → Type 0
Fails None after calls = ⊤
Fails (Some before) None calls = ⊥
Fails (Some before) (Some after) calls = after.failed ≡ before.failed + calls

-- A source with these bytes left is called at most `most` times, and at most once for each byte and once more, for the end or a
-- failure.
pub record AsksFor (left : Option (List ℕ)) (asked now : Option Calls) (most : ℕ) : Type 0 where
  pub calls : ℕ
  pub asks : Asks asked now calls
  pub allowed : calls ≤ most
  pub few : IfSome left (λ bytes. calls ≤ length bytes + 1)

-- the most calls that bytes require: one for each, and one that finds the end
abbrev pub wanted : LineReader → List ℕ → ℕ
wanted lines bytes = if lines.has_ended then 0 else length bytes + 1

-- that many calls are left
abbrev pub HasCallsFor : LineReader → Option (List ℕ) → Type 0
HasCallsFor lines None = ⊥
HasCallsFor lines (Some bytes) = wanted lines bytes ≤ calls_of lines

-- The calls were required by the bytes.
abbrev pub AreWanted : LineReader → LineReader → Option (List ℕ) → Option (List ℕ) → ℕ → Type 0
AreWanted lines later None after calls = ⊤
AreWanted lines later (Some bytes) None calls = ⊥
AreWanted lines later (Some bytes) (Some rest) calls = calls + wanted later rest ≤ wanted lines bytes

-- an upper bound of the bytes that can still be read: the unread ones, and a full buffer for each call
abbrev pub size_of : LineReader → ℕ
size_of lines = calls_of lines * (CHUNK + 1) + length lines.unread

-- A reader continues, over a source with bytes left before and after.
pub record GoesOn (lines later : LineReader) (left after : Option (List ℕ)) (asked now : Option Calls) : Type 0 where
  pub calls : ℕ
  pub asks : Asks asked now calls
  pub counted : calls_of lines ≡ calls_of later + calls
  pub are_wanted : AreWanted lines later left after calls
  pub no_larger : size_of later ≤ size_of lines
  pub unfailed : Fails asked now 0

-- A reader stops: its last call may have failed.
pub record Stops (lines : LineReader) (left : Option (List ℕ)) (asked now : Option Calls) : Type 0 where
  pub calls : ℕ
  pub asks : Asks asked now calls
  pub allowed : calls ≤ calls_of lines
  pub wanted_too : IfSome left (λ bytes. calls ≤ wanted lines bytes)
