-- A file with a text, and a new file next to it. (This project's.)
use Rattle.std.specs.Prelude.{◌≡◌, ℕ, Bool, true, false, List, [], ◌++◌, Option, Some, None, Result, Ok, Err, IfSome, MatchBool, is_some, option_map, unwrap_or}
use Rattle.std.specs.Io.KnownBytes.{Appends}
use Rattle.rb_files.specs.declared.file_place.Unreplaced.{Unreplaced}
use Rattle.rb_files.specs.declared.path_error.PathError.{PathError}

-- a file's text, and whether the file is settled: stored, with the rights that it is to have
pub record Written : Type 0 where
  pub text : List ℕ
  pub is_settled : Bool

-- what is there: the file, and the new file, if there is one; what the first call that failed said, and whether removing failed;
-- and whether the file is the one that was read, as it was then
pub record Standing : Type 0 where
  pub file : Written
  pub new : Option Written
  pub told : Option PathError
  pub is_stuck : Bool
  pub is_same : Bool

-- what was said first, where this is said now
abbrev pub told_with : PathError → Standing → Option PathError
told_with e s = Some (unwrap_or s.told e)

-- a call that failed changes nothing
abbrev pub failed : PathError → Standing → Standing
failed e s = record s { told = told_with e s }

-- a call that turns what is there into this, or fails; nothing is said where it isn't known
abbrev pub Turns : {X : Type 0} → (Standing → Standing) → Result X PathError → Option Standing → Option Standing → Type 0
Turns turned (Ok x) old new = IfSome old (λ s. new ≡ Some (turned s))
Turns turned (Err e) old new = IfSome old (λ s. new ≡ Some (failed e s))

-- a call failed, and but for the text of the new file all is as it was
abbrev pub FailsAtText : PathError → Standing → Option Standing → Type 0
FailsAtText e s new = (w : Option Written) × (new ≡ Some (record { file = s.file; new = w; told = told_with e s; is_stuck = s.is_stuck; is_same = s.is_same })) × (is_some w ≡ is_some s.new)

-- with bytes after its text
abbrev pub extended : List ℕ → Written → Written
extended bytes w = record { text = w.text ++ bytes; is_settled = false }

-- the new file has bytes after its text
abbrev pub put : List ℕ → Standing → Standing
put bytes s = record s { new = option_map (extended bytes) s.new }

-- a call that puts bytes after the new file's text; on a failure that text is any
abbrev pub Puts : {X : Type 0} → List ℕ → Result X PathError → Option Standing → Option Standing → Type 0
Puts bytes (Ok x) old new = IfSome old (λ s. new ≡ Some (put bytes s))
Puts bytes (Err e) old new = IfSome old (λ s. FailsAtText e s new)

-- a new file without a text
abbrev pub empty : Written
empty = record { text = []; is_settled = false }

-- there is a new file, without a text
abbrev pub created : Standing → Standing
created s = record s { new = Some empty }

-- the same, settled
abbrev pub stored : Written → Written
stored w = record w { is_settled = true }

-- the new file is settled
abbrev pub settled : Standing → Standing
settled s = record s { new = option_map stored s.new }

-- a look at the file: it is the one that was read, or the call fails
abbrev pub Looks : {X : Type 0} → Result X PathError → Option Standing → Option Standing → Type 0
Looks (Ok x) old new = IfSome old (λ s. (s.is_same ≡ true) × (new ≡ Some s))
Looks (Err e) old new = IfSome old (λ s. new ≡ Some (failed e s))

-- a text is put into the new file and settled, and the file is the one that was read
abbrev pub Prepares : {X : Type 0} → List ℕ → Result X PathError → Option Standing → Option Standing → Type 0
Prepares text (Ok x) old new = IfSome old (λ s. (s.is_same ≡ true) × (new ≡ Some (settled (put text s))))
Prepares text (Err e) old new = IfSome old (λ s. FailsAtText e s new)

-- the new file is in the old one's place
abbrev pub renamed : Standing → Standing
renamed s = record s { file = unwrap_or s.new s.file; new = None; is_same = false }

-- there is no new file
abbrev pub removed : Standing → Standing
removed s = record s { new = None }

-- a call that removes the new file, or fails
abbrev pub Removes : {X : Type 0} → Result X PathError → Option Standing → Option Standing → Type 0
Removes (Ok x) old new = IfSome old (λ s. new ≡ Some (removed s))
Removes (Err e) old new = IfSome old (λ s. new ≡ Some (record (failed e s) { is_stuck = true }))

-- this text is there, settled, and no new file; the file that was read is gone
abbrev pub replaced : List ℕ → Standing → Standing
replaced text s = record s { file = record { text = text; is_settled = true }; new = None; is_same = false }

-- a new file without a text is given this one, and put in the old one's place, if that is the file that was read
abbrev pub Fills : {X : Type 0} → List ℕ → Result X PathError → Option Standing → Option Standing → Type 0
Fills text (Ok x) old new = IfSome old (λ s. s.new ≡ Some empty → (s.is_same ≡ true) × (new ≡ Some (replaced text s)))
Fills text (Err e) old new = IfSome old (λ s. FailsAtText e s new)

-- the old file is there as it was, and no new one, or one whose removing failed, as is said; and it is reported what was said first
abbrev pub LeavesOld : Unreplaced → Standing → Option Standing → Type 0
LeavesOld why s new =
    MatchBool why.is_removed
    (new ≡ Some (record s { new = None; told = told_with why.error s }))
    ((w : Written) × (new ≡ Some (record { file = s.file; new = Some w; told = told_with why.error s; is_stuck = true; is_same = s.is_same })))

-- putting a text in a place without a new file: only the file that was read is replaced, as it was then
abbrev pub Replaces : {X : Type 0} → List ℕ → Result X Unreplaced → Option Standing → Option Standing → Type 0
Replaces text (Ok x) old new = IfSome old (λ s. (s.is_same ≡ true) × (new ≡ Some (replaced text s)))
Replaces text (Err why) old new = IfSome old (λ s. LeavesOld why s new)

-- no new file, and none that couldn't be removed, where it is known
abbrev pub IsFresh : Option Standing → Type 0
IsFresh old = IfSome old (λ s. (s.new ≡ None) × (s.is_stuck ≡ false))

-- a text was appended to the new file, which was settled then, and the old file was still as it was read
pub record WasPut {P : Type 0} (contents : P → Option (List ℕ)) (is_unchanged is_settled : P → Type 0) (text : List ℕ) : Type 0 where
  pub before : P
  pub after : P
  pub appended : Appends (contents before) (contents after) text
  pub same : is_unchanged after
  pub settled : is_settled after
