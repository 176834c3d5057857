-- Why an edit is refused: the cause of each fault, and that no fault that comes before it holds. (This project's order: the
-- place, the expectation, how many directives there are, and last the canonical text.)
use Rattle.std.specs.Prelude.{ℕ, ◌+◌, ◌-◌, ◌≤◌, ◌<◌, List, length, insert, remove, slice_set}
use Rattle.std.specs.List.{AllByRecursion}
use Rattle.rb_script.specs.declared.fault.EditFault.{EditFault}
use Rattle.rb_script.specs.declared.fault.EditFault.TheVariants.{NoSuchPlace, BadExpectation, TooManyDirectives, TooLong, OutOfMemory}
use Rattle.rb_script.specs.declared.edit.Edit.{Edit}
use Rattle.rb_script.specs.declared.edit.Edit.TheVariants.{Insert, Replace, Remove, Expect, Accept}
use Rattle.rb_script.specs.declared.limits.TheConstants.{MAX_SCRIPT, MAX_DIRECTIVES}
use Rattle.rb_script.specs.Lines.{Line}
use Rattle.rb_script.specs.Script.{PlainScript, text, expecting, with_outputs}
use Rattle.rb_script.specs.Valid.{IsLine}
use Rattle.rb_script.specs.LineParts.{HasNoEnd}
use Rattle.rb_script.specs.Edits.{with_blocks, block_at_place}

-- places count from 1
abbrev pub IsPlace : ℕ → ℕ → Type 0
IsPlace k n = (1 ≤ k) × (k ≤ n)

-- the edit is at a place that there is; a block can be put after the last one too
abbrev pub HasPlace : PlainScript → Edit → Type 0
HasPlace s (Insert k block) = IsPlace k (length s.blocks + 1)
HasPlace s (Replace k block) = IsPlace k (length s.blocks)
HasPlace s (Remove k) = IsPlace k (length s.blocks)
HasPlace s (Expect k lines) = IsPlace k (length s.blocks)
HasPlace s Accept = Unit {0}

-- lines that read as themselves, and as this expectation
pub record CanBeExpected (ls : List Line) : Type 0 where
  pub no_end : HasNoEnd ls
  pub lines : AllByRecursion IsLine ls

-- the lines that the edit expects are valid
abbrev pub HasExpectations : Edit → List (List Line) → Type 0
HasExpectations (Insert k block) outputs = Unit {0}
HasExpectations (Replace k block) outputs = Unit {0}
HasExpectations (Remove k) outputs = Unit {0}
HasExpectations (Expect k lines) outputs = CanBeExpected lines
HasExpectations Accept outputs = AllByRecursion CanBeExpected outputs

-- there may be a block more, where the edit puts one in
abbrev pub HasRoom : PlainScript → Edit → Type 0
HasRoom s (Insert k block) = length s.blocks < MAX_DIRECTIVES
HasRoom s (Replace k block) = Unit {0}
HasRoom s (Remove k) = Unit {0}
HasRoom s (Expect k lines) = Unit {0}
HasRoom s Accept = Unit {0}

-- the edit's result, whether or not it is allowed
abbrev pub made_by : PlainScript → Edit → List (List Line) → PlainScript
made_by s (Insert k block) outputs = with_blocks s (insert s.blocks (k - 1) block)
made_by s (Replace k block) outputs = with_blocks s (slice_set s.blocks (k - 1) block)
made_by s (Remove k) outputs = with_blocks s (remove s.blocks (k - 1))
made_by s (Expect k lines) outputs = with_blocks s (slice_set s.blocks (k - 1) (expecting (block_at_place s.blocks k) lines))
made_by s Accept outputs = with_outputs s outputs

-- nothing that is looked for before the length of the text refuses the edit
pub record MayBeMade (s : PlainScript) (e : Edit) (outputs : List (List Line)) : Type 0 where
  pub place : HasPlace s e
  pub expectations : HasExpectations e outputs
  pub room : HasRoom s e

-- why the edit is refused
abbrev pub IsEditFault : PlainScript → Edit → List (List Line) → EditFault → Type 0
IsEditFault s e outputs NoSuchPlace = HasPlace s e → ⊥
IsEditFault s e outputs BadExpectation = HasPlace s e × (HasExpectations e outputs → ⊥)
IsEditFault s e outputs TooManyDirectives = HasPlace s e × HasExpectations e outputs × (HasRoom s e → ⊥)
IsEditFault s e outputs TooLong = MayBeMade s e outputs × (MAX_SCRIPT < length (text (made_by s e outputs)))
IsEditFault s e outputs OutOfMemory = ⊥
