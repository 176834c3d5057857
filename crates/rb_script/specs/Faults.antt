-- What each fault of reading says of the bytes: its cause, and that no fault that comes before it holds. (This project's
-- order: the bytes, the lines, then block by block, then how many blocks there are, and last the canonical text.)
use Rattle.std.specs.Prelude.{◌≡◌, ℕ, ◌+◌, ◌≤◌, ◌<◌, ◌⊎◌, true, false, not, List, ◌∷◌, ◌++◌, length}
use Rattle.std.specs.List.{list_all, AllByRecursion}
use Rattle.rb_script.specs.declared.fault.ScriptFault.{ScriptFault}
use Rattle.rb_script.specs.declared.fault.ScriptFault.TheVariants.{TooLong, LineTooLong, BadLine, NoSeparator, NotClosed, TooManyDirectives, NotOneBlock, TooManyArguments, OutOfMemory}
use Rattle.rb_script.specs.declared.limits.TheConstants.{MAX_SCRIPT, MAX_LINE, MAX_DIRECTIVES}
use Rattle.rb_script.specs.Lines.{Line, lines}
use Rattle.rb_script.specs.Marks.{is_lead, is_separator}
use Rattle.rb_script.specs.Script.{PlainBlock, PlainScript, text}
use Rattle.rb_script.specs.Joined.{joined}
use Rattle.rb_script.specs.Directive.{PlainArgument, Derives}
use Rattle.rb_script.specs.Limits.{are_few}
use Rattle.rb_script.specs.Reads.{begins_lead, is_readable, IsDirective, ReadsPlain, ReadsDouble, ReadsSome, ReadsBlocks, alone}
use Rattle.rb_script.specs.Runs.{head_of, after_head}
use Rattle.rb_script.specs.Blocks.{line_number}

-- The head at the front is no name and arguments.
pub record IsBadLine (end : ℕ) (from : List Line) (n : ℕ) : Type 0 where
  pub number : n ≡ line_number end from
  pub none : (name : List ℕ) (args : List PlainArgument) → Derives (joined (head_of from)) name args → ⊥

-- It has more arguments, or values, than there may be.
pub record HasManyArguments (end : ℕ) (from : List Line) (n : ℕ) : Type 0 where
  pub name : List ℕ
  pub args : List PlainArgument
  pub number : n ≡ line_number end from
  pub derives : Derives (joined (head_of from)) name args
  pub many : are_few args ≡ false

-- It is a directive, and no line ---- follows it.
pub record HasNoSeparator (end : ℕ) (from : List Line) (n : ℕ) : Type 0 where
  pub number : n ≡ line_number end from
  pub directive : IsDirective (head_of from)
  pub none : list_all (λ line. not (is_separator line)) (after_head from) ≡ true

-- It is a directive, and no expectation is after the first line ---- that follows it.
pub record IsNotClosed (end : ℕ) (from : List Line) (n : ℕ) : Type 0 where
  pub input : List Line
  pub separator : Line
  pub after : List Line
  pub parts : after_head from ≡ input ++ separator ∷ after
  pub first : list_all (λ line. not (is_separator line)) input ≡ true
  pub separates : is_separator separator ≡ true
  pub number : n ≡ line_number end (separator ∷ after)
  pub directive : IsDirective (head_of from)
  pub none : (expected rest : List Line) → is_readable expected ≡ true → ReadsPlain after expected rest ⊎ ReadsDouble after expected rest → ⊥

-- why no block is read from the head at the front; end is the number after the last line
abbrev pub IsHeadFault : ℕ → List Line → ScriptFault → Type 0
IsHeadFault end from (BadLine n) = IsBadLine end from n
IsHeadFault end from (TooManyArguments n) = HasManyArguments end from n
IsHeadFault end from (NoSeparator n) = HasNoSeparator end from n
IsHeadFault end from (NotClosed n) = IsNotClosed end from n
IsHeadFault end from TooLong = ⊥
IsHeadFault end from (LineTooLong n) = ⊥
IsHeadFault end from TooManyDirectives = ⊥
IsHeadFault end from NotOneBlock = ⊥
IsHeadFault end from OutOfMemory = ⊥

-- after some blocks and lead lines a head begins from which no block is read
pub record StopsAt (ls : List Line) (fault : ScriptFault) : Type 0 where
  pub blocks : List PlainBlock
  pub lead : List Line
  pub from : List Line
  pub before : ReadsSome ls blocks (lead ++ from)
  pub leads : list_all is_lead lead ≡ true
  pub head : begins_lead from ≡ false
  pub few : length blocks < MAX_DIRECTIVES
  pub why : IsHeadFault (1 + length ls) from fault

-- line n is the first that is too long
pub record HasLongLine (ls : List Line) (n : ℕ) : Type 0 where
  pub front : List Line
  pub line : Line
  pub rest : List Line
  pub parts : ls ≡ front ++ line ∷ rest
  pub number : n ≡ 1 + length front
  pub short : AllByRecursion (λ l. length l ≤ MAX_LINE) front
  pub long : MAX_LINE < length line

-- a head follows as many blocks as there may be
pub record HasManyBlocks (ls : List Line) : Type 0 where
  pub blocks : List PlainBlock
  pub lead : List Line
  pub from : List Line
  pub before : ReadsSome ls blocks (lead ++ from)
  pub leads : list_all is_lead lead ≡ true
  pub head : begins_lead from ≡ false
  pub many : length blocks ≡ MAX_DIRECTIVES

-- the lines are these blocks and this tail, and no head is one too many
pub record AreBlocks (ls : List Line) (s : PlainScript) : Type 0 where
  pub parts : ReadsBlocks ls s.blocks s.tail
  pub few : length s.blocks ≤ MAX_DIRECTIVES

-- the lines are a script, but for its text, which is too long
pub record HasLongText (ls : List Line) : Type 0 where
  pub script : PlainScript
  pub parts : AreBlocks ls script
  pub long : MAX_SCRIPT < length (text script)

-- the lines are one block, but for its text, which is too long
pub record IsLongBlock (ls : List Line) : Type 0 where
  pub block : PlainBlock
  pub parts : AreBlocks ls (alone block)
  pub long : MAX_SCRIPT < length (text (alone block))

-- the lines are a script, but for the length of its text, and not one block alone
pub record IsNotAlone (ls : List Line) : Type 0 where
  pub script : PlainScript
  pub parts : AreBlocks ls script
  pub others : (b : PlainBlock) → script ≡ alone b → ⊥

-- neither the bytes nor a line of them are too long
pub record AreShort (bytes : List ℕ) : Type 0 where
  pub short : length bytes ≤ MAX_SCRIPT
  pub short_lines : AllByRecursion (λ line. length line ≤ MAX_LINE) (lines bytes)

-- why the bytes are not a script, and not one block: the part that both share
abbrev pub IsFirstFault : List ℕ → ScriptFault → Type 0
IsFirstFault bytes TooLong = MAX_SCRIPT < length bytes
IsFirstFault bytes (LineTooLong n) = (length bytes ≤ MAX_SCRIPT) × HasLongLine (lines bytes) n
IsFirstFault bytes (BadLine n) = AreShort bytes × StopsAt (lines bytes) (BadLine n)
IsFirstFault bytes (NoSeparator n) = AreShort bytes × StopsAt (lines bytes) (NoSeparator n)
IsFirstFault bytes (NotClosed n) = AreShort bytes × StopsAt (lines bytes) (NotClosed n)
IsFirstFault bytes TooManyDirectives = AreShort bytes × HasManyBlocks (lines bytes)
IsFirstFault bytes NotOneBlock = ⊥
IsFirstFault bytes (TooManyArguments n) = AreShort bytes × StopsAt (lines bytes) (TooManyArguments n)
IsFirstFault bytes OutOfMemory = ⊥

-- why the bytes are no script
abbrev pub IsScriptFault : List ℕ → ScriptFault → Type 0
IsScriptFault bytes fault = IsFirstFault bytes fault ⊎ ((fault ≡ TooLong) × AreShort bytes × HasLongText (lines bytes))

-- why the bytes are no one block
abbrev pub IsBlockFault : List ℕ → ScriptFault → Type 0
IsBlockFault bytes fault =
    IsFirstFault bytes fault ⊎ ((fault ≡ NotOneBlock) × AreShort bytes × IsNotAlone (lines bytes)) ⊎ ((fault ≡ TooLong) × AreShort bytes × IsLongBlock (lines bytes))
