-- Which bytes are which script: by cases, on whole lists of lines. (This project's profile of the datadriven format.)
use Rattle.std.specs.Prelude.{◌≡◌, ℕ, ◌≤◌, ◌⊎◌, Bool, true, false, ◌&&◌, not, List, [], ◌∷◌, ◌++◌, length}
use Rattle.std.specs.List.{list_all, AllByRecursion}
use Rattle.rb_script.specs.declared.limits.TheConstants.{MAX_SCRIPT, MAX_LINE, MAX_DIRECTIVES}
use Rattle.rb_script.specs.Lines.{Line, lines}
use Rattle.rb_script.specs.Marks.{is_blank, is_lead, is_rule, is_separator, continues, rule}
use Rattle.rb_script.specs.Script.{PlainBlock, PlainScript, text}
use Rattle.rb_script.specs.Joined.{joined}
use Rattle.rb_script.specs.Directive.{PlainArgument, Derives}
use Rattle.rb_script.specs.Limits.{are_few}

abbrev pub ends_or_rules : List Line → Bool
ends_or_rules [] = true
ends_or_rules (line ∷ ls) = is_rule line

-- no line ---- is the last or is before another
abbrev pub is_readable : List Line → Bool
is_readable [] = true
is_readable (line ∷ ls) = not (is_rule line && ends_or_rules ls) && is_readable ls

-- each line but the last asks for the next
abbrev pub IsContinued : List Line → Type 0
IsContinued [] = ⊥
IsContinued (line ∷ []) = continues line ≡ false
IsContinued (line ∷ next ∷ ls) = (continues line ≡ true) × IsContinued (next ∷ ls)

abbrev pub begins_lead : List Line → Bool
begins_lead [] = true
begins_lead (line ∷ ls) = is_lead line

abbrev pub begins_rule : List Line → Bool
begins_rule [] = false
begins_rule (line ∷ ls) = is_rule line

abbrev pub begins_blank : List Line → Bool
begins_blank [] = false
begins_blank (line ∷ ls) = is_blank line

-- the head is in the grammar, with no more arguments and values than there may be
pub record IsDirective (head : List Line) : Type 0 where
  pub name : List ℕ
  pub args : List PlainArgument
  pub derives : Derives (joined head) name args
  pub few : are_few args ≡ true

-- the lines up to a blank line or the end
pub record ReadsPlain (after expected rest : List Line) : Type 0 where
  pub first : begins_rule after ≡ false
  pub none_blank : list_all (λ line. not (is_blank line)) expected ≡ true
  pub closed : ((blank : Line) × (is_blank blank ≡ true) × (after ≡ expected ++ blank ∷ rest)) ⊎ ((after ≡ expected) × (rest ≡ []))

-- the lines between a line ---- and a pair of them, and one blank line more if there is one
pub record ReadsDouble (after expected rest : List Line) : Type 0 where
  pub more : List Line
  pub parts : after ≡ rule ∷ expected ++ rule ∷ rule ∷ more
  pub closed : ((blank : Line) × (is_blank blank ≡ true) × (more ≡ blank ∷ rest)) ⊎ ((begins_blank rest ≡ false) × (more ≡ rest))

-- these lines are the block, and then the rest
pub record ReadsBlock (ls : List Line) (b : PlainBlock) (rest : List Line) : Type 0 where
  pub separator : Line
  pub after : List Line
  pub parts : ls ≡ b.lead ++ (b.head ++ (b.input ++ separator ∷ after))
  pub lead : list_all is_lead b.lead ≡ true
  pub head : (begins_lead b.head ≡ false) × IsContinued b.head
  pub directive : IsDirective b.head
  pub input : list_all (λ line. not (is_separator line)) b.input ≡ true
  pub separates : is_separator separator ≡ true
  pub readable : is_readable b.expected ≡ true
  pub expected : ReadsPlain after b.expected rest ⊎ ReadsDouble after b.expected rest

-- the lines begin with these blocks, and the rest follows
abbrev pub ReadsSome : List Line → List PlainBlock → List Line → Type 0
ReadsSome ls [] rest = ls ≡ rest
ReadsSome ls (b ∷ bs) rest = (after : List Line) × ReadsBlock ls b after × ReadsSome after bs rest

-- the lines are these blocks and this tail
abbrev pub ReadsBlocks : List Line → List PlainBlock → List Line → Type 0
ReadsBlocks ls bs tail = ReadsSome ls bs tail × (list_all is_lead tail ≡ true)

-- the bytes are the script
pub record Reads (bytes : List ℕ) (s : PlainScript) : Type 0 where
  pub parts : ReadsBlocks (lines bytes) s.blocks s.tail
  pub short : length bytes ≤ MAX_SCRIPT
  pub short_lines : AllByRecursion (λ line. length line ≤ MAX_LINE) (lines bytes)
  pub few : length s.blocks ≤ MAX_DIRECTIVES
  pub short_text : length (text s) ≤ MAX_SCRIPT

-- the script is this one block
abbrev pub alone : PlainBlock → PlainScript
alone b = record { blocks = b ∷ []; tail = [] }
