-- What a line of a text is, by the lines above it, and the head up to a place. (docs/SCRIPTS.md, "A block". The text needn't be a script:
-- an unfinished head has no line `----` below it.)
use Rattle.std.specs.Prelude.{ℕ, zero, suc, ◌+◌, ◌-◌, Bool, true, false, ◌==◌, not, if◌then◌else◌, List, [], ◌∷◌, ◌++◌, slice_index, Option, Some, None}
use Rattle.rb_script.specs.Bytes.{space, line_feed}
use Rattle.rb_script.specs.Lines.{Line}
use Rattle.rb_script.specs.Marks.{is_blank, is_comment, is_lead, is_rule, is_separator, continues}
use Rattle.rb_script.specs.Joined.{body}
use Rattle.rb_editor.specs.declared.offers.part.Part.{Part}
use Rattle.rb_editor.specs.declared.offers.part.Part.TheVariants.{Lead, Head, Input, First, Plain, Double, Closing}

-- what follows a line of a head
abbrev pub begins_head : Line → Part
begins_head line = if continues line then Head else Input

-- what the line below a line is
abbrev pub next : Part → Line → Part
next Lead line = if is_lead line then Lead else begins_head line
next Head line = begins_head line
next Input line = if is_separator line then First else Input
next First line = if is_rule line then Double else (if is_blank line then Lead else Plain)
next Plain line = if is_blank line then Lead else Plain
next Double line = if is_rule line then Closing else Double
next Closing line = if is_rule line then Lead else Double

-- what is known of a head after a line, which the line of this part follows
abbrev pub kept : Part → Line → List ℕ → List ℕ
kept Head line head = (head ++ body line) ++ space ∷ []
kept part line head = []

-- what the line below these is, and what is known of the head that it continues
unfoldable pub behind_lines : Part → List ℕ → List Line → Part × List ℕ
behind_lines part head [] = (part, head)
behind_lines part head (line ∷ ls) = behind_lines (next part line) (kept (next part line) line head) ls

-- a line of this part that begins so can be one of a head
abbrev pub goes_on : Part → Line → Bool
goes_on Lead front = not (is_comment front)
goes_on Head front = true
goes_on part front = false

-- the head, if a line that begins so is one of it
abbrev pub head_in : Part × List ℕ → Line → Option (List ℕ)
head_in behind front = if goes_on behind.0 front then Some (behind.1 ++ front) else None

-- where the line of a place begins
unfoldable pub line_begin : ℕ → List ℕ → ℕ
line_begin zero text = 0
line_begin (suc k) text = if slice_index text k == line_feed then suc k else line_begin k text

-- how many lines of an unfinished block are above a line of this part, where there were n above the last
abbrev pub more_begun : Part → ℕ → ℕ
more_begun Lead n = 0
more_begun part n = n + 1

-- how many of these lines, counted from the last, are of a block that isn't finished
unfoldable pub begun_lines : Part → ℕ → List Line → ℕ
begun_lines part n [] = n
begun_lines part n (line ∷ ls) = begun_lines (next part line) (more_begun (next part line) n) ls

-- where the line begins that is n lines above the line of a place
unfoldable pub line_above : ℕ → ℕ → List ℕ → ℕ
line_above zero at text = line_begin at text
line_above (suc n) at text = line_above n (line_begin at text - 1) text
