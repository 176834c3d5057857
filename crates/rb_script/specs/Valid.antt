-- Lines, blocks and scripts that are valid: what their text reads as. (This project's.)
use Rattle.std.specs.Prelude.{◌≡◌, ◌≤◌, ◌==◌, true, false, not, length}
use Rattle.std.specs.List.{list_all, AllByRecursion}
use Rattle.rb_script.specs.declared.limits.TheConstants.{MAX_SCRIPT, MAX_LINE, MAX_DIRECTIVES}
use Rattle.rb_script.specs.Bytes.{line_feed}
use Rattle.rb_script.specs.Lines.{Line, without_returns}
use Rattle.rb_script.specs.Marks.{is_lead, is_separator}
use Rattle.rb_script.specs.Script.{PlainBlock, PlainScript, block_lines, text}
use Rattle.rb_script.specs.Reads.{begins_lead, IsContinued, IsDirective, is_readable}

-- a line that reads as itself
pub record IsLine (line : Line) : Type 0 where
  pub no_end : list_all (λ b. not (b == line_feed)) line ≡ true
  pub no_return : without_returns line ≡ line
  pub short : length line ≤ MAX_LINE

pub record IsBlock (b : PlainBlock) : Type 0 where
  pub lead : list_all is_lead b.lead ≡ true
  pub head : (begins_lead b.head ≡ false) × IsContinued b.head
  pub directive : IsDirective b.head
  pub input : list_all (λ line. not (is_separator line)) b.input ≡ true
  pub readable : is_readable b.expected ≡ true
  pub lines : AllByRecursion IsLine (block_lines b)

pub record IsScript (s : PlainScript) : Type 0 where
  pub blocks : AllByRecursion IsBlock s.blocks
  pub tail : list_all is_lead s.tail ≡ true
  pub tail_lines : AllByRecursion IsLine s.tail
  pub few : length s.blocks ≤ MAX_DIRECTIVES
  pub short_text : length (text s) ≤ MAX_SCRIPT
