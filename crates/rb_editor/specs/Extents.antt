-- Where a directive stands among the lines of its script, as they are: from its head to the end of its expectation. (docs/SCRIPTS.md.
-- Lines count from 0, but for those of heads, which count from 1.)
use Rattle.std.specs.Prelude.{ℕ, Bool, ◌&&◌, nat_le, nat_lt, List, drop}
use Rattle.rb_script.specs.Lines.{Line}
use Rattle.rb_script.specs.Script.{PlainBlock}
use Rattle.rb_script.specs.Reads.{begins_rule}
use Rattle.rb_editor.specs.declared.offers.block_lines.BlockLines.{BlockLines}
use Rattle.rb_editor.specs.BlockLines.{block_lines}
use Rattle.rb_editor.specs.declared.actions.extent.Extent.{Extent}

-- of a block that has these lines
abbrev pub extent_at : List Line → BlockLines → Extent
extent_at ls p = record { head = p.from; expected = p.below; end = p.end; is_double = begins_rule (drop p.below ls) }

-- of the directive whose head begins on this line
unfoldable pub extent_of : List Line → ℕ → PlainBlock → Extent
extent_of ls line b = extent_at ls (block_lines ls line b)

-- whether it has a line from `first` to `last`
abbrev pub has_line : ℕ → ℕ → Extent → Bool
has_line first last e = nat_le e.head last && nat_lt first e.end
