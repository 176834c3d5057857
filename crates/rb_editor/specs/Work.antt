-- The work of a run: so much for each directive and each of its arguments, so much for each item that an observer gets, and one for each byte that is
-- printed. (This project's.)
use Rattle.std.specs.Prelude.{ℕ, ◌+◌, ◌-◌, ◌*◌, ◌^◌, fold, min, length}
use Rattle.rb_script.specs.Directive.{PlainDirective}
use Rattle.rb_script.specs.Lines.{text_of}
use Rattle.rb_vocab.specs.declared.level.Level.{Level}
use Rattle.rb_texts.specs.Items.{PlainItem}
use Rattle.rb_texts.specs.Texts.{line_of}
use Rattle.rb_machine.specs.Outcome.{Execution, shown_items}
use Rattle.rb_machine.specs.Printing as printing
use Rattle.rb_editor.specs.declared.actions.bounded.CountedLines.{CountedLines}
use Rattle.rb_editor.specs.declared.actions.bounded.TheConstants.{ARGUMENT_WORK, DIRECTIVE_WORK, ITEM_WORK}

-- with some more, counted in 64 bits
abbrev pub raised : ℕ → ℕ → ℕ
raised more work = min (work + more) (2 ^ 64 - 1)

-- a directive begins, which may look through all that is on its way for each of its arguments
abbrev pub begun : PlainDirective → ℕ → ℕ
begun d work = raised (min (length d.args * ARGUMENT_WORK) (2 ^ 64 - 1)) (raised DIRECTIVE_WORK work)

-- an item, with the bytes of its lines and of their ends
abbrev pub item_work : Level → PlainItem → ℕ
item_work level item = ITEM_WORK + length (text_of (line_of level item))

-- items are printed at a level
abbrev pub at_level : CountedLines → Level → CountedLines
at_level c level = record c { printed = printing.at_level c.printed level }

-- an item is observed
abbrev pub with_item : CountedLines → PlainItem → CountedLines
with_item c item = record c { printed = printing.with_item c.printed item; work = raised (item_work c.printed.level item) c.work }

-- after a directive that wasn't refused
abbrev pub work_after : PlainDirective → Execution → ℕ → ℕ
work_after d e work = fold (λ w item. raised (item_work e.level item) w) (begun d work) (shown_items e)
