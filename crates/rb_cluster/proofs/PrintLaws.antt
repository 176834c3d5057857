-- What is printed of a directive, by the observer of its lines
use Rattle.std.proofs.Common.{◌≡◌, List, [], ◌++◌, ap, ◌∙◌}
use Rattle.std.specs.Prelude.{fold}
use Rattle.std.specs.List.{flat_map}
use Rattle.rb_script.specs.Lines.{Line}
use Rattle.rb_texts.specs.Texts.{line_of}
use Rattle.rb_machine.specs.declared.printed.PrintedLines.{PrintedLines}
use Rattle.rb_machine.specs.Outcome.{Execution, shown_items, or_ok, lines_at}
use Rattle.rb_machine.specs.Printing.{at_level, with_item}
use Rattle.rb_machine.proofs.PrintingLaws.{all_printed}

pub printed_is : (before last : PrintedLines) (h : Execution) → before.lines ≡ [] → last ≡ fold with_item (at_level before h.level) (shown_items h) → or_ok last.level last.lines ≡ lines_at h.level (shown_items h)
printed_is before last h none is =
    ap (λ (p : PrintedLines). or_ok p.level p.lines) (is ∙ all_printed (at_level before h.level) (shown_items h))
    ∙ ap (λ (ls : List Line). or_ok h.level (ls ++ flat_map (line_of h.level) (shown_items h))) none
