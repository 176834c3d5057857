-- What is printed of items that are observed one after another is their lines
use Rattle.std.proofs.Common.{◌≡◌, List, [], ◌∷◌, ◌++◌, append_assoc, append-nil, ap, sym, ◌∙◌}
use Rattle.std.specs.Prelude.{fold}
use Rattle.std.specs.List.{flat_map}
use Rattle.rb_script.specs.Lines.{Line}
use Rattle.rb_texts.specs.Items.{PlainItem}
use Rattle.rb_texts.specs.Texts.{line_of}
use Rattle.rb_machine.specs.declared.printed.PrintedLines.{PrintedLines}
use Rattle.rb_machine.specs.Printing.{with_item}

pub all_printed : (p : PrintedLines) (items : List PlainItem) → fold with_item p items ≡ record p { lines = p.lines ++ flat_map (line_of p.level) items }
all_printed p [] = ap (λ (ls : List Line). record p { lines = ls }) (sym (append-nil p.lines))
all_printed p (i ∷ items) =
    all_printed (with_item p i) items
    ∙ ap (λ (ls : List Line). record p { lines = ls }) (append_assoc p.lines (line_of p.level i) (flat_map (line_of p.level) items))
