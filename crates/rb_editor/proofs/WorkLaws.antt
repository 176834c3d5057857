-- What counts the work of a directive prints its lines, too.
use Rattle.std.proofs.Common.{◌≡◌, ◌∙◌, ℕ, ◌+◌, List, [], ◌∷◌, ◌++◌, length, refl, ap, length-append}
use Rattle.std.proofs.lemmas.List.Concat.{flat_map-append}
use Rattle.std.specs.Prelude.{fold}
use Rattle.rb_script.specs.Directive.{PlainDirective}
use Rattle.rb_script.specs.Lines.{Line, line_text, text_of}
use Rattle.rb_texts.specs.Items.{PlainItem}
use Rattle.rb_machine.specs.Cluster.{Cluster}
use Rattle.rb_machine.specs.Observations.{passing}
use Rattle.rb_machine.specs.Observers.{Watched, after_directive, watched}
use Rattle.rb_machine.specs.Outcome.{Execution, shown_items}
use Rattle.rb_machine.specs.Printing as printing
use Rattle.rb_machine.proofs.EffectLaws.{items_seen}
use Rattle.rb_editor.specs.declared.actions.bounded.CountedLines.{CountedLines}
use Rattle.rb_editor.specs.Work.{at_level, begun, item_work, raised, with_item, work_after}

all_printed : (c : CountedLines) (items : List PlainItem) → (fold with_item c items).printed ≡ fold printing.with_item c.printed items
all_printed c [] = refl
all_printed c (item ∷ items) = all_printed (with_item c item) items

all_counted : (c : CountedLines) (items : List PlainItem) → (fold with_item c items).work ≡ fold (λ w item. raised (item_work c.printed.level item) w) c.work items
all_counted c [] = refl
all_counted c (item ∷ items) = all_counted (with_item c item) items

seen : (c last : CountedLines) (after : Cluster) (e : Execution) → watched after last ≡ after_directive at_level with_item passing c e
    → last ≡ fold with_item (at_level c e.level) (shown_items e)
seen c last after e ran = ap (λ (w : Watched CountedLines). w.by) ran ∙ items_seen with_item (at_level c e.level) e.observed

pub printed_by : (c last : CountedLines) (after : Cluster) (e : Execution) → watched after last ≡ after_directive at_level with_item passing c e
    → last.printed ≡ fold printing.with_item (printing.at_level c.printed e.level) (shown_items e)
printed_by c last after e ran = ap (λ (x : CountedLines). x.printed) (seen c last after e ran) ∙ all_printed (at_level c e.level) (shown_items e)

pub counted_by : (d : PlainDirective) (work : ℕ) (c last : CountedLines) (after : Cluster) (e : Execution) → c.work ≡ begun d work
    → watched after last ≡ after_directive at_level with_item passing c e → last.work ≡ work_after d e work
counted_by d work c last after e started ran =
    ap (λ (x : CountedLines). x.work) (seen c last after e ran) ∙ all_counted (at_level c e.level) (shown_items e)
    ∙ ap (λ (w : ℕ). fold (λ w item. raised (item_work e.level item) w) w (shown_items e)) started

-- what was appended to lines is what their text has more
pub more_text : (ls more all : List Line) → all ≡ ls ++ more → length (text_of all) ≡ length (text_of ls) + length (text_of more)
more_text ls more all appended = ap (λ (l : List Line). length (text_of l)) appended ∙ ap length (flat_map-append line_text ls more) ∙ length-append (text_of ls) (text_of more)
