-- The reasons of a directive, by the observer that gathers them.
use Rattle.std.proofs.Common.{◌≡◌, ◌∙◌, Bool, false, List, [], Option, None, ap}
use Rattle.std.specs.Prelude.{fold}
use Rattle.rb_script.specs.Lines.{Line}
use Rattle.rb_texts.specs.declared.reason.Reason.{Reason}
use Rattle.rb_machine.specs.Observations.{observing, passing}
use Rattle.rb_machine.specs.Outcome.{Execution, shown_items}
use Rattle.rb_machine.proofs.EffectLaws.{items_seen}
use Rattle.rb_script_report.specs.declared.reasons.LineReasons.{LineReasons}
use Rattle.rb_script_report.specs.Whys.{all_reasons, at_level, no_reasons, reasons_of, with_item}

abbrev made : Execution → List Line → Bool → Option Reason → LineReasons
made h above has_begun last = record { level = h.level; above = above; has_begun = has_begun; last = last }

pub reasons_are : (before last : LineReasons) (h : Execution) → before.above ≡ [] → before.has_begun ≡ false → before.last ≡ None
    → last ≡ fold (observing with_item passing) (at_level before h.level) h.observed → all_reasons last ≡ reasons_of h
reasons_are before last h above begun none is =
    let start : at_level before h.level ≡ no_reasons h.level =
    ap (λ (ls : List Line). made h ls before.has_begun before.last) above ∙ ap (λ (b : Bool). made h [] b before.last) begun ∙ ap (λ (r : Option Reason). made h [] false r) none in
    ap all_reasons (is ∙ items_seen with_item (at_level before h.level) h.observed)
    ∙ ap (λ (r : LineReasons). all_reasons (fold with_item r (shown_items h))) start
