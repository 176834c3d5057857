-- The reasons of a script's outputs, directive by directive.
use Rattle.std.proofs.Common.{◌≡◌, ◌∙◌, ℕ, ◌+◌, ◌≤◌, Bool, true, false, List, [], ◌∷◌, ◌++◌, length, map, drop, Option, Some, None, refl, ap, ap₂, sym, append_assoc, append-nil}
use Rattle.std.specs.Prelude.{fold, if◌then◌else◌, option_map, slice_get}
use Rattle.std.proofs.lemmas.List.{drop_all}
use Rattle.rb_vocab.specs.declared.level.Level.{Level}
use Rattle.rb_script.specs.Lines.{Line}
use Rattle.rb_script.specs.Script.{PlainBlock}
use Rattle.rb_script.specs.Reading.{directive_of}
use Rattle.rb_texts.specs.declared.reason.Reason.{Reason}
use Rattle.rb_texts.specs.Items.{PlainItem}
use Rattle.rb_machine.specs.Cluster.{Cluster}
use Rattle.rb_machine.specs.Outcome.{Execution, execution, outcome, shown_items}
use Rattle.rb_text.proofs.SentLaws.{drop-get}
use Rattle.rb_script_report.specs.declared.reasons.LineReasons.{LineReasons}
use Rattle.rb_script_report.specs.Whys.{all_reasons, at_level, no_reasons, reasons_of, whys_from, with_item}
use Rattle.rb_bench.specs.Reasons.{begins, listed, reasons_if, with_level, with_reason}

-- ---- one directive

-- an observer that has observed nothing
pub begun_at : (r : LineReasons) (level : Level) → r.above ≡ [] → r.has_begun ≡ false → r.last ≡ None → at_level r level ≡ no_reasons level
begun_at r level above has_begun last =
    ap₂ (λ (lines : List Line) (begun : Bool). record { level = level; above = lines; has_begun = begun; last = r.last }) above has_begun
    ∙ ap (λ (reason : Option Reason). record { level = level; above = []; has_begun = false; last = reason }) last

with_all : (r : LineReasons) (items : List PlainItem) → fold with_reason (Some r) items ≡ Some (fold with_item r items)
with_all r [] = refl
with_all r (item ∷ items) = with_all (with_item r item) items

with_none : (items : List PlainItem) → fold with_reason None items ≡ None
with_none [] = refl
with_none (item ∷ items) = with_none items

given_by : (explains : Bool) (e : Execution)
    → option_map all_reasons (fold with_reason (if explains then Some (no_reasons e.level) else None) (shown_items e)) ≡ reasons_if explains e
given_by true e = ap (option_map all_reasons) (with_all (no_reasons e.level) (shown_items e))
given_by false e = ap (option_map all_reasons) (with_none (shown_items e))

pub reasons_given : (explains : Bool) (first last : Option LineReasons) (e : Execution) → begins explains first
    → last ≡ fold with_reason (with_level first e.level) (shown_items e) → option_map all_reasons last ≡ reasons_if explains e
reasons_given explains first last e begun seen =
    ap (option_map all_reasons) (seen ∙ ap (λ (r : Option LineReasons). fold with_reason r (shown_items e)) (begun e.level)) ∙ given_by explains e

-- ---- a script

-- those of the blocks from an index on, if they are asked for
abbrev pub left : Bool → Cluster → List PlainBlock → ℕ → List (List Line)
left explains c bs i = if explains then whys_from c (map directive_of (drop i bs)) else []

pub reasons-more : (explains : Bool) (c after : Cluster) (bs : List PlainBlock) (i : ℕ) (b : PlainBlock) (given : Option (List Line)) (had has all : List (List Line))
    → slice_get bs i ≡ Some b → given ≡ reasons_if explains (execution c (directive_of b)) → after ≡ (outcome c (directive_of b)).cluster → has ≡ had ++ listed given
    → had ++ left explains c bs i ≡ all → has ++ left explains after bs (i + 1) ≡ all
reasons-more true c after bs i b given had has all got here next more so_far =
    let own = reasons_of (execution c (directive_of b)) in
    let step = ap (λ (cs : List PlainBlock). whys_from c (map directive_of cs)) (drop-get bs i b got) in
    ap (λ (l : List (List Line)). l ++ left true after bs (i + 1)) (more ∙ ap (λ (o : Option (List Line)). had ++ listed o) here)
    ∙ append_assoc had (own ∷ []) (left true after bs (i + 1))
    ∙ ap (λ (d : Cluster). had ++ (own ∷ left true d bs (i + 1))) next
    ∙ ap (λ (l : List (List Line)). had ++ l) (sym step)
    ∙ so_far
reasons-more false c after bs i b given had has all got here next more so_far =
    ap (λ (l : List (List Line)). l ++ []) (more ∙ ap (λ (o : Option (List Line)). had ++ listed o) here ∙ append-nil had) ∙ so_far

pub reasons-done : (explains : Bool) (c : Cluster) (bs : List PlainBlock) (i : ℕ) (has all : List (List Line)) → length bs ≤ i → has ++ left explains c bs i ≡ all → has ≡ all
reasons-done true c bs i has all past so_far =
    sym (append-nil has) ∙ sym (ap (λ (cs : List PlainBlock). has ++ whys_from c (map directive_of cs)) (drop_all i bs past)) ∙ so_far
reasons-done false c bs i has all past so_far = sym (append-nil has) ∙ so_far
