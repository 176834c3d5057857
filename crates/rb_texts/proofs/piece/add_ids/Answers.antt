use Rattle.std.proofs.Common.{◌∷◌, [], ◌++◌, sym, ap, ◌∙◌, decimal, append-nil}
use Rattle.std.specs.List.{flat_map}
use Rattle.std.proofs.lemmas.List.{nil_from_length, take_all}
use Rattle.rb_texts.specs.Configs.{ids_text}
use Rattle.rb_texts.proofs.PieceLaws.{added_twice, comma_before, ids_text-nil, ids_text-cons, added_more}
use Rattle.rb_texts.proofs.piece.add_ids.Goals as goal

pub loop-id-preserved : goal.loop-id-preserved
loop-id-preserved c =
    added_more comma_before c.in-Some.rest.now c.loop-id.id-index 0 c.add_number.new.line c.loop-id.line c.add_number-in-loop-id.new.line c.loop-id-test.true c.loop-id.invariant
    (added_twice c.loop-id.line c.add_byte.new.line c.add_number-in-loop-id.new.line (44 ∷ []) _ c.in_ok-add_byte.ensures c.in_ok-add_number-2.ensures)

pub returns-in_default : goal.returns-in_default
returns-in_default c =
    let line = c.args.line.now in
    sym (ap (λ l. line ++ ids_text l) (nil_from_length c.args.ids.now c.in_default.ensures.cases) ∙ ap (λ l. line ++ l) ids_text-nil ∙ append-nil line)

pub returns : goal.returns
returns c =
    let rest = c.in-Some.rest.now in
    added_twice c.args.line.now c.add_number.new.line c.loop-id.line (decimal c.in-Some.first.now) (flat_map comma_before rest) c.in_ok-add_number.ensures
    (c.loop-id.invariant ∙ ap (λ l. c.add_number.new.line ++ flat_map comma_before l) (take_all c.loop-id.id-index rest c.loop-id-test.false))
    ∙ ap (λ l. c.args.line.now ++ l) (sym (ids_text-cons c.in-Some.first.now rest) ∙ ap ids_text (sym c.in-Some.ensures.cases.0))
