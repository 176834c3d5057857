use Rattle.std.proofs.Common.{◌≡◌, ℕ, ◌-◌, List, length, ap, ◌∙◌}
use Rattle.std.specs.Prelude.{slice_range, true}
use Rattle.rb_lsp.specs.declared.document.position.Position.{Position}
use Rattle.rb_lsp.specs.declared.document.position.Encoding.{Encoding}
use Rattle.rb_lsp.specs.Edits.{front_of, stop_of, place_before, place_behind, common_end, range_between}
use Rattle.rb_lsp.specs.Places.{begins, position_of}
use Rattle.rb_lsp.specs.Changes.{changed}
use Rattle.rb_lsp.proofs.DifferLaws.{edits_make}
use Rattle.rb_lsp.proofs.document.edit.edit_between.Goals as goal

-- the law at what was found
made : (e : Encoding) (old new : List ℕ) (front stop : ℕ) (p q : Position) → front ≡ front_of old new → stop ≡ stop_of old new → p ≡ position_of e front old → q ≡ position_of e stop old → begins old ≡ true
    → changed e (record { start = p; end = q }) (slice_range new front (length new - (length old - stop))) old ≡ new
made e old new front stop p q front_is stop_is p_is q_is begin =
    ap (λ (x : Position). changed e (record { start = x; end = q }) (slice_range new front (length new - (length old - stop))) old) (p_is ∙ ap (λ (k : ℕ). position_of e k old) front_is)
    ∙ ap (λ (x : Position). changed e (record { start = position_of e (front_of old new) old; end = x }) (slice_range new front (length new - (length old - stop))) old) (q_is ∙ ap (λ (k : ℕ). position_of e k old) stop_is)
    ∙ ap (λ (k : ℕ). changed e (range_between e old new) (slice_range new k (length new - (length old - stop))) old) front_is
    ∙ ap (λ (k : ℕ). changed e (range_between e old new) (slice_range new (front_of old new) (length new - (length old - k))) old) stop_is
    ∙ edits_make e old new begin

pub returns-clause-made : goal.returns-clause-made
returns-clause-made c = λ begin.
    let old = c.args.old.now in
    let new = c.args.new.now in
    let front_is : c.place_before-front.result ≡ front_of old new = c.place_before-front.ensures.value ∙ ap (λ (k : ℕ). place_before k old) c.common.ensures.value in
    let stop_is : c.place_behind-stop.result ≡ stop_of old new =
    c.place_behind-stop.ensures.value ∙ ap (λ (k : ℕ). place_behind (length old - k) old) (c.common_end.ensures.value ∙ ap (λ (f : ℕ). common_end f old new) front_is) in
    made c.args.encoding old new c.place_before-front.result c.place_behind-stop.result c.position_of.result c.position_of-2.result front_is stop_is c.position_of.ensures c.position_of-2.ensures begin
