-- What a picture shows of directives, one after another.
use Rattle.std.proofs.Common.{◌≡◌, ◌∙◌, ℕ, ◌+◌, false, ltb, List, [], ◌∷◌, drop, Some, refl, ap, ap₂, sym, arith}
use Rattle.std.specs.Prelude.{fold, slice_get}
use Rattle.std.proofs.lemmas.Bool.{ltb-false}
use Rattle.rb_script.specs.Reading.{directive_of}
use Rattle.rb_script.specs.Script.{PlainBlock}
use Rattle.rb_view.proofs.KeptLaws.{left_some}
use Rattle.rb_machine.specs.Cluster.{Cluster}
use Rattle.rb_machine.specs.Outcome.{execution, outcome, shown_items}
use Rattle.rb_texts.specs.Items.{PlainItem}
use Rattle.rb_view.specs.declared.chart.part.ChartPart.{ChartPart}
use Rattle.rb_view.specs.declared.chart.part.ChartPhase.{ChartPhase}
use Rattle.rb_view.specs.declared.chart.part.ChartPhase.TheVariants as phases
use Rattle.rb_view.specs.InFlight.{mail_choice}
use Rattle.rb_view.specs.Drawn.{PlainView, beginning, entering, has_room, phase_at, room_entered, room_seen, seeing, shown, views_from}

-- one directive more
pub views_more : (p : ChartPart) (heads : List ℕ) (bs : List PlainBlock) (i line : ℕ) (b : PlainBlock) (c after : Cluster) (v entered next : PlainView)
    → slice_get heads i ≡ Some line → slice_get bs i ≡ Some b → entered ≡ entering (phase_at p line) (mail_choice (directive_of b)) v → next ≡ shown entered (execution c (directive_of b))
    → after ≡ (outcome c (directive_of b)).cluster
    → views_from p next after (drop (i + 1) heads) (drop (i + 1) bs) ≡ views_from p v c (drop i heads) (drop i bs)
views_more p heads bs i line b c after v entered next head block enters shows leads =
    ap₂ (λ (w : PlainView) (d : Cluster). views_from p w d (drop (i + 1) heads) (drop (i + 1) bs)) (shows ∙ ap (λ (w : PlainView). shown w (execution c (directive_of b))) enters) leads
    ∙ sym (ap₂ (λ (ns : List ℕ) (more : List PlainBlock). views_from p v c ns more) (left_some heads i line head) (left_some bs i b block))

-- there is none any more
pub views_end : (p : ChartPart) (v : PlainView) (c : Cluster) (heads : List ℕ) (bs : List PlainBlock) → bs ≡ [] → views_from p v c heads bs ≡ v
views_end p v c [] bs e = refl
views_end p v c (line ∷ heads) [] e = refl
views_end p v c (line ∷ heads) (b ∷ bs) e = absurd cc

-- ---- once there is no room, there is none

room_seen_none : (phase : ChartPhase) (room : ℕ) → room ≡ 0 → room_seen phase room ≡ 0
room_seen_none phases.Above room e = e
room_seen_none phases.Within room e = omega arith
room_seen_none phases.Below room e = e

room_entered_none : (old new : ChartPhase) (v : PlainView) → v.room ≡ 0 → room_entered old new v ≡ 0
room_entered_none phases.Above phases.Above v e = e
room_entered_none phases.Above phases.Within v e = omega arith
room_entered_none phases.Above phases.Below v e = e
room_entered_none phases.Within new v e = e
room_entered_none phases.Below new v e = e

seen_none : (items : List PlainItem) (v : PlainView) → v.room ≡ 0 → (fold seeing v items).room ≡ 0
seen_none [] v e = e
seen_none (item ∷ items) v e = seen_none items (seeing v item) (room_seen_none v.phase v.room e)

views_none : (p : ChartPart) (v : PlainView) (c : Cluster) (heads : List ℕ) (bs : List PlainBlock) → v.room ≡ 0 → (views_from p v c heads bs).room ≡ 0
views_none p v c [] bs e = e
views_none p v c (line ∷ heads) [] e = e
views_none p v c (line ∷ heads) (b ∷ bs) e =
    let w = entering (phase_at p line) (mail_choice (directive_of b)) v in
    let h = execution c (directive_of b) in
    views_none p (shown w h) (outcome c (directive_of b)).cluster heads bs (seen_none (shown_items h) (beginning w) (room_entered_none v.phase (phase_at p line) v e))

pub stays_full : (p : ChartPart) (v : PlainView) (c : Cluster) (heads : List ℕ) (bs : List PlainBlock) → has_room v ≡ false → has_room (views_from p v c heads bs) ≡ false
stays_full p v c heads bs full =
    ap (λ (room : ℕ). ltb 0 room) (views_none p v c heads bs (omega (arith, ltb-false 0 v.room full)))
